-- The listing of T, whole: its two lines (`listed-T` of the definition's cases) as the text that is printed.
use Rattle.std.specs.Prelude.{◌≡◌, refl, [], ◌∷◌}
use Rattle.blob.specs.Laid.{flat}
use Rattle.format.specs.Listing.{says, number}
use Rattle.listing.specs.Rendered.{characters, digits, line, rendered}

rendered-T : rendered ((says "crim" ∷ number 116 ∷ says "providers" ∷ number 1 ∷ says "events" ∷ number 0 ∷ says "templates" ∷ number 1 ∷ [])
    ∷ (says "template" ∷ number 76 ∷ says "size" ∷ number 40 ∷ says "binxml" ∷ number 116 ∷ number 0 ∷ [])
    ∷ [])
    ≡ characters "crim 116 providers 1 events 0 templates 1\ntemplate 76 size 40 binxml 116 0\n"
unfolding flat line digits
rendered-T = refl
