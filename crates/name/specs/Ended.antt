-- The word that says whether a zero unit ended a name, as the code makes it: by a cast.
use Rattle.std.specs.Prelude.{◌≡◌, refl, Bool, true, false}
use mir.Val.{bool_byte}
use Rattle.blob.specs.Reading.{choose}
use Rattle.format.specs.Lists.{ended_word}
use Rattle.format.specs.declared.Name.{Name}

pub ended-cast : (n : Name) → ended_word n ≡ bool_byte n.ended
ended-cast n = go n.ended
  where
    go : (e : Bool) → choose e 1 0 ≡ bool_byte e
    go true = refl
    go false = refl
