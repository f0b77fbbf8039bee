-- The join of what was read, on providers, events and templates: what the lookup by key is to find, with no word of areas, lists or
-- numbers of entries. "Its events with that key, a template offset and a found template give template GUIDs, each once, in first-seen
-- order" (finding a template); "The key lookup now goes through all providers with that GUID, in order, each event resolved in its own
-- provider's templates, GUIDs still given once." (request 02)
use Rattle.std.specs.Prelude.{ℕ, suc, Bool, false, not, ◌&&◌, ◌||◌, List, [], ◌∷◌, ◌++◌, map, take, eqb}
use Rattle.blob.specs.Reading.{choose}
use Rattle.blob.specs.Laid.{flat}
use Rattle.format.specs.Table.{EVNT, TTBL}
use Rattle.format.specs.Template.{Template}
use Rattle.format.specs.Provider.{Provider}
use Rattle.format.specs.Lists.{Entry, guid_words, event_words, last_of, events_in, templates_in}
use Rattle.format.specs.Lookup.{alike, once, key_words}
use Rattle.format.specs.declared.Key.{Key}
use Rattle.format.specs.declared.Event.{Event}

-- the values that a test picks, in their order
unfoldable pub those : {A : Type 0} → (A → Bool) → List A → List A
those p [] = []
those p (a ∷ vs) = choose (p a) (a ∷ those p vs) (those p vs)

-- whether it picks one
unfoldable pub some : {A : Type 0} → (A → Bool) → List A → Bool
some p [] = false
some p (a ∷ vs) = p a || some p vs

-- the first of them; none or one
abbrev pub the_first : {A : Type 0} → (A → Bool) → List A → List A
the_first p vs = take 1 (those p vs)

-- a provider's events and templates: the records of the EVNT and of the TTBL that it keeps
abbrev pub events_of : Provider → List Event
events_of p = flat (λ t. events_in t.rows) (last_of EVNT p.elements)

abbrev pub templates_of : Provider → List Template
templates_of p = flat (λ t. templates_in t.rows) (last_of TTBL p.elements)

-- an event with that key and a template offset
abbrev pub asked : Key → Event → Bool
asked k e =
    alike (e.identifier ∷ e.version ∷ e.channel ∷ e.level ∷ e.opcode ∷ e.task ∷ e.low ∷ e.high ∷ []) (key_words k) && not (eqb e.template 0)

-- the GUID of the first template at an event's offset; none or one
abbrev pub template_guid : List Template → Event → List Entry
template_guid ts e = map (λ t. guid_words t.guid) (the_first (λ t. eqb t.offset e.template) ts)

-- the GUIDs of the templates of a provider's events with a key
abbrev pub guids_from : Key → Provider → List Entry
guids_from k p = flat (template_guid (templates_of p)) (those (asked k) (events_of p))

unfoldable pub join : List Provider → Key → List Entry
join ps k = once [] (flat (guids_from k) (those (λ p. alike (guid_words p.guid) (guid_words k.guid)) ps))

-- "every event with a found template" (request 05): those of each provider, found among its own templates, behind the provider's number
abbrev pub joins : Provider → Event → Bool
joins p e = not (eqb e.template 0) && some (λ t. eqb t.offset e.template) (templates_of p)

unfoldable pub joined : ℕ → List Provider → List Entry
joined n [] = []
joined n (p ∷ ps) = map (λ e. n ∷ event_words e) (those (joins p) (events_of p)) ++ joined (suc n) ps
