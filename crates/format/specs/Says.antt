-- What the answer of a function tells, as an outcome: a value or a refusal, and with it the code, field, place and two numbers (`said`).
-- (`items_says` of Template is the one for `Items`.) "Where an answer is an enum, a definition gives .. number and values for each of the
-- enum's cases." (forms) The enum of two cases is `Result`, of whatever value.
use Rattle.std.specs.Prelude.{ℕ, List, [], ◌∷◌, Result, Ok, Err, Option, Some, None}
use Rattle.blob.specs.declared.Refusal.{Refusal}
use Rattle.blob.specs.Reading.{Outcome, done, refused}
use Rattle.format.specs.Refuse.{fine}

abbrev pub said : {A : Type 0} → Outcome A → Refusal
said (done a) = fine
said (refused r) = r

abbrev pub told : {A : Type 0} → Result A Refusal → Outcome A
told (Ok a) = done a
told (Err q) = refused q

-- how many GUIDs
abbrev pub guids_says : Result ℕ Refusal → Refusal
guids_says f = said (told f)

-- the number of a template; none or one
abbrev pub template_told : Result (Option ℕ) Refusal → Outcome (List ℕ)
template_told (Ok None) = done []
template_told (Ok (Some i)) = done (i ∷ [])
template_told (Err q) = refused q

abbrev pub template_says : Result (Option ℕ) Refusal → Refusal
template_says f = said (template_told f)
