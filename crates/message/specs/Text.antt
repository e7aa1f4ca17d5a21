-- A message's MAC text (01, The message and its MAC text).
use Rattle.std.specs.Prelude.{◌≡◌, true, List, [], ◌∷◌, ◌++◌, map, ℕ, Option, Some, None, eqb, length, take}
use Rattle.lent.specs.Choice.{pick, only}
use Rattle.lent.specs.Characters.{two_digits}
use Rattle.lent.specs.Result.{Result, done, and_then}
use Rattle.cleaning.specs.Cleaning.{space, cleaned}
use Rattle.message.specs.declared.fields.Entry.{Entry}
use Rattle.message.specs.declared.fields.Entry.TheVariants.{Whole, Counted, First}
use Rattle.message.specs.declared.fields.Listed.{Listed}
use Rattle.message.specs.Fields.{rule, listed}
use Rattle.message.specs.Records.{Field, message_fields}

-- a body as it enters the text
unfoldable pub entered : Entry → List ℕ → List ℕ
entered Whole s = s
entered Counted s = two_digits (length s) ++ s
entered (First n) s = take n s

-- what goes into the text of a body of which this is asked
abbrev pub shown : Option Listed → List ℕ → List ℕ
shown (Some r) s = entered r.entry s
shown None s = []

-- what goes into the text of a field
abbrev pub shown_field : Field → List ℕ
shown_field f = shown (rule f.number) f.body

-- the listed fields alone
unfoldable pub listed_only : List Field → List Field
listed_only fs = only (λ f. listed f.number) fs

-- one space between each and the next
unfoldable pub joined : List (List ℕ) → List ℕ
joined [] = []
joined (s ∷ []) = s
joined (s ∷ t ∷ ss) = s ++ space ∷ joined (t ∷ ss)

-- the text of a message's fields before it is cleaned
abbrev pub joined_fields : List Field → List ℕ
joined_fields fs = joined (map shown_field (listed_only fs))

-- the text of a message's fields
unfoldable pub text_of : List Field → List ℕ
text_of fs = cleaned (joined_fields fs)

-- the text of a message before it is cleaned
unfoldable pub joined_text : List ℕ → Result (List ℕ)
joined_text s = and_then (message_fields s) (λ fs. done (joined_fields fs))

-- the text of a message
unfoldable pub message_text : List ℕ → Result (List ℕ)
message_text s = and_then (message_fields s) (λ fs. done (text_of fs))

-- the body of field n, if it is present
unfoldable pub body_in : ℕ → List Field → Option (List ℕ)
body_in n [] = None
body_in n (f ∷ fs) = pick (eqb n f.number) (Some f.body) (body_in n fs)

-- the two agree on the listed fields: each is present in both with the same body, or absent in both
abbrev pub Agree : List Field → List Field → Type 0
Agree fs gs = (n : ℕ) → listed n ≡ true → body_in n fs ≡ body_in n gs
