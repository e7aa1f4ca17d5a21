-- What only the contracts of private functions cite: a record as it is read, and the listed fields as they are gathered before the text is
-- cleaned, each with a space before it.
use Rattle.std.specs.Prelude.{List, [], ◌∷◌, ◌++◌, map, ℕ, ◌+◌, Option, is_some}
use Rattle.lent.specs.Choice.{pick}
use Rattle.lent.specs.Result.{Result, done, and_then}
use Rattle.cleaning.specs.Cleaning.{space}
use Rattle.arrayvec.specs.ArrayVec.{ArrayVec}
use Rattle.message.specs.declared.fields.Listed.{Listed}
use Rattle.message.specs.declared.records.Record.{Record}
use Rattle.message.specs.Records.{Field, body_size, message_fields}
use Rattle.message.specs.Text.{shown, shown_field, listed_only}

-- the record at the start of s: its field number and where it ends, or its refusal
abbrev pub read_of : List ℕ → Result Field → Result Record
read_of s r = and_then r (λ f. done (record { field = f.number; end = 4 + body_size s }))

-- a listed field with a space before it; an unlisted one leaves nothing
unfoldable pub spaced_field : Option Listed → List ℕ → List ℕ
spaced_field r s = pick (is_some r) (space ∷ shown r s) []

-- a space before each
unfoldable pub space_before_each : List (List ℕ) → List ℕ
space_before_each [] = []
space_before_each (s ∷ ss) = space ∷ (s ++ space_before_each ss)

-- the listed fields, each with a space before it
unfoldable pub spaced : List Field → List ℕ
spaced fs = space_before_each (map shown_field (listed_only fs))

-- those of a message
unfoldable pub gathered : List ℕ → Result (List ℕ)
gathered s = and_then (message_fields s) (λ fs. done (spaced fs))

-- the bytes of a text, or its refusal
abbrev pub items_of : Result (ArrayVec ℕ) → Result (List ℕ)
items_of r = and_then r (λ text. done text.items)
