-- The records of a message and their refusals (01, The message and its MAC text; Numbers an operator sees).
use Rattle.std.specs.Prelude.{Bool, not, List, [], ◌∷◌, map, ℕ, zero, suc, ◌+◌, ◌*◌, leb, ltb, eqb, length, take, drop, get_or, Option, Some, None}
use Rattle.lent.specs.Choice.{both, either, any}
use Rattle.lent.specs.Characters.{two_digits}
use Rattle.lent.specs.Refusals.{cut_short, field_order, field_form, message_type, size}
use Rattle.lent.specs.Result.{Result, done, require, and_then}
use Rattle.lent.specs.Texts.{starts_with}
use Rattle.message.specs.Fields.{rule, formed}

-- A field of a message: its number and its body.
pub record Field : Type 0 where
  pub number : ℕ
  pub body : List ℕ

-- the number of two bytes at i, the low one first
unfoldable pub little_endian : List ℕ → ℕ → ℕ
little_endian s i = get_or s i 0 + 256 * get_or s (i + 1) 0

-- of the record at the start of s: the length of its body
abbrev pub body_size : List ℕ → ℕ
body_size s = little_endian s 0

-- its field
unfoldable pub field_of : List ℕ → Field
field_of s = record { number = little_endian s 2; body = take (body_size s) (drop 4 s) }

-- the first field of a message is 0; any other is above the one before and at most 192
abbrev pub in_order : Option ℕ → ℕ → Bool
in_order None n = eqb n 0
in_order (Some before) n = both (ltb before n) (leb n 192)

-- 01, 02, 04 and 05
abbrev pub type_starts : List (List ℕ)
type_starts = map two_digits (1 ∷ 2 ∷ 4 ∷ 5 ∷ [])

-- field 0, the message type, starts with one of them
unfoldable pub known_type : ℕ → List ℕ → Bool
known_type n s = either (not (eqb n 0)) (any (λ start. starts_with start s) type_starts)

-- a field after the field before it, if there is one: 2, 4, 3, or the field
unfoldable pub checked_field : Option ℕ → Field → Result Field
checked_field before f =
    require (in_order before f.number) field_order
    (require (formed (rule f.number) f.body) field_form
    (require (known_type f.number f.body) message_type
    (done f)))

-- the record at the start of s: 1 if it is cut short, or its field
unfoldable pub record_field : Option ℕ → List ℕ → Result Field
record_field before s = require (leb (4 + body_size s) (length s)) cut_short (checked_field before (field_of s))

-- the fields of the records of s after its first `skip` bytes, taken one at a time
unfoldable pub records : ℕ → Option ℕ → List ℕ → Result (List Field)
records skip before [] = done []
records (suc skip) before (x ∷ s) = records skip before s
records zero before (x ∷ s) =
    and_then (record_field before (x ∷ s))
    (λ f. and_then (records (3 + body_size (x ∷ s)) (Some f.number) s) (λ fs. done (f ∷ fs)))

-- the fields of a message of 1 to 4,096 bytes
unfoldable pub message_fields : List ℕ → Result (List Field)
message_fields s = require (leb (length s) 4096) size (require (ltb 0 (length s)) cut_short (records 0 None s))
