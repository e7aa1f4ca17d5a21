-- The case that 01, The message and its MAC text, has whole, what cleaning threw away of it, and a message type that is refused for its form before its start.
use mathlib.Core.Path.{◌≡◌, refl}
use mathlib.Core.List.{List, [], ◌∷◌}
use Prim.Native.Nat.{ℕ}
use Rattle.lent.specs.Characters.{capitalized}
use Rattle.lent.specs.Refusals.{field_form}
use Rattle.lent.specs.Words.{to_base}
use Rattle.lent.specs.Result.{done, refused}
use Rattle.lent.specs.Texts.{starts_with}
use Rattle.cleaning.specs.Cleaning.{capitals, kept, kept_only, trimmed_start, trimmed_end, trimmed, closed_up, cleaned}
use Rattle.cleaning.specs.Counts.{stays, dropped_from, spaces_in, spaces_out_of, count_of}
use Rattle.message.specs.Fields.{table, rule_in, rule, shaped, formed}
use Rattle.message.specs.Records.{little_endian, field_of, known_type, checked_field, record_field, records, message_fields}
use Rattle.message.specs.Text.{entered, listed_only, joined, joined_text, text_of, message_text}

-- fields 0, 3 and 41: 0200, 000000 and `a-1` with five spaces
message : List ℕ
message =
    0x04 ∷ 0x00 ∷ 0x00 ∷ 0x00 ∷ 0x30 ∷ 0x32 ∷ 0x30 ∷ 0x30
    ∷ 0x06 ∷ 0x00 ∷ 0x03 ∷ 0x00 ∷ 0x30 ∷ 0x30 ∷ 0x30 ∷ 0x30 ∷ 0x30 ∷ 0x30
    ∷ 0x08 ∷ 0x00 ∷ 0x29 ∷ 0x00 ∷ 0x61 ∷ 0x2D ∷ 0x31 ∷ 0x20 ∷ 0x20 ∷ 0x20 ∷ 0x20 ∷ 0x20 ∷ []

-- 0200 000000 A1
text : List ℕ
text =
    0x30 ∷ 0x32 ∷ 0x30 ∷ 0x30 ∷ 0x20 ∷ 0x30 ∷ 0x30 ∷ 0x30 ∷ 0x30 ∷ 0x30 ∷ 0x30 ∷ 0x20 ∷ 0x41 ∷ 0x31 ∷ []

whole_case : message_text message ≡ done text
unfolding message text capitalized to_base starts_with capitals kept kept_only trimmed_start trimmed_end trimmed closed_up cleaned table rule_in rule shaped formed little_endian field_of known_type checked_field record_field records message_fields entered listed_only joined text_of message_text
whole_case = refl

-- before it is cleaned, `0200 000000 a-1` with five spaces: the hyphen is dropped, and those five go out
whole_counts : (count_of dropped_from (joined_text message) ≡ 1) × (count_of spaces_out_of (joined_text message) ≡ 5)
unfolding message capitalized to_base starts_with capitals kept kept_only trimmed_start trimmed_end trimmed closed_up cleaned stays dropped_from spaces_in spaces_out_of table rule_in rule shaped formed little_endian field_of known_type checked_field record_field records message_fields entered listed_only joined joined_text
whole_counts = (refl, refl)

-- 03x0 is 4, not 3
form_before_type : message_text (0x04 ∷ 0x00 ∷ 0x00 ∷ 0x00 ∷ 0x30 ∷ 0x33 ∷ 0x78 ∷ 0x30 ∷ []) ≡ refused field_form
unfolding table rule_in rule shaped formed little_endian field_of known_type checked_field record_field records message_fields message_text
form_before_type = refl
