-- The claim of the marked cases: the definitions give what the table says, in every row.
use mathlib.Core.Path.{◌≡◌, refl}
use lib.Count.{ones, ones_in, count_trailing_zeros}
use Rattle.lent.specs.Characters.{capitalized}
use Rattle.lent.specs.Words.{from_base, to_base}
use Rattle.cleaning.specs.Cleaning.{capitals, kept, kept_only, trimmed_start, trimmed_end, trimmed, closed_up, cleaned, clean_text}
use Rattle.cleaning.specs.Counts.{stays, dropped_from, spaces_in, spaces_out_of}
use Rattle.mac.specs.Mac.{text_mac, cleaned_mac}
use Rattle.pinblock.specs.CardNumber.{card_half_bytes, card_part, pin_block_with_card}
use Rattle.pinblock.specs.Entries.{make, make_with_card, read}
use Rattle.pinblock.specs.Pin.{pin_half_bytes, pin_block}
use Rattle.pinblock.specs.Reading.{candidate, pin_if_made, pin_of}
use Rattle.card.specs.Derivation.{card_digits, rightmost, derivation_word}
use Rattle.card.specs.Entries.{derivation_data}
use Rattle.card.specs.Session.{counter_bytes}
use Rattle.card.specs.Turned.{turned}
use Rattle.registers.specs.Counters.{next_after, next_counter}
use Rattle.registers.specs.Machine.{position_at, position_after, spent}
use Rattle.marked.specs.Cases.{answer, counts, table, computed, expected}

pub marked : computed ≡ expected
unfolding answer counts table ones ones_in count_trailing_zeros capitalized from_base to_base capitals kept kept_only trimmed_start trimmed_end trimmed closed_up cleaned clean_text stays dropped_from spaces_in spaces_out_of text_mac cleaned_mac card_half_bytes card_part pin_block_with_card make make_with_card read pin_half_bytes pin_block candidate pin_if_made pin_of card_digits rightmost derivation_word derivation_data counter_bytes turned next_after next_counter position_at position_after spent
marked = refl
