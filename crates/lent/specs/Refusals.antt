-- The refusals and their numbers (01, Numbers an operator sees). 0 is done.
use Rattle.std.specs.Prelude.{ℕ}
use Rattle.lent.specs.declared.refusals.Refusal.{Refusal}
use Rattle.lent.specs.declared.refusals.Refusal.TheVariants.{CutShort, FieldOrder, MessageType, FieldForm, EmptyText, Size, Character, BadBlock, EqualHalves, BadCounter, BadRecord, Exhausted, ShortBuffer}

-- message empty, or a record is cut short
abbrev pub cut_short : Refusal
cut_short = CutShort

-- first field is not 0, a field number is above 192, or not above the one before
abbrev pub field_order : Refusal
field_order = FieldOrder

-- message type does not start with 01, 02, 04 or 05
abbrev pub message_type : Refusal
message_type = MessageType

-- a listed field has the wrong length or characters
abbrev pub field_form : Refusal
field_form = FieldForm

-- MAC asked over a text that is empty after cleaning
abbrev pub empty_text : Refusal
empty_text = EmptyText

-- a length or size is outside its range
abbrev pub size : Refusal
size = Size

-- a character is not a digit, hexadecimal or a password's, where one is asked
abbrev pub character : Refusal
character = Character

-- a block comes from no permitted PIN, password or VIP number
abbrev pub bad_block : Refusal
bad_block = BadBlock

-- the two halves of a derivation key agree without the low bit of each byte
abbrev pub equal_halves : Refusal
equal_halves = EqualHalves

-- host counter is 0 or has more than ten one bits
abbrev pub bad_counter : Refusal
bad_counter = BadCounter

-- terminal state does not hang together
abbrev pub bad_record : Refusal
bad_record = BadRecord

-- terminal exhausted
abbrev pub exhausted : Refusal
exhausted = Exhausted

-- lent buffer shorter than the result
abbrev pub short_buffer : Refusal
short_buffer = ShortBuffer

-- the number that an operator sees
abbrev pub number_of : Refusal → ℕ
number_of CutShort = 1
number_of FieldOrder = 2
number_of MessageType = 3
number_of FieldForm = 4
number_of EmptyText = 5
number_of Size = 6
number_of Character = 7
number_of BadBlock = 8
number_of EqualHalves = 9
number_of BadCounter = 10
number_of BadRecord = 11
number_of Exhausted = 12
number_of ShortBuffer = 13
