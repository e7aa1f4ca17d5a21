-- The marked cases (01, Marked cases) as one table: of each case the input, the result and the number, and of a text what cleaning threw away, over the
-- definitions that the promises of the entries cite.
use Rattle.std.specs.Prelude.{false, List, [], ◌∷◌, ◌++◌, map, ℕ, replicate}
use Rattle.lent.specs.Characters.{digit_of}
use Rattle.lent.specs.Choice.{pick}
use Rattle.lent.specs.Refusals as refusals
use Rattle.lent.specs.Result.{Result, done, refused, bytes, number}
use Rattle.lent.specs.Words.{to_base, word_bytes}
use Rattle.cleaning.specs.Cleaning.{clean_text}
use Rattle.cleaning.specs.Counts.{dropped_from, spaces_out_of, count_of, where_done}
use Rattle.mac.specs.Mac.{text_mac}
use Rattle.pinblock.specs.Entries.{make, make_with_card, read}
use Rattle.card.specs.Entries.{derivation_data}
use Rattle.card.specs.Session.{session_halves}
use Rattle.registers.specs.Machine.{State, no_keys, spent}
use Rattle.host.specs.SingleLength.{single_length}

-- ---- what is asked

-- The input of a case.
pub data Input : Type 0 where
  -- a text to be cleaned
  cleaning : List ℕ → Input
  -- a text to be cleaned, and its MAC asked
  mac_of : List ℕ → Input
  -- a PIN without a card number
  pin : List ℕ → Input
  -- a PIN and a card number
  pin_and_card : List ℕ → List ℕ → Input
  -- a block to be read without a card number
  block : List ℕ → Input
  -- a card number and sequence, of which Y is asked
  card_and_sequence : List ℕ → ℕ → Input
  -- a transaction counter, of which the two halves before encrypting are asked
  halves_of : ℕ → Input
  -- a terminal's counter, of which the one that is next after it is asked
  after : ℕ → Input

-- a terminal's state with that counter next; what else it holds has no effect on the next one
abbrev pub state_with : ℕ → State ℕ
state_with c = record { keys = no_keys single_length; filled = 0; serial = replicate 10 0; counter = c; exhausted = false }

-- the counter of a state in three bytes; an exhausted one answers 12
abbrev pub counter_in : State ℕ → Result (List ℕ)
counter_in s = pick s.exhausted (refused refusals.exhausted) (done (to_base 256 3 s.counter))

-- what the definitions answer
unfoldable pub answer : Input → Result (List ℕ)
answer (cleaning text) = clean_text text
answer (mac_of text) = text_mac (replicate 8 0) text
answer (pin digits) = make digits
answer (pin_and_card digits card) = make_with_card digits card
answer (block bytes) = read bytes
answer (card_and_sequence card sequence) = derivation_data card sequence
answer (halves_of counter) = done ((session_halves counter).0 ++ (session_halves counter).1)
answer (after c) = counter_in (spent single_length (state_with c))

-- how many bytes cleaning dropped and how many spaces went out; zeros where the answer is a refusal
abbrev pub counts_of : List ℕ → Result (List ℕ) → List ℕ
counts_of text made = let raw = where_done made (done text) in count_of dropped_from raw ∷ count_of spaces_out_of raw ∷ []

-- these two numbers where a text is cleaned, and none elsewhere
unfoldable pub counts : Input → List ℕ
counts (cleaning text) = counts_of text (clean_text text)
counts (mac_of text) = counts_of text (text_mac (replicate 8 0) text)
counts (pin digits) = []
counts (pin_and_card digits card) = []
counts (block bytes) = []
counts (card_and_sequence card sequence) = []
counts (halves_of counter) = []
counts (after c) = []

-- ---- the table

-- A case: its input, its result, which is empty where it is refused, its number, and where a text is cleaned the two counts.
pub record Case : Type 0 where
  pub input : Input
  pub result : List ℕ
  pub number : ℕ
  pub thrown : List ℕ

abbrev pub row : Input → List ℕ → ℕ → Case
row i r n = record { input = i; result = r; number = n; thrown = [] }

-- the row of a text, with how many bytes were dropped and how many spaces went out
abbrev pub text_row : Input → List ℕ → ℕ → ℕ → ℕ → Case
text_row i r n dropped spaces = record { input = i; result = r; number = n; thrown = dropped ∷ spaces ∷ [] }

-- a text of n bytes, in hexadecimal
abbrev pub text : ℕ → ℕ → List ℕ
text n x = to_base 256 n x

-- a text of n digits
abbrev pub digits : ℕ → ℕ → List ℕ
digits n x = map digit_of (to_base 10 n x)

unfoldable pub table : List Case
table =
    -- a: `ab  c` gives `AB C`
    text_row (cleaning (text 5 0x61_62_20_20_63)) (text 4 0x41_42_20_43) 0 0 1
    -- b: ` -x- ` gives `X`
    ∷ text_row (cleaning (text 5 0x20_2D_78_2D_20)) (text 1 0x58) 0 2 2
    -- c: `a - b` gives `A B`
    ∷ text_row (cleaning (text 5 0x61_20_2D_20_62)) (text 3 0x41_20_42) 0 1 1
    -- d: `1,2.3;4` gives `1,2.34`
    ∷ text_row (cleaning (text 7 0x31_2C_32_2E_33_3B_34)) (text 6 0x31_2C_32_2E_33_34) 0 1 0
    -- e: `---` gives the empty text; its MAC is 5
    ∷ text_row (cleaning (text 3 0x2D_2D_2D)) [] 0 3 0
    ∷ text_row (mac_of (text 3 0x2D_2D_2D)) [] 5 0 0
    -- f and g: a PIN's block
    ∷ row (pin (digits 4 1234)) (word_bytes 0x041234FFFFFFFFFF) 0
    ∷ row (pin (digits 12 123456789012)) (word_bytes 0x0C123456789012FF) 0
    -- h: with a card number
    ∷ row (pin_and_card (digits 4 1234) (digits 16 4219876543210987)) (word_bytes 0x0412AC89ABCDEF67) 0
    -- i: a block that comes from no permitted PIN
    ∷ row (block (word_bytes 0x03123FFFFFFFFFFF)) [] 8
    -- j: a PIN that is too short
    ∷ row (pin (digits 3 123)) [] 6
    -- k and l: Y
    ∷ row (card_and_sequence (digits 16 4219876543210987) 0) (word_bytes 0x1987654321098700) 0
    ∷ row (card_and_sequence (digits 13 6228000100001) 1) (word_bytes 0x0622800010000101) 0
    -- m: the halves of a session key before encrypting
    ∷ row (halves_of 0x0240) (word_bytes 0x0000000000000240 ++ word_bytes 0x000000000000FDBF) 0
    -- n, o and p: the next counter
    ∷ row (after 0x3FF) (to_base 256 3 0x400) 0
    ∷ row (after 0x7FE) (to_base 256 3 0x800) 0
    ∷ row (after 0x1FF800) [] 12
    ∷ []

-- what the table gives
abbrev pub expected : List (List ℕ × ℕ × List ℕ)
expected = map (λ c. (c.result, c.number, c.thrown)) table

-- what the definitions give for its inputs
abbrev pub computed : List (List ℕ × ℕ × List ℕ)
computed = map (λ c. (bytes (answer c.input), number (answer c.input), counts c.input)) table
