-- The MAC of a text under a single key (01, The message and its MAC text): ISO/IEC 9797-1, algorithm 1, over DES, all eight bytes. The text is
-- filled with zero bytes up to a multiple of 8; nothing is added if it already is one.
use Rattle.std.specs.Prelude.{◌≡◌, List, ℕ, eqb, leb, ltb, length}
use Rattle.lent.specs.Refusals.{size, empty_text, short_buffer}
use Rattle.lent.specs.Result.{Result, done, require, and_then, bytes, over}
use Rattle.lent.specs.Words.{word, word_bytes}
use Rattle.chaining.specs.Chain.{chained}
use Rattle.cleaning.specs.Cleaning.{clean_text}
use Rattle.cleaning.specs.Counts.{counts_of, cleaned_of}
use Rattle.message.specs.Text.{message_text}
use Rattle.mac.specs.declared.Mac.{Mac}
use Rattle.mac.specs.declared.TextMac.{TextMac}

-- the MAC of a text under a key of eight bytes
unfoldable pub mac_of : List ℕ → List ℕ → List ℕ
mac_of key text = word_bytes (chained (word key) text)

-- the MAC of a cleaned text; an empty one has none
unfoldable pub cleaned_mac : List ℕ → List ℕ → Result (List ℕ)
cleaned_mac key text = require (ltb 0 (length text)) empty_text (done (mac_of key text))

-- the MAC of free text, which is cleaned before: 6, 5
unfoldable pub text_mac : List ℕ → List ℕ → Result (List ℕ)
text_mac key text = require (eqb (length key) 8) size (and_then (clean_text text) (cleaned_mac key))

-- the MAC of a message: 6, then the message's own refusals, 5
unfoldable pub message_mac : List ℕ → List ℕ → Result (List ℕ)
message_mac key message = require (eqb (length key) 8) size (and_then (message_text message) (cleaned_mac key))

-- the text of a message and its MAC, refused as the MAC is
unfoldable pub message_text_and_mac : List ℕ → List ℕ → Result (List ℕ × List ℕ)
message_text_and_mac key message = and_then (message_mac key message) (λ mac. and_then (message_text message) (λ text. done (text, mac)))

-- a text that is longer than the room lent for it is refused
abbrev pub lend_text : ℕ → Result (List ℕ × List ℕ) → Result (List ℕ × List ℕ)
lend_text room answer = and_then answer (λ a. require (leb (length a.0) room) short_buffer (done a))

-- the text; a refusal has none
abbrev pub text_in : Result (List ℕ × List ℕ) → List ℕ
text_in answer = bytes (and_then answer (λ a. done a.0))

-- a MAC, with what cleaning threw away of the text before it
abbrev pub counted_mac : Result (List ℕ) → Result (List ℕ) → Result Mac
counted_mac answer raw = and_then answer (λ mac. done (record { value = mac; counts = counts_of raw }))

-- a text that was written and its MAC, with what cleaning threw away of the text before it
abbrev pub both_of : Result (List ℕ) → List ℕ × List ℕ → TextMac
both_of raw a = record { text = cleaned_of raw a.0; mac = a.1 }

-- The promise of a function that writes a text into lent memory and answers its MAC: the text's length, what cleaning threw away and the MAC, or the
-- refusal, and the memory afterwards.
pub record TextAndMac (answer : Result (List ℕ × List ℕ)) (raw : Result (List ℕ)) (before : List ℕ) (r : Result TextMac) (after : List ℕ) : Type 0 where
  pub value : r ≡ and_then (lend_text (length before) answer) (λ a. done (both_of raw a))
  pub memory : after ≡ over (text_in (lend_text (length before) answer)) before
