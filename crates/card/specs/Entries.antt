-- What each entry answers: the value, or the refusal that comes first (01, Numbers an operator sees; The card's keys and cryptograms).
use Rattle.std.specs.Prelude.{List, ℕ, eqb, length}
use Rattle.lent.specs.CardNumbers.{card_size}
use Rattle.lent.specs.Choice.{all, between}
use Rattle.lent.specs.Characters.{digit}
use Rattle.lent.specs.Refusals.{size, character}
use Rattle.lent.specs.Result.{Result, done, require, and_then}
use Rattle.lent.specs.Words.{word, word_bytes}
use Rattle.parity.specs.Parity.{adjusted}
use Rattle.card.specs.Cryptograms.{arqc_word, arpc_word}
use Rattle.card.specs.Derivation.{sequence_range, derivation_word}
use Rattle.card.specs.DoubleKey.{double_size, derived_key}
use Rattle.card.specs.Session.{session_halves}
use Rattle.card.specs.Turned.{turned}

-- Y of a card number and sequence
unfoldable pub derivation_data : List ℕ → ℕ → Result (List ℕ)
derivation_data card sequence =
    require (card_size card) size
    (require (sequence_range sequence) size
    (require (all digit card) character
    (done (word_bytes (derivation_word card sequence)))))

-- the card key before its parity is set: triple DES of Y, then of Y with all bits turned, under the master key
unfoldable pub unadjusted_card_key : List ℕ → List ℕ → ℕ → Result (List ℕ)
unadjusted_card_key master card sequence =
    require (double_size master) size
    (and_then (derivation_data card sequence) (λ y. done (derived_key master (word y) (turned 64 (word y)))))

-- the card key: the same, adjusted to an odd number of ones in every byte (02, M-103)
unfoldable pub card_key : List ℕ → List ℕ → ℕ → Result (List ℕ)
card_key master card sequence = and_then (unadjusted_card_key master card sequence) (λ key. done (adjusted key))

-- the session key: triple DES of the counter with six zero bytes before it, then of the same with the counter's bits turned, under the
-- card key
unfoldable pub session_key : List ℕ → ℕ → Result (List ℕ)
session_key key counter =
    require (double_size key) size
    (done (derived_key key (word (session_halves counter).0) (word (session_halves counter).1)))

-- the ARQC of 1 to 255 bytes of card data
unfoldable pub arqc : List ℕ → List ℕ → Result (List ℕ)
arqc key cardData =
    require (double_size key) size
    (require (between 1 255 (length cardData)) size
    (done (word_bytes (arqc_word key cardData))))

-- the ARPC of an ARQC of 8 bytes and a code of 2
unfoldable pub arpc : List ℕ → List ℕ → List ℕ → Result (List ℕ)
arpc key cryptogram code =
    require (double_size key) size
    (require (eqb (length cryptogram) 8) size
    (require (eqb (length code) 2) size
    (done (word_bytes (arpc_word key cryptogram code)))))
