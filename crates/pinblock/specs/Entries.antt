-- What each entry answers: its value, or the refusal that comes first (01, Numbers an operator sees; PIN blocks). 13, for a buffer
-- shorter than the PIN, comes after these.
use Rattle.std.specs.Prelude.{List, ℕ}
use Rattle.std.specs.Int.Bits.{bit_xor}
use Rattle.lent.specs.CardNumbers.{card_size}
use Rattle.lent.specs.Choice.{all}
use Rattle.lent.specs.Characters.{digit}
use Rattle.lent.specs.Refusals.{size, character}
use Rattle.lent.specs.Result.{Result, done, require, and_then}
use Rattle.lent.specs.Words.{word, word_bytes}
use Rattle.keyed.specs.Keyed.{key_size, block_size, encrypt_block, decrypt_block}
use Rattle.pinblock.specs.Pin.{pin_size, pin_block}
use Rattle.pinblock.specs.CardNumber.{card_part, pin_block_with_card}
use Rattle.pinblock.specs.Reading.{pin_of}

-- ---- clear blocks

-- the eight bytes of a PIN's block
unfoldable pub make : List ℕ → Result (List ℕ)
make pin =
    require (pin_size pin) size
    (require (all digit pin) character
    (done (word_bytes (pin_block pin))))

-- the eight bytes of a PIN's block with a card number
unfoldable pub make_with_card : List ℕ → List ℕ → Result (List ℕ)
make_with_card pin card =
    require (pin_size pin) size (require (card_size card) size
    (require (all digit pin) character (require (all digit card) character
    (done (word_bytes (pin_block_with_card pin card))))))

-- the PIN of a block
unfoldable pub read : List ℕ → Result (List ℕ)
read block = require (block_size block) size (pin_of (word block))

-- the PIN of a block with a card number
unfoldable pub read_with_card : List ℕ → List ℕ → Result (List ℕ)
read_with_card block card =
    require (block_size block) size (require (card_size card) size
    (require (all digit card) character
    (pin_of (bit_xor (word block) (card_part card)))))

-- ---- encrypted blocks

-- a block that was made, encrypted
unfoldable pub under_key : List ℕ → Result (List ℕ) → Result (List ℕ)
under_key key made = require (key_size key) size (and_then made (encrypt_block key))

-- the encrypted block of a PIN
unfoldable pub encrypt : List ℕ → List ℕ → Result (List ℕ)
encrypt key pin = under_key key (make pin)

-- the encrypted block of a PIN with a card number
unfoldable pub encrypt_with_card : List ℕ → List ℕ → List ℕ → Result (List ℕ)
encrypt_with_card key pin card = under_key key (make_with_card pin card)

-- the PIN of an encrypted block, which is first decrypted and then read by the same rules
unfoldable pub decrypt : List ℕ → List ℕ → Result (List ℕ)
decrypt key block = and_then (decrypt_block key block) read

-- the same with a card number
unfoldable pub decrypt_with_card : List ℕ → List ℕ → List ℕ → Result (List ℕ)
decrypt_with_card key block card = and_then (decrypt_block key block) (λ clear. read_with_card clear card)
