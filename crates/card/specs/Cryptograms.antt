-- The cryptograms of a transaction under its session key (01, The card's keys and cryptograms; source document 004).
use Rattle.std.specs.Prelude.{List, ◌++◌, ℕ, replicate}
use Rattle.std.specs.Int.Bits.{bit_xor}
use Rattle.lent.specs.Words.{word, left, right}
use Rattle.cipher.specs.Triple.{triple_encrypted}
use Rattle.card.specs.Algorithm3.{mac_algorithm3}
use Rattle.card.specs.Padding.{padded}

-- the ARQC: algorithm 3 over the padded data
unfoldable pub arqc_word : List ℕ → List ℕ → ℕ
arqc_word key cardData = mac_algorithm3 (left key) (right key) (padded cardData)

-- the ARPC: triple DES of the ARQC exclusive-or the two code bytes and six zeros
unfoldable pub arpc_word : List ℕ → List ℕ → List ℕ → ℕ
arpc_word key cryptogram code = triple_encrypted (left key) (right key) (bit_xor (word cryptogram) (word (code ++ replicate 6 0)))
