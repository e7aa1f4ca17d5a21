-- What the session key is made from (01, The card's keys and cryptograms; source document 003, 7.2.3).
use Rattle.std.specs.Prelude.{List, ◌++◌, ℕ, replicate}
use Rattle.lent.specs.Words.{to_base}
use Rattle.card.specs.Turned.{turned}

-- the counter's two bytes with six zero bytes before them
unfoldable pub counter_bytes : ℕ → List ℕ
counter_bytes counter = replicate 6 0 ++ to_base 256 2 counter

-- the two halves before encrypting: the counter's block, and the same with the counter's bits turned
abbrev pub session_halves : ℕ → List ℕ × List ℕ
session_halves counter = (counter_bytes counter, counter_bytes (turned 16 counter))
