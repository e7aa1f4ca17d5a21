-- The sizes of keys (01, Digits and bytes).
use Rattle.std.specs.Prelude.{Bool, ℕ, eqb}
use Rattle.lent.specs.Choice.{either}

-- a key has 8 or 16 bytes
abbrev pub key_sizes : ℕ → Bool
key_sizes n = either (eqb n 8) (eqb n 16)
