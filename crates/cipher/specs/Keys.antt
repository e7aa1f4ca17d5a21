-- Keys that agree but for the low bit of each byte. FIPS 46-3 leaves that bit to parity, and it has no effect.
use Rattle.std.specs.Prelude.{Bool, true, ◌&&◌, ℕ, zero, suc, ◌/◌, ◌%◌, eqb}

-- the last n bytes of two keys agree, each without its low bit: the last one, and those before it
unfoldable pub same_bytes : ℕ → ℕ → ℕ → Bool
same_bytes zero key other = true
same_bytes (suc n) key other = eqb (key % 256 / 2) (other % 256 / 2) && same_bytes n (key / 256) (other / 256)

-- two keys of eight bytes agree without the low bit of each byte
abbrev pub same_key : ℕ → ℕ → Bool
same_key key other = same_bytes 8 key other
