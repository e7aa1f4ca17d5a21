-- The register key of a counter, from the initial key, as the host derives it (01, Terminal keys).
-- K is the type of a key, F the one-way step on a key and the data, `tail` the last eight bytes of the serial number with the counter
-- cleared, so that adding a counter sets its bits.
use Rattle.std.specs.Prelude.{ℕ, zero, suc, ◌+◌, eqb}
use Rattle.lent.specs.Choice.{pick}
use Rattle.registers.specs.Counters.{bit, bits_from}

module _ {K : Type 0} (F : K → ℕ → K) (tail : ℕ) where
  -- the key past place b of the counter c: a one bit makes a step, with the data in which it and the bits of c above it are set
  abbrev pub past : K → ℕ → ℕ → K
  past key c b = pick (eqb (bit c b) 1) (F key (tail + bits_from b c)) key

  -- from the key so far through the places b - 1, .., 0 of the counter c, highest first
  unfoldable pub derive : ℕ → K → ℕ → K
  derive zero key c = key
  derive (suc b) key c = derive b (past key c b) c

-- the register key of the counter c
unfoldable pub register_key : {K : Type 0} → (K → ℕ → K) → K → ℕ → ℕ → K
register_key F initial tail c = derive F tail 21 initial c
