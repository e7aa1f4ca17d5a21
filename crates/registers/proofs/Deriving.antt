-- A loop through the places of a counter that derives its register key, for any one-way step, and the data of its steps.
use mathlib.Core.Path.{◌≡◌, sym, ap, ◌∙◌}
use Prim.Native.Nat.{ℕ, zero, suc, ◌+◌, ◌-◌, ◌*◌, ◌%◌, ◌^◌, ◌≤◌, ◌<◌}
use native.Mathlib.Nat.{div-mul-le_self, mod-eq_of_lt, not-suc-le-zero}
use native.Mathlib.Omega.{arith}
use lib.Dec.{lit≤}
use lib.Pow.{pow-lt}
use Rattle.registers.specs.Counters.{bits_from}
use Rattle.registers.specs.RegisterKey.{past, derive, register_key}
use Rattle.registers.proofs.Bits.{one_shl}

-- ---- the data of a step

-- the bits of a counter from place b up, moved there and back
pub bits_moved : (x b : ℕ) → x < 2 ^ 21 → (bits_from b x % 2 ^ 32 ≡ bits_from b x) × (bits_from b x < 2 ^ 21)
bits_moved x b h = let l = div-mul-le_self x (2 ^ b) in (mod-eq_of_lt (omega arith), omega arith)

-- the bit of a register below n, as it is moved there, and the counter with it
pub bit_moved : (b n c : ℕ) → b < n → n ≤ 21 → c + 2 ^ n ≤ 2 ^ 21 → (1 * 2 ^ b % 2 ^ 32 ≡ 2 ^ b) × (c + 2 ^ b < 2 ^ 21)
bit_moved b n c h l r = ((one_shl 32 b (lit≤ tt) (omega arith)).0, omega (arith, pow-lt {i = b} {j = n} h))

-- ---- the loop

module _ {K : Type 0} (F : K → ℕ → K) (tail counter : ℕ) where
  -- a turn, from place b to the one below
  pub derive_turn : (initial key next : K) (b : ℕ) → 0 < b → next ≡ past F tail key counter (b - 1)
      → derive F tail b key counter ≡ derive F tail 21 initial counter → derive F tail (b - 1) next counter ≡ derive F tail 21 initial counter
  unfolding derive
  derive_turn initial key next b h n e = ap (λ (k : K). derive F tail (b - 1) k counter) n ∙ sym (turned b h) ∙ e
    where
      turned : (b : ℕ) → 0 < b → derive F tail b key counter ≡ derive F tail (b - 1) (past F tail key counter (b - 1)) counter
      turned zero h = absurd (omega arith)
      turned (suc b) h = let e : suc b - 1 ≡ b = omega arith in rw e

  -- past the last place
  pub derive_last : (initial key : K) (b : ℕ) → b ≤ 0 → derive F tail b key counter ≡ derive F tail 21 initial counter
      → key ≡ register_key F initial tail counter
  unfolding derive register_key
  derive_last initial key zero h e = e
  derive_last initial key (suc b) h e = absurd (not-suc-le-zero h)
