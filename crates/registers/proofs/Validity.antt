-- A state hangs together exactly if a few tests pass: its position is in order, the counter bits of its serial number are clear, and its empty
-- registers are zero.
use borrow.Author.Tests.{ne_eqb}
use mathlib.Core.Path.{◌≡◌, refl, sym, ap, ◌∙◌}
use mathlib.Core.Logic.{inl, inr, by_cases}
use mathlib.Core.Bool.{Bool, true, false, false≢true}
use Prim.Native.Nat.{ℕ, ◌%◌, ◌^◌, ◌<◌}
use native.Mathlib.Nat.{zero-div}
use native.Mathlib.Omega.{arith}
use lib.Dec.{eqb, lit<}
use lib.ListN.{length}
use Rattle.registers.specs.Counters.{bit, Permitted}
use Rattle.registers.specs.SerialNumber.{counter_of}
use Rattle.registers.specs.Device.{Device}
use Rattle.registers.specs.Machine.{State, filled_at, filled_mask, Counted, InOrder, position_of}
use Rattle.registers.specs.Private.{Empties}
use Rattle.registers.specs.Rule.{Fills, Valid}
use Rattle.registers.specs.Deciding.{fills?}
use Rattle.registers.proofs.Bits.{same_bits}
use Rattle.registers.proofs.Places.{Says, is_filled, is_bare, says, mask_is, mask_bit}

-- ---- positions

-- with no next counter, no register is filled
pub mask_zero : filled_mask 0 ≡ 0
unfolding filled_mask
mask_zero = refl

-- a permitted counter is not 0
pub not_none : (c : ℕ) → Permitted c → eqb c 0 ≡ false
not_none c ok = ne_eqb c 0 (λ z. omega (arith, ok.from_one))

-- a terminal that is not exhausted has a permitted counter, an exhausted one has none
pub runs_counted : {exhausted : Bool} {c : ℕ} → Counted exhausted c → exhausted ≡ false → Permitted c
runs_counted (inl (f, ok)) e = ok
runs_counted (inr (f, z)) e = absurd (false≢true (sym e ∙ f))

pub stops_counted : {exhausted : Bool} {c : ℕ} → Counted exhausted c → exhausted ≡ true → c ≡ 0
stops_counted (inl (f, ok)) e = absurd (false≢true (sym f ∙ e))
stops_counted (inr (f, z)) e = z

module _ {K : Type 0} (device : Device K) where
  -- what is tested
  pub record Checked (s : State K) : Type 0 where
    pub serial_size : length s.serial ≡ 10
    pub clear : counter_of s.serial ≡ 0
    pub size : length s.keys ≡ 21
    pub order : InOrder (position_of s)
    pub empties : Empties device s

  -- ---- the bits of the mask are those of the rule

  no_bits : (b : ℕ) → bit (filled_mask 0) b ≡ 0
  no_bits b = ap (λ (x : ℕ). bit x b) mask_zero ∙ ap (λ (x : ℕ). x % 2) (zero-div (2 ^ b))

  mask_full : (s : State K) → Counted s.exhausted s.counter → (b : ℕ) → b < 21 → Fills device s b → bit (filled_mask s.counter) b ≡ 1
  mask_full s counted b h (runs, f) = go (says s.counter ok.from_one ok.fits b)
    where
      ok : Permitted s.counter
      ok = runs_counted counted runs

      go : Says s.counter b → bit (filled_mask s.counter) b ≡ 1
      go (is_filled g e q) = omega (arith, mask_bit s.counter ok.from_one ok.fits b h)
      go (is_bare g e) = absurd (g f)

  mask_bare : (s : State K) → Counted s.exhausted s.counter → (b : ℕ) → b < 21 → ¬ Fills device s b → bit (filled_mask s.counter) b ≡ 0
  mask_bare s (inr (stopped, z)) b h bare = ap (λ (c : ℕ). bit (filled_mask c) b) z ∙ no_bits b
  mask_bare s (inl (runs, ok)) b h bare = go (says s.counter ok.from_one ok.fits b)
    where
      go : Says s.counter b → bit (filled_mask s.counter) b ≡ 0
      go (is_filled g e q) = absurd (bare (runs, g))
      go (is_bare g e) = omega (arith, mask_bit s.counter ok.from_one ok.fits b h)

  mask_narrow : (s : State K) → Counted s.exhausted s.counter → filled_mask s.counter < 2 ^ 21
  mask_narrow s (inl (runs, ok)) = omega (arith, mask_is s.counter ok.from_one ok.fits, ok.from_one)
  mask_narrow s (inr (stopped, z)) = rw (z, mask_zero) (lit< tt)

  -- ---- from the tests to the rule's words, and back

  pub checked_valid : (s : State K) → Checked s → Valid device s
  checked_valid s ok = record {
    serial_size = ok.serial_size;
    clear = ok.clear;
    counted = ok.order.counted;
    size = ok.size;
    narrow = rw ok.order.mask (mask_narrow s ok.order.counted);
    full = λ b h f. at b ∙ mask_full s ok.order.counted b h f;
    bare = λ b h f. let z = at b ∙ mask_bare s ok.order.counted b h f in record { unfilled = z; zeros = ok.empties b h z };
  }
    where
      at : (b : ℕ) → filled_at s b ≡ bit (filled_mask s.counter) b
      at b = ap (λ (x : ℕ). bit x b) ok.order.mask

  pub valid_checked : (s : State K) → Valid device s → Checked s
  valid_checked s v = record {
    serial_size = v.serial_size;
    clear = v.clear;
    size = v.size;
    order = record { counted = v.counted; mask = same_bits 21 s.filled (filled_mask s.counter) v.narrow (mask_narrow s v.counted) same };
    empties = λ b h e. by_cases (fills? device s b) (λ f. absurd (omega (arith, v.full b h f))) (λ f. (v.bare b h f).zeros);
  }
    where
      same : (b : ℕ) → b < 21 → filled_at s b ≡ bit (filled_mask s.counter) b
      same b h =
          by_cases (fills? device s b) (λ f. v.full b h f ∙ sym (mask_full s v.counted b h f))
          (λ f. (v.bare b h f).unfilled ∙ sym (mask_bare s v.counted b h f))
