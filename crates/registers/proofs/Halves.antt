-- The halves of a derivation key (02, M-104): which are refused with 9, and why, for any device.
use borrow.Author.Tests.{eq-eqb}
use mathlib.Core.Bool.{Bool, true, false, not, false≢true}
use mathlib.Core.List.{List}
use mathlib.Core.Logic.{◌↔◌}
use mathlib.Core.Path.{◌≡◌, refl, sym, ◌∙◌}
use Prim.Native.Nat.{ℕ, ◌+◌, ◌/◌, ◌<◌}
use native.Mathlib.Omega.{arith}
use lib.Dec.{eqb}
use lib.ListN.{length, get_or, drop}
use lib.Seq.{get_or-drop}
use Rattle.lent.specs.Refusals.{size, equal_halves, bad_counter}
use Rattle.lent.specs.Result.{Result, done, number, require}
use Rattle.lent.specs.Words.{left, right}
use Rattle.lent.proofs.Bases.{Digits, digits_drop, from_lt}
use Rattle.cipher.specs.Des.{encrypted, decrypted}
use Rattle.cipher.specs.Schedule.{round_keys}
use Rattle.cipher.specs.Triple.{triple_encrypted, triple_decrypted}
use Rattle.cipher.proofs.Laws.{round_keys_same, triple_encrypted_single, triple_decrypted_single}
use Rattle.parity.proofs.LowBits.{each_byte, same_from_bytes}
use Rattle.registers.specs.Counters.{counter_permitted}
use Rattle.registers.specs.SerialNumber.{counter_of}
use Rattle.registers.specs.Device.{Device}
use Rattle.registers.specs.Host.{same_halves, derivable, initial_key, host_key}

module _ (derivation : List ℕ) (bytes : Digits 256 derivation) where
  right_bytes : Digits 256 (drop 8 derivation)
  right_bytes = digits_drop 256 8 derivation bytes

  -- they agree exactly if each byte of the left one, without its low bit, is that of the right one
  pub halves_same : (same_halves derivation ≡ true) ↔ ((k : ℕ) → k < 8 → get_or derivation k 0 / 2 ≡ get_or derivation (8 + k) 0 / 2)
  halves_same =
      let at : (k : ℕ) → get_or (drop 8 derivation) k 0 / 2 ≡ get_or derivation (8 + k) 0 / 2 = λ k. rw (get_or-drop 8 derivation k 0) in (
        λ e k h. each_byte derivation (drop 8 derivation) bytes right_bytes 8 e k h ∙ at k,
        λ f. same_from_bytes derivation (drop 8 derivation) bytes right_bytes 8 (λ k h. f k h ∙ sym (at k)),
      )

  halves_round_keys : (same_halves derivation ≡ true) ↔ (round_keys (left derivation) ≡ round_keys (right derivation))
  halves_round_keys =
      round_keys_same (left derivation) (right derivation) (from_lt 256 8 derivation bytes) (from_lt 256 8 (drop 8 derivation) right_bytes)

-- ---- refused with 9

-- of three tests and what comes after them, the third alone refuses with it
third : (a b c : Bool) (r : Result (List ℕ)) → ¬ (number r ≡ 9)
    → (number (require a size (require b size (require (not c) equal_halves r))) ≡ 9) ↔ ((a ≡ true) × (b ≡ true) × (c ≡ true))
third false b c r other = (λ e. absurd (omega arith), λ t. absurd (false≢true t.0))
third true false c r other = (λ e. absurd (omega arith), λ t. absurd (false≢true t.1))
third true true false r other = (λ e. absurd (other e), λ t. absurd (false≢true t.2))
third true true true r other = (λ e. (refl, refl, refl), λ t. refl)

module _ {K : Type 0} (device : Device K) (derivation serial : List ℕ) where
  abbrev Third : Type 0
  Third = (eqb (length derivation) 16 ≡ true) × (eqb (length serial) 10 ≡ true) × (same_halves derivation ≡ true)

  initial_third : (number (initial_key device derivation serial) ≡ 9) ↔ Third
  unfolding initial_key derivable
  initial_third = third _ _ (same_halves derivation) _ (λ e. omega arith)

  -- a counter is refused with another number
  host_third : (number (host_key device derivation serial) ≡ 9) ↔ Third
  unfolding host_key derivable
  host_third = third _ _ (same_halves derivation) _ (counted (counter_permitted (counter_of serial)) _)
    where
      counted : (t : Bool) (key : List ℕ) → ¬ (number (require t bad_counter (done key)) ≡ 9)
      counted true key e = omega arith
      counted false key e = omega arith

  -- for the host's key exactly if for the initial key
  pub host_refused : (number (host_key device derivation serial) ≡ 9) ↔ (number (initial_key device derivation serial) ≡ 9)
  host_refused = (λ e. initial_third.1 (host_third.0 e), λ e. host_third.1 (initial_third.0 e))

  -- then triple DES under the derivation key is DES under its left half
  pub refused_single : number (initial_key device derivation serial) ≡ 9 → (block : ℕ)
      → (triple_encrypted (left derivation) (right derivation) block ≡ encrypted (left derivation) block)
      × (triple_decrypted (left derivation) (right derivation) block ≡ decrypted (left derivation) block)
  refused_single e block =
      let k = left derivation in
      let k' = right derivation in
      (triple_encrypted_single k k' block (initial_third.0 e).2, triple_decrypted_single k k' block (initial_third.0 e).2)

  -- sizes being right, exactly if the halves have the same round keys
  pub refused_exactly : Digits 256 derivation → length derivation ≡ 16 → length serial ≡ 10
      → (number (initial_key device derivation serial) ≡ 9) ↔ (round_keys (left derivation) ≡ round_keys (right derivation))
  refused_exactly bytes k s = (
    λ e. (halves_round_keys derivation bytes).0 (initial_third.0 e).2,
    λ e. initial_third.1 (eq-eqb _ _ k, eq-eqb _ _ s, (halves_round_keys derivation bytes).1 e),
  )
