-- The host's derivations: when they are done, and the key for a serial number with its counter replaced.
use borrow.Author.Tests.{eq-eqb, eqb-true, not-true}
use mathlib.Core.Path.{◌≡◌, refl, sym, ap, ap₂, ◌∙◌}
use mathlib.Core.List.{List, [], append-nil}
use mathlib.Core.Bool.{Bool, true, false, not}
use Prim.Native.Nat.{ℕ}
use lib.Dec.{eqb}
use lib.ListN.{length}
use Rattle.lent.specs.Refusals.{size, equal_halves, bad_counter}
use Rattle.lent.specs.declared.refusals.Refusal.{Refusal}
use Rattle.lent.specs.Result.{Result, done, refused, number, require}
use Rattle.lent.proofs.Laws.{never}
use Rattle.lent.proofs.Results.{Refuses, not_zero, same_done, number_refuses}
use Rattle.registers.specs.Counters.{Permitted}
use Rattle.registers.specs.SerialNumber.{counter_of, with_counter, cleared_head}
use Rattle.registers.specs.RegisterKey.{register_key}
use Rattle.registers.specs.Device.{Device}
use Rattle.registers.specs.Machine.{loaded}
use Rattle.registers.specs.Host.{same_halves, derivable, initial_of, given_key, initial_key, host_key}
use Rattle.registers.specs.Calls.{loading}
use Rattle.registers.proofs.Lawful.{Lawful}
use Rattle.registers.proofs.Order.{passes, fails}
use Rattle.registers.proofs.SerialNumbers.{length_with, counter_with, tail_with, head_with}

-- A derivation key of 16 bytes whose halves differ without low bits, and a serial number of 10 bytes.
pub record Fit (derivation serial : List ℕ) : Type 0 where
  pub key_has_sixteen : length derivation ≡ 16
  pub serial_size : length serial ≡ 10
  pub differ : same_halves derivation ≡ false

-- a test that a number 0 has passed
passed : {A : Type 0} (test : Bool) (why : Refusal) (r : Result A) → number (require test why r) ≡ 0 → (test ≡ true) × (number r ≡ 0)
passed true why r z = (refl, z)
passed false why r z = absurd (not_zero why z)

-- three tests refuse alike, whatever comes after them
tests : {A B : Type 0} (a b c : Bool) {why : Refusal} (x : A) (r : Result B)
    → require a size (require b size (require c equal_halves (done x))) ≡ refused why
    → require a size (require b size (require c equal_halves r)) ≡ refused why
tests false b c x r e = cc
tests true false c x r e = cc
tests true true false x r e = cc
tests true true true x r e = never (cc)

module _ (derivation serial : List ℕ) where
  -- the tests pass exactly if the two fit
  fits_derivable : Fit derivation serial → {A : Type 0} (r : Result A) → derivable derivation serial r ≡ r
  unfolding derivable
  fits_derivable f r = simp (f.key_has_sixteen, f.serial_size, f.differ)

  derivable_fit : {A : Type 0} (r : Result A) → number (derivable derivation serial r) ≡ 0 → Fit derivation serial
  unfolding derivable
  derivable_fit r z =
      let k = passed (eqb (length derivation) 16) _ _ z in
      let s = passed (eqb (length serial) 10) _ _ k.1 in
      let h = passed (not (same_halves derivation)) equal_halves r s.1 in
      record { key_has_sixteen = eqb-true _ _ k.0; serial_size = eqb-true _ _ s.0; differ = not-true _ h.0 }

  -- and refuse whatever comes after them
  pub derivable_refuses : {A B : Type 0} {why : Refusal} (x : A) (r : Result B) → derivable derivation serial (done x) ≡ refused why
      → derivable derivation serial r ≡ refused why
  unfolding derivable
  derivable_refuses x r e = tests (eqb (length derivation) 16) (eqb (length serial) 10) (not (same_halves derivation)) x r e

module _ {K : Type 0} (device : Device K) (derivation serial : List ℕ) where
  -- they have an initial key, and only they
  pub initial_done : Fit derivation serial → initial_key device derivation serial ≡ done (device.bytes (initial_of device derivation serial))
  unfolding initial_key
  initial_done f = fits_derivable derivation serial f _

  pub fit : {key : List ℕ} → initial_key device derivation serial ≡ done key → Fit derivation serial
  unfolding initial_key
  fit e = derivable_fit derivation serial _ (ap number e)

  -- by what the tests answer: the refusal of both keys, or that there is an initial key
  pub initial_refuses : {A : Type 0} (x : A) {why : Refusal} → derivable derivation serial (done x) ≡ refused why
      → initial_key device derivation serial ≡ refused why
  unfolding initial_key
  initial_refuses x e = derivable_refuses derivation serial x (done (device.bytes (initial_of device derivation serial))) e

  pub host_refuses : {A : Type 0} (x : A) {why : Refusal} → derivable derivation serial (done x) ≡ refused why
      → host_key device derivation serial ≡ refused why
  unfolding host_key
  host_refuses x e = derivable_refuses derivation serial x _ e

  pub tested_fit : {A : Type 0} (x : A) {y : A} → derivable derivation serial (done x) ≡ done y → Fit derivation serial
  tested_fit x e = derivable_fit derivation serial (done x) (ap number e)

  -- the same by the number of what they answer
  module _ {num : ℕ} (tested : num ≡ number {A = List ℕ} (derivable derivation serial (done []))) where
    pub initial_refuses_number : ¬ (num ≡ 0) → Refuses num (initial_key device derivation serial)
    initial_refuses_number h =
        let k = number_refuses {A = List ℕ} (derivable derivation serial (done [])) num tested h in
        (k.0, k.1, initial_refuses {A = List ℕ} [] k.2)

    pub host_refuses_number : ¬ (num ≡ 0) → Refuses num (host_key device derivation serial)
    host_refuses_number h =
        let k = number_refuses {A = List ℕ} (derivable derivation serial (done [])) num tested h in
        (k.0, k.1, host_refuses {A = List ℕ} [] k.2)

  -- the host's key is decided by the counter
  module _ (f : Fit derivation serial) where
    pub host_uncounted : ¬ Permitted (counter_of serial) → host_key device derivation serial ≡ refused bad_counter
    unfolding host_key
    host_uncounted bad = fits_derivable derivation serial f _ ∙ rw (fails bad)

    pub host_counted : Permitted (counter_of serial) → host_key device derivation serial ≡ done (given_key device derivation serial (counter_of serial))
    unfolding host_key
    host_counted ok = fits_derivable derivation serial f _ ∙ rw (passes ok)

  -- the initial key that the host gives is loaded as what it is
  pub initial_loads : Lawful device → (key : List ℕ) → initial_key device derivation serial ≡ done key
      → loading device key serial ≡ done (loaded device (initial_of device derivation serial) serial)
  unfolding loading
  initial_loads lawful key e =
      let ok = fit e in
      let initial = initial_of device derivation serial in
      let bytes : key ≡ device.bytes initial = same_done (sym e ∙ initial_done ok) in
      let read : device.read key ≡ initial =
      ap device.read (bytes ∙ sym (append-nil (device.bytes initial))) ∙ lawful.initial_back derivation (cleared_head serial) [] in
      simp (eq-eqb (length key) device.size (ap length bytes ∙ lawful.sized initial), ok.serial_size, read)

-- the host's key for a permitted counter
pub host_done : {K : Type 0} (device : Device K) (derivation serial : List ℕ) (c : ℕ) → Permitted c → Fit derivation serial
    → host_key device derivation (with_counter serial c) ≡ done (given_key device derivation serial c)
host_done device derivation serial c ok f =
    let same = counter_with serial c ok.fits in
    let fits : Fit derivation (with_counter serial c) = record { key_has_sixteen = f.key_has_sixteen; serial_size = length_with serial c; differ = f.differ } in
    rw (host_counted device derivation (with_counter serial c) fits (rw same ok), same)
    (ap₂ (λ (h t : ℕ). done (device.bytes (device.variant (register_key device.one_way (device.initial derivation h) t c))))
    (head_with serial c) (tail_with serial c))
