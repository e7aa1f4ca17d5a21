-- The host's two derivations (01, Terminal keys), with their refusals in order, for any device.
use Rattle.std.specs.Prelude.{Bool, not, List, ℕ, eqb, length}
use Rattle.lent.specs.Refusals.{size, equal_halves, bad_counter}
use Rattle.lent.specs.Result.{Result, done, require, and_then}
use Rattle.lent.specs.Words.{left, right}
use Rattle.cipher.specs.Keys.{same_key}
use Rattle.registers.specs.Counters.{counter_permitted}
use Rattle.registers.specs.SerialNumber.{counter_of, cleared_tail, cleared_head}
use Rattle.registers.specs.RegisterKey.{register_key}
use Rattle.registers.specs.Device.{Device}

-- the halves of a derivation key agree without the low bit of each byte (02, M-104)
abbrev pub same_halves : List ℕ → Bool
same_halves derivation = same_key (left derivation) (right derivation)

-- the result, if a key can be derived from a derivation key and a serial number, or the refusal: 6 for another size, 9 for halves that agree
-- without low bits
unfoldable pub derivable : {A : Type 0} → List ℕ → List ℕ → Result A → Result A
derivable derivation serial r =
    require (eqb (length derivation) 16) size
    (require (eqb (length serial) 10) size
    (require (not (same_halves derivation)) equal_halves r))

-- the bytes of a key that was derived; a refusal stays
abbrev pub key_bytes : {K : Type 0} → Device K → Result K → Result (List ℕ)
key_bytes device r = and_then r (λ key. done (device.bytes key))

module _ {K : Type 0} (device : Device K) (derivation serial : List ℕ) where
  -- the initial key
  abbrev pub initial_of : K
  initial_of = device.initial derivation (cleared_head serial)

  -- the register key of the counter c
  abbrev pub key_of : ℕ → K
  key_of c = register_key device.one_way initial_of (cleared_tail serial) c

  -- the bytes of the key given out with the counter c
  abbrev pub given_key : ℕ → List ℕ
  given_key c = device.bytes (device.variant (key_of c))

  -- the bytes of the initial key, or the refusal
  unfoldable pub initial_key : Result (List ℕ)
  initial_key = derivable derivation serial (done (device.bytes initial_of))

  -- the bytes of the host's key for the counter in the serial number, or the refusal: that of the initial key, then 10
  unfoldable pub host_key : Result (List ℕ)
  host_key =
      derivable derivation serial
      (require (counter_permitted (counter_of serial)) bad_counter
      (done (given_key (counter_of serial))))
