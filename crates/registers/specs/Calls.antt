-- Loading and the call for the next key (01, Numbers an operator sees; Terminal keys), for any device: what they answer and promise.
use Rattle.std.specs.Prelude.{◌≡◌, Bool, true, false, not, List, [], ℕ, eqb, leb, length, replicate}
use Rattle.std.proofs.Math.Logic.{ite}
use Rattle.lent.specs.Refusals as refusals
use Rattle.lent.specs.Result.{Result, done, require, over, of_done}
use Rattle.lent.specs.Result as result
use Rattle.registers.specs.SerialNumber.{with_counter}
use Rattle.registers.specs.Device.{Device}
use Rattle.registers.specs.Machine.{State, loaded, ready_key, spent, zero_state}
use Rattle.registers.specs.Deciding.{valid?}

-- What a done call for the next key gives out, the counter, the serial number with it and the bytes of the key, and the state that it leaves.
pub record Given (K : Type 0) : Type 0 where
  pub counter : ℕ
  pub serial : List ℕ
  pub key : List ℕ
  pub left : State K

-- A call for the next key: the lent buffer before it; its number, the counter given out, the serial number with it and the state left; and the
-- buffer after it.
pub record Call (K : Type 0) : Type 0 where
  pub before : List ℕ
  pub number : ℕ
  pub counter : ℕ
  pub serial : List ℕ
  pub left : State K
  pub after : List ℕ

module _ {K : Type 0} (device : Device K) where
  -- ---- loading

  -- the state of an initial key and a serial number of 10 bytes, or the refusal
  unfoldable pub loading : List ℕ → List ℕ → Result (State K)
  loading initial serial =
      require (eqb (length initial) device.size) refusals.size
      (require (eqb (length serial) 10) refusals.size
      (done (loaded device (device.read initial) serial)))

  -- the promise of a loading: its number and its state, where refused the all-zero one
  pub record Load (initial serial : List ℕ) (num : ℕ) (s : State K) : Type 0 where
    pub number : num ≡ result.number (loading initial serial)
    pub state : s ≡ of_done (λ t. t) (zero_state device) (loading initial serial)

  -- ---- the next key

  -- the key of the counter that is next, and what giving it out leaves
  abbrev pub given : State K → Given K
  given s = record {
    counter = s.counter;
    serial = with_counter s.serial s.counter;
    key = device.bytes (device.variant (ready_key device s));
    left = spent device s;
  }

  -- it, or the refusal: 11 if the state does not hang together, 12 if it is exhausted, 13 if the memory lent is not enough
  unfoldable pub next_key : State K → Bool → Result (Given K)
  next_key s enough =
      require (ite (valid? device s) true false) refusals.bad_record
      (require (not s.exhausted) refusals.exhausted
      (require enough refusals.short_buffer
      (done (given s))))

  -- the call x with the state s is answered by o: where refused, by zeros, and the state and the buffer stay
  pub record Keeps (o : Result (Given K)) (s : State K) (x : Call K) : Type 0 where
    pub number : x.number ≡ result.number o
    pub counter : x.counter ≡ of_done (λ g. g.counter) 0 o
    pub serial : x.serial ≡ of_done (λ g. g.serial) (replicate 10 0) o
    pub left : x.left ≡ of_done (λ g. g.left) s o
    pub memory : x.after ≡ over (of_done (λ g. g.key) [] o) x.before

  -- whether its buffer is as long as a key
  abbrev pub roomy : Call K → Bool
  roomy x = leb device.size (length x.before)

  -- the promise of a call for the next key
  abbrev pub Next : State K → Call K → Type 0
  Next s x = Keeps (next_key s (roomy x)) s x
