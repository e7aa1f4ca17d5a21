-- A loading and the call for the next key, of a record in bytes (01, Numbers an operator sees; Terminal keys), for any device: what they answer
-- and promise.
use Rattle.std.specs.Prelude.{◌≡◌, Bool, List, [], ℕ, eqb, leb, length, get_or}
use Rattle.lent.specs.Choice.{both}
use Rattle.lent.specs.Refusals as refusals
use Rattle.lent.specs.Result.{Result, done, require, and_then, over, of_done}
use Rattle.lent.specs.Result as result
use Rattle.registers.specs.Device.{Device}
use Rattle.registers.specs.Calls.{Given, loading, next_key}
use Rattle.recordbytes.specs.RecordBytes.{record_size, last_place, record_bytes, state_of}

-- A call for the next key: its key buffer and its serial buffer before it; its number and length; and the record's bytes and the two buffers
-- after it.
pub record Call : Type 0 where
  pub key_before : List ℕ
  pub serial_before : List ℕ
  pub number : ℕ
  pub length : ℕ
  pub record_after : List ℕ
  pub key_after : List ℕ
  pub serial_after : List ℕ

module _ {K : Type 0} (device : Device K) where
  -- the bytes of the record that a loading gives, or its refusal
  unfoldable pub loaded_bytes : List ℕ → List ℕ → Result (List ℕ)
  loaded_bytes initial serial = and_then (loading device initial serial) (λ s. done (record_bytes device s))

  -- what the record of the bytes gives out, or the refusal: 6 for bytes of another size, 11 for a last byte above 1, then that of the record
  unfoldable pub next_key_of : List ℕ → Bool → Result (Given K)
  next_key_of bytes enough =
      require (eqb (length bytes) (record_size device)) refusals.size
      (require (leb (get_or bytes (last_place device) 0) 1) refusals.bad_record
      (next_key device (state_of device bytes) enough))

  -- the call x with these bytes is answered by o: where refused, the three buffers stay
  pub record Keeps (o : Result (Given K)) (bytes : List ℕ) (x : Call) : Type 0 where
    pub number : x.number ≡ result.number o
    pub value : x.length ≡ length (of_done (λ g. g.key) [] o)
    pub state : x.record_after ≡ of_done (λ g. record_bytes device g.left) bytes o
    pub key_memory : x.key_after ≡ over (of_done (λ g. g.key) [] o) x.key_before
    pub serial_memory : x.serial_after ≡ over (of_done (λ g. g.serial) [] o) x.serial_before

  -- whether both of its buffers are long enough
  abbrev pub roomy : Call → Bool
  roomy x = both (leb device.size (length x.key_before)) (leb 10 (length x.serial_before))

  -- the promise of a call for the next key
  abbrev pub Next : List ℕ → Call → Type 0
  Next bytes x = Keeps (next_key_of bytes (roomy x)) bytes x
