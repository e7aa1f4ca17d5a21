-- The calls of a terminal in bytes, from what the record in them gives, for any device.
use borrow.Author.Tests.{le-leb, lt-leb}
use mathlib.Core.Path.{◌≡◌, refl, sym, ◌∙◌}
use mathlib.Core.Bool.{Bool, true, false}
use mathlib.Core.List.{List, ◌++◌}
use Prim.Native.Nat.{ℕ, ◌≤◌, ◌<◌}
use native.Mathlib.Omega.{arith}
use lib.ListN.{length, get_or, drop}
use Rattle.lent.specs.Refusals.{number_of, short_buffer}
use Rattle.lent.specs.declared.refusals.Refusal.{Refusal}
use Rattle.lent.specs.Result.{Result, done, refused, Writes}
use Rattle.lent.proofs.Results.{no_room_writes}
use Rattle.registers.specs.Device.{Device}
use Rattle.registers.specs.SerialNumber.{with_counter}
use Rattle.registers.specs.Machine.{State, ready_key, spent}
use Rattle.registers.specs.Rule.{Valid}
use Rattle.registers.specs.Calls.{Given, loading, next_key}
use Rattle.registers.proofs.Laws.{Lawful, length_with, next_short, next_full}
use Rattle.recordbytes.specs.RecordBytes.{record_size, last_place, record_bytes, state_of}
use Rattle.recordbytes.specs.Calls.{Call, loaded_bytes, next_key_of, Keeps, roomy, Next}
use Rattle.recordbytes.proofs.Laws.{next_bytes}

-- a value that is written where there is room, or is refused for the want of it
module _ {answer : Result (List ℕ)} {before value : List ℕ} {n : ℕ} (e : answer ≡ done value) (sized : length value ≡ n) where
  pub lent_short : length before < n → Writes answer before (refused short_buffer) before
  lent_short h = no_room_writes (rw (e, lt-leb (length value) (length before) (omega (arith, sized))))

  pub lent_value : {after : List ℕ} → n ≤ length before → after ≡ value ++ drop n before → Writes answer before (done n) after
  lent_value h ea =
      let room = le-leb (length value) (length before) (omega (arith, sized)) in
      record { value = rw (e, room, sized); memory = rw (e, room, sized) ea }

module _ {K : Type 0} (device : Device K) where
  -- the answer of a loading: its refusal, or the bytes of the record that it gives
  module _ (initial serial : List ℕ) where
    pub load_refused : {why : Refusal} → loading device initial serial ≡ refused why → loaded_bytes device initial serial ≡ refused why
    unfolding loaded_bytes
    load_refused e = rw e

    pub load_gives : {s : State K} → loading device initial serial ≡ done s → loaded_bytes device initial serial ≡ done (record_bytes device s)
    unfolding loaded_bytes
    load_gives e = rw e

  -- a refusal leaves all as it was
  pub refused_call : {o : Result (Given K)} {bytes key serial : List ℕ} (why : Refusal) → o ≡ refused why
      → Keeps device o bytes (record { key_before = key; serial_before = serial; number = number_of why; length = 0; record_after = bytes; key_after = key; serial_after = serial })
  refused_call why e = rw e (record { number = refl; value = refl; state = refl; key_memory = refl; serial_memory = refl })

  -- A call with bytes of a record's size, whose last is 0 or 1, and the state s of them.
  module _ (bytes : List ℕ) (s : State K) (long : length bytes ≡ record_size device) (flag : get_or bytes (last_place device) 0 ≤ 1) (is : s ≡ state_of device bytes) where
    -- it is answered as the record is
    pub by_state : (enough : Bool) → next_key_of device bytes enough ≡ next_key device s enough
    by_state enough = next_bytes device bytes long flag enough ∙ rw is

    -- the record hangs together and is not exhausted
    module _ (ok : Valid device s) (runs : s.exhausted ≡ false) where
      pub short_buffers : (enough : Bool) → enough ≡ false → next_key_of device bytes enough ≡ refused short_buffer
      short_buffers enough e = by_state enough ∙ next_short device s enough ok runs e

      pub given_call : (x : Call) {key : K} → Lawful device → roomy device x ≡ true → x.number ≡ 0 → x.length ≡ device.size
          → x.record_after ≡ record_bytes device (spent device s) → key ≡ device.variant (ready_key device s)
          → x.key_after ≡ device.bytes key ++ drop device.size x.key_before
          → x.serial_after ≡ with_counter s.serial s.counter ++ drop 10 x.serial_before → Next device bytes x
      given_call x {key} lawful enough number value left ready key-out serial-out =
          rw (by_state (roomy device x) ∙ next_full device s (roomy device x) ok runs enough, ← ready) (record {
            number = number;
            value = value ∙ sym (lawful.sized key);
            state = left;
            key_memory = rw (lawful.sized key) key-out;
            serial_memory = rw (length_with s.serial s.counter) serial-out;
          })
