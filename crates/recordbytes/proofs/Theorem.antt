-- Demand 3 over records in bytes, for every lawful device: a call with a record's bytes is one with the record.
use mathlib.Core.Path.{◌≡◌, refl, sym, ap, ◌∙◌}
use mathlib.Core.Logic.{◌⊎◌, inl, inr}
use mathlib.Core.List.{List, [], ◌++◌, map}
use Prim.Native.Nat.{ℕ, zero, suc, ◌^◌, ◌<◌}
use lib.Dec.{eqb, leb}
use lib.ListN.{length, take}
use Rattle.lent.specs.Choice.{both}
use Rattle.lent.specs.declared.refusals.Refusal.{Refusal}
use Rattle.lent.specs.Result.{done, refused, number, over, of_done, Written}
use Rattle.lent.proofs.Laws.{cases}
use Rattle.lent.proofs.Results.{same_done, written_done}
use Rattle.registers.specs.Counters.{bit}
use Rattle.registers.specs.SerialNumber.{counter_of, with_counter, cleared_head, cleared_tail}
use Rattle.registers.specs.RegisterKey.{derive, register_key}
use Rattle.registers.specs.Device.{Device}
use Rattle.registers.specs.Machine.{State, key_at, loaded}
use Rattle.registers.specs.Rule.{Blank}
use Rattle.registers.specs.Host.{initial_of, key_of, initial_key}
use Rattle.registers.specs.Trace.{Trace}
use Rattle.registers.specs.Demand.{Waits, Demand3}
use Rattle.registers.proofs.Laws.{ReadBack, Lawful, Fit, fit, initial_loads, counter_with, After, after_valid, after_demand, sound_demand3, some_trace}
use Rattle.recordbytes.specs.RecordBytes.{record_bytes}
use Rattle.recordbytes.specs.Calls.{Call, loaded_bytes, next_key_of, Keeps, Next}
use Rattle.recordbytes.specs.Records.{LoadedFrom, by_bytes}
use Rattle.recordbytes.proofs.Laws.{Fits, valid_fits, read_written, written_valid, written_next}

-- the counter of a serial number, whatever stands after it
counter_first : (serial : List ℕ) (c : ℕ) (rest : List ℕ) → c < 2 ^ 21 → counter_of (with_counter serial c ++ rest) ≡ c
unfolding counter_of with_counter
counter_first serial c rest h = counter_with serial c h

module _ {K : Type 0} (device : Device K) where
  -- the bytes are those of the state's record
  abbrev Holds : State K → List ℕ → Type 0
  Holds s bytes = bytes ≡ record_bytes device s

  module _ (lawful : Lawful device) (derivation serial : List ℕ) where
    -- ---- every key of a terminal is read back from its bytes

    derive_back : (b : ℕ) (key : K) (c : ℕ) → ReadBack device key → ReadBack device (derive device.one_way (cleared_tail serial) b key c)
    unfolding derive
    derive_back zero key c h = h
    derive_back (suc b) key c h =
        derive_back b _ c (cases (eqb (bit c b) 1) (λ e. rw e (lawful.step_back key _ h)) (λ e. rw e h))

    key_back : (c : ℕ) → ReadBack device (key_of device derivation serial c)
    unfolding register_key
    key_back c = derive_back 21 _ c (lawful.initial_back derivation (cleared_head serial))

    after_fits : (given : List ℕ) (s : State K) → After device derivation serial given s → Fits device s
    after_fits given s now =
        valid_fits device lawful s (after_valid device derivation serial given s now)
        (λ b h. held b ((after_demand device derivation serial given s now).registers b h))
      where
        held : (b : ℕ) → Blank device s b ⊎ Waits device derivation serial given s b → ReadBack device (key_at device s b)
        held b (inl blank) = rw blank.zeros lawful.empty_back
        held b (inr waits) = rw waits.holds (key_back waits.counter)

    -- ---- the loading

    starts : (bytes : List ℕ) → LoadedFrom device derivation serial bytes → Fit derivation serial × Holds (loaded device (initial_of device derivation serial) serial) bytes
    unfolding loaded_bytes
    starts bytes from =
        let first = loaded device (initial_of device derivation serial) serial in
        let loads : loaded_bytes device from.key serial ≡ done (record_bytes device first) =
        rw (initial_loads device derivation serial lawful from.key from.initial) in
        (fit device derivation serial from.initial, same_done (sym from.load ∙ loads))

  pub bytes_demand3 : Lawful device → Demand3 device (by_bytes device)
  bytes_demand3 lawful = sound_demand3 device (by_bytes device) Holds (λ derivation serial. record {
    shown = λ given s bytes now e.
        let fits = after_fits lawful derivation serial given s now in
        (rw e (written_valid device lawful s fits (after_valid device derivation serial given s now)), rw e (read_written device lawful s fits));
    answers = λ given s bytes now e enough.
        ap (λ (b : List ℕ). next_key_of device b enough) e ∙ written_next device lawful s (after_fits lawful derivation serial given s now) enough;
    on_done = λ bytes x g ok number kept.
        let serial_after = kept.serial_memory ∙ ap (λ (v : List ℕ). over v x.serial_before) number in
        (kept.number, ap counter_of serial_after ∙ counter_first serial g.counter _ ok.fits, kept.state);
    on_refused = λ bytes x why kept. (kept.number, kept.state);
    starts = starts lawful derivation serial;
  })

  -- what the host and a loading wrote, both with the number 0, is such a loading
  pub written_loaded : (derivation serial before key room after : List ℕ) (n m : ℕ) → Written (initial_key device derivation serial) before 0 n key
      → Written (loaded_bytes device (take n key) serial) room 0 m after → LoadedFrom device derivation serial (take m after)
  written_loaded derivation serial before key room after n m w v =
      record { key = take n key; initial = (written_done w refl).0; load = (written_done v refl).0 }

  -- ---- what an answer means for a call

  -- refused, it answers no length, and the three buffers stay
  pub refused_stays : (why : Refusal) (bytes : List ℕ) (x : Call) → Keeps device (refused why) bytes x
      → (x.length ≡ 0) × (x.record_after ≡ bytes) × (x.key_after ≡ x.key_before) × (x.serial_after ≡ x.serial_before)
  refused_stays why bytes x kept = (kept.value, kept.state, kept.key_memory, kept.serial_memory)

  -- ---- there are calls to speak of

  -- the call with these bytes and these two buffers
  abbrev pub call_with : List ℕ → List ℕ × List ℕ → Call
  call_with bytes (key, serial) =
      let o = next_key_of device bytes (both (leb device.size (length key)) (leb 10 (length serial))) in
      record {
        key_before = key;
        serial_before = serial;
        number = number o;
        length = length (of_done (λ g. g.key) [] o);
        record_after = of_done (λ g. record_bytes device g.left) bytes o;
        key_after = over (of_done (λ g. g.key) [] o) key;
        serial_after = over (of_done (λ g. g.serial) [] o) serial;
      }

  -- for every record's bytes and every list of two buffers there are calls that keep their promise, with these buffers
  pub some_calls : (bytes : List ℕ) (buffers : List (List ℕ × List ℕ))
      → (calls : List Call) × Trace (λ x. x.record_after) (Next device) bytes calls × (map (λ x. (x.key_before, x.serial_before)) calls ≡ buffers)
  some_calls =
      some_trace (λ x. x.record_after) (Next device) (λ x. (x.key_before, x.serial_before))
      (λ bytes buffers. (call_with bytes buffers, record { number = refl; value = refl; state = refl; key_memory = refl; serial_memory = refl }, refl))

  -- and a call that keeps its promise is answered in no other way
  pub one_call : (bytes : List ℕ) (x : Call) → Next device bytes x → x ≡ call_with bytes (x.key_before, x.serial_before)
  one_call bytes x p =
      let same : record {
        key_before = x.key_before;
        serial_before = x.serial_before;
        number = x.number;
        length = x.length;
        record_after = x.record_after;
        key_after = x.key_after;
        serial_after = x.serial_after;
      } ≡ call_with bytes (x.key_before, x.serial_before) = rw (p.number, p.value, p.state, p.key_memory, p.serial_memory) in
      same
