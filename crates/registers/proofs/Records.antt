-- Demand 3 of terminals that are called by their records.
use mathlib.Core.Path.{◌≡◌, refl, sym, ap, ◌∙◌}
use mathlib.Core.List.{List, [], map}
use Prim.Native.Nat.{ℕ}
use lib.Dec.{leb}
use lib.ListN.{length, take, drop, replicate}
use lib.Seq.{take-append_seam, drop_at}
use Rattle.lent.specs.declared.refusals.Refusal.{Refusal}
use Rattle.lent.specs.Result.{done, refused, number, over, of_done, Answered}
use Rattle.lent.proofs.Results.{same_done, answered_done, number_done}
use Rattle.registers.specs.Device.{Device}
use Rattle.registers.specs.Machine.{State, zero_state}
use Rattle.registers.specs.Host.{initial_key}
use Rattle.registers.specs.Calls.{Given, Call, loading, Load, next_key, Keeps, Next}
use Rattle.registers.specs.Trace.{Trace}
use Rattle.registers.specs.Demand.{Demand3}
use Rattle.registers.specs.Records.{LoadedFrom, by_record}
use Rattle.registers.proofs.Lawful.{Lawful}
use Rattle.registers.proofs.Hosts.{fit, initial_loads}
use Rattle.registers.proofs.States.{after_valid}
use Rattle.registers.proofs.Theorem.{sound_demand3}
use Rattle.registers.proofs.Traces.{some_trace}

module _ {K : Type 0} (device : Device K) where
  -- a record is its state
  abbrev Same : State K → State K → Type 0
  Same s t = t ≡ s

  pub demand3 : Lawful device → Demand3 device (by_record device)
  demand3 lawful = sound_demand3 device (by_record device) Same (λ derivation serial. record {
    shown = λ given s t now e. (rw e (after_valid device derivation serial given s now), e);
    answers = λ given s t now e enough. ap (λ (u : State K). next_key device u enough) e;
    on_done = λ t x g ok number kept. (kept.number, kept.counter, kept.left);
    on_refused = λ t x why kept. (kept.number, kept.left);
    starts = λ s from.
        let loads = initial_loads device derivation serial lawful from.key from.initial in
        (fit device derivation serial from.initial, same_done (sym from.load ∙ loads));
  })

  -- what the host and a loading promise, both with the number 0, is such a loading
  pub promised_loaded : (derivation serial key : List ℕ) (s : State K) → Answered device.size (initial_key device derivation serial) 0 key
      → Load device key serial 0 s → LoadedFrom device derivation serial s
  promised_loaded derivation serial key s answer load = record {
    key = key;
    initial = answered_done device.size (initial_key device derivation serial) answer refl;
    load = number_done (loading device key serial) (sym load.number) (zero_state device) ∙ ap done (sym load.state);
  }

  -- ---- what an answer means for a call

  -- done, the key stands from the start of the buffer, and the old bytes after it
  pub done_writes : (g : Given K) (s : State K) (x : Call K) → Keeps device (done g) s x
      → (take (length g.key) x.after ≡ g.key) × (drop (length g.key) x.after ≡ drop (length g.key) x.before)
  done_writes g s x kept =
      let n = length g.key in
      (ap (take n) kept.memory ∙ take-append_seam g.key _, ap (drop n) kept.memory ∙ drop_at g.key _ n refl)

  -- refused, it answers zeros, and the state and the buffer stay
  pub refused_stays : (why : Refusal) (s : State K) (x : Call K) → Keeps device (refused why) s x
      → (x.counter ≡ 0) × (x.serial ≡ replicate 10 0) × (x.left ≡ s) × (x.after ≡ x.before)
  refused_stays why s x kept = (kept.counter, kept.serial, kept.left, kept.memory)

  -- ---- there are calls to speak of

  -- the call with a state and a buffer
  abbrev pub call_with : State K → List ℕ → Call K
  call_with s before =
      let o = next_key device s (leb device.size (length before)) in
      record {
        before = before;
        number = number o;
        counter = of_done (λ g. g.counter) 0 o;
        serial = of_done (λ g. g.serial) (replicate 10 0) o;
        left = of_done (λ g. g.left) s o;
        after = over (of_done (λ g. g.key) [] o) before;
      }

  -- for every state and every list of buffers there are calls that keep their promise, with these buffers
  pub some_calls : (s : State K) (buffers : List (List ℕ))
      → (calls : List (Call K)) × Trace (λ x. x.left) (Next device) s calls × (map (λ x. x.before) calls ≡ buffers)
  some_calls =
      some_trace (λ x. x.left) (Next device) (λ x. x.before)
      (λ s before. (call_with s before, record { number = refl; counter = refl; serial = refl; left = refl; memory = refl }, refl))

  -- and a call that keeps its promise is answered in no other way
  pub one_call : (s : State K) (x : Call K) → Next device s x → x ≡ call_with s x.before
  one_call s x p =
      let same : record { before = x.before; number = x.number; counter = x.counter; serial = x.serial; left = x.left; after = x.after } ≡ call_with s x.before =
      rw (p.number, p.counter, p.serial, p.left, p.memory) in
      same
