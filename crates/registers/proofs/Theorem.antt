-- Demand 3, for every lawful device: the law of one call, carried over every list of calls.
use mathlib.Core.Path.{◌≡◌, sym, ◌∙◌, subst}
use mathlib.Core.Bool.{Bool, true, false, false≢true}
use mathlib.Core.List.{List, [], ◌∷◌, ◌++◌, append-nil}
use Prim.Native.Nat.{ℕ, ◌<◌}
use native.Mathlib.Omega.{arith}
use lib.ListN.{length}
use Rattle.lent.specs.Result.{Result, done, refused}
use Rattle.lent.specs.Refusals.{number_of, exhausted, short_buffer}
use Rattle.lent.specs.declared.refusals.Refusal.{Refusal}
use Rattle.lent.proofs.Results.{not_zero}
use Rattle.registers.specs.Counters.{Permitted, counter_total}
use Rattle.registers.specs.SerialNumber.{with_counter}
use Rattle.registers.specs.Device.{Device}
use Rattle.registers.specs.Machine.{State, loaded}
use Rattle.registers.specs.Host.{initial_of}
use Rattle.registers.specs.Calls.{Given, next_key}
use Rattle.registers.specs.Trace.{Trace, counters_of}
use Rattle.registers.specs.Demand.{Entry, CallDemand, RecordDemand, counters_given, Demand, Promise, Demand3}
use Rattle.registers.proofs.Hosts.{Fit, host_done}
use Rattle.registers.proofs.Progress.{Answers, past, short, gives, step}
use Rattle.registers.proofs.States.{After, after_loading, after_more, after_demand}
use Rattle.registers.proofs.Traces.{each_call, each_record, counters_more, counters_done, counters_refused}

module _ {K T X : Type 0} (device : Device K) (entry : Entry K T X) where
  -- What a way of calling owes, where `Holds s t` says that the record t holds the state s.
  pub record Sound (derivation serial : List ℕ) (Holds : State K → T → Type 0) : Type 0 where
    -- it has the state that it holds, and calls are answered as by the state
    pub shown : (given : List ℕ) (s : State K) (t : T) → After device derivation serial given s → Holds s t → entry.Valid t × (entry.state t ≡ s)
    pub answers : (given : List ℕ) (s : State K) (t : T) → After device derivation serial given s → Holds s t → (enough : Bool)
        → entry.answer t enough ≡ next_key device s enough
    -- a done call has the number 0 and the counter given out, and leaves the state given; a refused one has its number and leaves the record
    pub on_done : (t : T) (x : X) (g : Given K) → Permitted g.counter → g.serial ≡ with_counter serial g.counter → entry.Answered (done g) t x
        → (entry.number x ≡ 0) × (entry.counter x ≡ g.counter) × Holds g.left (entry.leaves x)
    pub on_refused : (t : T) (x : X) (why : Refusal) → entry.Answered (refused why) t x → (entry.number x ≡ number_of why) × (entry.leaves x ≡ t)
    -- the loaded record holds the loaded state
    pub starts : (t : T) → entry.Loaded derivation serial t → Fit derivation serial × Holds (loaded device (initial_of device derivation serial) serial) t

  module _ (derivation serial : List ℕ) (Holds : State K → T → Type 0) (sound : Sound derivation serial Holds) (ok : Fit derivation serial) where
    -- the record t after those counters were given out
    record Held (given : List ℕ) (t : T) : Type 0 where
      state : State K
      now : After device derivation serial given state
      holds : Holds state t

    held_demand : (given : List ℕ) (t : T) → Held given t → RecordDemand device derivation serial entry given t
    held_demand given t held =
        let see = sound.shown given held.state t held.now held.holds in
        record { valid = see.0; state = rw see.1 (after_demand device derivation serial given held.state held.now) }

    -- ---- one call

    module _ (given : List ℕ) (t : T) (x : X) (held : Held given t) where
      abbrev n : ℕ
      n = length given

      abbrev s : State K
      s = held.state

      -- what is demanded of a call, and what it leaves
      abbrev Keeps : Type 0
      Keeps = CallDemand device derivation serial entry n t x × Held (given ++ counters_of entry.number entry.counter (x ∷ [])) (entry.leaves x)

      -- a refusal, by the three ways in which it may be demanded
      refuses : (why : Refusal) → entry.Answered (refused why) t x
          → (entry.number x ≡ number_of why → n < counter_total → entry.enough x ≡ true → entry.number x ≡ 0)
          → (entry.number x ≡ number_of why → n < counter_total → entry.enough x ≡ false → entry.number x ≡ number_of short_buffer)
          → (entry.number x ≡ number_of why → n ≡ counter_total → entry.number x ≡ number_of exhausted) → Keeps
      refuses why answered roomy few all =
          let r = sound.on_refused t x why answered in
          let not_done : ¬ (entry.number x ≡ 0) = λ e. not_zero why (sym r.0 ∙ e) in (
            record {
              enough = roomy r.0;
              short = few r.0;
              afterwards = all r.0;
              done = λ e. absurd (not_done e);
              refused = λ h. record { why = why; answered = answered };
            },
            rw (counters_refused entry.number entry.counter x not_done, append-nil given, r.1) held,
          )

      called : Promise entry t x → Keeps
      called promise =
          go (next_key device s (entry.enough x)) (step device derivation serial n s (entry.enough x) held.now.follows)
          (subst (λ (o : Result (Given K)). entry.Answered o t x) (sound.answers given s t held.now held.holds (entry.enough x)) promise)
        where
          go : (o : Result (Given K)) → Answers device derivation serial n s (entry.enough x) o → entry.Answered o t x → Keeps
          go o (past all) answered = refuses exhausted answered (λ e few h. absurd (omega arith)) (λ e few h. absurd (omega arith)) (λ e h. e)
          go o (short few e) answered =
              refuses short_buffer answered (λ f early h. absurd (false≢true (sym e ∙ h))) (λ f early h. f) (λ f all. absurd (omega arith))
          go o (gives {g} few e next) answered =
              let r = sound.on_done t x g next.nth.permitted next.serial_number answered in (
                record {
                  enough = λ early h. r.0;
                  short = λ early h. absurd (false≢true (sym h ∙ e));
                  afterwards = λ all. absurd (omega arith);
                  done = λ z. record {
                    given = g;
                    answered = answered;
                    counter = r.1;
                    nth = next.nth;
                    serial_number = next.serial_number;
                    host = rw (next.serial_number, next.key) (host_done device derivation serial g.counter next.nth.permitted ok);
                  };
                  refused = λ h. absurd (h r.0);
                },
                rw (counters_done entry.number entry.counter x r.0, r.1) (record {
                  state = g.left;
                  now = after_more device derivation serial given s g.left g.counter held.now next.nth next.left;
                  holds = r.2;
                }),
              )

    -- ---- the list

    -- of the record after some calls, and of the call after them
    abbrev OfRecord : List X → T → Type 0
    OfRecord earlier = Held (counters_given device derivation serial entry earlier)

    abbrev OfCall : List X → T → X → Type 0
    OfCall earlier = CallDemand device derivation serial entry (length (counters_given device derivation serial entry earlier))

    kept_up : (earlier : List X) (t : T) (x : X) → OfRecord earlier t → Promise entry t x → OfCall earlier t x × OfRecord (earlier ++ x ∷ []) (entry.leaves x)
    kept_up earlier t x held promise =
        let keeps = called (counters_given device derivation serial entry earlier) t x held promise in
        (keeps.0, rw (counters_more entry.number entry.counter earlier x) keeps.1)

    theorem : (t : T) → Held [] t → (calls : List X) → Trace entry.leaves (Promise entry) t calls → Demand device derivation serial entry t calls
    unfolding counters_of
    theorem t start calls traced = record {
      each_call = each_call entry.leaves (Promise entry) OfRecord OfCall kept_up t calls start traced;
      each_record = λ earlier later e.
          held_demand _ _ (each_record entry.leaves (Promise entry) OfRecord OfCall kept_up t calls start traced earlier later e);
    }

  pub sound_demand3 : (Holds : State K → T → Type 0) → ((derivation serial : List ℕ) → Sound derivation serial Holds) → Demand3 device entry
  sound_demand3 Holds sound derivation serial t loaded calls traced =
      let start = (sound derivation serial).starts t loaded in
      theorem derivation serial Holds (sound derivation serial) start.0 t
      (record { state = _; now = after_loading device derivation serial; holds = start.1 }) calls traced
