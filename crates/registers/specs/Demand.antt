-- Demand 3 (00; 01, Terminal keys), for any device and any way of calling it: what holds of every list of calls for the next key that starts
-- from a loading, however long.
use Rattle.std.specs.Prelude.{◌≡◌, Bool, true, false, ◌⊎◌, ℕ, suc, ◌≤◌, ◌<◌, length}
use mathlib.Core.List.{List, ◌∷◌, ◌++◌, Memᴰ}
use Rattle.lent.specs.Result.{Result, done, refused}
use Rattle.lent.specs.Refusals.{number_of}
use Rattle.lent.specs.declared.refusals.Refusal.{Refusal}
use Rattle.lent.specs.Refusals as refusals
use Rattle.registers.specs.Counters.{Permitted, Nth, counter_total}
use Rattle.registers.specs.SerialNumber.{with_counter}
use Rattle.registers.specs.Device.{Device}
use Rattle.registers.specs.Machine.{State, key_at, filled_at}
use Rattle.registers.specs.Rule.{Blank, FilledByRule}
use Rattle.registers.specs.Reach.{UnderFilled, UnderOne}
use Rattle.registers.specs.Host.{key_of, host_key}
use Rattle.registers.specs.Calls.{Given}
use Rattle.registers.specs.Trace.{Trace, record_after, counters_of}

-- A way of calling a terminal: T is what holds its record, X a call for the next key with its answer and the memory lent to it.
pub record Entry (K T X : Type 0) : Type 1 where
  -- the state in a record, and that the record hangs together
  pub state : T → State K
  pub Valid : T → Type 0
  -- the record is the one that a loading gives with a serial number and the host's initial key for it, of a derivation key
  pub Loaded : List ℕ → List ℕ → T → Type 0
  -- the answer to a call with a record, by whether every buffer lent to it is long enough, and that a call has an answer: it gives and leaves
  -- what the answer says, and where refused changes nothing
  pub answer : T → Bool → Result (Given K)
  pub Answered : Result (Given K) → T → X → Type 0
  -- whether every buffer lent to a call is long enough, its number, the counter that it gives out, and the record that it leaves
  pub enough : X → Bool
  pub number : X → ℕ
  pub counter : X → ℕ
  pub leaves : X → T

module _ {K : Type 0} (device : Device K) (derivation serial : List ℕ) where
  -- register b holds the register key of a permitted counter that is not among those given out
  pub record Waits (given : List ℕ) (s : State K) (b : ℕ) : Type 0 where
    pub counter : ℕ
    pub permitted : Permitted counter
    pub not_given : ¬ Memᴰ counter given
    pub filled : filled_at s b ≡ 1
    pub holds : key_at device s b ≡ key_of device derivation serial counter

  -- the state s, when those counters were given out
  pub record StateDemand (given : List ℕ) (s : State K) : Type 0 where
    pub most : length given ≤ counter_total
    -- its registers are filled by the rule
    pub rule : FilledByRule device (key_of device derivation serial) s
    -- each register is empty and zero, or holds the register key of a counter not yet given out
    pub registers : (b : ℕ) → b < 21 → Blank device s b ⊎ Waits given s b
    -- no payment key is out of reach (02, M-101): every permitted counter not yet given out lies under exactly one filled register, and none
    -- already given out lies under any
    pub within_reach : (x : ℕ) → Permitted x → ¬ Memᴰ x given → UnderOne s x
    pub beyond_reach : (x : ℕ) → Memᴰ x given → (b : ℕ) → ¬ UnderFilled s x b

  module _ {T X : Type 0} (entry : Entry K T X) where
    -- the call x with the record t gives out the n-th smallest permitted counter, the serial number with that counter, and the host's key for it
    pub record GivesNth (n : ℕ) (t : T) (x : X) : Type 0 where
      pub given : Given K
      pub answered : entry.Answered (done given) t x
      pub counter : entry.counter x ≡ given.counter
      pub nth : Nth n given.counter
      pub serial_number : given.serial ≡ with_counter serial given.counter
      pub host : host_key device derivation given.serial ≡ done given.key

    -- it is refused, and changes nothing
    pub record Refused (t : T) (x : X) : Type 0 where
      pub why : Refusal
      pub answered : entry.Answered (refused why) t x

    -- the call x with the record t, when n keys were given before it
    pub record CallDemand (n : ℕ) (t : T) (x : X) : Type 0 where
      -- until all are given, it is refused exactly if a buffer lent to it is too short
      pub enough : n < counter_total → entry.enough x ≡ true → entry.number x ≡ 0
      pub short : n < counter_total → entry.enough x ≡ false → entry.number x ≡ number_of refusals.short_buffer
      -- after that it is refused always
      pub afterwards : n ≡ counter_total → entry.number x ≡ number_of refusals.exhausted
      -- done, it gives the next key in order; refused, it changes nothing
      pub done : entry.number x ≡ 0 → GivesNth (suc n) t x
      pub refused : ¬ (entry.number x ≡ 0) → Refused t x

    -- the record t, when those counters were given out
    pub record RecordDemand (given : List ℕ) (t : T) : Type 0 where
      pub valid : entry.Valid t
      pub state : StateDemand given (entry.state t)

    -- the counters that calls gave out, in order; so its length is how many keys were given
    abbrev pub counters_given : List X → List ℕ
    counters_given = counters_of entry.number entry.counter

    -- the list of calls that starts from the record t
    pub record Demand (t : T) (calls : List X) : Type 0 where
      -- each call x of the list, with the calls before it
      pub each_call : (earlier : List X) (x : X) (later : List X) → calls ≡ earlier ++ (x ∷ later)
          → CallDemand (length (counters_given earlier)) (record_after entry.leaves t earlier) x
      -- the record after the loading, when there are none before, and after each call
      pub each_record : (earlier later : List X) → calls ≡ earlier ++ later
          → RecordDemand (counters_given earlier) (record_after entry.leaves t earlier)

-- the promise of a call with a record
abbrev pub Promise : {K T X : Type 0} → Entry K T X → T → X → Type 0
Promise entry t x = entry.Answered (entry.answer t (entry.enough x)) t x

-- Demand 3: for every derivation key and serial number, a loading with the host's initial key for them, and every list of calls from the loaded
-- record on, of which each gets the record that the last one left
abbrev pub Demand3 : {K T X : Type 0} → Device K → Entry K T X → Type 0
Demand3 {K} {T} {X} device entry =
    (derivation serial : List ℕ) (t : T) → entry.Loaded derivation serial t
    → (calls : List X) → Trace entry.leaves (Promise entry) t calls
    → Demand device derivation serial entry t calls
