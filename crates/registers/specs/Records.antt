-- A terminal called by its record, whose state it is, for any device.
use Rattle.std.specs.Prelude.{◌≡◌, List, ℕ}
use Rattle.lent.specs.Result.{done}
use Rattle.registers.specs.Device.{Device}
use Rattle.registers.specs.Machine.{State}
use Rattle.registers.specs.Rule.{Valid}
use Rattle.registers.specs.Host.{initial_key}
use Rattle.registers.specs.Calls.{Call, loading, next_key, Keeps, roomy}
use Rattle.registers.specs.Demand.{Entry}

module _ {K : Type 0} (device : Device K) where
  -- the state that a loading gives with the host's initial key for the serial number
  pub record LoadedFrom (derivation serial : List ℕ) (s : State K) : Type 0 where
    pub key : List ℕ
    pub initial : initial_key device derivation serial ≡ done key
    pub load : loading device key serial ≡ done s

  abbrev pub by_record : Entry K (State K) (Call K)
  by_record = record {
    state = λ s. s;
    Valid = Valid device;
    Loaded = LoadedFrom;
    answer = next_key device;
    Answered = Keeps device;
    enough = roomy device;
    number = λ x. x.number;
    counter = λ x. x.counter;
    leaves = λ x. x.left;
  }
