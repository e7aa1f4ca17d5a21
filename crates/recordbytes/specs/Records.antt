-- A terminal called by its record in bytes, for any device.
use Rattle.std.specs.Prelude.{◌≡◌, List, ℕ}
use Rattle.lent.specs.Result.{done}
use Rattle.registers.specs.SerialNumber.{counter_of}
use Rattle.registers.specs.Device.{Device}
use Rattle.registers.specs.Host.{initial_key}
use Rattle.registers.specs.Demand.{Entry}
use Rattle.recordbytes.specs.RecordBytes.{state_of, ValidBytes}
use Rattle.recordbytes.specs.Calls.{Call, loaded_bytes, next_key_of, Keeps, roomy}

module _ {K : Type 0} (device : Device K) where
  -- the bytes that a loading gives with the host's initial key for the serial number
  pub record LoadedFrom (derivation serial bytes : List ℕ) : Type 0 where
    pub key : List ℕ
    pub initial : initial_key device derivation serial ≡ done key
    pub load : loaded_bytes device key serial ≡ done bytes

  -- the counter given out stands in the serial number
  abbrev pub by_bytes : Entry K (List ℕ) Call
  by_bytes = record {
    state = state_of device;
    Valid = ValidBytes device;
    Loaded = LoadedFrom;
    answer = next_key_of device;
    Answered = Keeps device;
    enough = roomy device;
    number = λ x. x.number;
    counter = λ x. counter_of x.serial_after;
    leaves = λ x. x.record_after;
  }
