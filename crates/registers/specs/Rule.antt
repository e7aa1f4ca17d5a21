-- The rule of the registers (01, Terminal keys): which are filled, with which counter's key, and when a state hangs together.
use Rattle.std.specs.Prelude.{◌≡◌, ◌⊎◌, false, ℕ, suc, ◌+◌, ◌^◌, ◌<◌, length}
use Rattle.registers.specs.Counters.{bit, bits_from, lowest_place}
use Rattle.registers.specs.SerialNumber.{counter_of}
use Rattle.registers.specs.Device.{Device}
use Rattle.registers.specs.Machine.{State, Counted, key_at, filled_at}

-- with the next counter c, whose lowest one bit is l, register b is filled exactly if b is l, or b is above l and that bit of c is 0
abbrev pub Filled : ℕ → ℕ → Type 0
Filled c b = (b ≡ lowest_place c) ⊎ ((lowest_place c < b) × (bit c b ≡ 0))

-- register b's label, the counter whose register key it holds: the bits of c above b, plus bit b
abbrev pub label : ℕ → ℕ → ℕ
label c b = bits_from (suc b) c + 2 ^ b

module _ {K : Type 0} (device : Device K) where
  -- register b is empty and zero
  pub record Blank (s : State K) (b : ℕ) : Type 0 where
    pub unfilled : filled_at s b ≡ 0
    pub zeros : key_at device s b ≡ device.empty

  -- a counter is next, and the rule fills register b
  abbrev pub Fills : State K → ℕ → Type 0
  Fills s b = (s.exhausted ≡ false) × Filled s.counter b

  -- the state hangs together; the keys in filled registers are not looked at
  pub record Valid (s : State K) : Type 0 where
    pub serial_size : length s.serial ≡ 10
    pub clear : counter_of s.serial ≡ 0
    pub counted : Counted s.exhausted s.counter
    pub size : length s.keys ≡ 21
    pub narrow : s.filled < 2 ^ 21
    -- the registers that the rule fills are filled, all others are empty and zero
    pub full : (b : ℕ) → b < 21 → Fills s b → filled_at s b ≡ 1
    pub bare : (b : ℕ) → b < 21 → ¬ Fills s b → Blank s b

  -- The filling rule, for the register key of each counter: a register that the rule fills is filled, and holds the register key of its label;
  -- all others are empty and zero.
  pub record FilledByRule (key : ℕ → K) (s : State K) : Type 0 where
    pub filled : (b : ℕ) → b < 21 → Fills s b → (filled_at s b ≡ 1) × (key_at device s b ≡ key (label s.counter b))
    pub others : (b : ℕ) → b < 21 → ¬ Fills s b → Blank s b
