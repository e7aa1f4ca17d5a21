-- Only the contracts of private functions (in the crates of devices) cite this: a test of a state.
use Rattle.std.specs.Prelude.{◌≡◌, ℕ, ◌<◌}
use Rattle.registers.specs.Device.{Device}
use Rattle.registers.specs.Machine.{State, key_at, filled_at}

-- a register that is not filled is zero
abbrev pub Empties : {K : Type 0} → Device K → State K → Type 0
Empties device s = (b : ℕ) → b < 21 → filled_at s b ≡ 0 → key_at device s b ≡ device.empty
