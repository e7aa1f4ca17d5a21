-- Which counters lie under a register (02, M-101).
use Rattle.std.specs.Prelude.{◌≡◌, ℕ, ◌<◌}
use Rattle.registers.specs.Counters.{bits_from, lowest_place}
use Rattle.registers.specs.Machine.{State, filled_at}
use Rattle.registers.specs.Rule.{label}

-- the counter x lies under a register with the label m: clearing all its bits below the label's lowest one bit gives the label
abbrev pub Under : ℕ → ℕ → Type 0
Under x m = bits_from (lowest_place m) x ≡ m

module _ {K : Type 0} (s : State K) where
  -- register b is filled, and the counter x lies under it
  pub record UnderFilled (x b : ℕ) : Type 0 where
    pub register : b < 21
    pub filled : filled_at s b ≡ 1
    pub under : Under x (label s.counter b)

  -- the counter x lies under exactly one filled register
  pub record UnderOne (x : ℕ) : Type 0 where
    pub register : ℕ
    pub lies : UnderFilled x register
    pub only : (b : ℕ) → UnderFilled x b → b ≡ register
