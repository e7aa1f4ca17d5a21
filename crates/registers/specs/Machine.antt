-- The terminal as a machine: its state, as it is loaded, and after a key was given out (01, Terminal keys), for any device.
use Rattle.std.specs.Prelude.{◌≡◌, ◌⊎◌, Bool, true, false, List, [], ◌∷◌, ℕ, zero, suc, ◌+◌, ◌-◌, ◌^◌, ltb, eqb, get_or, set, replicate}
use Rattle.std.specs.Int.Count.{ones}
use Rattle.lent.specs.Choice.{pick}
use Rattle.registers.specs.Counters.{bit, Permitted, lowest_place, next_counter}
use Rattle.registers.specs.SerialNumber.{with_counter, cleared_tail}
use Rattle.registers.specs.Device.{Device}
use Rattle.registers.specs.declared.positions.Position.{Position}

-- the keys of the twenty-one registers, which of them are filled, the ten bytes of the serial number with the counter cleared, the counter to
-- be given out next, and whether the terminal is exhausted
pub record State (K : Type 0) : Type 0 where
  pub keys : List K
  pub filled : ℕ
  pub serial : List ℕ
  pub counter : ℕ
  pub exhausted : Bool

-- 1 where register b is filled, else 0
abbrev pub filled_at : {K : Type 0} → State K → ℕ → ℕ
filled_at s b = bit s.filled b

-- the first n registers hold f 0, .., f (n - 1), the others what they held
unfoldable pub fill : {K : Type 0} → ℕ → (ℕ → K) → List K → List K
fill zero f keys = keys
fill (suc n) f [] = []
fill (suc n) f (key ∷ keys) = f 0 ∷ fill n (λ b. f (suc b)) keys

-- ---- positions: the next counter, the filled registers, and whether the terminal is exhausted

-- the filled registers as a mask, bit b for register b, when the counter c is next; 0 is no counter. Bit b is 1 exactly if register b is
-- filled by the rule (Rule.antt)
unfoldable pub filled_mask : ℕ → ℕ
filled_mask c = pick (eqb c 0) 0 (2 ^ 21 - c)

-- the counter c is next; with none the terminal is exhausted
unfoldable pub position_at : ℕ → Position
position_at c = record { counter = c; filled = filled_mask c; exhausted = eqb c 0 }

-- the counter c was given out
unfoldable pub position_after : ℕ → Position
position_after c = position_at (next_counter c)

-- a permitted counter is next, or the terminal is exhausted and the counter is 0
abbrev pub Counted : Bool → ℕ → Type 0
Counted exhausted c = ((exhausted ≡ false) × Permitted c) ⊎ ((exhausted ≡ true) × (c ≡ 0))

-- a position that a terminal can be in
pub record InOrder (p : Position) : Type 0 where
  pub counted : Counted p.exhausted p.counter
  pub mask : p.filled ≡ filled_mask p.counter

-- the state with these keys and that serial number, in a position
abbrev pub state_in : {K : Type 0} → List K → List ℕ → Position → State K
state_in keys serial p = record { keys = keys; filled = p.filled; serial = serial; counter = p.counter; exhausted = p.exhausted }

-- its position
abbrev pub position_of : {K : Type 0} → State K → Position
position_of s = record { counter = s.counter; filled = s.filled; exhausted = s.exhausted }

module _ {K : Type 0} (device : Device K) where
  -- the key in register b
  abbrev pub key_at : State K → ℕ → K
  key_at s b = get_or s.keys b device.empty

  -- twenty-one empty registers
  abbrev pub no_keys : List K
  no_keys = replicate 21 device.empty

  -- one step from the key of the counter c: bit b is set in the data too. `tail` is the end of the serial number without the counter
  abbrev pub stepped : K → ℕ → ℕ → ℕ → K
  stepped key tail c b = device.one_way key (tail + (c + 2 ^ b))

  -- the state as it is loaded: counter 1 is next, and every register is filled from the initial key, the key of the counter 0
  unfoldable pub loaded : K → List ℕ → State K
  loaded initial serial =
      state_in (fill 21 (stepped initial (cleared_tail serial) 0) no_keys) (with_counter serial 0) (position_at 1)

  -- the key of the next counter: it stands in the register of the counter's lowest one bit
  abbrev pub ready_key : State K → K
  ready_key s = key_at s (lowest_place s.counter)

  -- register l is emptied
  abbrev pub emptied : ℕ → List K → List K
  emptied l keys = set keys l device.empty

  -- the registers after the key of the counter c was given out: below ten one bits, those below its register are filled from it; it is emptied
  unfoldable pub renewed : List K → ℕ → ℕ → List K
  renewed keys tail c =
      let l = lowest_place c in
      emptied l (pick (ltb (ones c) 10) (fill l (stepped (get_or keys l device.empty) tail c) keys) keys)

  -- the state after the key of its counter was given out: exhausted, all registers are empty
  unfoldable pub spent : State K → State K
  spent s =
      let p = position_after s.counter in
      state_in (pick p.exhausted no_keys (renewed s.keys (cleared_tail s.serial) s.counter)) s.serial p

  -- the all-zero state, not exhausted
  abbrev pub zero_state : State K
  zero_state = record { keys = no_keys; filled = 0; serial = replicate 10 0; counter = 0; exhausted = false }
