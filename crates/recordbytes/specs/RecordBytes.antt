-- A terminal's record as bytes (include/chizuregwo.h), for any device: registers 0 to 20, the filled mask, the serial number, the counter, and
-- whether the terminal is exhausted. Numbers have their highest byte first.
use Rattle.std.specs.Prelude.{◌≡◌, Bool, true, false, List, [], ◌∷◌, ◌++◌, ℕ, zero, suc, ◌+◌, ◌*◌, ◌≤◌, eqb, length, get_or, drop}
use Rattle.lent.specs.Words.{from_base, to_base}
use Rattle.registers.specs.Device.{Device}
use Rattle.registers.specs.Machine.{State, state_in, position_of}
use Rattle.registers.specs.declared.positions.Position.{Position}
use Rattle.registers.specs.Rule.{Valid}
use Rattle.recordbytes.specs.Parts.{joined, cut}

-- a number of 32 bits, 4 bytes, and the number of its bytes
abbrev pub number_bytes : ℕ → List ℕ
number_bytes x = to_base 256 4 x

abbrev pub number_read : List ℕ → ℕ
number_read s = from_base 256 4 s

-- exhausted, 1 byte: 1 or 0
abbrev pub exhausted_byte : Bool → ℕ
exhausted_byte false = 0
exhausted_byte true = 1

-- ---- what stands after the registers

-- the sizes of its parts, and the parts
abbrev pub rest_sizes : List ℕ
rest_sizes = 4 ∷ 10 ∷ 4 ∷ 1 ∷ []

abbrev pub rest_parts : List ℕ → Position → List (List ℕ)
rest_parts serial p = number_bytes p.filled ∷ serial ∷ number_bytes p.counter ∷ (exhausted_byte p.exhausted ∷ []) ∷ []

-- the serial number and the position of four parts
abbrev pub serial_in : List (List ℕ) → List ℕ
serial_in parts = get_or parts 1 []

abbrev pub position_in : List (List ℕ) → Position
position_in parts =
    record {
      filled = number_read (get_or parts 0 []);
      counter = number_read (get_or parts 2 []);
      exhausted = eqb (get_or (get_or parts 3 []) 0 0) 1;
    }

module _ {K : Type 0} (device : Device K) where
  -- the sizes of a record's parts
  abbrev pub part_sizes : List ℕ
  part_sizes = 21 * device.size ∷ rest_sizes

  -- their sum, and the place of the last byte
  abbrev pub record_size : ℕ
  record_size = 21 * device.size + 19

  abbrev pub last_place : ℕ
  last_place = 21 * device.size + 18

  -- ---- writing

  -- registers, one after the other
  unfoldable pub register_bytes : List K → List ℕ
  register_bytes [] = []
  register_bytes (key ∷ keys) = device.bytes key ++ register_bytes keys

  -- the parts of a record
  abbrev pub record_parts : State K → List (List ℕ)
  record_parts s = register_bytes s.keys ∷ rest_parts s.serial (position_of s)

  -- its bytes
  unfoldable pub record_bytes : State K → List ℕ
  record_bytes s = joined (record_parts s)

  -- ---- reading

  -- n registers from the start of the bytes
  unfoldable pub registers_of : ℕ → List ℕ → List K
  registers_of zero bytes = []
  registers_of (suc n) bytes = device.read bytes ∷ registers_of n (drop device.size bytes)

  -- the record of five parts
  abbrev pub state_of_parts : List (List ℕ) → State K
  state_of_parts parts = state_in (registers_of 21 (get_or parts 0 [])) (serial_in (drop 1 parts)) (position_in (drop 1 parts))

  -- the record of bytes
  unfoldable pub state_of : List ℕ → State K
  state_of bytes = state_of_parts (cut part_sizes bytes)

  -- bytes are a valid record: they have its size, the last of them is 0 or 1, and the record of them hangs together
  pub record ValidBytes (bytes : List ℕ) : Type 0 where
    pub size : length bytes ≡ record_size
    pub exhausted_byte : get_or bytes last_place 0 ≤ 1
    pub hangs_together : Valid device (state_of bytes)
