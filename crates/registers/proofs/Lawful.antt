-- What a device owes: keys of its size, which their bytes give back.
use mathlib.Core.Path.{◌≡◌}
use mathlib.Core.List.{List, ◌++◌}
use Prim.Native.Nat.{ℕ, ◌≤◌}
use lib.ListN.{length, take}
use Rattle.lent.proofs.Bases.{Digits}
use Rattle.registers.specs.Device.{Device}

module _ {K : Type 0} (device : Device K) where
  -- the key is read from its bytes, whatever stands after them
  abbrev pub ReadBack : K → Type 0
  ReadBack key = (rest : List ℕ) → device.read (device.bytes key ++ rest) ≡ key

  pub record Lawful : Type 0 where
    pub sized : (key : K) → length (device.bytes key) ≡ device.size
    -- the keys that a terminal holds
    pub empty_back : ReadBack device.empty
    pub initial_back : (derivation : List ℕ) (head : ℕ) → ReadBack (device.initial derivation head)
    pub step_back : (key : K) (x : ℕ) → ReadBack key → ReadBack (device.one_way key x)
    -- bytes and the key that is read from them
    pub read_back : (s : List ℕ) → Digits 256 s → ReadBack (device.read s)
    pub bytes_back : (s : List ℕ) → Digits 256 s → device.size ≤ length s → device.bytes (device.read s) ≡ take device.size s
