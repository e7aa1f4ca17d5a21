-- What a kind of terminal has of its own (01, Terminal keys): its keys, of the type K, and how they are derived.
use Rattle.std.specs.Prelude.{◌≡◌, List, ℕ}

pub record Device (K : Type 0) : Type 0 where
  -- how many bytes a key has
  pub size : ℕ
  -- its bytes, and the key that bytes start with
  pub bytes : K → List ℕ
  pub read : List ℕ → K
  -- what an empty register holds, and whether a key is that
  pub empty : K
  pub empty? : (key : K) → Dec (key ≡ empty)
  -- the initial key, of a derivation key and the first eight bytes of the serial number without the counter
  pub initial : List ℕ → ℕ → K
  -- the one-way step, of a key and the data
  pub one_way : K → ℕ → K
  -- the key given out, of a register key
  pub variant : K → K
