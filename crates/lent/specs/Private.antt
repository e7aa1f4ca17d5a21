-- Only contracts of functions that are no entry cite these: a value that was appended within memory that has room for it.
use Rattle.std.specs.Prelude.{◌≡◌, List, ◌++◌, ℕ, ◌+◌, ◌≤◌, length, take, drop}

-- The value stands after the first n bytes, and the first r end with it.
pub record Appended (value before after : List ℕ) (n r : ℕ) : Type 0 where
  pub end : r ≡ n + length value
  pub memory : after ≡ take n before ++ value ++ drop (n + length value) before

-- The same of a function that does not ask for the room: it appends the value if there is room for it.
abbrev pub Appends : List ℕ → List ℕ → List ℕ → ℕ → ℕ → Type 0
Appends value before after n r = n + length value ≤ length before → Appended value before after n r
