-- What an entry answers, and what it leaves in the memory lent to it (01, Numbers an operator sees).
use Rattle.std.specs.Prelude.{◌≡◌, Bool, List, [], ◌++◌, ℕ, leb, length, drop, replicate}
use Rattle.std.specs.Prelude.{Result as ResultOf}
pub use Rattle.std.specs.Prelude.{Ok as done, Err as refused}
use Rattle.lent.specs.Choice.{pick}
use Rattle.lent.specs.Refusals.{number_of, short_buffer}
use Rattle.lent.specs.declared.refusals.Refusal.{Refusal}
use Rattle.lent.specs.declared.answers.Answer.{Answer}

-- A value, or a refusal.
abbrev pub Result : Type 0 → Type 0
Result A = ResultOf A Refusal

-- The number an operator sees: 0 where done.
abbrev pub number : {A : Type 0} → Result A → ℕ
number (done a) = 0
number (refused why) = number_of why

-- The result if the test holds, else the refusal.
abbrev pub require : {A : Type 0} → Bool → Refusal → Result A → Result A
require test why r = pick test r (refused why)

-- The result of going on with a value; a refusal stays.
abbrev pub and_then : {A B : Type 0} → Result A → (A → Result B) → Result B
and_then (done a) f = f a
and_then (refused why) f = refused why

-- The bytes of a done value; a refusal has none.
abbrev pub bytes : Result (List ℕ) → List ℕ
bytes (done b) = b
bytes (refused why) = []

-- The value of n bytes; a refusal's is zeros.
abbrev pub fixed : ℕ → Result (List ℕ) → List ℕ
fixed n (done b) = b
fixed n (refused why) = replicate n 0

-- What f makes of a done value; of a refusal, the other.
abbrev pub of_done : {A B : Type 0} → (A → B) → B → Result A → B
of_done f other (done a) = f a
of_done f other (refused why) = other

-- A done value that is longer than the room lent for it is refused.
abbrev pub lend : ℕ → Result (List ℕ) → Result (List ℕ)
lend room (done b) = require (leb (length b) room) short_buffer (done b)
lend room (refused why) = refused why

-- How many bytes a done value has; a refusal stays.
abbrev pub length_of : Result (List ℕ) → Result ℕ
length_of (done b) = done (length b)
length_of (refused why) = refused why

-- Lent memory afterwards: the value from its start, then the old bytes.
abbrev pub over : List ℕ → List ℕ → List ℕ
over value old = value ++ drop (length value) old

-- The promise of a function that writes its value into lent memory: the length written or the refusal, and the memory afterwards.
pub record Writes (answer : Result (List ℕ)) (before : List ℕ) (r : Result ℕ) (after : List ℕ) : Type 0 where
  pub value : r ≡ length_of (lend (length before) answer)
  pub memory : after ≡ over (bytes (lend (length before) answer)) before

-- What C gets for a length written or a refusal: 0 and the length, or the refusal's number and 0.
abbrev pub answer_of : Result ℕ → Answer
answer_of (done n) = record { number = 0; length = n }
answer_of (refused why) = record { number = number_of why; length = 0 }

-- The promise of an entry that answers a value of n bytes: its number and its value.
pub record Answered (n : ℕ) (answer : Result (List ℕ)) (num : ℕ) (val : List ℕ) : Type 0 where
  pub number : num ≡ Rattle.lent.specs.Result.number answer
  pub value : val ≡ fixed n answer

-- The promise of an entry that writes its value into lent memory: its number, the length written, and the memory afterwards.
pub record Written (answer : Result (List ℕ)) (before : List ℕ) (num len : ℕ) (after : List ℕ) : Type 0 where
  pub number : num ≡ Rattle.lent.specs.Result.number (lend (length before) answer)
  pub value : len ≡ length (bytes (lend (length before) answer))
  pub memory : after ≡ over (bytes (lend (length before) answer)) before
