-- What cleaning throws away (02, M-106), counted over the text before cleaning.
use Rattle.std.specs.Prelude.{◌≡◌, Bool, not, List, ℕ, ◌-◌, eqb, length}
use Rattle.lent.specs.Choice.{either, only}
use Rattle.lent.specs.Characters.{small}
use Rattle.lent.specs.Refusals.{number_of}
use Rattle.lent.specs.Result.{Result, done, refused, and_then, bytes, lend, over, Written}
use Rattle.cleaning.specs.Cleaning.{space, kept, cleaned}
use Rattle.cleaning.specs.declared.answers.Counts.{Counts}
use Rattle.cleaning.specs.declared.answers.Cleaned.{Cleaned}
use Rattle.cleaning.specs.declared.answers.TextAnswer.{TextAnswer}

-- a kept character; small letters count as kept
unfoldable pub stays : ℕ → Bool
stays x = either (small x) (kept x)

-- how many bytes of a text are not kept
unfoldable pub dropped_from : List ℕ → ℕ
dropped_from s = length (only (λ x. not (stays x)) s)

-- how many spaces a text has
unfoldable pub spaces_in : List ℕ → ℕ
spaces_in s = length (only (λ x. eqb x space) s)

-- how many spaces go out of a text: those that it has less those that the cleaned text has
unfoldable pub spaces_out_of : List ℕ → ℕ
spaces_out_of s = spaces_in s - spaces_in (cleaned s)

-- a count over a text; a refusal counts 0
abbrev pub count_of : (List ℕ → ℕ) → Result (List ℕ) → ℕ
count_of count (done s) = count s
count_of count (refused why) = 0

-- the text before cleaning, where the answer is done
abbrev pub where_done : {A : Type 0} → Result A → Result (List ℕ) → Result (List ℕ)
where_done answer raw = and_then answer (λ a. raw)

-- The promise of the two numbers: what is counted over the text before cleaning; zeros for a refusal.
pub record Counted (raw : Result (List ℕ)) (d s : ℕ) : Type 0 where
  pub dropped : d ≡ count_of dropped_from raw
  pub spaces : s ≡ count_of spaces_out_of raw

-- The promise of an entry that writes what it makes of a cleaned text into lent memory: what was written, and the two numbers.
pub record WrittenText (answer raw : Result (List ℕ)) (before : List ℕ) (r : TextAnswer) (after : List ℕ) : Type 0 where
  pub written : Written answer before r.number r.length after
  pub counted : Counted (where_done (lend (length before) answer) raw) r.dropped r.spaces

-- what cleaning threw away, counted over the text before it
abbrev pub counts_of : Result (List ℕ) → Counts
counts_of raw = record { dropped = count_of dropped_from raw; spaces = count_of spaces_out_of raw }

-- what is answered of a text that was written, which was made of another
abbrev pub cleaned_of : Result (List ℕ) → List ℕ → Cleaned
cleaned_of raw text = record { length = length text; counts = counts_of raw }

-- The promise of a function that writes what it makes of a cleaned text into lent memory: the length written and what was thrown away, or the refusal,
-- and the memory afterwards.
pub record WritesText (answer raw : Result (List ℕ)) (before : List ℕ) (r : Result Cleaned) (after : List ℕ) : Type 0 where
  pub value : r ≡ and_then (lend (length before) answer) (λ text. done (cleaned_of raw text))
  pub memory : after ≡ over (bytes (lend (length before) answer)) before

-- what C gets of it: 0, the length and the two numbers, or the refusal's number and zeros
abbrev pub text_answer_of : Result Cleaned → TextAnswer
text_answer_of (done c) = record { number = 0; length = c.length; dropped = c.counts.dropped; spaces = c.counts.spaces }
text_answer_of (refused why) = record { number = number_of why; length = 0; dropped = 0; spaces = 0 }
