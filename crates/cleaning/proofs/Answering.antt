-- Laws on what is written of a cleaned text that other crates cite.
use mathlib.Core.Path.{◌≡◌, refl, ap}
use mathlib.Core.List.{List}
use Prim.Native.Nat.{ℕ}
use lib.ListN.{length}
use Rattle.lent.proofs.Laws.{never}
use Rattle.lent.proofs.Results.{same_done}
use Rattle.lent.specs.declared.refusals.Refusal.{Refusal}
use Rattle.lent.specs.Result.{Result, done, refused, and_then, lend, length_of, Writes}
use Rattle.cleaning.specs.Counts.{WrittenText, WritesText, counts_of, cleaned_of, text_answer_of}
use Rattle.cleaning.specs.declared.answers.Cleaned.{Cleaned}
use Rattle.cleaning.specs.declared.answers.TextAnswer.{TextAnswer}

-- a refusal leaves lent memory as it was
pub refused_text : {answer raw : Result (List ℕ)} {before : List ℕ} {why : Refusal}
    → lend (length before) answer ≡ refused why → WritesText answer raw before (refused why) before
refused_text e = record { value = rw e; memory = rw e }

-- a cleaned text that was written, and what was thrown away
pub lent_text : {answer raw : Result (List ℕ)} {before after : List ℕ} {r : Result ℕ}
    → Writes answer before r after → WritesText answer raw before (and_then r (λ n. done (record { length = n; counts = counts_of raw }))) after
lent_text {answer} {raw} {before} {after} {r} w = record { value = rw w.value (decided (lend (length before) answer)); memory = w.memory }
  where
    decided : (l : Result (List ℕ))
        → and_then (length_of l) (λ n. done (record { length = n; counts = counts_of raw })) ≡ and_then l (λ text. done (cleaned_of raw text))
    decided (done v) = refl
    decided (refused why) = refl

-- what C gets keeps the promise in numbers
pub written_text : {answer raw : Result (List ℕ)} {before after : List ℕ} {r : Result Cleaned} {a : TextAnswer}
    → WritesText answer raw before r after → a ≡ text_answer_of r → WrittenText answer raw before a after
written_text {answer} {raw} {before} {after} {r} {a} w e = decided (lend (length before) answer) refl
  where
    decided : (l : Result (List ℕ)) → lend (length before) answer ≡ l → WrittenText answer raw before a after
    decided (done v) el =
        rw e
        (record {
          written = record { number = rw (w.value, el); value = rw (w.value, el); memory = w.memory };
          counted = record { dropped = rw (w.value, el); spaces = rw (w.value, el) };
        })
    decided (refused why) el =
        rw e
        (record {
          written = record { number = rw (w.value, el); value = rw (w.value, el); memory = w.memory };
          counted = record { dropped = rw (w.value, el); spaces = rw (w.value, el) };
        })

-- what a function wrote that keeps the promise of a text
pub text_writes : {answer raw : Result (List ℕ)} {before after : List ℕ} {r : Result Cleaned}
    → WritesText answer raw before r after → Writes answer before (and_then r (λ c. done c.length)) after
text_writes {answer} {raw} {before} {after} {r} w = record { value = rw w.value (decided (lend (length before) answer)); memory = w.memory }
  where
    decided : (l : Result (List ℕ)) → and_then (and_then l (λ text. done (cleaned_of raw text))) (λ c. done c.length) ≡ length_of l
    decided (done v) = refl
    decided (refused why) = refl

-- and what was thrown away
pub text_counts : {answer raw : Result (List ℕ)} {before after : List ℕ} {c : Cleaned}
    → WritesText answer raw before (done c) after → c.counts ≡ counts_of raw
text_counts {answer} {raw} {before} {after} {c} w = decided (lend (length before) answer) refl
  where
    decided : (l : Result (List ℕ)) → lend (length before) answer ≡ l → c.counts ≡ counts_of raw
    decided (done v) e = ap (λ (x : Cleaned). x.counts) (same_done (rw e at w.value))
    decided (refused why) e = let k = rw e at w.value in never (cc)
