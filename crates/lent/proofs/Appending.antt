-- Laws on a value that is written after other bytes.
use borrow.Author.Tests.{le-leb, lt-leb, leb-true}
use mathlib.Core.Path.{◌≡◌, sym, ◌∙◌}
use mathlib.Core.Bool.{false}
use mathlib.Core.List.{List, [], ◌++◌, append_assoc, append-nil}
use Prim.Native.Nat.{ℕ, ◌+◌, ◌<◌, ◌≤◌}
use native.Mathlib.Nat.{add-zero}
use native.Mathlib.Omega.{arith}
use lib.Dec.{leb}
use lib.ListN.{length, take, drop, length-append, length-drop, take-append-drop}
use lib.Seq.{take_at, drop-append-add, drop-drop, length-take-le}
use Rattle.lent.specs.Appending.{appending}
use Rattle.lent.specs.Private.{Appended, Appends}
use Rattle.lent.specs.Refusals.{short_buffer}
use Rattle.lent.specs.Result.{Result, done, refused, lend, Written, Writes}
use Rattle.lent.proofs.Laws.{cases}
use Rattle.lent.proofs.Results.{same_done}

module _ (v s : List ℕ) (n : ℕ) where
  pub front_length : n ≤ length s → length (take n s ++ v) ≡ n + length v
  front_length h = rw (length-append, length-take-le n s h)

  -- memory that is too short for the value
  pub too_short : length s < n + length v → lend (length s) (appending v s n) ≡ refused short_buffer
  too_short h =
      let few : n ≤ length s → leb (length (take n s ++ v)) (length s) ≡ false = λ k. lt-leb (length (take n s ++ v)) (length s) (rw (front_length k) h) in
      cases (leb n (length s)) (λ t. simp (t, few (leb-true _ _ t))) (λ f. simp f)

  module _ (room : n + length v ≤ length s) where
    front : length (take n s ++ v) ≡ n + length v
    front = front_length (omega arith)

    with_room : lend (length s) (appending v s n) ≡ done (take n s ++ v)
    with_room = simp (le-leb n (length s) (omega arith), le-leb (length (take n s ++ v)) (length s) (rw front room))

    -- where there is room, the value is appended
    pub appended : {after : List ℕ} {num len : ℕ} → Written (appending v s n) s num len after → Appended v s after n len
    appended w = record { end = rw with_room at w.value ∙ front; memory = rw with_room at w.memory ∙ rw front }

    -- the same of a function that gives a result, which is no refusal there
    pub appends_done : {after : List ℕ} {r : Result ℕ} → Writes (appending v s n) s r after → r ≡ done (n + length v)
    appends_done w = rw (with_room, front) at w.value

    pub appends_result : {after : List ℕ} {r : Result ℕ} {k : ℕ} → Writes (appending v s n) s r after → r ≡ done k → Appended v s after n k
    appends_result w e = record { end = same_done (sym e ∙ appends_done w); memory = rw with_room at w.memory ∙ rw front }

    pub writes_appended : {after : List ℕ} {r : ℕ} → Appended v s after n r → Writes (appending v s n) s (done r) after
    writes_appended a = record { value = rw (with_room, front, a.end); memory = rw (with_room, front) a.memory }

-- Where there is room for it.
module _ {value before after : List ℕ} {n r : ℕ} (a : Appended value before after n r) (room : n + length value ≤ length before) where
  -- the first bytes are now those that stood there, and the value
  pub appended_front : take r after ≡ take n before ++ value
  appended_front =
      rw (a.end, a.memory)
      (take_at (take n before ++ value) (drop (n + length value) before) (n + length value) (front_length value before n (omega arith)))

  -- what stands after the value is as it was
  appended_after : (k : ℕ) → drop (r + k) after ≡ drop (r + k) before
  appended_after k =
      rw (a.end, a.memory, ← front_length value before n (omega arith))
      (drop-append-add (take n before ++ value) (drop (length (take n before ++ value)) before) k
      ∙ drop-drop k (length (take n before ++ value)) before)

  -- there are as many bytes as before
  pub appended_length : length after ≡ length before
  appended_length = rw a.memory (simp (length-append, length-drop, length-take-le n before (omega arith)) (omega arith))

-- nothing is appended
pub nothing_appended : {s : List ℕ} {n : ℕ} → Appended [] s s n n
nothing_appended {s} {n} = record { end = rw (add-zero n); memory = rw (add-zero n, append-nil, take-append-drop) }

-- one value is appended after the other
both_appended : {v w a b c : List ℕ} {n k r : ℕ} → n + length (v ++ w) ≤ length a
    → Appended v a b n k → Appended w b c k r → Appended (v ++ w) a c n r
both_appended {v = v} {w = w} {a = a} {b = b} {n = n} {k = k} room p q =
    let long = length-append v w in
    let first : n + length v ≤ length a = omega arith in
    let second : k + length w ≤ length b = omega (arith, appended_length p first, p.end) in
    let end : k + length w ≡ n + length (v ++ w) = omega (arith, p.end) in
    record {
      end = q.end ∙ end;
      memory = q.memory ∙ rw (appended_front p first, appended_after p first (length w), end, append_assoc (take n a) v w);
    }

pub both_appends : {v w a b c : List ℕ} {n k r : ℕ} → Appends v a b n k → Appends w b c k r → Appends (v ++ w) a c n r
both_appends {v = v} {w = w} {a = a} {b = b} {n = n} {k = k} p q room =
    let long = length-append v w in
    let first : n + length v ≤ length a = omega arith in
    let d = p first in
    let second : k + length w ≤ length b = omega (arith, appended_length d first, d.end) in
    both_appended room d (q second)
