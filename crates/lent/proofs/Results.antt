-- Laws on results, and on what a call left in lent memory.
use borrow.Author.Tests.{leb-true}
use mathlib.Core.Path.{◌≡◌, refl, sym, ap, ◌∙◌}
use mathlib.Core.Bool.{Bool, true, false}
use mathlib.Core.List.{List, append-nil}
use Prim.Native.Nat.{ℕ, ◌≤◌}
use native.Mathlib.Omega.{arith}
use lib.Dec.{leb}
use lib.ListN.{length, take, drop, length-append, length-drop, drop_of_length-le}
use lib.Seq.{take-append_seam}
use Rattle.lent.proofs.Laws.{cases, never}
use Rattle.lent.specs.Refusals.{number_of}
use Rattle.lent.specs.declared.refusals.Refusal.{Refusal}
use Rattle.lent.specs.declared.refusals.Refusal.TheVariants.{CutShort, FieldOrder, MessageType, FieldForm, EmptyText, Size, Character, BadBlock, EqualHalves, BadCounter, BadRecord, Exhausted, ShortBuffer}
use Rattle.lent.specs.Result.{Result, done, refused, number, require, and_then, bytes, lend, over, of_done, answer_of, Answered, Writes, Written}
use Rattle.lent.specs.declared.answers.Answer.{Answer}

-- no refusal has the number 0
pub not_zero : (why : Refusal) → number_of why ≡ 0 → ⊥
not_zero CutShort e = omega arith
not_zero FieldOrder e = omega arith
not_zero MessageType e = omega arith
not_zero FieldForm e = omega arith
not_zero EmptyText e = omega arith
not_zero Size e = omega arith
not_zero Character e = omega arith
not_zero BadBlock e = omega arith
not_zero EqualHalves e = omega arith
not_zero BadCounter e = omega arith
not_zero BadRecord e = omega arith
not_zero Exhausted e = omega arith
not_zero ShortBuffer e = omega arith

module _ {A : Type 0} where
  -- equal done answers have equal values
  pub same_done : {a b : A} → ◌≡◌ {A = Result A} (done a) (done b) → a ≡ b
  same_done e = cc

  -- a value under a test: the test held
  pub require_done : (test : Bool) (why : Refusal) (r : Result A) (a : A) → require test why r ≡ done a → (test ≡ true) × (r ≡ done a)
  require_done true why r a e = (refl, e)
  require_done false why r a e = never (cc)

-- a value that came of going on came from a value
pub then_done : {A B : Type 0} (r : Result A) (f : A → Result B) (b : B) → and_then r f ≡ done b → (a : A) × (r ≡ done a) × (f a ≡ done b)
then_done (done a) f b e = (a, refl, e)
then_done (refused why) f b e = never (cc)

-- The answer is a refusal with that number.
abbrev pub Refuses : {A : Type 0} → ℕ → Result A → Type 0
Refuses num answer = (why : Refusal) × (num ≡ number_of why) × (answer ≡ refused why)

-- a number other than 0 is a refusal's
pub number_refuses : {A : Type 0} (r : Result A) (num : ℕ) → num ≡ number r → (num ≡ 0 → ⊥) → Refuses num r
number_refuses (done a) num e z = absurd (z e)
number_refuses (refused why) num e z = (why, e, refl)

-- the number 0 is a value's
pub number_done : {A : Type 0} (r : Result A) → number r ≡ 0 → (other : A) → r ≡ done (of_done (λ a. a) other r)
number_done (done a) e other = refl
number_done (refused why) e other = absurd (not_zero why e)

-- a refusal stays in what goes on from it
pub refuses_then : {A B : Type 0} {num : ℕ} {r : Result A} (f : A → Result B) → Refuses num r → Refuses num (and_then r f)
refuses_then f (why, en, e) = (why, en, rw e)

-- ---- answers by value

-- with the number 0 the result is the value, with any other it is a refusal
pub answered_done : (n : ℕ) (answer : Result (List ℕ)) {num : ℕ} {val : List ℕ} → Answered n answer num val → num ≡ 0 → answer ≡ done val
answered_done n (done b) a z = ap done (sym a.value)
answered_done n (refused why) a z = absurd (not_zero why (sym a.number ∙ z))

pub answered_refused : (n : ℕ) (answer : Result (List ℕ)) {num : ℕ} {val : List ℕ} → Answered n answer num val → (num ≡ 0 → ⊥) → Refuses num answer
answered_refused n (done b) a h = absurd (h a.number)
answered_refused n (refused why) a h = (why, a.number, refl)

-- ---- lent memory

-- What a call wrote: a value that is done, or the number of a refusal.
module _ {answer : Result (List ℕ)} {before after : List ℕ} {num len : ℕ} (w : Written answer before num len after) where
  -- with the number 0 there was room for a value, which stands at the start of the memory
  pub written_zero : num ≡ 0 → (v : List ℕ) × (answer ≡ done v) × (length v ≤ length before) × (len ≡ length v) × (after ≡ over v before)
  written_zero z = decided answer refl
    where
      decided : (r : Result (List ℕ)) → answer ≡ r
          → (v : List ℕ) × (answer ≡ done v) × (length v ≤ length before) × (len ≡ length v) × (after ≡ over v before)
      decided (done v) e =
          cases (leb (length v) (length before))
          (λ t. (v, e, leb-true _ _ t, rw (e, t) at w.value, rw (e, t) at w.memory))
          (λ f. absurd (let k = rw (e, f) at w.number in omega arith))
      decided (refused why) e = absurd (not_zero why (sym (rw e at w.number) ∙ z))

  pub written_done : num ≡ 0 → (answer ≡ done (take len after)) × (len ≤ length after)
  written_done z = let k = written_zero z in stands k.0 k.1 k.3 k.4
    where
      stands : (v : List ℕ) → answer ≡ done v → len ≡ length v → after ≡ over v before → (answer ≡ done (take len after)) × (len ≤ length after)
      stands v e el ea =
          (rw (el, ea) (e ∙ ap done (sym (take-append_seam v (drop (length v) before)))), rw (el, ea, length-append) (omega arith))

  -- with any other number and room for every value, the answer is a refusal
  pub written_refused : lend (length before) answer ≡ answer → (num ≡ 0 → ⊥) → Refuses num answer
  written_refused room h = decided answer refl
    where
      decided : (r : Result (List ℕ)) → answer ≡ r → Refuses num answer
      decided (done v) e = absurd (h (w.number ∙ ap number (room ∙ e)))
      decided (refused why) e = (why, w.number ∙ ap number (room ∙ e), e)

lent_within : (room : ℕ) (answer : Result (List ℕ)) → length (bytes (lend room answer)) ≤ room
lent_within room (refused why) = omega arith
lent_within room (done v) = cases (leb (length v) room) (λ h. rw h (leb-true (length v) room h)) (λ h. rw h (omega arith))

-- a call writes no more than there is room for, and leaves as much memory as there was
pub written_within : {answer : Result (List ℕ)} {before after : List ℕ} {num len : ℕ} → Written answer before num len after → len ≤ length before
written_within {answer} {before} w = rw w.value (lent_within (length before) answer)

pub written_length : {answer : Result (List ℕ)} {before after : List ℕ} {num len : ℕ} → Written answer before num len after → length after ≡ length before
written_length {answer} {before} w =
    rw (w.memory, length-append, length-drop) (omega (arith, lent_within (length before) answer))

-- a value that fills memory is what stands there
pub over_whole : (v before : List ℕ) → length v ≡ length before → over v before ≡ v
over_whole v before e = rw (drop_of_length-le before {i = length v} (omega arith)) (append-nil v)

-- ---- functions that write into lent memory

-- a refusal leaves lent memory as it was
pub refused_writes : {answer : Result (List ℕ)} {before : List ℕ} {why : Refusal} → answer ≡ refused why → Writes answer before (refused why) before
refused_writes e = record { value = rw e; memory = rw e }

pub no_room_writes : {answer : Result (List ℕ)} {before : List ℕ} {why : Refusal}
    → lend (length before) answer ≡ refused why → Writes answer before (refused why) before
no_room_writes e = record { value = rw e; memory = rw e }

-- a function that keeps the promise of the same answer keeps this one
pub same_writes : {answer other : Result (List ℕ)} {before after : List ℕ} {r : Result ℕ}
    → answer ≡ other → Writes other before r after → Writes answer before r after
same_writes e w = rw e w

module _ {answer : Result (List ℕ)} {before after : List ℕ} where
  -- what a length says that was written: the value had room, and stands at the start of the memory
  pub wrote : {n : ℕ} → Writes answer before (done n) after
      → (v : List ℕ) × (answer ≡ done v) × (length v ≤ length before) × (n ≡ length v) × (after ≡ over v before)
  wrote {n} w = decided answer refl
    where
      decided : (r : Result (List ℕ)) → answer ≡ r
          → (v : List ℕ) × (answer ≡ done v) × (length v ≤ length before) × (n ≡ length v) × (after ≡ over v before)
      decided (done v) e =
          cases (leb (length v) (length before))
          (λ t. (v, e, leb-true _ _ t, same_done (rw (e, t) at w.value), rw (e, t) at w.memory))
          (λ f. let k = rw (e, f) at w.value in never (cc))
      decided (refused why) e = let k = rw e at w.value in never (cc)

  pub wrote_front : {n : ℕ} → Writes answer before (done n) after → (answer ≡ done (take n after)) × (n ≤ length after)
  wrote_front {n} w = let k = wrote w in stands k.0 k.1 k.3 k.4
    where
      stands : (v : List ℕ) → answer ≡ done v → n ≡ length v → after ≡ over v before → (answer ≡ done (take n after)) × (n ≤ length after)
      stands v e el ea =
          (rw (el, ea) (e ∙ ap done (sym (take-append_seam v (drop (length v) before)))), rw (el, ea, length-append) (omega arith))

  -- what a refusal says
  pub not_written : {why : Refusal} → Writes answer before (refused why) after → (lend (length before) answer ≡ refused why) × (after ≡ before)
  not_written {why} w = decided (lend (length before) answer) refl
    where
      decided : (r : Result (List ℕ)) → lend (length before) answer ≡ r → (lend (length before) answer ≡ refused why) × (after ≡ before)
      decided (done v) e = let k = rw e at w.value in never (cc)
      decided (refused other) e = (e ∙ (let k = rw e at w.value in cc), rw e at w.memory)

  -- there is as much memory as before, and no more of it written
  pub writes_length : {r : Result ℕ} → Writes answer before r after → length after ≡ length before
  writes_length w =
      rw (w.memory, length-append, length-drop) (omega (arith, lent_within (length before) answer))

  -- what C gets keeps the promise in numbers
  pub writes_written : {r : Result ℕ} {a : Answer} → Writes answer before r after → a ≡ answer_of r → Written answer before a.number a.length after
  writes_written {r} {a} w e = decided (lend (length before) answer) refl
    where
      decided : (l : Result (List ℕ)) → lend (length before) answer ≡ l → Written answer before a.number a.length after
      decided (done v) el = rw e (record { number = rw (w.value, el); value = rw (w.value, el); memory = w.memory })
      decided (refused why) el = rw e (record { number = rw (w.value, el); value = rw (w.value, el); memory = w.memory })
