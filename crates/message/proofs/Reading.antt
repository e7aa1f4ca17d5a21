-- What is known of a record that is not refused.
use borrow.Author.Tests.{leb-true, ltb-true}
use mathlib.Core.Path.{◌≡◌, sym, ap, ◌∙◌}
use mathlib.Core.Bool.{true}
use mathlib.Core.List.{List}
use Prim.Native.Nat.{ℕ, ◌+◌, ◌-◌, ◌≤◌}
use native.Mathlib.Omega.{arith}
use lib.Dec.{leb, ltb}
use lib.ListN.{length, take, drop}
use Rattle.std.specs.Prelude.{Option, Some, None}
use Rattle.lent.specs.Refusals.{cut_short, field_order, field_form, message_type}
use Rattle.lent.specs.declared.refusals.Refusal.{Refusal}
use Rattle.lent.specs.Result.{Result, done, refused}
use Rattle.lent.proofs.Laws.{never, both_true}
use Rattle.lent.proofs.Results.{then_done, require_done, same_done}
use Rattle.message.specs.declared.records.Record.{Record}
use Rattle.message.specs.Fields.{rule, formed}
use Rattle.message.specs.Records.{Field, body_size, field_of, in_order, known_type, checked_field, record_field}
use Rattle.message.specs.Gathered.{read_of}

-- the lowest number that may stand at a before
abbrev pub lowest : Option ℕ → ℕ
lowest None = 0
lowest (Some before) = before + 1

pub lowest_is : (before : Option ℕ) (n : ℕ) → in_order before n ≡ true → lowest before ≤ n
lowest_is None n e = omega arith
lowest_is (Some before) n e = omega (arith, ltb-true before n (both_true (ltb before n) (leb n 192) e).0)

-- a field that is not refused
pub checked : (before : Option ℕ) (f g : Field) → checked_field before f ≡ done g
    → (f ≡ g) × (in_order before f.number ≡ true) × (formed (rule f.number) f.body ≡ true)
unfolding checked_field
checked before f g e =
    let b = require_done (in_order before f.number) field_order _ g e in
    let d = require_done (formed (rule f.number) f.body) field_form _ g b.1 in
    let k = require_done (known_type f.number f.body) message_type _ g d.1 in
    (same_done k.1, b.0, d.0)

-- a record that is not refused
pub record Sound (before : Option ℕ) (s : List ℕ) : Type 0 where
  pub field : record_field before s ≡ done (field_of s)
  pub whole : 4 + body_size s ≤ length s
  pub order : in_order before (field_of s).number ≡ true
  pub form : formed (rule (field_of s).number) (field_of s).body ≡ true

pub sound : (before : Option ℕ) (s : List ℕ) (f : Field) → record_field before s ≡ done f → Sound before s
unfolding record_field
sound before s f e =
    let a = require_done (leb (4 + body_size s) (length s)) cut_short _ f e in
    let k = checked before (field_of s) f a.1 in
    record { field = e ∙ ap done (sym k.0); whole = leb-true _ _ a.0; order = k.1; form = k.2 }

-- what is read of a record that is not refused
module _ (before : Option ℕ) (s : List ℕ) where
  pub read_field : (r : Record) → read_of s (record_field before s) ≡ done r → Sound before s × (r.field ≡ (field_of s).number) × (r.end ≡ 4 + body_size s)
  read_field r e =
      let k = then_done (record_field before s) _ r e in
      let a = sound before s k.0 k.1 in
      let same = rw a.field at e in
      (a, ap (λ (x : Record). x.field) (sym (same_done same)), ap (λ (x : Record). x.end) (sym (same_done same)))

  -- its body
  pub body_read : (r : Record) → r.end ≡ 4 + body_size s → take (r.end - 4) (drop 4 s) ≡ (field_of s).body
  unfolding field_of
  body_read r e = rw e (let size : 4 + body_size s - 4 ≡ body_size s = omega arith in rw size)

  -- and of one that is
  pub read_refused : (why : Refusal) → read_of s (record_field before s) ≡ refused why → record_field before s ≡ refused why
  read_refused why e = decided (record_field before s) e
    where
      decided : (r : Result Field) → read_of s r ≡ refused why → r ≡ refused why
      decided (done f) e = never (cc)
      decided (refused other) e = cc
