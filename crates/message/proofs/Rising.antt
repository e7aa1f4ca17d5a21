-- What is known of the fields of an accepted message: their numbers rise, and the listed ones have their form.
use borrow.Author.Tests.{ltb-true}
use mathlib.Core.Path.{◌≡◌, ap, subst}
use mathlib.Core.Bool.{true}
use mathlib.Core.List.{List, [], ◌∷◌}
use Prim.Native.Nat.{ℕ, zero, suc, ◌+◌, ◌<◌}
use native.Mathlib.Omega.{arith}
use lib.Dec.{leb, ltb}
use lib.ListN.{length}
use Rattle.std.specs.Prelude.{Option, Some, None}
use Rattle.lent.specs.Refusals.{cut_short, size}
use Rattle.lent.specs.Result.{done, and_then}
use Rattle.lent.proofs.Results.{require_done, then_done, same_done}
use Rattle.message.specs.Fields.{rule, formed}
use Rattle.message.specs.Records.{Field, body_size, field_of, in_order, record_field, records, message_fields}
use Rattle.message.proofs.Reading.{Sound, sound}

-- each number may come after the one before it, the first of them after this one, and each field has its form
abbrev pub Rising : Option ℕ → List Field → Type 0
Rising before [] = Unit
Rising before (f ∷ fs) = (in_order before f.number ≡ true) × (formed (rule f.number) f.body ≡ true) × Rising (Some f.number) fs

-- the first record of s is accepted, and the walk goes on after it
module _ (before : Option ℕ) (s t : List ℕ) (fs : List Field)
    (e : and_then (record_field before s) (λ f. and_then (records (3 + body_size s) (Some f.number) t) (λ gs. done (f ∷ gs))) ≡ done fs) where
  first : (gs : List Field) × Sound before s × (records (3 + body_size s) (Some (field_of s).number) t ≡ done gs) × (field_of s ∷ gs ≡ fs)
  first =
      let a = then_done (record_field before s) _ fs e in
      let h = sound before s a.0 a.1 in
      let b = then_done (records (3 + body_size s) (Some (field_of s).number) t) (λ gs. done (field_of s ∷ gs)) fs (rw h.field at e) in
      (b.0, h, b.1, same_done b.2)

records_rising : (s : List ℕ) (skip : ℕ) (before : Option ℕ) (fs : List Field) → records skip before s ≡ done fs → Rising before fs
unfolding records
records_rising [] skip before fs e = let none : [] ≡ fs = cc in subst (Rising before) none tt
records_rising (x ∷ s) zero before fs e =
    let k = first before (x ∷ s) s fs e in
    subst (Rising before) k.3 (k.1.order, k.1.form, records_rising s (3 + body_size (x ∷ s)) (Some (field_of (x ∷ s)).number) k.0 k.2)
records_rising (x ∷ s) (suc skip) before fs e = records_rising s skip before fs e

records_some : (s : List ℕ) (before : Option ℕ) (fs : List Field) → 0 < length s → records 0 before s ≡ done fs → 0 < length fs
unfolding records
records_some [] before fs h e = absurd (omega arith)
records_some (x ∷ s) before fs h e = omega (arith, ap length (first before (x ∷ s) s fs e).3)

-- the fields of an accepted message rise from 0, which is present
pub fields_rising : (m : List ℕ) (fs : List Field) → message_fields m ≡ done fs → Rising None fs × (0 < length fs)
unfolding message_fields
fields_rising m fs e =
    let a = require_done (leb (length m) 4096) size _ fs e in
    let b = require_done (ltb 0 (length m)) cut_short _ fs a.1 in
    (records_rising m 0 None fs b.1, records_some m None fs (ltb-true _ _ b.0) b.1)
