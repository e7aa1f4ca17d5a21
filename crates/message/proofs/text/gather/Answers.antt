use borrow.Author.Tests.{eqb-true, eqb-false, le-leb, lt-leb, lt-ltb}
use mathlib.Core.Path.{◌≡◌, refl, sym, ◌∙◌}
use mathlib.Core.List.{List, [], ◌∷◌, ◌++◌}
use Prim.Native.Nat.{ℕ, ◌+◌, ◌<◌, ◌≤◌}
use native.Mathlib.Omega.{arith}
use lib.ListN.{length, drop, length-append}
use Rattle.std.proofs.lemmas.Result.{err_from_is_err_and}
use Rattle.std.specs.Prelude.{Some}
use Rattle.lent.proofs.Lists.{part_rest}
use Rattle.message.specs.Fields.{rule}
use Rattle.message.specs.Records.{body_size, field_of, records, message_fields}
use Rattle.message.specs.Gathered.{spaced_field, gathered}
use Rattle.message.proofs.Reading.{read_field, body_read, read_refused}
use Rattle.message.proofs.Walking.{following_end, following_field, records_next}
use Rattle.message.proofs.Room.{room_short, room_grows}
use Rattle.message.proofs.text.gather.Goals as goal

pub returns-then-message-gt4096 : goal.returns-then-message-gt4096
unfolding gathered message_fields
returns-then-message-gt4096 c = simp (lt-leb _ _ c.if-message-gt4096.true)

pub returns-then-is_empty : goal.returns-then-is_empty
unfolding gathered message_fields
returns-then-is_empty c =
    let none : length c.args.message.now ≡ 0 = eqb-true _ _ (sym c.is_empty.ensures ∙ c.if-is_empty.true) in
    simp none

pub loop-rest-init : goal.loop-rest-init
unfolding gathered message_fields
loop-rest-init c =
    let m = c.args.message.now in
    let some : length m ≡ 0 → ⊥ = eqb-false _ _ (sym c.is_empty.ensures ∙ c.if-is_empty.false) in
    let fits : length m ≤ 4096 = omega arith in
    let one : 0 < length m = omega arith in
    rw c.new-text.ensures
    (record {
      count = omega arith;
      all = simp (le-leb _ _ fits, lt-ltb _ _ one);
    })

pub returns-in_err-record : goal.returns-in_err-record
returns-in_err-record c =
    let s = c.loop-rest.rest.now in
    let p = err_from_is_err_and c.from_residual.result c.from_residual.ensures.1 in
    let some : length s ≡ 0 → ⊥ = eqb-false _ _ (sym c.is_empty-in-loop-rest.ensures ∙ c.loop-rest-test.true) in
    let r = read_refused c.loop-rest.before s _ (sym c.in_err-record.ensures) in
    rw (p.1, p.2, ← c.loop-rest.invariant.all, records_next s c.loop-rest.before (omega arith), r)

pub slice_bounds-append_field-end : goal.slice_bounds-append_field-end
slice_bounds-append_field-end c =
    let r = read_field c.loop-rest.before c.loop-rest.rest.now c.in_ok-record.record (sym c.in_ok-record.ensures) in
    omega (arith, r.0.whole, r.2)

pub append_field-requires : goal.append_field-requires
append_field-requires c =
    let s = c.loop-rest.rest.now in
    let r = read_field c.loop-rest.before s c.in_ok-record.record (sym c.in_ok-record.ensures) in
    let f = field_of s in
    rw (body_read c.loop-rest.before s c.in_ok-record.record r.2, r.1)
    (omega (arith, c.loop-rest.invariant.count, room_grows c.loop-rest.before f.number f.body r.0.order r.0.form, room_short (Some f.number)))

pub slice_bounds-rest-count : goal.slice_bounds-rest-count
slice_bounds-rest-count c =
    let r = read_field c.loop-rest.before c.loop-rest.rest.now c.in_ok-record.record (sym c.in_ok-record.ensures) in
    omega (arith, r.0.whole, r.2)

pub slice_bounds-rest-start : goal.slice_bounds-rest-start
slice_bounds-rest-start c =
    let r = read_field c.loop-rest.before c.loop-rest.rest.now c.in_ok-record.record (sym c.in_ok-record.ensures) in
    omega (arith, r.0.whole, r.2)

pub loop-rest-preserved : goal.loop-rest-preserved
loop-rest-preserved c =
    let s = c.loop-rest.rest.now in
    let t = c.loop-rest.text.items in
    let r = read_field c.loop-rest.before s c.in_ok-record.record (sym c.in_ok-record.ensures) in
    let f = field_of s in
    let some : length s ≡ 0 → ⊥ = eqb-false _ _ (sym c.is_empty-in-loop-rest.ensures ∙ c.loop-rest-test.true) in
    let grows = room_grows c.loop-rest.before f.number f.body r.0.order r.0.form in
    let text : c.append_field.new.text.items ≡ t ++ spaced_field (rule f.number) f.body =
    rw (body_read c.loop-rest.before s c.in_ok-record.record r.2, r.1) at c.append_field.ensures in
    rw (text, part_rest c.in_ok-record.record.end s, r.1, r.2)
    (record {
      count = rw length-append (omega (arith, c.loop-rest.invariant.count, grows));
      all =
          sym (following_field t f (records 0 (Some f.number) (drop (4 + body_size s) s)))
          ∙ (rw (records_next s c.loop-rest.before (omega arith), r.0.field) at c.loop-rest.invariant.all);
    })

pub returns : goal.returns
returns c =
    let s = c.loop-rest.rest.now in
    let none : s ≡ [] = empty s (eqb-true _ _ (sym c.is_empty-in-loop-rest.ensures ∙ c.loop-rest-test.false)) in
    sym (following_end c.loop-rest.text.items c.loop-rest.before) ∙ (rw none at c.loop-rest.invariant.all)
  where
    empty : (s : List ℕ) → length s ≡ 0 → s ≡ []
    empty [] e = refl
    empty (x ∷ s) e = absurd (omega arith)
