use Rattle.std.proofs.Common.{◌≡◌, ◌∙◌, ℕ, ◌*◌, ◌^◌, ◌<◌, Some, eqb, ltb, length, sym, arith}
use Rattle.std.proofs.lemmas.Bool.{ltb-false, ne_eqb}
use Rattle.std.specs.Option.{option_eq}
use Rattle.lent.proofs.Laws.{cases}
use Rattle.keyentry.specs.Doubled.{doubled}
use Rattle.keyentry.specs.declared.units.Bytes.{Bytes}
use Rattle.keyentry.specs.declared.units.Digits.{Digits}
use Rattle.keyentry.proofs.entry.full_text.Goals as goal

held : (given : ℕ) (size : Bytes) → given < 2 ^ 64
    → option_eq (λ (d e : Digits). eqb d.0 e.0) (Some (record { 0 = given })) (doubled size) ≡ eqb given (2 * size.0)
unfolding doubled
held given size h =
    cases (ltb (2 * size.0) (2 ^ 64)) (λ t. simp t)
    (λ f. let large = ltb-false _ _ f in simp f (sym (ne_eqb given (2 * size.0) (λ e. omega arith))))

pub returns : goal.returns
returns c = rw c.digits.ensures at c.eq.ensures ∙ held (length c.args.text.now) c.args.size (omega arith)
