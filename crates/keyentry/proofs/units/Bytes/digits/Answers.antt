use Rattle.std.proofs.Common.{◌≡◌, ◌∙◌, ℕ, ◌*◌, ◌^◌, ◌<◌, ◌≤◌, Option, Some, None, ap, arith}
use Rattle.std.proofs.lemmas.Bool.{lt-ltb, le-ltb}
use Rattle.std.specs.Option.{SomeIff, MatchOption, IsSomeAnd}
use Rattle.keyentry.specs.Doubled.{doubled}
use Rattle.keyentry.specs.declared.units.Bytes.{Bytes}
use Rattle.keyentry.specs.declared.units.Digits.{Digits}
use Rattle.keyentry.proofs.units.Bytes.digits.Goals as goal

given : (size : Bytes) (r : Option ℕ) (d : Option Digits) → SomeIff r (size.0 * 2 < 2 ^ 64) (size.0 * 2)
    → MatchOption r (d ≡ None) (λ x. IsSomeAnd d (λ y. y.0 ≡ x)) → d ≡ doubled size
unfolding doubled
given size None d large e = let h : 2 ^ 64 ≤ 2 * size.0 = omega arith in e ∙ simp (le-ltb (2 * size.0) (2 ^ 64) h)
given size (Some x) None fits e = absurd e
given size (Some x) (Some y) fits e =
    let h : 2 * size.0 < 2 ^ 64 = omega arith in
    let twice : x ≡ 2 * size.0 = omega arith in
    rw (lt-ltb (2 * size.0) (2 ^ 64) h) (ap (λ (n : ℕ). Some (record { 0 = n })) (e ∙ twice))

pub returns : goal.returns
returns c = given c.args.self c.checked_mul.result c.map.result c.checked_mul.ensures c.map.ensures.cases
