-- Laws on bytes doubled into digits.
use Rattle.std.proofs.Common.{◌≡◌, Some, None, ◌*◌, ◌^◌, ◌<◌, ◌≤◌}
use Rattle.std.proofs.lemmas.Bool.{lt-ltb, ltb-false}
use lib.Dec.{ltb}
use Rattle.lent.proofs.Laws.{cases, never}
use Rattle.keyentry.specs.Doubled.{doubled}
use Rattle.keyentry.specs.declared.units.Bytes.{Bytes}
use Rattle.keyentry.specs.declared.units.Digits.{Digits}

-- the digits that are given are twice the bytes
pub doubled_fits : (size : Bytes) (d : Digits) → doubled size ≡ Some d → d.0 ≡ 2 * size.0
unfolding doubled
doubled_fits size d e = cases (ltb (2 * size.0) (2 ^ 64)) (λ t. let k = simp t at e in cc) (λ f. never (cc (simp f at e)))

-- none are given where they cannot be counted
pub doubled_too_large : (size : Bytes) → doubled size ≡ None → 2 ^ 64 ≤ 2 * size.0
unfolding doubled
doubled_too_large size e = cases (ltb (2 * size.0) (2 ^ 64)) (λ t. never (cc (simp t at e))) (λ f. ltb-false _ _ f)

-- bytes whose digits a usize can count
pub doubles : (size : Bytes) → 2 * size.0 < 2 ^ 64 → doubled size ≡ Some (record { 0 = 2 * size.0 })
unfolding doubled
doubles size h = simp (lt-ltb _ _ h)
