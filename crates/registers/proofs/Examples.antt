-- Which counters lie under which register, computed. With 3 next, register 0 has the label 3, register 1 is empty, and register 2 has the label
-- 4: under it lie 4, 5, 6 and 7.
use mathlib.Core.Path.{◌≡◌, refl}
use native.Mathlib.Omega.{arith}
use lib.Count.{count_trailing_zeros}
use Rattle.registers.specs.Counters.{bit}
use Rattle.registers.specs.Machine.{filled_mask}
use Rattle.registers.specs.Rule.{label}
use Rattle.registers.specs.Reach.{Under}

pub filled_with_3_next : (bit (filled_mask 3) 0 ≡ 1) × (bit (filled_mask 3) 1 ≡ 0) × (bit (filled_mask 3) 2 ≡ 1)
unfolding filled_mask
filled_with_3_next = (refl, refl, refl)

pub under_register_2 : (label 3 2 ≡ 4) × Under 4 (label 3 2) × Under 7 (label 3 2)
unfolding count_trailing_zeros
under_register_2 = (refl, refl, refl)

pub not_under_register_2 : (¬ Under 3 (label 3 2)) × (¬ Under 8 (label 3 2))
unfolding count_trailing_zeros
not_under_register_2 = (λ e. omega arith, λ e. omega arith)

pub under_register_0 : (label 3 0 ≡ 3) × Under 3 (label 3 0) × (¬ Under 4 (label 3 0))
unfolding count_trailing_zeros
under_register_0 = (refl, refl, λ e. omega arith)
