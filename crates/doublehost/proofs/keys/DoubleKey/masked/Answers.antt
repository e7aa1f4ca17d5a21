use mathlib.Core.Path.{refl}
use Rattle.doublehost.specs.DoubleLength.{masked}
use Rattle.doublehost.proofs.keys.DoubleKey.masked.Goals as goal

pub returns : goal.returns
unfolding masked
returns c = refl
