use mathlib.Core.Path.{◌≡◌}
use Rattle.std.proofs.Common.{div-one}
use Rattle.lent.specs.Words.{to_base}
use Rattle.recordbytes.proofs.parts.put_number.Goals as goal

pub returns : goal.returns
unfolding to_base
returns c =
    let bytes : c.to_be_bytes.result ≡ to_base 256 4 c.args.x = rw div-one c.to_be_bytes.ensures in
    rw bytes at c.put.ensures
