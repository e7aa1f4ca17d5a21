use borrow.Author.Rules.{rules}
use mathlib.Core.Path.{◌≡◌}
use native.Mathlib.Omega.{arith}
use lib.ListN.{length}
use Rattle.terminal.specs.View.{view}
use Rattle.recordbytes.proofs.Bytes.{record_put}
use Rattle.terminalbytes.proofs.record.put_record.Goals as goal

pub returns : goal.returns
returns g c =
    let t = c.args.t in
    let sizes : (length t.keys ≡ 21) × (length t.serial ≡ 10) = (search rules, search rules) in
    record_put g.K.RegisterKey.device g.met.K.RegisterKey.lawful (view t) sizes.0 sizes.1 c.args.bytes.now (omega arith)
    c.put_registers-after_keys.ensures c.put_rest.ensures
