use borrow.Author.Rules.{rules}
use mathlib.Core.Path.{◌≡◌, refl, ◌∙◌}
use native.Mathlib.Numerals.{add-one}
use native.Mathlib.Omega.{arith}
use lib.ListN.{length, get_or}
use Rattle.std.proofs.lemmas.List.{get_or_default}
use Rattle.lent.proofs.Appending.{nothing_appended, both_appends}
use Rattle.recordbytes.proofs.Bytes.{registers_snoc}
use Rattle.recordbytes.specs.RecordBytes.{register_bytes}
use Rattle.terminalbytes.proofs.record.put_registers.Goals as goal

pub loop-key-init : goal.loop-key-init
unfolding register_bytes
loop-key-init g c = (refl, λ room. nothing_appended)

pub loop-key-preserved : goal.loop-key-preserved
loop-key-preserved g c =
    let device = g.K.RegisterKey.device in
    let keys = c.args.keys.now in
    let i = c.loop-key.key-index in
    let item = c.key-item.is ∙ get_or_default keys i c.key-item.result device.empty (omega arith) in
    let written = c.as_slice.ensures ∙ c.bytes.ensures in (
      search rules,
      rw (add-one i, registers_snoc device keys i (omega arith)) (both_appends c.loop-key.invariant.1 (rw (written, item) at c.put-n.ensures)),
    )
