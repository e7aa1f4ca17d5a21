use Rattle.std.specs.Prelude.{OnErr}
use Rattle.std.proofs.Common.{rules, ◌≡◌}
use Rattle.lent.proofs.buffers.extend.Goals as goal

pub returns-clause-full : goal.returns-clause-full
returns-clause-full g c = λ full.
    let left : OnErr c.try_extend_from_slice.result (c.try_extend_from_slice.new.self ≡ c.args.buffer.now) = c.try_extend_from_slice.ensures.err in
    let kept : c.try_extend_from_slice.new.self.items ≡ c.args.buffer.now.items = search rules in
    kept
