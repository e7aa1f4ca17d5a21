use mathlib.Core.Path.{◌≡◌}
use Rattle.registers.specs.RegisterKey.{derive}
use Rattle.host.proofs.derivation.register_key.Given as goal

abbrev pub invariant-loop-b : goal.invariant-loop-b
invariant-loop-b g l =
    let F = g.K.RegisterKey.device.one_way in
    derive F l.tail.word l.b l.key l.counter.value ≡ derive F l.tail.word 21 l.fn.initial l.counter.value
