use native.Mathlib.Omega.{arith}
use Rattle.registers.proofs.Laws.{derive_turn, derive_last}
use Rattle.host.proofs.derivation.register_key.Goals as goal

pub loop-b-preserved : goal.loop-b-preserved
loop-b-preserved g c =
    let a = c.args in
    derive_turn g.K.RegisterKey.device.one_way a.tail.word a.counter.value a.initial c.loop-b.key _ c.loop-b.b (omega arith) c.past_place-key.ensures c.loop-b.invariant

pub returns : goal.returns
returns g c = derive_last g.K.RegisterKey.device.one_way _ _ _ _ c.loop-b.b (omega arith) c.loop-b.invariant
