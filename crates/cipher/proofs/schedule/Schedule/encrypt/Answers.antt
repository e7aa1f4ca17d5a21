use native.Mathlib.Omega.{arith}
use Rattle.cipher.specs.Des.{encrypted_with}
use Rattle.cipher.proofs.Merged.{halved}
use Rattle.cipher.proofs.schedule.Schedule.encrypt.Goals as goal

pub returns : goal.returns
unfolding encrypted_with
returns c =
    let x = c.initial_permutation-x in
    let y = c.rounds.ensures _ (halved _ x.result (omega arith) c.expand.ensures c.expand-2.ensures) in
    simp (y, x.ensures) at c.final_permutation.ensures
