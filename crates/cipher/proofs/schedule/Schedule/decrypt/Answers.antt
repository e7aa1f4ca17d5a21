use mathlib.Core.Path.{ap, ◌∙◌}
use mathlib.Core.List.{List}
use Prim.Native.Nat.{ℕ}
use Rattle.cipher.specs.Des.{encrypted_with, decrypted_with}
use Rattle.cipher.proofs.schedule.Schedule.decrypt.Goals as goal

pub returns : goal.returns
unfolding decrypted_with
returns c = c.encrypt.ensures ∙ ap (λ (keys : List ℕ). encrypted_with keys c.args.block) c.reverse.ensures.after
