use mathlib.Core.Path.{sym}
use Rattle.lent.proofs.Results.{same_writes}
use Rattle.chizuregwo.proofs.hosts.czg_initial_key.Goals as goal

pub returns : goal.returns
returns c = same_writes (sym c.initial_key-key.ensures) c.written.ensures
