use mathlib.Core.Path.{sym}
use Rattle.lent.proofs.Results.{same_writes}
use Rattle.chizuregwo.proofs.hosts.czg_host_key.Goals as goal

pub returns : goal.returns
returns c = same_writes (sym c.host_key-key.ensures) c.written.ensures
