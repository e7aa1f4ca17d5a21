use Rattle.cipher.proofs.Parity.{masked_same}
use Rattle.cipher.proofs.keys.same_key.Goals as goal

pub returns : goal.returns
returns c = masked_same c.args.key c.args.other
