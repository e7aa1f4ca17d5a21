use Rattle.std.proofs.Common.{◌∙◌, arith}
use Rattle.lent.proofs.Library.{hexdigit, alphanumeric}
use Rattle.lent.proofs.characters.Kind.has.Goals as goal

pub returns-in-HexadecimalDigits : goal.returns-in-HexadecimalDigits
returns-in-HexadecimalDigits c = rw c.in-HexadecimalDigits.is (c.is_ascii_hexdigit.ensures.value ∙ hexdigit c.args.x (omega arith))

pub returns-in-LettersOrDigits : goal.returns-in-LettersOrDigits
returns-in-LettersOrDigits c = rw c.in-LettersOrDigits.is (c.is_ascii_alphanumeric.ensures.value ∙ alphanumeric c.args.x (omega arith))
