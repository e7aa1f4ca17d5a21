use borrow.Author.Rules.{rules}
use borrow.Author.Tests.{le-leb}
use mathlib.Core.Path.{◌≡◌, ◌∙◌}
use native.Mathlib.Omega.{arith}
use lib.ListN.{length}
use Rattle.lent.proofs.Results.{over_whole}
use Rattle.keyentry.specs.Hexadecimal.{text_of}
use Rattle.keyentry.proofs.Texts.{text_length}
use Rattle.messagemac.proofs.output.digits_of.Goals as goal

pub returns : goal.returns
returns c =
    let m : length c.args.mac ≡ 8 = search rules in
    let l : length (text_of 65 c.args.mac) ≡ 16 = omega (arith, text_length 65 c.args.mac) in
    (rw (le-leb (length (text_of 65 c.args.mac)) 16 (omega arith)) at c.append_text.ensures.memory) ∙ over_whole _ _ l
