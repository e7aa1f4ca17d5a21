use borrow.Author.Rules.{rules}
use mathlib.Core.Path.{◌≡◌, sym, ◌∙◌}
use mathlib.Core.List.{◌++◌}
use native.Mathlib.Omega.{arith}
use lib.ListN.{length-append}
use Rattle.messagemac.specs.Output.{decimal}
use Rattle.messagemac.proofs.Decimal.{decimal_digits, decimal_short}
use Rattle.messagemac.proofs.output.append_decimal.Goals as goal

pub returns : goal.returns
returns c =
    let n = c.args.number in
    let d = c.decimal-count.ensures in
    let all : c.extend.new.buffer.items ≡ c.args.out.now.items ++ decimal n = rw (sym (d.digits ∙ decimal_digits _ n d.len (search rules))) (c.extend.ensures.fits (search rules)) in
    record { appended = all; short = rw (all, length-append) (omega (arith, decimal_short n)) }
