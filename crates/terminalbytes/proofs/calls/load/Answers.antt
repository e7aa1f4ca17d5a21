use borrow.Author.Rules.{rules}
use mathlib.Core.Path.{◌≡◌, sym}
use lib.ListN.{length}
use native.Mathlib.Omega.{arith}
use Rattle.std.proofs.lemmas.Result.{err_from_is_err_and}
use Rattle.lent.proofs.Results.{refused_writes}
use Rattle.recordbytes.proofs.Bytes.{record_length}
use Rattle.recordbytes.proofs.Calling.{load_refused, load_gives, lent_short, lent_value}
use Rattle.terminal.specs.View.{view}
use Rattle.terminalbytes.proofs.calls.load.Goals as goal

pub returns-in_err-terminal : goal.returns-in_err-terminal
returns-in_err-terminal g c =
    let p = err_from_is_err_and c.from_residual.result c.from_residual.ensures.1 in
    rw (p.1, p.2) (refused_writes (load_refused g.K.RegisterKey.device _ _ (sym c.in_err-terminal.ensures.state)))

pub returns-then-out-length : goal.returns-then-out-length
returns-then-out-length g c =
    let device = g.K.RegisterKey.device in
    let t = c.in_ok-terminal.terminal in
    let sizes : (length t.keys ≡ 21) × (length t.serial ≡ 10) = (search rules, search rules) in
    lent_short (load_gives device _ _ (sym c.in_ok-terminal.ensures.state)) (record_length device g.met.K.RegisterKey.lawful (view t) sizes.0 sizes.1)
    (omega (arith, c.record_size-length.ensures))

pub returns : goal.returns
returns g c =
    let device = g.K.RegisterKey.device in
    let t = c.in_ok-terminal.terminal in
    let sizes : (length t.keys ≡ 21) × (length t.serial ≡ 10) = (search rules, search rules) in
    rw c.record_size-length.ensures
    (lent_value (load_gives device _ _ (sym c.in_ok-terminal.ensures.state)) (record_length device g.met.K.RegisterKey.lawful (view t) sizes.0 sizes.1)
    (omega (arith, c.record_size-length.ensures)) (rw c.put_record.ensures))
