use Rattle.std.proofs.Common.{◌≡◌, ◌∙◌, ◌<◌, ap, length, get_or, map}
use Rattle.std.proofs.lemmas.Bool.{lt-ltb}
use Rattle.lent.specs.Refusals.{size}
use Rattle.meanings.specs.Ascii.{ascii}
use Rattle.meanings.specs.Meanings.{meanings}
use Rattle.meanings.proofs.Found.{there, lent_at, line_at}
use Rattle.meanings.proofs.meaning.Goals as goal

pub returns : goal.returns
returns c =
    let n = c.args.number in
    let text = c.in_ok-text.text.now in
    let found = rw (there c.get.result size c.in_ok-text.ensures.value) at c.get.ensures.lookup in
    let within : n < length meanings = found.3.0 in
    let at : text.now ≡ get_or (map ascii meanings) n text.now = rw lent_at at (ap (λ b. b.now) found.1) in
    rw (lt-ltb _ _ within, ← at ∙ line_at meanings n text.now within, ← c.as_bytes.ensures.value) c.lend.ensures
