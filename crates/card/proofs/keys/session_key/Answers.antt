use Rattle.std.proofs.Common.{arith, ◌≡◌, ℕ, ◌-◌, ◌^◌, ◌<◌}
use Rattle.std.proofs.lemmas.Grind.{common_steps}
use Rattle.lent.specs.Words.{from_base, to_base, word}
use Rattle.card.specs.Entries.{session_key}
use Rattle.card.specs.Session.{counter_bytes}
use Rattle.card.specs.Turned.{turned}
use Rattle.card.proofs.DoubleKeys.{halves}
use Rattle.card.proofs.keys.session_key.Goals as goal

-- the word of the counter's bytes is the counter
counter-word : (counter : ℕ) → counter < 2 ^ 16 → word (counter_bytes counter) ≡ counter
unfolding counter_bytes from_base to_base
counter-word counter h = omega arith

pub returns-in_err-key : goal.returns-in_err-key
unfolding session_key
returns-in_err-key c = grind (arith, common_steps)

pub returns : goal.returns
unfolding session_key turned
returns c =
    let n = c.args.counter in
    let k = halves c.args.card_key.now c.try_from.ensures c.in_ok-key.was in
    simp (k.0, k.1, k.2, counter-word n (omega arith), counter-word (65535 - n) (omega arith), c.derive.ensures, c.from.ensures, c.from-2.ensures)
