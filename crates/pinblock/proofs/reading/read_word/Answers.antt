use Rattle.std.proofs.Common.{arith, ◌≡◌, ◌∙◌, ◌≤◌, ◌<◌}
use Rattle.lent.proofs.Results.{refused_writes}
use Rattle.lent.specs.Words.{to_base}
use Rattle.pinblock.specs.Reading.{candidate, pin_of}
use Rattle.pinblock.proofs.HalfBytes.{text_length, text_taken}
use Rattle.pinblock.proofs.Readings.{long_refused}
use Rattle.pinblock.proofs.reading.read_word.Goals as goal

pub returns-in-Some : goal.returns-in-Some
unfolding pin_of
returns-in-Some c =
    let lookup = c.in-Some.ensures.lookup in
    let short : c.from-count.result ≤ 12 = rw (c.text_of-text.ensures, text_length c.args.block) at lookup.0.1 in
    let e : c.in-Some.pin.now ≡ candidate (to_base 16 16 c.args.block) =
    lookup.0.2 ∙ rw c.text_of-text.ensures (text_taken c.args.block c.from-count.result short (c.from-count.ensures ∙ c.half_byte.ensures.0)) in
    rw e at c.pin_if_made.ensures

pub returns-in-None : goal.returns-in-None
returns-in-None c =
    let lookup = rw (c.text_of-text.ensures, text_length c.args.block) at c.in-None.ensures.lookup in
    let long : 12 < c.from-count.result = grind arith in
    refused_writes (long_refused _ (rw (c.from-count.ensures ∙ c.half_byte.ensures.0) at long))
