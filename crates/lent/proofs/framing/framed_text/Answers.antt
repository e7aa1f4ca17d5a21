use Rattle.std.proofs.Common.{◌≡◌, sym, ap, [], take, drop, arith}
use Rattle.std.proofs.Math.ListN.{drop_of_length-le}
use Rattle.std.proofs.Math.Seq.{take_all}
use Rattle.std.proofs.lemmas.List.{take_min}
use Rattle.lent.proofs.Lists.{part_rest}
use Rattle.lent.specs.Frames.{said_length, framed_text}
use Rattle.lent.proofs.framing.framed_text.Goals as goal

pub returns-in_default : goal.returns-in_default
unfolding framed_text
returns-in_default c =
    let s = c.args.s.now in
    let none : drop 2 s ≡ [] = drop_of_length-le s {i = 2} (omega (arith, c.in_default.len_below)) in
    rw none (sym (take_all (said_length s) [] (omega arith)))

pub returns-in-len2-up : goal.returns-in-len2-up
unfolding framed_text
returns-in-len2-up c =
    let s = c.args.s.now in
    let n = c.two_digit_number.result in
    rw (c.min.ensures, part_rest 2 s, take_min n (drop 2 s)) (ap (λ k. take k (drop 2 s)) c.two_digit_number.ensures.value)
