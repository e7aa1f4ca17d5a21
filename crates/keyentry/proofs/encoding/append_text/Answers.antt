use Rattle.std.proofs.Common.{◌∙◌, length, sym, arith}
use Rattle.lent.proofs.Appending.{too_short, writes_appended}
use Rattle.lent.proofs.Results.{no_room_writes}
use Rattle.keyentry.specs.Hexadecimal.{text_of}
use Rattle.keyentry.proofs.Doublings.{doubled_fits, doubled_too_large}
use Rattle.keyentry.proofs.Texts.{text_length}
use Rattle.keyentry.proofs.encoding.append_text.Goals as goal
use Rattle.keyentry.proofs.encoding.append_text.Goals.{then-out-n-via-then-out-n, then-out-n-via-else-out-n+then-out-n-2}

pub returns-in_default : goal.returns-in_default
returns-in_default c =
    let a = c.args in
    let s = a.bytes.now in
    let big = doubled_too_large (record { 0 = length s }) (sym c.digits.ensures ∙ c.in_default.is) in
    no_room_writes (too_short (text_of 65 s) a.out.now a.n (omega (arith, text_length 65 s)))

pub returns-then-out-n : goal.returns-then-out-n
returns-then-out-n c =
    let a = c.args in
    let s = a.bytes.now in
    let twice = doubled_fits _ c.in-Some.digits (sym c.digits.ensures ∙ c.in-Some.is) in
    let long = text_length 65 s in
    elim c.then-out-n.branch [
      | then-out-n-via-then-out-n w ↦ no_room_writes (too_short (text_of 65 s) a.out.now a.n (omega arith))
      | then-out-n-via-else-out-n+then-out-n-2 w ↦ no_room_writes (too_short (text_of 65 s) a.out.now a.n (omega arith))
    ]

pub put_text-requires : goal.put_text-requires
put_text-requires c =
    let twice = doubled_fits _ c.in-Some.digits (sym c.digits.ensures ∙ c.in-Some.is) in
    omega arith

pub returns : goal.returns
returns c =
    let s = c.args.bytes.now in
    let twice = doubled_fits _ c.in-Some.digits (sym c.digits.ensures ∙ c.in-Some.is) in
    writes_appended (text_of 65 s) c.args.out.now c.args.n (omega (arith, text_length 65 s)) c.put_text.ensures
