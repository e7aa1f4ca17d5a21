use Rattle.std.proofs.Common.{get_or, arith}
use Rattle.std.proofs.lemmas.List.{length-take-le}
use Rattle.std.proofs.lemmas.List.Edits.{fill_by_more}
use lib.Seq.{ext_get_or}
use Rattle.keyentry.specs.Hexadecimal.{bytes_of}
use Rattle.keyentry.proofs.Pairs.{byte_at}
use Rattle.keyentry.proofs.Texts.{bytes_length}
use Rattle.keyentry.proofs.decoding.put_bytes.Goals as goal

pub loop-i-preserved : goal.loop-i-preserved
loop-i-preserved c =
    let l = c.loop-i in
    let text = c.args.text.now in
    let lent = length-take-le c.args.size.0 c.args.out.now c.requires.size_in_bounds in
    rw (c.byte_of.ensures, ← byte_at text l.i (omega (arith, lent)))
    (fill_by_more (λ k. get_or (bytes_of text) k 0) l.byte-items l.i 0 (omega arith) l.invariant)

pub returns : goal.returns
returns c =
    let l = c.loop-i in
    let text = c.args.text.now in
    let lent = length-take-le c.args.size.0 c.args.out.now c.requires.size_in_bounds in
    let n = bytes_length text c.args.size.0 c.requires.text_len in
    rw (n, ext_get_or 0 l.byte-items (bytes_of text) (omega (arith, n, lent)) (λ k h. l.invariant k (omega arith)))
