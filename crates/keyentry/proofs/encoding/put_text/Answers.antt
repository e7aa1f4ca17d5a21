use Rattle.std.proofs.Common.{◌∙◌, [], ◌∷◌, rules, refl, ap, length, take, get_or, arith}
use Rattle.std.proofs.lemmas.List.{length-take-le}
use Rattle.std.proofs.Math.Seq.{take_all}
use Rattle.lent.proofs.Appending.{appends_done, appends_result, nothing_appended, both_appends}
use Rattle.keyentry.specs.Hexadecimal.{text_of}
use Rattle.keyentry.proofs.Texts.{text_length, text_next}
use Rattle.keyentry.proofs.encoding.put_text.Goals as goal

pub loop-b-init : goal.loop-b-init
unfolding text_of
loop-b-init c = (refl, λ room. nothing_appended)

pub unwrap-end-requires : goal.unwrap-end-requires
unwrap-end-requires c =
    let l = c.loop-b in
    let s = c.args.bytes.now in
    let before = text_length 65 (take l.b-index s) in
    let front = length-take-le l.b-index s (omega arith) in
    let two = ap length c.byte_text.ensures ∙ text_length 65 (get_or s l.b-index 0 ∷ []) in
    let end = (l.invariant.1 (omega arith)).end in
    rw (appends_done c.byte_text.result l.out l.end (omega (arith, two, end)) c.append.ensures)

pub loop-b-preserved : goal.loop-b-preserved
loop-b-preserved c =
    let s = c.args.bytes.now in (
      search rules,
      rw (text_next 65 s c.loop-b.b-index (omega arith))
          (both_appends c.loop-b.invariant.1 (λ room. appends_result _ _ _ room (rw c.byte_text.ensures at c.append.ensures) c.unwrap-end.ensures)),
    )

pub returns : goal.returns
returns c =
    let l = c.loop-b in
    let s = c.args.bytes.now in
    rw (take_all l.b-index s (omega arith)) at l.invariant.1 (omega (arith, text_length 65 s))
