use Rattle.std.proofs.Common.{rules, ◌≡◌, ◌∙◌, ◌+◌, ◌≤◌, length, Err, refl, sym}
use Rattle.lent.specs.Characters.{digit}
use Rattle.lent.proofs.ReadsBack.{passed, of_permitted, of_refused}
use Rattle.vip.specs.Vip.{block_text, vip_block, make}
use Rattle.vip.proofs.Laws.{block_written}
use Rattle.vip.proofs.block_of.Goals as goal

pub returns-in_err-permitted : goal.returns-in_err-permitted
unfolding make
returns-in_err-permitted c =
    let why = c.in_err-permitted.field-0.0 in
    let same : c.from_residual.result ≡ Err why = search rules in
    same ∙ sym (of_refused 16 11 19 digit vip_block c.args.digits.now why (sym c.permitted.ensures ∙ c.in_err-permitted.was))

pub returns-in_err-text_bytes : goal.returns-in_err-text_bytes
unfolding block_text
returns-in_err-text_bytes c =
    let room : 2 + length c.args.digits.now ≤ 32 = search rules in
    let h = passed 16 11 19 digit vip_block c.args.digits.now (sym c.permitted.ensures ∙ c.in_ok-permitted.was) in
    let k = block_written c.args.digits.now h refl (rw (c.framed-text.ensures.fits room) at c.text_bytes.ensures) in
    absurd (let e = sym k.0 ∙ c.in_err-text_bytes.was in cc)

pub returns : goal.returns
unfolding make block_text
returns c =
    let room : 2 + length c.args.digits.now ≤ 32 = search rules in
    let digits = c.args.digits.now in
    let tests = sym c.permitted.ensures ∙ c.in_ok-permitted.was in
    let k = block_written digits (passed 16 11 19 digit vip_block digits tests) refl (rw (c.framed-text.ensures.fits room) at c.text_bytes.ensures) in
    rw k.1 (sym (of_permitted 16 11 19 digit vip_block digits tests))
