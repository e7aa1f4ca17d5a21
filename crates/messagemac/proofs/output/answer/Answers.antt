use Prim.Native.Nat.{◌-◌}
use native.Mathlib.Omega.{arith}
use lib.ListN.{length, take, drop}
use Rattle.lent.proofs.Lists.{part_rest}
use Rattle.message.specs.Text.{joined_text}
use Rattle.mac.specs.Mac.{message_text_and_mac, TextAndMac}
use Rattle.mac.proofs.Laws.{refused_both}
use Rattle.messagemac.proofs.Laws.{short_answer, whole_answer}
use Rattle.messagemac.proofs.output.answer.Goals as goal

pub returns-then-input-lt8 : goal.returns-then-input-lt8
returns-then-input-lt8 c = refused_both (rw (short_answer c.args.input.now c.if-input-lt8.true))

pub returns : goal.returns
returns c =
    let s = c.args.input.now in
    let message = take (length s - 8) (drop 8 s) in
    let both : TextAndMac (message_text_and_mac (take 8 s) message) (joined_text message) c.args.room.now c.message_text_and_mac.result c.message_text_and_mac.new.out = c.message_text_and_mac.ensures in
    rw (whole_answer s (omega arith)) (rw (part_rest 8 s) at both)
