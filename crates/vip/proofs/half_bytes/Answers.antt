use Rattle.std.proofs.Common.{◌≡◌, ◌∙◌, ◌+◌, ℕ, [], length, drop, replicate, append-nil, arith}
use Rattle.std.proofs.Math.ListN.{drop_of_length-le}
use Rattle.lent.proofs.Appending.{appends_done, appends_result}
use Rattle.keyentry.specs.Hexadecimal.{text_of}
use Rattle.keyentry.proofs.Texts.{text_length}
use Rattle.vip.proofs.half_bytes.Goals as goal

pub unwrap-requires : goal.unwrap-requires
unwrap-requires c =
    let v = text_of 65 c.args.block.now in
    let long = text_length 65 c.args.block.now in
    rw (appends_done v (replicate 32 0) 0 (omega arith) c.append_text.ensures)

pub returns : goal.returns
returns c =
    let v = text_of 65 c.args.block.now in
    let long : length v ≡ 32 = text_length 65 c.args.block.now ∙ omega arith in
    let none : drop {A = ℕ} (0 + length v) (replicate 32 0) ≡ [] = drop_of_length-le (replicate 32 0) {i = 0 + length v} (omega arith) in
    (appends_result v (replicate 32 0) 0 (omega arith) c.append_text.ensures c.unwrap.ensures).memory ∙ rw (none, append-nil)
