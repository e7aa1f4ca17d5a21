use Rattle.std.proofs.Common.{◌∙◌, ◌*◌, ◌<◌, ◌^◌, sym, arith}
use Rattle.lent.proofs.Laws.{all_at}
use Rattle.lent.specs.Characters.{hexadecimal}
use Rattle.keyentry.proofs.Doublings.{doubled_fits, doubles}
use Rattle.keyentry.proofs.decoding.byte_of.Goals as goal

pub unwrap-at-requires : goal.unwrap-at-requires
unwrap-at-requires c =
    let fits : 2 * c.args.place.0 < 2 ^ 64 = omega arith in
    rw (c.digits.ensures, doubles c.args.place fits)

pub bounds-text-at : goal.bounds-text-at
bounds-text-at c =
    let at = doubled_fits c.args.place c.unwrap-at.result (sym c.digits.ensures ∙ c.unwrap-at.ensures) in
    omega arith

pub value_of-requires : goal.value_of-requires
value_of-requires c =
    let at = doubled_fits c.args.place c.unwrap-at.result (sym c.digits.ensures ∙ c.unwrap-at.ensures) in
    all_at hexadecimal c.args.text.now _ c.requires.all_hexadecimal (omega arith)

pub overflow_add-at : goal.overflow_add-at
overflow_add-at c =
    let at = doubled_fits c.args.place c.unwrap-at.result (sym c.digits.ensures ∙ c.unwrap-at.ensures) in
    record { fits = omega arith }

pub bounds-text-at-2 : goal.bounds-text-at-2
bounds-text-at-2 c =
    let at = doubled_fits c.args.place c.unwrap-at.result (sym c.digits.ensures ∙ c.unwrap-at.ensures) in
    omega arith

pub value_of-requires-2 : goal.value_of-requires-2
value_of-requires-2 c =
    let at = doubled_fits c.args.place c.unwrap-at.result (sym c.digits.ensures ∙ c.unwrap-at.ensures) in
    all_at hexadecimal c.args.text.now _ c.requires.all_hexadecimal (omega arith)

pub returns : goal.returns
returns c =
    let at = doubled_fits c.args.place c.unwrap-at.result (sym c.digits.ensures ∙ c.unwrap-at.ensures) in
    rw (← at, c.value_of.ensures.value, c.value_of-2.ensures.value)
