use Rattle.std.proofs.Common.{◌∙◌, refl}
use Rattle.lent.proofs.Frames.{framed_parts}
use Rattle.lent.proofs.framing.framed.Goals as goal

pub returns-then-this-lt2-clause-too_long : goal.returns-then-this-lt2-clause-too_long
returns-then-this-lt2-clause-too_long g c = λ long. refl

pub returns-clause-fits : goal.returns-clause-fits
returns-clause-fits g c = λ room.
    framed_parts g.row.N c.args.fill c.args.text.now
    (c.copy_from_slice.ensures.after ∙ c.two_digits.ensures) c.copy_from_slice-2.ensures.after c.split_at_mut-said.ensures.back
