use Rattle.std.proofs.Common.{rules, ◌≡◌}
use lib.ListN.{replicate}
use Rattle.lent.proofs.Lists.{drop_replicate}
use Rattle.card.proofs.Paddings.{padded_stored}
use Rattle.card.proofs.cryptograms.padded.Goals as goal

pub returns : goal.returns
returns c =
    let «data» = c.args.«data».now in
    let zeros : c.fill.new.self ≡ replicate 256 0 = rw c.told-buffer at (c.fill.ensures.after (λ y e. search rules)) in
    rw (c.copy_from_slice.ensures.after, zeros, drop_replicate _ 256 0) (padded_stored «data» c.requires)
