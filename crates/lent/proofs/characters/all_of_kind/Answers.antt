use Rattle.std.proofs.Common.{rules, ◌∙◌}
use Rattle.std.proofs.lemmas.Iterator.{YieldsList-from_slice}
use Rattle.std.proofs.lemmas.Iterator.Search.{all_from_yields_List}
use Rattle.lent.specs.Characters.{of_kind}
use Rattle.lent.proofs.Library.{each_passes}
use Rattle.lent.proofs.characters.all_of_kind.Goals as goal

pub returns : goal.returns
returns c =
    let s = c.args.s.now in
    let p = of_kind c.args.kind in
    all_from_yields_List p _ _ _ c.all.ensures.ran (YieldsList-from_slice s (cc)) (λ x b q k. search rules) ∙ each_passes p s
