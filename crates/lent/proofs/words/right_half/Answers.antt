use Rattle.std.proofs.Common.{◌≡◌, ◌≤◌, sym, ap, ◌∙◌, ℕ, List, Option, Some, None, Bor, length, arith}
use Rattle.std.proofs.Math.ListN.{drop_of_length-le}
use mathlib.Core.Logic.{⊎_elim}
use Rattle.std.specs.Option.{MatchOption}
use Rattle.std.specs.Slice.{IsGetRangeResult}
use Rattle.lent.specs.Words.{from_base, word, right}
use Rattle.lent.proofs.Lists.{part_rest}
use Rattle.lent.proofs.words.right_half.Goals as goal

right_of : (key : List ℕ) (o : Option (Bor (List ℕ))) (r : ℕ) → IsGetRangeResult key 8 (length key) o → MatchOption o (r ≡ 0) (λ x. r ≡ word x.now) → r ≡ right key
unfolding from_base
right_of key None r short e =
    let none : length key ≤ 8 = ⊎_elim (λ h. omega arith) (λ h. absurd (omega arith)) short.0 in
    e ∙ sym (ap word (drop_of_length-le key none))
right_of key (Some x) r at e = e ∙ ap word (at.0.2 ∙ part_rest 8 key)

pub returns : goal.returns
returns c = right_of c.args.key.now c.get.result c.map_or.result c.get.ensures.lookup c.map_or.ensures
