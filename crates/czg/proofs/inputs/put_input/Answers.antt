-- What starts with `hex:` has four bytes at least.
use Rattle.std.proofs.Common.{length, ◌≤◌, sym, ◌∙◌}
use Rattle.czg.specs.Inputs.{hex}
use Rattle.lent.proofs.Prefixes.{starts_length}
use Rattle.czg.proofs.inputs.put_input.Goals as goal

pub slice_bounds-text_bytes-count : goal.slice_bounds-text_bytes-count
slice_bounds-text_bytes-count c =
    let four : 4 ≤ length c.args.part.now = starts_length hex c.args.part.now (sym c.starts_with.ensures ∙ c.if-starts_with.true) in
    four

pub slice_bounds-text_bytes-start : goal.slice_bounds-text_bytes-start
slice_bounds-text_bytes-start c =
    let four : 4 ≤ length c.args.part.now = starts_length hex c.args.part.now (sym c.starts_with.ensures ∙ c.if-starts_with.true) in
    four
