use mathlib.Core.Path.{refl, sym, ◌∙◌}
use Rattle.messagemac.proofs.Laws.{output_done, output_refused}
use Rattle.messagemac.proofs.output.output.Goals as goal

pub returns-in-Ok : goal.returns-in-Ok
returns-in-Ok c = c.lines.ensures ∙ sym (output_done c.args.input.now refl c.in-Ok.ensures)

pub returns-in-Err : goal.returns-in-Err
returns-in-Err c = c.refusal.ensures ∙ sym (output_refused c.args.input.now refl c.in-Err.ensures)
