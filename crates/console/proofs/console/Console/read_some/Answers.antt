use Rattle.console.proofs.console.Console.read_some.Goals as goal

pub returns-in-Err-clause-prefix_len : goal.returns-in-Err-clause-prefix_len
returns-in-Err-clause-prefix_len g c = tt
