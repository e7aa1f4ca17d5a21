-- The terminal's record as a state of the register machine (01, Terminal keys), and its call for the next key as one of the machine's.
use Rattle.std.specs.Prelude.{List, ℕ, replicate}
use Rattle.lent.specs.Result.{Result, done, and_then, number, of_done}
use Rattle.registers.specs.Machine.{State, state_in}
use Rattle.registers.specs.Calls.{Call}
use Rattle.terminal.specs.declared.state.Terminal.{Terminal}
use Rattle.terminal.specs.declared.calls.NextKey.{NextKey}

module _ {K : Type 0} where
  abbrev pub view : Terminal K → State K
  view t = state_in t.keys t.serial t.position

  -- a record that is done, as a state; a refusal stays
  abbrev pub done_view : Result (Terminal K) → Result (State K)
  done_view r = and_then r (λ t. done (view t))

  -- the call that got this answer, by the lent buffer before and after it: where refused, with zeros for what is given out
  abbrev pub call_view : List ℕ → NextKey K → List ℕ → Call K
  call_view before answer after = record {
    before = before;
    number = number answer.given;
    counter = of_done (λ given. given.counter) 0 answer.given;
    serial = of_done (λ given. given.serial) (replicate 10 0) answer.given;
    left = view answer.terminal;
    after = after;
  }
