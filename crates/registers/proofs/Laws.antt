-- What other crates cite: demand 3, what a device and a way of calling it owe for it, that a state stays in order, and the permitted counters in
-- order.
-- demand 3, and that there are calls to speak of
pub use Rattle.registers.proofs.Lawful.{ReadBack, Lawful}
pub use Rattle.registers.proofs.States.{After, after_loading, after_valid, after_demand}
pub use Rattle.registers.proofs.Theorem.{Sound, sound_demand3}
pub use Rattle.registers.proofs.Records.{demand3, promised_loaded, done_writes, refused_stays, call_with, some_calls, one_call}
pub use Rattle.registers.proofs.Traces.{some_trace}
-- which counters were given out, by the next one, and from which register's key each other one's is derived
pub use Rattle.registers.proofs.Given.{given_below, given_all, reached_key}
-- which numbers lie under the filled registers of a state that hangs together
pub use Rattle.registers.proofs.Reach.{under_later, later_under}
-- the host's derivations, and the halves of a derivation key
pub use Rattle.registers.proofs.Hosts.{Fit, fit, initial_done, initial_loads, initial_refuses, host_refuses, tested_fit, host_uncounted, host_counted, host_done}
-- loading and a call, by their cases
pub use Rattle.registers.proofs.Calls.{load_cases, load_sizes, load_done, load_refused, next_invalid, next_over, next_short, next_full, next_done, next_room, refused_next, given_next, zero_invalid}
-- a state hangs together exactly if it passes the tests, and a key leaves one that does
pub use Rattle.registers.proofs.Validity.{runs_counted, Checked, checked_valid, valid_checked}
pub use Rattle.registers.proofs.Spent.{renewed_few, renewed_full, spent_ends, spent_goes_on, spent_valid}
-- the register of a counter, a loop that fills registers, and one that derives a counter's key
pub use Rattle.registers.proofs.Bits.{place_lt, place_room}
pub use Rattle.registers.proofs.Filling.{fill_none, fill_turn}
pub use Rattle.registers.proofs.Deriving.{bits_moved, bit_moved, derive_turn, derive_last}
-- the serial number with its counter replaced
pub use Rattle.registers.proofs.SerialNumbers.{tail_clear, with_with, length_with, counter_with, tail_with, head_with}
-- how many numbers have few one bits, by Pascal's rule
pub use Rattle.registers.proofs.Total.{count_below, below_same, below_none, below_split, few_ones, few_in, few_above, few_counted, total}
-- there is at most one n-th smallest permitted counter
pub use Rattle.registers.proofs.Order.{passes, fails, nth_unique}
use mathlib.Core.Path.{◌≡◌}
use mathlib.Core.Bool.{Bool}
use Prim.Native.Nat.{ℕ, ◌≤◌}
use native.Mathlib.Omega.{arith}
use Rattle.lent.specs.Refusals.{bad_record}
use Rattle.lent.specs.Result.{refused}
use Rattle.registers.specs.Counters.{Nth, last_counter, counter_total}
use Rattle.registers.specs.Device.{Device}
use Rattle.registers.specs.Machine.{zero_state}
use Rattle.registers.specs.Calls.{next_key}
use Rattle.registers.proofs.Order.{count_least, nth_below}
use Rattle.registers.proofs.Total.{count_most}

-- each n from 1 to 1,048,575 has an n-th smallest permitted counter, which is one number by nth_unique, and no other n has one
pub nth_exists : (n : ℕ) → 1 ≤ n → n ≤ counter_total → (c : ℕ) × Nth n c
nth_exists n p h = nth_below last_counter n p (omega (arith, total))

pub nth_range : (n c : ℕ) → Nth n c → (1 ≤ n) × (n ≤ counter_total)
nth_range n c x = (omega (arith, x.number, count_least c x.permitted), omega (arith, x.number, count_most c x.permitted))

-- the record of a refused loading is 11
pub zero_refused : {K : Type 0} (device : Device K) (enough : Bool) → next_key device (zero_state device) enough ≡ refused bad_record
zero_refused device enough = next_invalid device (zero_state device) enough (zero_invalid device)
