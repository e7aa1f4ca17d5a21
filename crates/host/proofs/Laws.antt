-- What other crates cite: the single-length terminal is lawful, so that demand 3 holds of it; and a step gives a word.
pub use Rattle.host.specs.Laws.{step_lt, lawful}
