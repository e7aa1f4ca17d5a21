-- What other crates cite: the double-length terminal is lawful, so that demand 3 holds of it; and the left half of its initial key is the
-- single-length one.
pub use Rattle.doublehost.specs.Laws.{left_single, lawful}
