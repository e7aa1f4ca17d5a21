-- Card numbers, as text digits (01, Numbers an operator sees).
use Rattle.std.specs.Prelude.{Bool, List, ℕ, length}
use Rattle.lent.specs.Choice.{between}

-- a card number has 13 to 19 characters
abbrev pub card_size : List ℕ → Bool
card_size card = between 13 19 (length card)
