-- The tables that are read quickly, and what they give together.
pub mod RoundWords
pub mod ChoiceWords
pub mod Words
