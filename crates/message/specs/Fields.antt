-- The listed fields of a message (01, The message and its MAC text; source document 003, table 8).
use Rattle.std.specs.Prelude.{Bool, true, false, List, [], ◌∷◌, ℕ, Option, Some, None, is_some, eqb, length}
use Rattle.lent.specs.Choice.{both, pick, between, all}
use Rattle.lent.specs.Characters.{digit, of_kind}
use Rattle.lent.specs.declared.characters.Kind.TheVariants.{Digits, LettersOrDigits, Printable}
use Rattle.message.specs.declared.fields.Shape.{Shape}
use Rattle.message.specs.declared.fields.Shape.TheVariants.{All, CreditOrDebit}
use Rattle.message.specs.declared.fields.Entry.TheVariants.{Whole, Counted, First}
use Rattle.message.specs.declared.fields.Entry.{Entry}
use Rattle.message.specs.declared.fields.Listed.{Listed}

-- what is asked of a field
abbrev pub asked : Shape → ℕ → ℕ → Entry → Listed
asked shape least most entry = record { shape = shape; least = least; most = most; entry = entry }

-- the table: of each field its number, the characters of its body, its least and its greatest length, and how it enters the text
unfoldable pub table : List (ℕ × Listed)
table =
    (0, asked (All Digits) 4 4 Whole)
    ∷ (2, asked (All Digits) 13 19 Counted)
    ∷ (3, asked (All Digits) 6 6 Whole)
    ∷ (4, asked (All Digits) 12 12 Whole)
    ∷ (7, asked (All Digits) 10 10 Whole)
    ∷ (11, asked (All Digits) 6 6 Whole)
    ∷ (18, asked (All Digits) 4 4 Whole)
    ∷ (25, asked (All Digits) 2 2 Whole)
    ∷ (28, asked CreditOrDebit 9 9 Whole)
    ∷ (32, asked (All Digits) 1 11 Counted)
    ∷ (33, asked (All Digits) 1 11 Counted)
    ∷ (38, asked (All LettersOrDigits) 6 6 Whole)
    ∷ (39, asked (All LettersOrDigits) 2 2 Whole)
    ∷ (41, asked (All Printable) 8 8 Whole)
    ∷ (42, asked (All Printable) 15 15 Whole)
    ∷ (90, asked (All Digits) 42 42 (First 20))
    ∷ []

-- what a table asks of a field number; any other field is unlisted
unfoldable pub rule_in : List (ℕ × Listed) → ℕ → Option Listed
rule_in [] n = None
rule_in (row ∷ rows) n = pick (eqb n row.0) (Some row.1) (rule_in rows n)

-- what is asked of a field number
unfoldable pub rule : ℕ → Option Listed
rule n = rule_in table n

-- the field number stands in the table
abbrev pub listed : ℕ → Bool
listed n = is_some (rule n)

-- the characters of a body are all of one kind, or C or D and then digits; 67 and 68 are C and D
unfoldable pub shaped : Shape → List ℕ → Bool
shaped (All kind) s = all (of_kind kind) s
shaped CreditOrDebit [] = false
shaped CreditOrDebit (x ∷ s) = both (between 67 68 x) (all digit s)

-- a listed field's body has the length and the characters that are asked
unfoldable pub formed : Option Listed → List ℕ → Bool
formed (Some r) s = both (between r.least r.most (length s)) (shaped r.shape s)
formed None s = true
