-- Only contracts of private functions cite this: what is answered for the inputs that were read, and how many bytes of a line are held.
use Rattle.std.specs.Prelude.{List, [], ℕ, slice_index_or}
use Rattle.lent.specs.Result.{Result}
use Rattle.czg.specs.Calls.{answer_of, text_answer_of, text_of}
use Rattle.czg.specs.declared.inputs.Inputs.{Inputs}
use Rattle.czg.specs.declared.reading.Rest.{Rest}
use Rattle.czg.specs.declared.reading.Rest.TheVariants.{Held, Passed}
use Rattle.czg.specs.declared.requests.Entry.{Entry}
use Rattle.czg.specs.declared.requests.TextEntry.{TextEntry}

-- the bytes of an input
abbrev pub part : Inputs → ℕ → List ℕ
part i k = slice_index_or i.parts k []

-- the answer of an entry for the inputs
abbrev pub answer_for : Entry → Inputs → Result (List ℕ)
answer_for entry i = answer_of entry (part i 0) (part i 1) (part i 2) i.number

-- that of one that cleans a text
abbrev pub text_answer_for : TextEntry → Inputs → Result (List ℕ)
text_answer_for entry i = text_answer_of entry (part i 0) (part i 1)

-- and the text before cleaning
abbrev pub text_for : TextEntry → Inputs → Result (List ℕ)
text_for entry i = text_of entry (part i 0) (part i 1)

-- how many bytes are held
abbrev pub held : Rest → ℕ
held (Held count) = count
held Passed = 0
