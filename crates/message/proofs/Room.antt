-- How many bytes the listed fields take, each with a space before it: 167 if all are present and as long as they can be.
use borrow.Author.Tests.{le-ltb, lt-ltb, ltb-true, eqb-true}
use mathlib.Core.Path.{◌≡◌, refl}
use mathlib.Core.Bool.{true}
use mathlib.Core.List.{List, [], ◌∷◌}
use Prim.Native.Nat.{ℕ, ◌+◌, ◌≤◌, ◌<◌}
use native.Mathlib.Omega.{arith}
use lib.Dec.{eqb, ltb}
use lib.ListN.{length, length-take}
use Rattle.std.specs.Prelude.{Option, Some, None}
use Rattle.lent.specs.Choice.{pick, between}
use Rattle.lent.specs.Words.{to_base}
use Rattle.lent.proofs.Laws.{cases, both_true, between_true}
use Rattle.message.specs.declared.fields.Entry.{Entry}
use Rattle.message.specs.declared.fields.Entry.TheVariants.{Whole, Counted, First}
use Rattle.message.specs.declared.fields.Listed.{Listed}
use Rattle.message.specs.Fields.{table, rule_in, rule, shaped, formed}
use Rattle.message.specs.Records.{in_order}
use Rattle.message.specs.Text.{entered}
use Rattle.message.specs.Gathered.{spaced_field}
use Rattle.message.proofs.Reading.{lowest, lowest_is}

-- a body of at most `most` characters as it enters the text
entry_width : Entry → ℕ → ℕ
entry_width Whole most = most
entry_width Counted most = 2 + most
entry_width (First n) most = n

-- a field with a space before it
width : Listed → ℕ
width r = 1 + entry_width r.entry r.most

entered_short : (entry : Entry) (s : List ℕ) (most : ℕ) → length s ≤ most → length (entered entry s) ≤ entry_width entry most
unfolding entered entry_width to_base
entered_short Whole s most h = h
entered_short Counted s most h = omega arith
entered_short (First n) s most h = rw length-take (omega arith)

-- what is asked of a field, in bytes; an unlisted one takes none
width_of : Option Listed → ℕ
width_of (Some r) = width r
width_of None = 0

field_short : (r : Option Listed) (s : List ℕ) → formed r s ≡ true → length (spaced_field r s) ≤ width_of r
unfolding formed spaced_field width width_of
field_short (Some r) s f =
    let long = between_true r.least r.most (length s) (both_true (between r.least r.most (length s)) (shaped r.shape s) f).0 in
    omega (arith, entered_short r.entry s r.most long.1)
field_short None s f = omega arith

-- the rows of a table with numbers below n
room_in : List (ℕ × Listed) → ℕ → ℕ
room_in [] n = 0
room_in (row ∷ rows) n = pick (ltb row.0 n) (width row.1) 0 + room_in rows n

pick_mono : (k w a b : ℕ) → a ≤ b → pick (ltb k a) w 0 ≤ pick (ltb k b) w 0
pick_mono k w a b h =
    cases (ltb k a) (λ t. let z : k < a = ltb-true _ _ t in simp (t, lt-ltb k b (omega arith)) (omega arith)) (λ f. simp f (omega arith))

mono : (t : List (ℕ × Listed)) (a b : ℕ) → a ≤ b → room_in t a ≤ room_in t b
unfolding room_in
mono [] a b h = omega arith
mono (row ∷ t) a b h = omega (arith, mono t a b h, pick_mono row.0 (width row.1) a b h)

grow : (t : List (ℕ × Listed)) (a n : ℕ) → a ≤ n → room_in t a + width_of (rule_in t n) ≤ room_in t (n + 1)
unfolding room_in rule_in width_of
grow [] a n h = omega arith
grow (row ∷ t) a n h =
    cases (eqb n row.0)
    (λ e.
    let z : n ≡ row.0 = eqb-true _ _ e in
    simp (e, le-ltb row.0 a (omega arith), lt-ltb row.0 (n + 1) (omega arith)) (omega (arith, mono t a (n + 1) (omega arith))))
    (λ d. simp d (omega (arith, grow t a n h, pick_mono row.0 (width row.1) a (n + 1) (omega arith))))

-- all rows of a table
total : List (ℕ × Listed) → ℕ
total [] = 0
total (row ∷ rows) = width row.1 + total rows

in_all : (t : List (ℕ × Listed)) (n : ℕ) → room_in t n ≤ total t
unfolding room_in total
in_all [] n = omega arith
in_all (row ∷ t) n = cases (ltb row.0 n) (λ e. simp e (omega (arith, in_all t n))) (λ e. simp e (omega (arith, in_all t n)))

all_rows : total table ≡ 167
unfolding total table width entry_width
all_rows = refl

-- the listed fields that can stand up to the field before
pub room : Option ℕ → ℕ
room before = room_in table (lowest before)

-- they have room in 167 bytes
pub room_short : (before : Option ℕ) → room before ≤ 167
unfolding room
room_short before = omega (arith, in_all table (lowest before), all_rows)

-- a field takes no more than the room between it and the fields before it
pub room_grows : (before : Option ℕ) (n : ℕ) (s : List ℕ) → in_order before n ≡ true → formed (rule n) s ≡ true
    → room before + length (spaced_field (rule n) s) ≤ room (Some n)
unfolding room rule
room_grows before n s h f = omega (arith, grow table (lowest before) n (lowest_is before n h), field_short (rule_in table n) s f)
