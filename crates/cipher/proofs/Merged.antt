-- The merged words of the rounds: E of P of what the S-boxes give is the exclusive-or of eight words, one from each table.
use mathlib.Core.List.{List, [], ◌∷◌}
use mathlib.Core.Path.{◌≡◌, refl, sym, ap, ◌∙◌}
use Prim.Native.Nat.{ℕ, zero, suc, ◌+◌, ◌*◌, ◌/◌, ◌%◌, ◌^◌, ◌<◌}
use native.Mathlib.Nat.{mod-lt, pow-suc, pow-succ', suc-mul}
use native.Mathlib.Omega.{arith}
use lib.Arith.{digits_lt}
use lib.Bits.{bit_xor, xor_shifted, xor_zero_l, xor_zero_r}
use lib.Dec.{when, eqb, eqb→eq, lit<}
use lib.ListN.{length, get_or}
use lib.Pow.{pow-add}
use Rattle.std.specs.Int.Bits.{xor_assoc}
use Rattle.cipher.specs.Bits.{number_in, permuted}
use Rattle.cipher.specs.Private.{in_range, SBox, LeadsTo}
use Rattle.cipher.specs.Rounds.{row, column, s_box, substituted, round_function, rounds, rounded}
use Rattle.cipher.specs.Tables.{expansion, round_permutation, s1, s2, s3, s4, s5, s6, s7, s8}
use Rattle.cipher.proofs.Feistel.{half_lt}
use Rattle.cipher.proofs.Linear.{Linear, after, selection, at_zero}
use Rattle.cipher.proofs.Range.{entry_range, passed}
use Rattle.cipher.proofs.Tabled.{Tabled, entry, remaining}
use Rattle.merged.specs.RoundWords.{box1, box2, box3, box4, box5, box6, box7, box8}
use Rattle.merged.specs.Words as Words

-- E after P
unfoldable spread : ℕ → ℕ
spread x = permuted 32 expansion (permuted 32 round_permutation x)

spread_keeps : Linear spread
unfolding spread
spread_keeps = after (selection 32 expansion) (selection 32 round_permutation)

-- ---- the S-boxes give four bits each

-- each is an S-box
unfoldable pub Boxes : List (List ℕ) → Type 0
Boxes [] = Unit {0}
Boxes (box ∷ boxes) = SBox box × Boxes boxes

pub four_bits : (box : List ℕ) → SBox box → (six : ℕ) → six < 64 → s_box box six < 16
unfolding s_box row column
four_bits box s six h =
    let r = entry_range 0 15 box s.entries ((six / 32 * 2 + six % 2) * 16 + six / 2 % 16) (omega (arith, s.size)) in
    omega arith

-- what the boxes give for six bits of x each
unfoldable pub fours : List (List ℕ) → ℕ → List ℕ
fours [] x = []
fours (box ∷ boxes) x = s_box box (x / 64 ^ length boxes % 64) ∷ fours boxes x

pub length_fours : (boxes : List (List ℕ)) (x : ℕ) → length (fours boxes x) ≡ length boxes
unfolding fours
length_fours [] x = refl
length_fours (box ∷ boxes) x = ap suc (length_fours boxes x)

pub sixteen : (n : ℕ) → 16 ^ n ≡ 2 ^ (n * 4)
sixteen zero = refl
sixteen (suc n) = rw (pow-suc 16 n, sixteen n, suc-mul n 4, pow-add 2 (n * 4) 4)

pub fours_lt : (boxes : List (List ℕ)) → Boxes boxes → (x : ℕ) → number_in 16 (fours boxes x) < 16 ^ length boxes
unfolding Boxes fours
fours_lt [] b x = lit< tt
fours_lt (box ∷ boxes) b x =
    rw (length_fours boxes x, pow-succ' 16 (length boxes)) (digits_lt (four_bits box b.0 _ (mod-lt _ (lit< tt))) (fours_lt boxes b.1 x))

-- ---- the words

-- for each box and each six bits, the table has E of P of the four bits at their place: a test that computes
unfoldable Agree : List (List ℕ) → List (List ℕ) → Type 0
Agree [] [] = Unit {0}
Agree [] (table ∷ tables) = ⊥
Agree (box ∷ boxes) [] = ⊥
Agree (box ∷ boxes) (table ∷ tables) =
    when (eqb (length table) 64) (when (eqb (length boxes) (length tables))
    (Tabled (λ six. spread (s_box box six * 16 ^ length tables)) 0 table (Agree boxes tables)))

-- the first box's four bits, and those of the others
split_first : (box : List ℕ) (boxes : List (List ℕ)) → SBox box → Boxes boxes → (x : ℕ) → let n = length boxes in
    spread (number_in 16 (fours (box ∷ boxes) x))
    ≡ bit_xor (spread (s_box box (x / 64 ^ n % 64) * 16 ^ n)) (spread (number_in 16 (fours boxes x)))
unfolding fours
split_first box boxes s b x =
    let n = length boxes in
    let h = rw (sixteen n) at (fours_lt boxes b x) in
    rw (length_fours boxes x, sixteen n, ← xor_shifted (s_box box (x / 64 ^ n % 64)) (n * 4) _ h) (spread_keeps.of _ _)

read : (boxes tables : List (List ℕ)) → Boxes boxes → Agree boxes tables → (x y : ℕ)
    → bit_xor y (spread (number_in 16 (fours boxes x))) ≡ Words.words tables x y
unfolding Boxes fours Agree Words.words
read [] [] b t x y = ap (bit_xor y) (at_zero spread_keeps) ∙ xor_zero_r y
read [] (table ∷ tables) b t x y = absurd t
read (box ∷ boxes) [] b t x y = absurd t
read (box ∷ boxes) (table ∷ tables) b t x y =
    let size = passed (eqb (length table) 64) t in
    let same = passed (eqb (length boxes) (length tables)) size.1 in
    let n = length tables in
    let six = x / 64 ^ n % 64 in
    let f : ℕ → ℕ = λ six. spread (s_box box six * 16 ^ n) in
    let fits : six < length table = rw (eqb→eq (length table) 64 size.0) (mod-lt _ (lit< tt)) in
    let word = entry f table (Agree boxes tables) same.1 six fits in
    let first : spread (number_in 16 (fours (box ∷ boxes) x)) ≡ bit_xor (f six) (spread (number_in 16 (fours boxes x))) =
    rw (← eqb→eq (length boxes) n same.0) (split_first box boxes b.0 b.1 x) in
    ap (bit_xor y) first
    ∙ sym (xor_assoc y _ _)
    ∙ ap (λ (w : ℕ). bit_xor (bit_xor y w) (spread (number_in 16 (fours boxes x)))) (sym word)
    ∙ read boxes tables b.1 (remaining f 0 table (Agree boxes tables) same.1) x (bit_xor y (get_or table six 0))

-- ---- all of them

-- the S-boxes, in order
abbrev pub s_boxes : List (List ℕ)
s_boxes = s1 ∷ s2 ∷ s3 ∷ s4 ∷ s5 ∷ s6 ∷ s7 ∷ s8 ∷ []

box : {table : List ℕ} → in_range 0 15 table → length table ≡ 64 → SBox table
box t s = record { entries = t; size = s }

pub all_boxes : Boxes s_boxes
unfolding Boxes
all_boxes = (box tt refl, (box tt refl, (box tt refl, (box tt refl, (box tt refl, (box tt refl, (box tt refl, (box tt refl, tt))))))))

-- the eight tables agree with the tables of FIPS 46-3
all_agree : Agree s_boxes Words.boxes
unfolding Agree Tabled spread permuted s_box row column box1 box2 box3 box4 box5 box6 box7 box8
all_agree = tt

pub merged_words : (x : ℕ) → Words.substituted x ≡ permuted 32 expansion (permuted 32 round_permutation (substituted x))
unfolding Words.substituted fours spread
merged_words x = sym (read s_boxes Words.boxes all_boxes all_agree x 0) ∙ xor_zero_l _

-- ---- a round on halves that stand expanded

pub one_round : {whole key left right : ℕ} {keys : List ℕ} → LeadsTo whole (key ∷ keys) left right
    → LeadsTo whole keys right (bit_xor left (Words.substituted (bit_xor right key)))
unfolding rounds round_function
one_round {key = key} t =
    record {
      l = t.r;
      r = bit_xor t.l (round_function t.r key);
      l_fits = t.r_fits;
      r_fits = half_lt t.l t.r key t.l_fits;
      left_expanded = t.right_expanded;
      right_expanded = rw (t.left_expanded, t.right_expanded, merged_words) (sym ((selection 32 expansion).of _ _));
      leads = t.leads;
    }

-- the halves of x, expanded
pub halved : (keys : List ℕ) (x : ℕ) {left right : ℕ} → x < 2 ^ 64 → left ≡ permuted 32 expansion (x / 2 ^ 32)
    → right ≡ permuted 32 expansion (x % 2 ^ 32) → LeadsTo (rounded keys x) keys left right
unfolding rounded
halved keys x h el er =
    record {
      l = x / 2 ^ 32;
      r = x % 2 ^ 32;
      l_fits = omega arith;
      r_fits = omega arith;
      left_expanded = el;
      right_expanded = er;
      leads = refl;
    }

-- of zeros, zeros
pub nothing : (keys : List ℕ) → LeadsTo (rounded keys 0) keys 0 0
nothing keys = let e = sym (at_zero (selection 32 expansion)) in halved keys 0 (lit< tt) e e

-- two rounds from nothing
pub two_rounds : (x y : ℕ) → rounded (x ∷ y ∷ []) 0 ≡ round_function (round_function 0 x) y * 2 ^ 32 + round_function 0 x
unfolding rounds rounded
two_rounds x y = rw (xor_zero_l (round_function 0 x), xor_zero_l (round_function (round_function 0 x) y))
