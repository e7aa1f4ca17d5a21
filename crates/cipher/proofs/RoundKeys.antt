-- The round keys from windows of seven bits: each is put together from four windows of C and D.
use mathlib.Core.List.{List, [], ◌∷◌, map}
use mathlib.Core.Path.{◌≡◌, refl, sym, ap, ap₂, ◌∙◌}
use Prim.Native.Nat.{ℕ, ◌+◌, ◌-◌, ◌*◌, ◌/◌, ◌%◌, ◌^◌, ◌<◌, ◌≤◌}
use native.Mathlib.Nat.{mod-lt}
use native.Mathlib.Omega.{arith}
use lib.Bits.{bit_xor, xor_shifted}
use lib.Dec.{when, leb, leb→le, lit<}
use lib.ListN.{get_or}
use lib.Pow.{shr_lt}
use Rattle.cipher.specs.Bits.{permuted}
use Rattle.cipher.specs.Private.{in_range, seven, Windows, places, first_bits, second_bits, third_bits, fourth_bits, picked, from_windows}
use Rattle.cipher.specs.Schedule.{rotated_left, keys_from, round_keys}
use Rattle.cipher.specs.Tables.{left_shifts, permuted_choice1, permuted_choice2}
use Rattle.cipher.proofs.Linear.{Linear, itself, shr, low, shl, mask, sum, after, selection, agreeing, agree, remaining}
use Rattle.cipher.proofs.Permutation.{permuted_lt}
use Rattle.cipher.proofs.Range.{first, passed}
use Rattle.cipher.proofs.Windows.{four, four_keeps, four_sum, seven_lt, seven_of, seven_keeps, seven_of_half, chosen, window_chosen}

-- ---- a round key from four windows

-- seven bits of x from the place k, and as many from the place j, chosen
at_places : ℕ → ℕ → ℕ → ℕ
at_places k j x = chosen (x / 2 ^ k % 2 ^ 7) (x / 2 ^ j % 2 ^ 7)

at_places_keeps : (k j : ℕ) → Linear (at_places k j)
unfolding at_places chosen
at_places_keeps k j =
    let s = after (low 7) (shr k) in
    let t = after (low 7) (shr j) in
    after (selection 56 permuted_choice2) (sum (after (shl 28) (four_keeps s s s s)) (four_keeps t t t t))

all_places : ℕ → ℕ
all_places x = picked (at_places 49 21 x) (at_places 42 14 x) (at_places 35 7 x) (at_places 28 0 x)

all_places_keeps : Linear all_places
unfolding all_places picked
all_places_keeps =
    sum (sum (sum (after (mask first_bits) (at_places_keeps 49 21)) (after (mask second_bits) (at_places_keeps 42 14)))
    (after (mask third_bits) (at_places_keeps 35 7)))
    (after (mask fourth_bits) (at_places_keeps 28 0))

-- what is picked is PC-2: a test that computes
all_picked : (x : ℕ) → x < 2 ^ 56 → all_places x ≡ permuted 56 permuted_choice2 x
unfolding agreeing all_places picked at_places chosen four permuted
all_picked = agree Unit all_places_keeps (selection 56 permuted_choice2) 56 tt

eight : (a b c d e f g h : ℕ) → a < 128 → b < 128 → c < 128 → d < 128 → e < 128 → f < 128 → g < 128 → h < 128
    → picked (chosen a e) (chosen b f) (chosen c g) (chosen d h) ≡ permuted 56 permuted_choice2 (four a b c d * 2 ^ 28 + four e f g h)
unfolding all_places at_places
eight a b c d e f g h ha hb hc hd he hf hg hh =
    let x = (a * 2 ^ 21 + b * 2 ^ 14 + c * 2 ^ 7 + d) * 2 ^ 28 + (e * 2 ^ 21 + f * 2 ^ 14 + g * 2 ^ 7 + h) in
    let ea : x / 2 ^ 49 % 2 ^ 7 ≡ a = omega arith in
    let eb : x / 2 ^ 42 % 2 ^ 7 ≡ b = omega arith in
    let ec : x / 2 ^ 35 % 2 ^ 7 ≡ c = omega arith in
    let ed : x / 2 ^ 28 % 2 ^ 7 ≡ d = omega arith in
    let ee : x / 2 ^ 21 % 2 ^ 7 ≡ e = omega arith in
    let ef : x / 2 ^ 14 % 2 ^ 7 ≡ f = omega arith in
    let eg : x / 2 ^ 7 % 2 ^ 7 ≡ g = omega arith in
    let eh : x / 2 ^ 0 % 2 ^ 7 ≡ h = omega arith in
    rw (four_sum a b c d hb hc hd, four_sum e f g h hf hg hh) (rw (ea, eb, ec, ed, ee, ef, eg, eh) at (all_picked x (omega arith)))

-- a half put together from its windows, seven places apart from n on
unfoldable assembled : ℕ → ℕ → ℕ
assembled n half = four (seven_of (n % 28) half) (seven_of ((n + 7) % 28) half) (seven_of ((n + 14) % 28) half) (seven_of ((n + 21) % 28) half)

assembled_keeps : (n : ℕ) → Linear (assembled n)
unfolding assembled
assembled_keeps n = four_keeps (seven_keeps (n % 28)) (seven_keeps ((n + 7) % 28)) (seven_keeps ((n + 14) % 28)) (seven_keeps ((n + 21) % 28))

-- the round key of the halves put together
unfoldable key_at : ℕ → ℕ → ℕ
key_at halves n = permuted 56 permuted_choice2 (assembled n (halves / 2 ^ 28) * 2 ^ 28 + assembled n (halves % 2 ^ 28))

from_windows_key : (halves : ℕ) (words : List ℕ) → halves < 2 ^ 56 → Windows halves words → (n : ℕ) → n ≤ 28 → from_windows words n ≡ key_at halves n
unfolding from_windows key_at assembled
from_windows_key halves words h w n hn =
    let c = halves / 2 ^ 28 in
    let d = halves % 2 ^ 28 in
    let word : (m : ℕ) → m < 56 → get_or words m 0 ≡ chosen (seven c (m % 28)) (seven d (m % 28)) = λ m hm. w.at m hm ∙ window_chosen halves (m % 28) in
    let sc : (m : ℕ) → seven_of (m % 28) c ≡ seven c (m % 28) = λ m. seven_of_half (m % 28) c (omega arith) in
    let sd : (m : ℕ) → seven_of (m % 28) d ≡ seven d (m % 28) = λ m. seven_of_half (m % 28) d (omega arith) in
    rw (
      word n (omega arith),
      word (n + 7) (omega arith),
      word (n + 14) (omega arith),
      word (n + 21) (omega arith),
      sc n,
      sc (n + 7),
      sc (n + 14),
      sc (n + 21),
      sd n,
      sd (n + 7),
      sd (n + 14),
      sd (n + 21),
    )
    (eight (seven c (n % 28)) (seven c ((n + 7) % 28)) (seven c ((n + 14) % 28)) (seven c ((n + 21) % 28))
    (seven d (n % 28)) (seven d ((n + 7) % 28)) (seven d ((n + 14) % 28)) (seven d ((n + 21) % 28))
    (seven_lt _ _) (seven_lt _ _) (seven_lt _ _) (seven_lt _ _) (seven_lt _ _) (seven_lt _ _) (seven_lt _ _) (seven_lt _ _))

-- ---- rotations

-- with exclusive-or
unfoldable pub turn : ℕ → ℕ → ℕ
turn n half = bit_xor (half * 2 ^ n) (half / 2 ^ (28 - n)) % 2 ^ 28

pub turn_keeps : (n : ℕ) → Linear (turn n)
unfolding turn
turn_keeps n = after (low 28) (sum (shl n) (shr (28 - n)))

pub turn_lt : (n half : ℕ) → turn n half < 2 ^ 28
unfolding turn
turn_lt n half = mod-lt _ (lit< tt)

pub turn_rotates : (n half : ℕ) → n ≤ 28 → half < 2 ^ 28 → turn n half ≡ rotated_left n half
unfolding turn rotated_left
turn_rotates n half hn h =
    let e : n + (28 - n) ≡ 28 = omega arith in
    ap (λ (x : ℕ). x % 2 ^ 28) (xor_shifted half n (half / 2 ^ (28 - n)) (shr_lt n (28 - n) (rw e h)))

-- ---- all round keys

-- put together from its windows, a half is what the rotations before each round give, f being those before them: a test that computes
unfoldable Assembled : (ℕ → ℕ) → ℕ → List ℕ → Type 0
Assembled f n [] = Unit {0}
Assembled f n (m ∷ shifts) =
    when (leb m 28) (agreeing (assembled (n + m)) (λ x. turn m (f x)) 28 (Assembled (λ x. turn m (f x)) (n + m) shifts))

-- how many places before each round, all in all, from n on
unfoldable totals : ℕ → List ℕ → List ℕ
totals n [] = []
totals n (m ∷ shifts) = (n + m) ∷ totals (n + m) shifts

keys_assembled : (f : ℕ → ℕ) → Linear f → ((x : ℕ) → x < 2 ^ 28 → f x < 2 ^ 28) → (n : ℕ) (shifts : List ℕ) → Assembled f n shifts
    → (halves : ℕ) → halves < 2 ^ 56 → keys_from shifts (f (halves / 2 ^ 28)) (f (halves % 2 ^ 28)) ≡ map (key_at halves) (totals n shifts)
unfolding keys_from Assembled totals key_at
keys_assembled f hf b n [] t halves h = refl
keys_assembled f hf b n (m ∷ shifts) t halves h =
    let c = halves / 2 ^ 28 in
    let d = halves % 2 ^ 28 in
    let hc : c < 2 ^ 28 = omega arith in
    let hd : d < 2 ^ 28 = omega arith in
    let p = passed (leb m 28) t in
    let hm = leb→le m 28 p.0 in
    let g : ℕ → ℕ = λ x. turn m (f x) in
    let rest = Assembled g (n + m) shifts in
    let is = agree rest (assembled_keeps (n + m)) (after (turn_keeps m) hf) 28 p.1 in
    let tail = keys_assembled g (after (turn_keeps m) hf) (λ x hx. turn_lt m (f x)) (n + m) shifts (remaining (assembled (n + m)) g rest 28 p.1) halves h in
    ap₂ ◌∷◌
    (rw (← turn_rotates m (f c) hm (b c hc), ← turn_rotates m (f d) hm (b d hd), is c hc, is d hd))
    (rw (← turn_rotates m (f c) hm (b c hc), ← turn_rotates m (f d) hm (b d hd)) tail)

-- sixteen rounds
all_assembled : Assembled (λ x. x) 0 left_shifts
unfolding Assembled agreeing assembled seven_of turn four
all_assembled = tt

all_totals : totals 0 left_shifts ≡ places
unfolding totals
all_totals = refl

same_map : (f g : ℕ → ℕ) (l : List ℕ) → in_range 0 28 l → ((n : ℕ) → n ≤ 28 → f n ≡ g n) → map f l ≡ map g l
same_map f g [] t e = refl
same_map f g (n ∷ l) t e = let r = first 0 28 n l t in ap₂ ◌∷◌ (e n r.1.0) (same_map f g l r.1.1 e)

pub keys_from_windows : (key : ℕ) (words : List ℕ) → Windows (permuted 64 permuted_choice1 key) words → map (from_windows words) places ≡ round_keys key
unfolding round_keys
keys_from_windows key words w =
    let x = permuted 64 permuted_choice1 key in
    let h : x < 2 ^ 56 = permuted_lt 64 key permuted_choice1 in
    same_map (from_windows words) (key_at x) places tt (from_windows_key x words h w)
    ∙ ap (map (key_at x)) (sym all_totals)
    ∙ sym (keys_assembled (λ y. y) itself (λ y hy. hy) 0 left_shifts all_assembled x h)
