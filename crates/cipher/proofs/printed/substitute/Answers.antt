use mathlib.Core.List.{List, [], ◌∷◌}
use mathlib.Core.Path.{◌≡◌, refl, sym, ap, ◌∙◌}
use Prim.Native.Nat.{ℕ, zero, suc, ◌+◌, ◌-◌, ◌*◌, ◌/◌, ◌%◌, ◌^◌, ◌<◌}
use native.Mathlib.Nat.{add-zero, mul-le-mul_left, mul-one, pow-suc, suc-mul, zero-add}
use native.Mathlib.Numerals.{add-one}
use native.Mathlib.Omega.{arith}
use lib.ListN.{length, get_or, drop, drop_of_length-le, length-drop}
use lib.Pow.{pow-add, pow_pos}
use lib.Seq.{drop-cons}
use Rattle.cipher.specs.Bits.{number_in}
use Rattle.cipher.specs.Rounds.{s_box}
use Rattle.cipher.proofs.Merged.{fours, sixteen, length_fours, fours_lt, s_boxes, all_boxes}
use Rattle.cipher.proofs.printed.substitute.Goals as goal

sixty_four : (n : ℕ) → 64 ^ n ≡ 2 ^ (n * 6)
sixty_four zero = refl
sixty_four (suc n) = rw (pow-suc 64 n, sixty_four n, suc-mul n 6, pow-add 2 (n * 6) 6)

-- the four bits of the first box, and those of the others
opened : (box : List ℕ) (boxes : List (List ℕ)) (x : ℕ)
    → number_in 16 (fours (box ∷ boxes) x) ≡ s_box box (x / 64 ^ length boxes % 64) * 16 ^ length boxes + number_in 16 (fours boxes x)
unfolding fours
opened box boxes x = ap (λ n. s_box box (x / 64 ^ length boxes % 64) * 16 ^ n + number_in 16 (fours boxes x)) (length_fours boxes x)

-- those of the box i
opened_at : (boxes : List (List ℕ)) (x i : ℕ) → length boxes ≡ 8 → i < 8
    → number_in 16 (fours (drop i boxes) x)
    ≡ s_box (get_or boxes i []) (x / 2 ^ (42 - 6 * i) % 64) * 16 ^ (7 - i) + number_in 16 (fours (drop (suc i) boxes) x)
opened_at boxes x i size h =
    let left : length (drop (suc i) boxes) ≡ 7 - i = length-drop (suc i) boxes ∙ omega arith in
    let shift : 64 ^ (7 - i) ≡ 2 ^ (42 - 6 * i) = sixty_four (7 - i) ∙ ap (λ n. 2 ^ n) (omega arith) in
    ap (λ b. number_in 16 (fours b x)) (drop-cons boxes i [] (omega arith)) ∙ rw (← shift, ← left) (opened (get_or boxes i []) (drop (suc i) boxes) x)

-- y takes the four bits of one box more
joined : (y d rest n : ℕ) → (y * 16 + d) * 16 ^ n + rest ≡ y * 16 ^ suc n + (d * 16 ^ n + rest)
joined y d rest n = rw (pow-suc 16 n) (omega arith)

one_more : (boxes : List (List ℕ)) (x y d i whole : ℕ) → length boxes ≡ 8 → i < 8 → d ≡ s_box (get_or boxes i []) (x / 2 ^ (42 - 6 * i) % 64)
    → y * 16 ^ (8 - i) + number_in 16 (fours (drop i boxes) x) ≡ whole
    → (y * 16 + d) * 16 ^ (8 - suc i) + number_in 16 (fours (drop (suc i) boxes) x) ≡ whole
one_more boxes x y d i whole size h e inv =
    let now : 8 - i ≡ suc (7 - i) = omega arith in
    let then : 8 - suc i ≡ 7 - i = omega arith in
    let rest = number_in 16 (fours (drop (suc i) boxes) x) in
    rw (then, e) (joined y (s_box (get_or boxes i []) (x / 2 ^ (42 - 6 * i) % 64)) rest (7 - i)) ∙ rw (now, opened_at boxes x i size h) at inv

-- there is room for four bits more
room : (y rest i whole : ℕ) → i < 8 → y * 16 ^ (8 - i) + rest ≡ whole → whole < 16 ^ 8 → y * 16 < 16 ^ 8
room y rest i whole h e fits =
    let now : 8 - i ≡ suc (7 - i) = omega arith in
    let power : 16 ^ (8 - i) ≡ 2 ^ ((7 - i) * 4) * 16 = ap (λ n. 16 ^ n) now ∙ pow-suc 16 (7 - i) ∙ ap (λ n. n * 16) (sixteen (7 - i)) in
    let sum = rw power at e in
    omega (arith, sum, mul-le-mul_left y (pow_pos ((7 - i) * 4)))

pub loop-i-init : goal.loop-i-init
loop-i-init c = zero-add _

pub overflow_mul-y : goal.overflow_mul-y
overflow_mul-y c =
    let l = c.loop-i in
    omega (arith, room l.y _ l.i _ (omega arith) l.invariant (fours_lt s_boxes all_boxes c.args.x))

pub overflow_add-y : goal.overflow_add-y
overflow_add-y c =
    let l = c.loop-i in
    omega (arith, room l.y _ l.i _ (omega arith) l.invariant (fours_lt s_boxes all_boxes c.args.x), c.s_box.ensures.1)

pub loop-i-preserved : goal.loop-i-preserved
loop-i-preserved c =
    let l = c.loop-i in
    rw (add-one l.i) (one_more s_boxes c.args.x l.y c.s_box.result l.i _ refl (omega arith) c.s_box.ensures.0 l.invariant)

pub returns : goal.returns
unfolding fours
returns c =
    let l = c.loop-i in
    let none : 8 - l.i ≡ 0 = omega arith in
    let end = rw (none, drop_of_length-le s_boxes {i = l.i} (omega arith)) at l.invariant in
    sym (add-zero (l.y * 1) ∙ mul-one l.y) ∙ end
