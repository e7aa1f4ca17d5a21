use mathlib.Core.List.{List, [], ◌∷◌, ◌++◌, append-nil}
use mathlib.Core.Path.{◌≡◌, refl, sym, ap, ap₂, ◌∙◌}
use Prim.Native.Nat.{ℕ, zero, suc, ◌*◌, ◌+◌, ◌/◌, ◌≤◌, min}
use native.Mathlib.Numerals.{add-one}
use native.Mathlib.Omega.{arith}
use lib.ListN.{length, get_or-append, drop, drop_of_length-le, length-append, length-drop}
use lib.Seq.{drop_at, drop-drop}
use Rattle.lent.specs.Words.{from_base, word}
use Rattle.cipher.proofs.Laws.{encrypted_with_round_keys}
use Rattle.chaining.specs.Chain.{blocks, chained_to, chained}
use Rattle.chaining.proofs.chained.Goals as goal

-- the first digits of a list are those of what stands in front
front : (n : ℕ) (s t : List ℕ) → n ≤ length s → from_base 256 n (s ++ t) ≡ from_base 256 n s
unfolding from_base
front zero s t h = refl
front (suc n) s t h = ap₂ (λ (x y : ℕ). x * 256 + y) (front n s t (omega arith)) (get_or-append s t 0 n h)

-- a block in front of the rest: the block stands for the word of both, and the rest begins eight bytes on
in_front : (s block rest : List ℕ) (n : ℕ) → drop n s ≡ block ++ rest → length block ≡ min 8 (length (block ++ rest))
    → (word block ≡ word (drop n s)) × (rest ≡ drop (n + 8) s)
in_front s block [] n e m =
    (ap word (sym (append-nil block) ∙ sym e), sym (drop_of_length-le s (omega (arith, ap length e, length-append block [], length-drop n s))))
in_front s block (x ∷ rest) n e m =
    let eight : length block ≡ 8 = omega (arith, length-append block (x ∷ rest)) in
    (sym (ap word e ∙ front 8 block (x ∷ rest) (omega arith)), sym (drop_at block (x ∷ rest) 8 eight) ∙ ap (drop 8) (sym e) ∙ drop-drop 8 n s)

pub loop-block-init : goal.loop-block-init
unfolding chained_to
loop-block-init c =
    let same = ap (λ i. i.rest.now) c.into_iter-block-iterator.ensures.into_iter_gives in
    record {
      size = cc (c.chunks-block-items.ensures.size);
      left = cc (c.chunks-block-items.ensures.rest);
      begun = omega arith;
      so_far = refl;
    }

pub loop-block-preserved : goal.loop-block-preserved
unfolding chained_to
loop-block-preserved c =
    let l = c.loop-block in
    let v = l.invariant in
    let h = c.in-Some.ensures.steps in
    let s = c.args.s.now in
    let n = length l.yielded in
    let here : drop (8 * n) s ≡ c.in-Some.block.now ++ c.next.new.self.rest.now = sym v.left ∙ h.1.0 in
    let size : length c.in-Some.block.now ≡ min 8 (length (c.in-Some.block.now ++ c.next.new.self.rest.now)) = rw (← h.1.0, ← v.size) h.1.1 in
    let parts = in_front s c.in-Some.block.now c.next.new.self.rest.now (8 * n) here size in
    let count : length (l.yielded ++ c.in-Some.block ∷ []) ≡ suc n = length-append l.yielded (c.in-Some.block ∷ []) ∙ add-one n in
    let further : 8 * n + 8 ≡ 8 * suc n = omega arith in
    let next = c.encrypt-h.ensures in
    record {
      size = h.0 ∙ v.size;
      left = rw (count, ← further) parts.1;
      begun = rw count (omega (arith, h.1.2, ap length v.left, length-drop (8 * n) s));
      so_far = rw (count, next, c.new-schedule.ensures, encrypted_with_round_keys, v.so_far, c.word_of.ensures, parts.0);
    }

pub returns : goal.returns
unfolding chained blocks
returns c =
    let v = c.loop-block.invariant in
    let s = c.args.s.now in
    let none : length s ≤ 8 * length c.loop-block.yielded = omega (arith, c.in-None.ensures.steps.1, ap length v.left, length-drop (8 * length c.loop-block.yielded) s) in
    let all : length c.loop-block.yielded ≡ (length s + 7) / 8 = omega (arith, v.begun) in
    rw all at v.so_far
