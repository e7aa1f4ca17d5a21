use borrow.Author.Tests.{eq-eqb, ne_eqb}
use mathlib.Core.Path.{◌≡◌, ap, sym, ◌∙◌}
use mathlib.Core.Bool.{Bool, true, false, not}
use mathlib.Core.List.{List, [], ◌∷◌, ◌++◌, append_assoc, append-nil}
use Prim.Native.Nat.{ℕ, ◌+◌, ◌-◌, ◌<◌, ◌≤◌}
use native.Mathlib.Omega.{arith}
use lib.Dec.{eqb}
use lib.ListN.{length, get_or, drop, length-append, drop_of_length-le}
use Rattle.lent.specs.Characters.{capitalized}
use Rattle.lent.proofs.Laws.{never, drop_next}
use Rattle.cleaning.specs.Cleaning.{cleaned, kept}
use Rattle.cleaning.specs.Counts.{dropped_from, spaces_out_of}
use Rattle.cleaning.proofs.Pass.{space_if, at_most_one, pass, cleaned_pass, pass_space, pass_kept, pass_dropped, space_kept}
use Rattle.cleaning.proofs.Counting.{nothing_dropped, none_dropped, one_dropped, sizes}
use Rattle.cleaning.proofs.CleanText.of.Invariants.{Turn}
use Rattle.cleaning.proofs.CleanText.of.Goals as goal
use Rattle.cleaning.proofs.CleanText.of.Goals.{in-32, in_default, then-owed, else-owed, in_default-2}

-- a turn at the next character of the text
module _ {text written : List ℕ} {d : ℕ} {owed : Bool} {i : ℕ} (t : Turn text written d owed i) (h : i < length text) where
  next : drop i text ≡ get_or text i 0 ∷ drop (i + 1) text
  next = drop_next text i h

  turn_space : capitalized (get_or text i 0) ≡ 32 → Turn text written d (not (eqb (length written) 0)) (i + 1)
  turn_space e =
      record {
        rest = ap (λ (s : List ℕ). written ++ s) (sym (ap (pass (not (eqb (length written) 0)) owed) next ∙ pass_space _ _ _ _ e)) ∙ t.rest;
        dropped = omega (arith, t.dropped, ap dropped_from next, none_dropped _ (drop (i + 1) text) (space_kept _ (eq-eqb _ _ e)));
        few = omega (arith, t.few);
        not_ahead = room written t.not_ahead;
      }
    where
      room : (w : List ℕ) → length w + length (space_if owed) ≤ i → length w + length (space_if (not (eqb (length w) 0))) ≤ i + 1
      room [] h = omega arith
      room (x ∷ w) h = omega (arith, at_most_one (not (eqb (length (x ∷ w)) 0)))

  module _ (y : ℕ) (e : y ≡ capitalized (get_or text i 0)) where
    turn_kept : (y ≡ 32 → ⊥) → kept y ≡ true → Turn text (written ++ space_if owed ++ (y ∷ [])) d false (i + 1)
    turn_kept n k =
        record {
          rest =
              rw (some (written ++ space_if owed) y)
              (simp append_assoc
              (rw e
              (ap (λ (s : List ℕ). written ++ s)
              (sym (ap (pass (not (eqb (length written) 0)) owed) next ∙ pass_kept (get_or text i 0) _ _ _ (rw e at n) (rw e at k)))
              ∙ t.rest)));
          dropped = omega (arith, t.dropped, ap dropped_from next, none_dropped _ (drop (i + 1) text) (rw e at k));
          few = omega (arith, t.few);
          not_ahead = simp length-append (omega (arith, t.not_ahead));
        }
      where
        some : (w : List ℕ) (z : ℕ) → eqb (length (w ++ (z ∷ []))) 0 ≡ false
        some w z = ne_eqb _ _ (λ none. omega (arith, length-append w (z ∷ [])))

    turn_dropped : kept y ≡ false → Turn text written (d + 1) owed (i + 1)
    turn_dropped k =
        let x = get_or text i 0 in
        let goes : kept (capitalized x) ≡ false = rw e at k in
        let n : capitalized x ≡ 32 → ⊥ = λ z. let u = space_kept (capitalized x) (eq-eqb _ _ z) in never (cc) in
        record {
          rest = ap (λ (s : List ℕ). written ++ s) (sym (ap (pass (not (eqb (length written) 0)) owed) next ∙ pass_dropped x _ _ _ n goes)) ∙ t.rest;
          dropped = omega (arith, t.dropped, ap dropped_from next, one_dropped x (drop (i + 1) text) goes);
          few = omega (arith, t.few);
          not_ahead = omega (arith, t.not_ahead);
        }

pub loop-x-init : goal.loop-x-init
loop-x-init c =
    let none = c.new-written.ensures in
    rw none (record { rest = sym (cleaned_pass _); dropped = omega arith; few = omega arith; not_ahead = omega arith })

pub loop-x-preserved : goal.loop-x-preserved
loop-x-preserved c =
    let t = c.loop-x.invariant in
    let h : c.loop-x.x-index < length c.args.text.now = omega arith in
    elim c.match-capitalized.branch [
      | in-32 w ↦ rw (w.owed-is, w.is_empty-owed.ensures, w.dropped-is, w.written-is) (turn_space t h (sym c.capitalized.ensures ∙ w.in-32.is))
      | in_default w ↦
          let n : c.capitalized.result ≡ 32 → ⊥ = λ z. omega arith in
          let k = turn_kept t h _ c.capitalized.ensures n (sym w.kept.ensures ∙ w.if-kept.true) in
          rw (w.owed-is, w.dropped-is, w.written-is, w.push-in_default.ensures.items)
          (elim w.if-owed.branch [
            | then-owed v ↦ rw (v.written-is, v.push.ensures.items) (rw v.if-owed.true at k)
            | else-owed v ↦ rw v.written-is (rw (v.if-owed.false, append-nil) at k)
          ])
      | in_default-2 w ↦ rw (w.owed-is, w.dropped-is, w.written-is) (turn_dropped t h _ c.capitalized.ensures (sym w.kept.ensures ∙ w.if-kept.false))
    ]

-- where no byte is left
module _ {text written : List ℕ} {d : ℕ} {owed : Bool} {i : ℕ} (t : Turn text written d owed i) (h : length text ≤ i) where
  all_written : written ≡ cleaned text
  unfolding pass
  all_written = rw (drop_of_length-le text {i = i} h, append-nil) at t.rest

  all_dropped : d ≡ dropped_from text
  all_dropped = omega (arith, t.dropped, ap dropped_from (drop_of_length-le text {i = i} h), nothing_dropped)

  others : length text ≡ length written + d + spaces_out_of text
  others = omega (arith, sizes text, ap length all_written, all_dropped)

pub overflow_sub-spaces-2 : goal.overflow_sub-spaces-2
overflow_sub-spaces-2 c = omega (arith, others c.loop-x.invariant (omega arith))

pub returns : goal.returns
returns c =
    let t = c.loop-x.invariant in
    let h : length c.args.text.now ≤ c.loop-x.x-index = omega arith in
    let s : length c.args.text.now - c.len.result - c.loop-x.dropped ≡ spaces_out_of c.args.text.now = omega (arith, others t h) in
    record { text = all_written t h; counts = rw (s, all_dropped t h) }
