-- Laws on a message's text that other crates cite: it has at most 166 characters, it is never empty, what cleaning threw away makes up its size, and it
-- is the same for messages that agree on the listed fields.
use borrow.Author.Tests.{eqb-true}
use mathlib.Core.Path.{◌≡◌, refl, sym, ap, ◌∙◌}
use mathlib.Core.Bool.{true}
use mathlib.Core.List.{List, [], ◌∷◌, ◌++◌, map}
use Prim.Native.Nat.{ℕ, ◌+◌, ◌<◌, ◌≤◌}
use native.Mathlib.Omega.{arith}
use lib.ListN.{length, drop, length-append, length-drop}
use Rattle.std.specs.Prelude.{Option, Some, None}
use Rattle.lent.specs.Choice.{between, all}
use Rattle.lent.specs.Characters.{digit}
use Rattle.lent.specs.declared.characters.Kind.TheVariants.{Digits}
use Rattle.lent.specs.Result.{done}
use Rattle.lent.proofs.Laws.{both_true, between_true}
use Rattle.lent.proofs.Results.{then_done, same_done}
use Rattle.cleaning.specs.Cleaning.{cleaned}
use Rattle.cleaning.specs.Counts.{dropped_from, spaces_out_of}
use Rattle.cleaning.proofs.Counting.{sizes}
use Rattle.cleaning.proofs.Laws.{cleaned_again, cleaned_short, cleaned_digit}
use Rattle.message.specs.declared.fields.Shape.TheVariants.{All}
use Rattle.message.specs.declared.fields.Entry.TheVariants.{Whole}
use Rattle.message.specs.Fields.{asked, table, rule_in, rule, shaped, formed}
use Rattle.message.specs.Records.{Field, message_fields}
use Rattle.message.specs.Text.{entered, shown_field, listed_only, joined, text_of, joined_text, message_text, Agree}
use Rattle.message.specs.Gathered.{space_before_each, spaced, gathered}
use Rattle.message.proofs.Room.{room, room_short, room_grows}
use Rattle.message.proofs.Joining.{joined_short, joined_gathered, text_joined}
use Rattle.message.proofs.Walking.{spaced_next}
use Rattle.message.proofs.Rising.{Rising, fields_rising}
use Rattle.message.proofs.Agreeing.{listed_same}

-- the fields that a done text comes from
fields_of : (m t : List ℕ) → message_text m ≡ done t → (fs : List Field) × (message_fields m ≡ done fs) × (text_of fs ≡ t)
unfolding message_text
fields_of m t e =
    let k = then_done (message_fields m) _ t e in
    (k.0, k.1, same_done k.2)

spaced_short : (fs : List Field) (before : Option ℕ) → Rising before fs → room before + length (spaced fs) ≤ 167
unfolding spaced space_before_each listed_only
spaced_short [] before r = omega (arith, room_short before)
spaced_short (f ∷ fs) before r =
    rw (spaced_next f fs, length-append)
    (omega (arith, room_grows before f.number f.body r.0 r.1, spaced_short fs (Some f.number) r.2))

-- a message's text has at most 166 characters
pub at_most_166 : (m t : List ℕ) → message_text m ≡ done t → length t ≤ 166
unfolding text_of spaced
at_most_166 m t e =
    let k = fields_of m t e in
    let ss = map shown_field (listed_only k.0) in
    omega (
      arith,
      ap length k.2,
      cleaned_short (joined ss),
      joined_short ss,
      spaced_short k.0 None (fields_rising m k.0 k.1).0,
    )

-- cleaning it changes nothing
pub text_cleaned : (m t : List ℕ) → message_text m ≡ done t → cleaned t ≡ t
unfolding text_of
text_cleaned m t e =
    let k = fields_of m t e in
    ap cleaned (sym k.2) ∙ cleaned_again (joined (map shown_field (listed_only k.0))) ∙ k.2

-- a text of digits that is not empty is not empty when it is cleaned, whatever is joined to it
digits_some : (s : List ℕ) (ss : List (List ℕ)) → all digit s ≡ true → 0 < length s → 0 < length (cleaned (joined (s ∷ ss)))
unfolding joined
digits_some [] ss d h = absurd (omega arith)
digits_some (x ∷ s) [] d h = cleaned_digit x s [] (both_true (digit x) _ d).0
digits_some (x ∷ s) (t ∷ ss) d h = cleaned_digit x (s ++ 32 ∷ joined (t ∷ ss)) [] (both_true (digit x) _ d).0

type_rule : rule 0 ≡ Some (asked (All Digits) 4 4 Whole)
unfolding table rule_in rule
type_rule = refl

-- the message type is in the text
type_some : (f : Field) (fs : List Field) → f.number ≡ 0 → formed (rule f.number) f.body ≡ true → 0 < length (text_of (f ∷ fs))
unfolding text_of listed_only formed shaped entered
type_some f fs z w =
    let s = f.body in
    let e : rule f.number ≡ Some (asked (All Digits) 4 4 Whole) = rw z type_rule in
    let b = both_true (between 4 4 (length s)) (all digit s) (rw e at w) in
    let long = between_true 4 4 (length s) b.0 in
    simp e (digits_some s (map shown_field (listed_only fs)) b.1 (omega arith))

-- an accepted message's text is not empty
pub never_empty : (m t : List ℕ) → message_text m ≡ done t → 0 < length t
never_empty m t e =
    let k = fields_of m t e in
    let r = fields_rising m k.0 k.1 in
    omega (arith, ap length k.2, some k.0 r.0 r.1)
  where
    some : (fs : List Field) → Rising None fs → 0 < length fs → 0 < length (text_of fs)
    some [] r h = absurd (omega arith)
    some (f ∷ fs) r h = type_some f fs (eqb-true f.number 0 r.0) r.1

-- so what is gathered has more than its first space
pub gathered_some : (m v : List ℕ) → gathered m ≡ done v → 1 < length v
gathered_some m v e =
    let t = cleaned (drop 1 v) in
    omega (arith, never_empty m t (text_joined m ∙ rw (joined_gathered m, e)), cleaned_short (drop 1 v), length-drop 1 v)

-- a message's text before cleaning has as many bytes as its text, with those that were dropped and the spaces that went out
pub message_sizes : (m j t : List ℕ) → joined_text m ≡ done j → message_text m ≡ done t → length j ≡ length t + dropped_from j + spaces_out_of j
message_sizes m j t d e =
    let same : cleaned j ≡ t = same_done (sym (text_joined m ∙ rw d) ∙ e) in
    rw (← same) (sizes j)

-- two accepted messages that agree on the listed fields have the same text
pub same_text : (m k : List ℕ) (fs gs : List Field) → message_fields m ≡ done fs → message_fields k ≡ done gs → Agree fs gs → message_text m ≡ message_text k
unfolding message_text text_of
same_text m k fs gs e f a =
    rw (e, f)
    (ap (λ (ls : List Field). done (cleaned (joined (map shown_field ls))))
    (listed_same fs gs (fields_rising m fs e).0 (fields_rising k gs f).0 a))
