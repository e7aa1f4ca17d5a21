-- What 01 says of short inputs (The job and its edge), and that nothing stands on what comes after the longest message.
use borrow.Author.Tests.{le-leb, lt-leb, leb-true, leb-false}
use mathlib.Core.Path.{◌≡◌}
use mathlib.Core.List.{List, [], ◌∷◌, ◌++◌}
use Prim.Native.Nat.{ℕ, ◌<◌, ◌≤◌}
use native.Mathlib.Omega.{arith}
use lib.Dec.{eqb, leb}
use lib.ListN.{length, take, drop, length-drop, drop_of_length-le}
use lib.Seq.{take_all, length-take-le}
use Rattle.lent.specs.Refusals.{size, number_of}
use Rattle.lent.specs.declared.refusals.Refusal.{Refusal}
use Rattle.lent.specs.Result.{Result, done, refused}
use Rattle.lent.proofs.Laws.{cases, never}
use Rattle.keyentry.specs.Hexadecimal.{text_of}
use Rattle.message.specs.Records.{message_fields}
use Rattle.message.specs.Text.{joined_text, message_text}
use Rattle.mac.specs.Mac.{message_mac, message_text_and_mac, TextAndMac}
use Rattle.mac.specs.declared.TextMac.{TextMac}
use Rattle.mac.proofs.Laws.{both_done, both_refused}
use Rattle.messagemac.specs.Output.{line, decimal_in, decimal, refused_word, lines, answer, output}

pub short_answer : (input : List ℕ) → length input < 8 → answer input ≡ refused size
unfolding answer
short_answer input h = simp (lt-leb _ _ h)

pub whole_answer : (input : List ℕ) → 8 ≤ length input → answer input ≡ message_text_and_mac (take 8 input) (drop 8 input)
unfolding answer
whole_answer input h = simp (le-leb _ _ h)

-- what is written for a text and its MAC, and for a refusal
module _ (input : List ℕ) {before after : List ℕ} (l : length before ≡ 166) where
  pub output_done : {t : TextMac} → TextAndMac (answer input) (joined_text (drop 8 input)) before (done t) after
      → output input
      ≡ line (take t.text.length after) ++ line (text_of 65 t.mac) ++ line (decimal t.text.counts.dropped ++ 32 ∷ decimal t.text.counts.spaces)
  unfolding lines
  output_done {t} w =
      cases (leb 8 (length input))
      (λ g.
      let e = whole_answer input (leb-true _ _ g) in
      let k = both_done (take 8 input) (drop 8 input) l (rw e at w) in
      rw (e, k.0, k.2))
      (λ f. let k = rw (short_answer input (leb-false _ _ f)) at w.value in never (cc))

  pub output_refused : {why : Refusal} → TextAndMac (answer input) (joined_text (drop 8 input)) before (refused why) after
      → output input ≡ line (refused_word ++ decimal (number_of why))
  unfolding lines
  output_refused {why} w =
      cases (leb 8 (length input))
      (λ g.
      let e = whole_answer input (leb-true _ _ g) in
      rw (e, both_refused (take 8 input) (drop 8 input) l (rw e at w)))
      (λ f.
      let e = short_answer input (leb-false _ _ f) in
      let k : why ≡ size = same_refused (rw e at w.value) in
      rw (e, k))
    where
      same_refused : {a b : Refusal} → ◌≡◌ {A = Result TextMac} (refused a) (refused b) → a ≡ b
      same_refused h = cc

-- fewer than eight bytes give `refused 6`
pub fewer : (input : List ℕ) → length input < 8 → output input ≡ refused_word ++ 54 ∷ 10 ∷ []
unfolding lines decimal decimal_in
fewer input h = rw (short_answer input h)

-- eight bytes alone give `refused 1`
pub key_alone : (input : List ℕ) → length input ≡ 8 → output input ≡ refused_word ++ 49 ∷ 10 ∷ []
unfolding lines decimal decimal_in answer message_text_and_mac message_mac message_text message_fields
key_alone input e =
    let none : drop 8 input ≡ [] = drop_of_length-le input {i = 8} (omega arith) in
    simp (none, take_all 8 input (omega arith), e)

long_answer : (input : List ℕ) → 4104 < length input → answer input ≡ refused size
unfolding answer message_text_and_mac message_mac message_text message_fields
long_answer input h =
    let long : 4096 < length (drop 8 input) = rw length-drop (omega arith) in
    simp (le-leb 8 (length input) (omega arith), lt-leb _ _ long) (cases (eqb (length (take 8 input)) 8) (λ t. simp t) (λ f. simp f))

-- what stands after the 4,105th byte does not matter: 8 bytes of key and 4,097 of message are too long
pub read_enough : (input : List ℕ) → output (take 4105 input) ≡ output input
unfolding lines
read_enough input =
    cases (leb (length input) 4105) (λ t. rw (take_all 4105 input (leb-true _ _ t)))
    (λ f.
    let long : 4105 < length input = leb-false _ _ f in
    rw (long_answer (take 4105 input) (rw (length-take-le 4105 input (omega arith)) (omega arith)), long_answer input (omega arith)))
