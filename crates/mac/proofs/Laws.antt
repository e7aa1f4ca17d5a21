-- Laws of the MACs: a message that is not refused has a MAC, which is that of its text, and messages that agree on the listed fields have the same.
use borrow.Author.Tests.{eq-eqb, le-leb, lt-ltb}
use mathlib.Core.Path.{◌≡◌, refl, sym, ap}
use mathlib.Core.Bool.{true}
use mathlib.Core.List.{List}
use Prim.Native.Nat.{ℕ, ◌≤◌}
use native.Mathlib.Omega.{arith}
use lib.Dec.{eqb, leb}
use lib.ListN.{length, take, drop, length-append}
use lib.Seq.{take-append_seam}
use Rattle.lent.specs.declared.refusals.Refusal.{Refusal}
use Rattle.lent.specs.Result.{Result, done, refused, and_then, lend, over}
use Rattle.lent.proofs.Laws.{cases, never}
use Rattle.lent.proofs.Results.{same_done, not_written}
use Rattle.cleaning.specs.Counts.{WritesText, counts_of}
use Rattle.cleaning.specs.declared.answers.Cleaned.{Cleaned}
use Rattle.cleaning.proofs.Answering.{text_writes}
use Rattle.message.specs.Records.{Field, message_fields}
use Rattle.message.specs.Text.{joined_text, message_text, Agree}
use Rattle.message.proofs.Laws.{same_text, never_empty, at_most_166}
use Rattle.mac.specs.declared.Mac.{Mac}
use Rattle.mac.specs.declared.TextMac.{TextMac}
use Rattle.mac.specs.Mac.{mac_of, cleaned_mac, message_mac, message_text_and_mac, lend_text, text_in, counted_mac, both_of, TextAndMac}

-- two accepted messages that agree on the listed fields have, under one key, the same MAC
pub same_mac : (key m k : List ℕ) (fs gs : List Field)
    → message_fields m ≡ done fs → message_fields k ≡ done gs → Agree fs gs → message_mac key m ≡ message_mac key k
unfolding message_mac
same_mac key m k fs gs e f a = rw (same_text m k fs gs e f a)

-- under a key of 8 bytes, a message's text has a MAC: it is never empty
pub text_and_mac : (key m : List ℕ) → length key ≡ 8
    → message_text_and_mac key m ≡ and_then (message_text m) (λ text. done (text, mac_of key text))
unfolding message_text_and_mac message_mac cleaned_mac
text_and_mac key m e = decided (message_text m) refl
  where
    decided : (r : Result (List ℕ)) → message_text m ≡ r → message_text_and_mac key m ≡ and_then r (λ text. done (text, mac_of key text))
    decided (done t) d = simp (eq-eqb _ _ e, d, lt-ltb _ _ (never_empty m t d))
    decided (refused why) d = simp (eq-eqb _ _ e, d)

-- 166 bytes are enough for a message's text, and its MAC is the one that is answered with it
both_fit : (key m : List ℕ)
    → (lend_text 166 (message_text_and_mac key m) ≡ message_text_and_mac key m) × (and_then (message_text_and_mac key m) (λ a. done a.1) ≡ message_mac key m)
unfolding message_text_and_mac message_mac cleaned_mac
both_fit key m = cases (eqb (length key) 8) (λ k. decided k (message_text m) refl) (λ n. (simp n, simp n))
  where
    decided : eqb (length key) 8 ≡ true → (r : Result (List ℕ)) → message_text m ≡ r
        → (lend_text 166 (message_text_and_mac key m) ≡ message_text_and_mac key m) × (and_then (message_text_and_mac key m) (λ a. done a.1) ≡ message_mac key m)
    decided k (done t) d =
        let some = lt-ltb _ _ (never_empty m t d) in
        (simp (k, d, some, le-leb _ _ (at_most_166 m t d)), simp (k, d, some))
    decided k (refused why) d = (simp (k, d), simp (k, d))

-- a MAC with what was thrown away, and its refusal
pub counted_done : (answer raw : Result (List ℕ)) {m : Mac} → done m ≡ counted_mac answer raw → (answer ≡ done m.value) × (m.counts ≡ counts_of raw)
counted_done answer raw {m} e = decided answer e
  where
    decided : (r : Result (List ℕ)) → done m ≡ counted_mac r raw → (r ≡ done m.value) × (m.counts ≡ counts_of raw)
    decided (done v) h = let same = same_done h in (ap (λ (x : Mac). done x.value) (sym same), ap (λ (x : Mac). x.counts) same)
    decided (refused why) h = never (cc)

pub counted_refused : (answer raw : Result (List ℕ)) {why : Refusal} → refused why ≡ counted_mac answer raw → answer ≡ refused why
counted_refused answer raw {why} e = decided answer e
  where
    decided : (r : Result (List ℕ)) → refused why ≡ counted_mac r raw → r ≡ refused why
    decided (done v) h = never (cc)
    decided (refused other) h = cc

-- a MAC without the text that was written
abbrev pub mac_alone : TextMac → Mac
mac_alone t = record { value = t.mac; counts = t.text.counts }

-- what was written into 166 bytes, or the refusal
module _ (key m : List ℕ) {before after : List ℕ} (l : length before ≡ 166) where
  -- the MAC alone, with what was thrown away
  pub alone : {r : Result TextMac} → TextAndMac (message_text_and_mac key m) (joined_text m) before r after
      → and_then r (λ t. done (mac_alone t)) ≡ counted_mac (message_mac key m) (joined_text m)
  alone {r} w =
      let e = both_fit key m in
      rw (w.value, l, e.0, ← e.1) (decided (message_text_and_mac key m))
    where
      decided : (a : Result (List ℕ × List ℕ))
          → and_then (and_then a (λ b. done (both_of (joined_text m) b))) (λ t. done (mac_alone t))
          ≡ counted_mac (and_then a (λ b. done b.1)) (joined_text m)
      decided (done b) = refl
      decided (refused why) = refl

  -- the text, the MAC and what was thrown away
  pub both_done : {t : TextMac} → TextAndMac (message_text_and_mac key m) (joined_text m) before (done t) after
      → (message_text_and_mac key m ≡ done (take t.text.length after, t.mac)) × (t.text.length ≤ length after) × (t.text.counts ≡ counts_of (joined_text m))
  both_done {t} w = let e = (both_fit key m).0 in decided (message_text_and_mac key m) (rw (l, e) at w.value) (rw (l, e) at w.memory)
    where
      decided : (a : Result (List ℕ × List ℕ)) → done t ≡ and_then a (λ b. done (both_of (joined_text m) b)) → after ≡ over (text_in a) before
          → (a ≡ done (take t.text.length after, t.mac)) × (t.text.length ≤ length after) × (t.text.counts ≡ counts_of (joined_text m))
      decided (done (text, v)) en ea =
          let h = same_done en in
          rw (h, ea) (rw (take-append_seam text (drop (length text) before)), rw length-append (omega arith), refl)
      decided (refused why) en ea = never (cc)

  pub both_refused : {why : Refusal} → TextAndMac (message_text_and_mac key m) (joined_text m) before (refused why) after → message_text_and_mac key m ≡ refused why
  both_refused {why} w = decided (message_text_and_mac key m) (rw (l, (both_fit key m).0) at w.value)
    where
      decided : (a : Result (List ℕ × List ℕ)) → refused why ≡ and_then a (λ b. done (both_of (joined_text m) b)) → a ≡ refused why
      decided (done b) e = never (cc)
      decided (refused other) e = cc

-- ---- what is left in lent memory

-- a refusal leaves lent memory as it was
pub refused_both : {answer : Result (List ℕ × List ℕ)} {raw : Result (List ℕ)} {before : List ℕ} {why : Refusal}
    → lend_text (length before) answer ≡ refused why → TextAndMac answer raw before (refused why) before
refused_both e = record { value = rw e; memory = rw e }

-- a text that was lent, with its MAC
lent_is : (key : List ℕ) (room : ℕ) (r : Result (List ℕ))
    → lend_text room (and_then r (λ text. done (text, mac_of key text))) ≡ and_then (lend room r) (λ text. done (text, mac_of key text))
lent_is key room (done t) = cases (leb (length t) room) (λ h. simp h) (λ h. simp h)
lent_is key room (refused why) = refl

module _ (key m : List ℕ) (long : length key ≡ 8) where
  lent_both : (room : ℕ) → lend_text room (message_text_and_mac key m) ≡ and_then (lend room (message_text m)) (λ text. done (text, mac_of key text))
  lent_both room = rw (text_and_mac key m long) (lent_is key room (message_text m))

  -- the text was refused, or had no room
  pub text_refused : {before after : List ℕ} {why : Refusal} → WritesText (message_text m) (joined_text m) before (refused why) after
      → TextAndMac (message_text_and_mac key m) (joined_text m) before (refused why) after
  text_refused {before} w = let k = not_written (text_writes w) in rw k.1 (refused_both (rw (lent_both (length before), k.0)))

  -- the text was written
  pub text_written : {before after : List ℕ} {c : Cleaned} {val : List ℕ} → WritesText (message_text m) (joined_text m) before (done c) after → val ≡ mac_of key (take c.length after)
      → TextAndMac (message_text_and_mac key m) (joined_text m) before (done (record { text = c; mac = val })) after
  text_written {before} {after} {c} {val} w em = decided (lend (length before) (message_text m)) refl
    where
      decided : (l : Result (List ℕ)) → lend (length before) (message_text m) ≡ l
          → TextAndMac (message_text_and_mac key m) (joined_text m) before (done (record { text = c; mac = val })) after
      decided (done v) e =
          let h = same_done (rw e at w.value) in
          let ea = rw e at w.memory in
          rw (em, h, ea, take-append_seam v (drop (length v) before)) (record { value = rw (lent_both (length before), e); memory = rw (lent_both (length before), e) })
      decided (refused why) e = let k = rw e at w.value in never (cc)
