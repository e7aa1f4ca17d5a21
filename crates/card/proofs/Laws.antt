-- Laws on the parity of card keys (02, M-103): which key is the card key, and that the session key and the cryptograms do not notice.
use mathlib.Core.Bool.{true}
use mathlib.Core.List.{List}
use mathlib.Core.Logic.{◌↔◌}
use mathlib.Core.Path.{◌≡◌, refl, sym, ap, ◌∙◌, subst}
use Prim.Native.Nat.{ℕ}
use lib.Dec.{lit<}
use lib.ListN.{length, length-map}
use Rattle.lent.specs.Choice.{all}
use Rattle.lent.specs.Refusals.{size}
use Rattle.lent.specs.Result.{Result, done, refused, number, and_then}
use Rattle.lent.specs.Words.{byte}
use Rattle.lent.proofs.Bases.{Digits, to_bytes}
use Rattle.lent.proofs.Lists.{all_append, elements_below}
use Rattle.lent.proofs.Results.{same_done, require_done, then_done}
use Rattle.parity.specs.Parity.{odd_parity, adjusted, without_low_bits}
use Rattle.parity.proofs.Laws.{adjusted_has_parity, low_bits_alone, no_other}
use Rattle.parity.proofs.LowBits.{same_triple}
use Rattle.card.specs.DoubleKey.{double_size}
use Rattle.card.specs.Entries.{derivation_data, unadjusted_card_key, card_key, session_key, arqc, arpc}

-- ---- keys that agree but for low bits have the same session keys

pub session_same : (key other : List ℕ) → Digits 256 key → without_low_bits other ≡ without_low_bits key → (counter : ℕ)
    → session_key other counter ≡ session_key key counter
unfolding session_key
session_same key other d e counter =
    let n : length other ≡ length key = sym (length-map other _) ∙ ap length e ∙ length-map key _ in
    simp (n, same_triple key other d e)

-- ---- the card key

-- going on with an adjusted key where that makes no difference
then_same : (r : Result (List ℕ)) (f : List ℕ → Result (List ℕ)) → ((key : List ℕ) → r ≡ done key → f (adjusted key) ≡ f key)
    → and_then (and_then r (λ key. done (adjusted key))) f ≡ and_then r f
then_same (done key) f same = same key refl
then_same (refused why) f same = refl

-- the session key under a card key that may be refused
abbrev pub session_under : Result (List ℕ) → ℕ → Result (List ℕ)
session_under card counter = and_then card (λ key. session_key key counter)

module _ (master card : List ℕ) (sequence : ℕ) where
  -- it is refused as the unadjusted one
  pub same_number : number (card_key master card sequence) ≡ number (unadjusted_card_key master card sequence)
  unfolding card_key
  same_number = kept (unadjusted_card_key master card sequence)
    where
      kept : (r : Result (List ℕ)) → number (and_then r (λ key. done (adjusted key))) ≡ number r
      kept (done key) = refl
      kept (refused why) = refl

  module _ {key : List ℕ} (e : unadjusted_card_key master card sequence ≡ done key) where
    -- it is the one key with an odd number of ones in every byte that agrees with the unadjusted one but for low bits
    pub card_key_exactly : (other : List ℕ)
        → (card_key master card sequence ≡ done other) ↔ ((odd_parity other ≡ true) × (without_low_bits other ≡ without_low_bits key))
    unfolding card_key
    card_key_exactly other =
        let k : and_then (unadjusted_card_key master card sequence) (λ key. done (adjusted key)) ≡ done (adjusted key) = rw e in (
          λ f. let g = same_done (sym k ∙ f) in
              (subst (λ (s : List ℕ). odd_parity s ≡ true) g (adjusted_has_parity key), subst (λ (s : List ℕ). without_low_bits s ≡ without_low_bits key) g (low_bits_alone key)),
          λ p. k ∙ ap done (sym (no_other key other p.0 p.1)),
        )

    unadjusted_bytes : Digits 256 key
    unfolding unadjusted_card_key
    unadjusted_bytes =
        let y = then_done (derivation_data card sequence) _ key (require_done (double_size master) size _ key e).1 in
        elements_below 256 key (lit< tt) (subst (λ (s : List ℕ). all byte s ≡ true) (same_done y.2) (simp (all_append byte, to_bytes)))

  -- the session key under it is the one under the unadjusted one
  pub same_session_key : (counter : ℕ)
      → session_under (card_key master card sequence) counter ≡ session_under (unadjusted_card_key master card sequence) counter
  unfolding card_key
  same_session_key counter =
      then_same (unadjusted_card_key master card sequence) (λ key. session_key key counter)
      (λ key e. session_same key (adjusted key) (unadjusted_bytes e) (low_bits_alone key) counter)

  -- so are the ARQC and the ARPC
  pub same_arqc : (counter : ℕ) (cardData : List ℕ)
      → and_then (session_under (card_key master card sequence) counter) (λ key. arqc key cardData)
      ≡ and_then (session_under (unadjusted_card_key master card sequence) counter) (λ key. arqc key cardData)
  same_arqc counter cardData = ap (λ (r : Result (List ℕ)). and_then r (λ key. arqc key cardData)) (same_session_key counter)

  pub same_arpc : (counter : ℕ) (cryptogram code : List ℕ)
      → and_then (session_under (card_key master card sequence) counter) (λ key. arpc key cryptogram code)
      ≡ and_then (session_under (unadjusted_card_key master card sequence) counter) (λ key. arpc key cryptogram code)
  same_arpc counter cryptogram code = ap (λ (r : Result (List ℕ)). and_then r (λ key. arpc key cryptogram code)) (same_session_key counter)
