-- What is gathered is, without its first space, a message's text before it is cleaned.
use mathlib.Core.Path.{◌≡◌, refl, sym, ap}
use mathlib.Core.List.{List, [], ◌∷◌, ◌++◌, map, append-nil}
use Prim.Native.Nat.{ℕ, ◌-◌, ◌≤◌}
use native.Mathlib.Omega.{arith}
use lib.ListN.{length, drop}
use Rattle.lent.specs.Result.{Result, done, refused, and_then}
use Rattle.cleaning.specs.Cleaning.{cleaned}
use Rattle.message.specs.Records.{Field, message_fields}
use Rattle.message.specs.Text.{shown_field, listed_only, joined, joined_fields, text_of, joined_text, message_text}
use Rattle.message.specs.Gathered.{space_before_each, spaced, gathered}

spaces_joined : (s : List ℕ) (ss : List (List ℕ)) → space_before_each (s ∷ ss) ≡ 32 ∷ joined (s ∷ ss)
unfolding space_before_each joined
spaces_joined s [] = ap (λ (t : List ℕ). 32 ∷ t) (append-nil s)
spaces_joined s (t ∷ ss) = ap (λ (r : List ℕ). 32 ∷ (s ++ r)) (spaces_joined t ss)

-- joining takes a space less
pub joined_short : (ss : List (List ℕ)) → length (joined ss) ≤ length (space_before_each ss) - 1
unfolding joined space_before_each
joined_short [] = omega arith
joined_short (s ∷ ss) = omega (arith, ap length (spaces_joined s ss))

without_first : (ss : List (List ℕ)) → joined ss ≡ drop 1 (space_before_each ss)
unfolding joined space_before_each
without_first [] = refl
without_first (s ∷ ss) = sym (ap (drop 1) (spaces_joined s ss))

on_fields : (r : Result (List Field)) → and_then r (λ fs. done (joined_fields fs)) ≡ and_then (and_then r (λ fs. done (spaced fs))) (λ g. done (drop 1 g))
unfolding spaced
on_fields (done fs) = ap done (without_first (map shown_field (listed_only fs)))
on_fields (refused why) = refl

-- the text before cleaning is what is gathered without its first space
pub joined_gathered : (m : List ℕ) → joined_text m ≡ and_then (gathered m) (λ g. done (drop 1 g))
unfolding joined_text gathered
joined_gathered m = on_fields (message_fields m)

-- a message's text is its text before cleaning, cleaned
pub text_joined : (m : List ℕ) → message_text m ≡ and_then (joined_text m) (λ t. done (cleaned t))
unfolding message_text joined_text text_of
text_joined m = decided (message_fields m)
  where
    decided : (r : Result (List Field)) → and_then r (λ fs. done (text_of fs)) ≡ and_then (and_then r (λ fs. done (joined_fields fs))) (λ t. done (cleaned t))
    decided (done fs) = refl
    decided (refused why) = refl
