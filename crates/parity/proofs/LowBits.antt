-- Keys as bytes that agree but for low bits: as words they are the same keys of the cipher.
use borrow.Author.Tests.{eqb-true, eq-eqb}
use mathlib.Core.Bool.{true, ◌&&◌, and-eq-true_iff}
use mathlib.Core.List.{List}
use mathlib.Core.Logic.{by_cases}
use mathlib.Core.Path.{◌≡◌, sym, ap, ◌∙◌}
use Prim.Native.Nat.{ℕ, zero, suc, ◌+◌, ◌/◌, ◌<◌}
use native.Mathlib.Decide.{dec_lt}
use native.Mathlib.Omega.{arith}
use lib.Dec.{eqb}
use lib.ListN.{get_or, drop, get_or-map}
use lib.Seq.{get_or-drop}
use Rattle.lent.specs.Words.{left, right, from_base}
use Rattle.lent.proofs.Bases.{Digits, digits_drop}
use Rattle.cipher.specs.Keys.{same_bytes, same_key}
use Rattle.cipher.specs.Triple.{triple_encrypted}
use Rattle.cipher.proofs.Laws.{same_none, same_more, triple_encrypted_same}
use Rattle.parity.specs.Parity.{without_low_bits}

-- ---- byte by byte

module _ (s t : List ℕ) (hs : Digits 256 s) (ht : Digits 256 t) where
  last_and_rest : (n : ℕ) → same_bytes (suc n) (from_base 256 (suc n) s) (from_base 256 (suc n) t)
      ≡ (eqb (get_or s n 0 / 2) (get_or t n 0 / 2) && same_bytes n (from_base 256 n s) (from_base 256 n t))
  unfolding from_base
  last_and_rest n = same_more n (from_base 256 n s) (from_base 256 n t) (get_or s n 0) (get_or t n 0) (hs n) (ht n)

  pub each_byte : (n : ℕ) → same_bytes n (from_base 256 n s) (from_base 256 n t) ≡ true → (k : ℕ) → k < n → get_or s k 0 / 2 ≡ get_or t k 0 / 2
  each_byte zero e k h = omega arith
  each_byte (suc n) e k h =
      let p = (and-eq-true_iff _ _).0 (sym (last_and_rest n) ∙ e) in
      by_cases (dec_lt k n) (each_byte n p.1 k)
      (λ g. let i : k ≡ n = omega arith in rw i (eqb-true _ _ p.0))

  pub same_from_bytes : (n : ℕ) → ((k : ℕ) → k < n → get_or s k 0 / 2 ≡ get_or t k 0 / 2) → same_bytes n (from_base 256 n s) (from_base 256 n t) ≡ true
  same_from_bytes zero f = same_none _ _
  same_from_bytes (suc n) f =
      last_and_rest n ∙ (and-eq-true_iff _ _).1 (eq-eqb _ _ (f n (omega arith)), same_from_bytes n (λ k h. f k (omega arith)))

-- ---- two keys of sixteen bytes that agree but for low bits

module _ (key other : List ℕ) (bytes : Digits 256 key) (e : without_low_bits other ≡ without_low_bits key) where
  each : (k : ℕ) → get_or other k 0 / 2 ≡ get_or key k 0 / 2
  each k =
      let half : ℕ → ℕ = λ b. b / 2 in
      sym (get_or-map half other k 0) ∙ ap (λ (s : List ℕ). get_or s k 0) e ∙ get_or-map half key k 0

  other_bytes : Digits 256 other
  other_bytes k = omega (arith, each k, bytes k)

  same_left : same_key (left other) (left key) ≡ true
  same_left = same_from_bytes other key other_bytes bytes 8 (λ k h. each k)

  same_right : same_key (right other) (right key) ≡ true
  same_right =
      same_from_bytes (drop 8 other) (drop 8 key) (digits_drop 256 8 other other_bytes) (digits_drop 256 8 key bytes) 8
      (λ k h. rw (get_or-drop 8 other k 0, get_or-drop 8 key k 0) (each (8 + k)))

  -- triple DES under them is the same
  pub same_triple : (block : ℕ) → triple_encrypted (left other) (right other) block ≡ triple_encrypted (left key) (right key) block
  same_triple block = triple_encrypted_same (left other) (left key) (right other) (right key) block same_left same_right
