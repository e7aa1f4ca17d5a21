-- Functions on words that keep exclusive-or. Two of them that agree on each power of two below 2 ^ n agree below 2 ^ n: what
-- permutations, shifts and masks do to a word is one test that computes.
use mathlib.Core.List.{List, [], ◌∷◌}
use mathlib.Core.Path.{◌≡◌, refl, sym, ap, ap₂, ◌∙◌}
use Prim.Native.Nat.{ℕ, zero, suc, ◌-◌, ◌*◌, ◌/◌, ◌%◌, ◌^◌, ◌<◌}
use native.Mathlib.Nat.{mod-lt, add_comm, add-zero, one-mul, zero-mul}
use native.Mathlib.Numerals.{add-one}
use native.Mathlib.Omega.{arith}
use lib.Arith.{bin_ind, lt-one}
use lib.Bits.{bit_and, bit_xor, and_mask, and_zero_r, and_shr, and_mod, xor_block, xor_comm, xor_mod, xor_self, xor_shifted, xor_shr}
use lib.Dec.{when, eqb, eqb→eq, lit<}
use lib.ListN.{length}
use lib.Pow.{pow_pos, shr_lt, split}
use Rattle.std.specs.Int.Bits.{xor_assoc}
use Rattle.cipher.specs.Bits.{bit, permuted}
use Rattle.cipher.proofs.Permutation.{permuted_cons, permuted_lt}
use Rattle.cipher.proofs.Range.{passed}

-- f of an exclusive-or is the exclusive-or of what f gives
pub record Linear (f : ℕ → ℕ) : Type 0 where
  pub of : (a b : ℕ) → f (bit_xor a b) ≡ bit_xor (f a) (f b)

-- ---- what keeps exclusive-or

pub itself : Linear (λ x. x)
itself = record { of = λ a b. refl }

pub shr : (k : ℕ) → Linear (λ x. x / 2 ^ k)
shr k = record { of = λ a b. xor_shr a b k }

pub low : (k : ℕ) → Linear (λ x. x % 2 ^ k)
low k = record { of = λ a b. xor_mod a b k }

pub shl : (k : ℕ) → Linear (λ x. x * 2 ^ k)
shl k = record { of = λ a b. simp add-zero at (sym (xor_block k a b 0 0 (pow_pos k) (pow_pos k))) }

-- numbers with the same half and the same last bit are the same
same : (x y : ℕ) → x / 2 ≡ y / 2 → x % 2 ≡ y % 2 → x ≡ y
same x y h o = omega arith

-- a mask takes a bit or leaves it
mask_bit : (z a b : ℕ) → z < 2 → bit_and (bit_xor a b) z ≡ bit_xor (bit_and a z) (bit_and b z)
mask_bit zero a b h = rw (and_zero_r a, and_zero_r b, and_zero_r (bit_xor a b))
mask_bit (suc zero) a b h = rw (and_mask a 1, and_mask b 1, and_mask (bit_xor a b) 1) (xor_mod a b 1)
mask_bit (suc (suc z)) a b h = omega arith

mask_keeps : (m a b : ℕ) → bit_and (bit_xor a b) m ≡ bit_xor (bit_and a m) (bit_and b m)
mask_keeps =
    bin_ind (λ (m : ℕ). (a b : ℕ) → bit_and (bit_xor a b) m ≡ bit_xor (bit_and a m) (bit_and b m))
    (λ a b. rw (and_zero_r a, and_zero_r b, and_zero_r (bit_xor a b)))
    (λ m ih a b. same _ _
    (rw (and_shr (bit_xor a b) m 1, xor_shr a b 1, xor_shr (bit_and a m) (bit_and b m) 1, and_shr a m 1, and_shr b m 1) (ih (a / 2) (b / 2)))
    (rw (and_mod (bit_xor a b) m 1, xor_mod a b 1, xor_mod (bit_and a m) (bit_and b m) 1, and_mod a m 1, and_mod b m 1)
    (mask_bit (m % 2) (a % 2) (b % 2) (mod-lt m (lit< tt)))))

pub mask : (m : ℕ) → Linear (λ x. bit_and x m)
mask m = record { of = mask_keeps m }

-- (a ⊕ b) ⊕ (c ⊕ d) is (a ⊕ c) ⊕ (b ⊕ d)
across : (a b c d : ℕ) → bit_xor (bit_xor a b) (bit_xor c d) ≡ bit_xor (bit_xor a c) (bit_xor b d)
across a b c d =
    xor_assoc a b (bit_xor c d)
    ∙ ap (bit_xor a) (sym (xor_assoc b c d) ∙ ap (λ (x : ℕ). bit_xor x d) (xor_comm b c) ∙ xor_assoc c b d)
    ∙ sym (xor_assoc a c (bit_xor b d))

pub sum : {f g : ℕ → ℕ} → Linear f → Linear g → Linear (λ x. bit_xor (f x) (g x))
sum {f} {g} hf hg = record { of = λ a b. ap₂ bit_xor (hf.of a b) (hg.of a b) ∙ across (f a) (f b) (g a) (g b) }

pub after : {f g : ℕ → ℕ} → Linear f → Linear g → Linear (λ x. f (g x))
after {f} {g} hf hg = record { of = λ a b. ap f (hg.of a b) ∙ hf.of (g a) (g b) }

-- a shift to the left in a word of 64 bits
pub left : (k : ℕ) → Linear (λ x. x * 2 ^ k % 2 ^ 64)
left k = after (low 64) (shl k)

bit_of : (w i a b : ℕ) → bit w (bit_xor a b) i ≡ bit_xor (bit w a i) (bit w b i)
bit_of w i = (after (low 1) (shr (w - i))).of

nothing_of : (w a b : ℕ) → permuted w [] (bit_xor a b) ≡ bit_xor (permuted w [] a) (permuted w [] b)
unfolding permuted
nothing_of w a b = sym (xor_self 0)

selection_of : (w : ℕ) (table : List ℕ) (a b : ℕ) → permuted w table (bit_xor a b) ≡ bit_xor (permuted w table a) (permuted w table b)
selection_of w [] a b = nothing_of w a b
selection_of w (i ∷ table) a b =
    rw (permuted_cons w (bit_xor a b) i table, permuted_cons w a i table, permuted_cons w b i table, bit_of w i a b, selection_of w table a b)
    (sym (xor_block (length table) _ _ _ _ (permuted_lt w a table) (permuted_lt w b table)))

pub selection : (w : ℕ) (table : List ℕ) → Linear (permuted w table)
selection w table = record { of = selection_of w table }

-- ---- two that agree on the powers of two

-- they agree on each power of two below 2 ^ n, and the rest holds: a test that computes
unfoldable pub agreeing : (ℕ → ℕ) → (ℕ → ℕ) → ℕ → Type 0 → Type 0
agreeing f g zero rest = rest
agreeing f g (suc n) rest = when (eqb (f (2 ^ n)) (g (2 ^ n))) (agreeing f g n rest)

pub at_zero : {f : ℕ → ℕ} → Linear f → f 0 ≡ 0
at_zero {f} h = h.of 0 0 ∙ xor_self (f 0)

-- where the high bit and the rest give the same, the word does
joined : {f g : ℕ → ℕ} → Linear f → Linear g → (n x : ℕ) → f (x / 2 ^ n * 2 ^ n) ≡ g (x / 2 ^ n * 2 ^ n)
    → f (x % 2 ^ n) ≡ g (x % 2 ^ n) → f x ≡ g x
joined {f} {g} hf hg n x eh el =
    let e : bit_xor (x / 2 ^ n * 2 ^ n) (x % 2 ^ n) ≡ x = xor_shifted (x / 2 ^ n) n (x % 2 ^ n) (mod-lt x (pow_pos n)) ∙ split x n in
    ap f (sym e) ∙ hf.of _ _ ∙ ap₂ bit_xor eh el ∙ sym (hg.of _ _) ∙ ap g e

-- the high bit is there or not
high_bit : {f g : ℕ → ℕ} → Linear f → Linear g → (n q : ℕ) → q < 2 → f (2 ^ n) ≡ g (2 ^ n) → f (q * 2 ^ n) ≡ g (q * 2 ^ n)
high_bit {f} {g} hf hg n zero h e = rw zero-mul (at_zero hf ∙ sym (at_zero hg))
high_bit {f} {g} hf hg n (suc zero) h e = rw one-mul e
high_bit hf hg n (suc (suc q)) h e = omega arith

pub agree : {f g : ℕ → ℕ} (rest : Type 0) → Linear f → Linear g → (n : ℕ) → agreeing f g n rest → (x : ℕ) → x < 2 ^ n → f x ≡ g x
unfolding agreeing
agree {f} {g} rest hf hg zero t x h = ap f (lt-one h) ∙ at_zero hf ∙ sym (ap g (lt-one h) ∙ at_zero hg)
agree {f} {g} rest hf hg (suc n) t x h =
    let p = passed (eqb (f (2 ^ n)) (g (2 ^ n))) t in
    joined hf hg n x (high_bit hf hg n (x / 2 ^ n) (shr_lt 1 n (rw (add_comm 1 n, add-one n) h)) (eqb→eq _ _ p.0))
    (agree rest hf hg n p.1 (x % 2 ^ n) (mod-lt x (pow_pos n)))

-- the rest of the test
pub remaining : (f g : ℕ → ℕ) (rest : Type 0) (n : ℕ) → agreeing f g n rest → rest
unfolding agreeing
remaining f g rest zero t = t
remaining f g rest (suc n) t = remaining f g rest n (passed (eqb (f (2 ^ n)) (g (2 ^ n))) t).1
