-- Only the contracts of private functions cite what stands here: the ranges of tables, and what the quick code keeps.
use Rattle.std.specs.Prelude.{◌≡◌, Bool, true, List, [], ◌∷◌, ℕ, ◌+◌, ◌-◌, ◌*◌, ◌/◌, ◌%◌, ◌^◌, ◌<◌, ◌≤◌, leb, length, get_or}
use Rattle.std.specs.Int.Bits.{bit_and, bit_xor}
use Rattle.std.proofs.Math.Dec.{when}
use Rattle.cipher.specs.Bits.{permuted}
use Rattle.cipher.specs.Rounds.{rounds}
use Rattle.cipher.specs.Tables.{expansion, permuted_choice2}

-- each entry is from low to high: a test that computes
abbrev pub in_range : ℕ → ℕ → List ℕ → Type 0
in_range low high [] = Unit {0}
in_range low high (x ∷ table) = when (leb low x) (when (leb x high) (in_range low high table))

-- the table selects at most 64 bits, and each from `width` of them, at most 64
pub record Selection (width : ℕ) (table : List ℕ) : Type 0 where
  pub width_fits : width ≤ 64
  pub length_fits : length table ≤ 64
  pub entries : in_range 1 width table

-- the table has 64 entries of four bits
pub record SBox (table : List ℕ) : Type 0 where
  pub entries : in_range 0 15 table
  pub size : length table ≡ 64

-- a function, by what it asks and gives, gives true for each number below n
pub record Passes (n : ℕ) (pre : ℕ → Type 0) (post : ℕ → Bool → Type 0) : Type 0 where
  pub can : (k : ℕ) → k < n → pre k
  pub agrees : (k : ℕ) → k < n → (r : Bool) → post k r → r ≡ true

-- in a word of 64 bits, each bit under the mask has changed places with the one n places to its left
unfoldable pub exchanged : ℕ → ℕ → ℕ → ℕ
exchanged n mask x =
    bit_xor (bit_xor (bit_and x (2 ^ 64 - 1 - bit_xor mask (mask * 2 ^ n % 2 ^ 64))) (bit_and x mask * 2 ^ n % 2 ^ 64)) (bit_and (x / 2 ^ n) mask)

-- the halves, which stand expanded, and the rounds of the keys that are left give `whole`
pub record LeadsTo (whole : ℕ) (keys : List ℕ) (left right : ℕ) : Type 0 where
  pub l : ℕ
  pub r : ℕ
  pub l_fits : l < 2 ^ 32
  pub r_fits : r < 2 ^ 32
  pub left_expanded : left ≡ permuted 32 expansion l
  pub right_expanded : right ≡ permuted 32 expansion r
  pub leads : rounds keys l r ≡ whole

-- seven bits from bit p + 1 on of a half that stands twice in a row
unfoldable pub seven : ℕ → ℕ → ℕ
seven half p = half * 0x1000_0001 / 2 ^ (49 - p) % 2 ^ 7

-- the same seven bits four times
unfoldable pub four_times : ℕ → ℕ
four_times bits = bits * 0x20_4081

-- what PC-2 gives where C is its seven bits from bit p + 1 on, four times, and D likewise
unfoldable pub window : ℕ → ℕ → ℕ
window halves p = permuted 56 permuted_choice2 (four_times (seven (halves / 2 ^ 28) p) * 2 ^ 28 + four_times (seven (halves % 2 ^ 28) p))

-- the windows from bit 1, bit 2 and so on, and the same again
pub record Windows (halves : ℕ) (words : List ℕ) : Type 0 where
  pub at : (q : ℕ) → q < 56 → get_or words q 0 ≡ window halves (q % 28)

-- how many places C and D are rotated before each round, all in all
abbrev pub places : List ℕ
places = 1 ∷ 2 ∷ 4 ∷ 6 ∷ 8 ∷ 10 ∷ 12 ∷ 14 ∷ 15 ∷ 17 ∷ 19 ∷ 21 ∷ 23 ∷ 25 ∷ 27 ∷ 28 ∷ []

-- the bits of a round key that PC-2 takes from the first seven bits of C and of D, from the second seven, and so on
abbrev pub first_bits : ℕ
first_bits = 0x0E41_1122_2083

abbrev pub second_bits : ℕ
second_bits = 0xA012_4291_0214

abbrev pub third_bits : ℕ
third_bits = 0x40A4_2408_5C20

abbrev pub fourth_bits : ℕ
fourth_bits = 0x1108_8844_8148

-- these bits of four words
unfoldable pub picked : ℕ → ℕ → ℕ → ℕ → ℕ
picked w1 w2 w3 w4 = bit_xor (bit_xor (bit_xor (bit_and w1 first_bits) (bit_and w2 second_bits)) (bit_and w3 third_bits)) (bit_and w4 fourth_bits)

-- these bits of four windows, seven places apart from the place n on
unfoldable pub from_windows : List ℕ → ℕ → ℕ
from_windows words n = picked (get_or words n 0) (get_or words (n + 7) 0) (get_or words (n + 14) 0) (get_or words (n + 21) 0)
