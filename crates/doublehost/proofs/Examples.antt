-- The published example of ANS X9.24-1 (A.4), computed from the definitions: derivation key 0123456789ABCDEFFEDCBA9876543210, serial number
-- FFFF9876543210E00000. What DES gives is the cipher's.
use mathlib.Core.Path.{◌≡◌, refl, ap₂}
use Prim.Native.Nat.{ℕ}
use lib.Bits.{bit_xor}
use Rattle.lent.specs.Words.{to_base, from_base}
use Rattle.cipher.proofs.Vectors as cipher
use Rattle.host.specs.SingleLength.{step}
use Rattle.host.specs.SingleLength as SingleLength
use Rattle.doublehost.specs.DoubleLength.{mask, masked, initial_pair, one_way, given_out}
use Rattle.doublehost.specs.declared.keys.DoubleKey.{DoubleKey}

-- a key of its halves
abbrev key : ℕ → ℕ → DoubleKey
key left right = record { left = left; right = right }

-- the initial key
pub initial_example : initial_pair (to_base 256 16 0x0123_4567_89AB_CDEF_FEDC_BA98_7654_3210) 0xFFFF_9876_5432_10E0
    ≡ key 0x6AC2_92FA_A131_5B4D 0x858A_B3A3_D7D5_933A
unfolding to_base from_base masked initial_pair
initial_example = ap₂ key cipher.triple_example cipher.masked_triple_example

-- the register key of counter 1
pub step_example : one_way (key 0x6AC2_92FA_A131_5B4D 0x858A_B3A3_D7D5_933A) 0x9876_5432_10E0_0001 ≡ key 0x0426_66B4_9184_CFA3 0x68DE_9628_D039_7BC9
unfolding masked step one_way
step_example =
    ap₂ (λ (l r : ℕ). key (bit_xor l (bit_xor 0x858A_B3A3_D7D5_933A mask)) (bit_xor r 0x858A_B3A3_D7D5_933A)) cipher.masked_step_example cipher.step_example

-- the key given out with it
pub given_example : given_out (key 0x0426_66B4_9184_CFA3 0x68DE_9628_D039_7BC9) ≡ key 0x0426_66B4_9184_CF5C 0x68DE_9628_D039_7B36
unfolding given_out SingleLength.given_out
given_example = refl
