use mathlib.Core.Path.{◌≡◌, ◌∙◌}
use Prim.Native.Nat.{ℕ}
use native.Mathlib.Nat.{div-one}
use lib.Bits.{bit_xor, xor_comm, xor_zero_l}
use Rattle.std.specs.Int.Bits.{xor_assoc}
use Rattle.merged.specs.RoundWords.{box1, box2, box3, box4, box5, box6, box7, box8}
use Rattle.merged.specs.Words.{words, substituted}
use Rattle.merged.proofs.words.substituted.Goals as goal

-- the last word first, and the first word first
turned : (a b c d e f g h : ℕ)
    → bit_xor (bit_xor (bit_xor (bit_xor (bit_xor (bit_xor (bit_xor h g) f) e) d) c) b) a
    ≡ bit_xor (bit_xor (bit_xor (bit_xor (bit_xor (bit_xor (bit_xor a b) c) d) e) f) g) h
turned a b c d e f g h =
    rw (xor_comm _ a, xor_comm _ b, xor_comm _ c, xor_comm _ d, xor_comm _ e, xor_comm _ f, xor_comm h g) (simp xor_assoc)

pub returns : goal.returns
unfolding words substituted box1 box2 box3 box4 box5 box6 box7 box8
returns c =
    turned c.word-8.result c.word-7.result c.word-6.result c.word-5.result c.word-4.result c.word-3.result c.word-2.result c.word.result
    ∙ rw (
      div-one c.args.x,
      ← c.word-8.ensures,
      ← c.word-7.ensures,
      ← c.word-6.ensures,
      ← c.word-5.ensures,
      ← c.word-4.ensures,
      ← c.word-3.ensures,
      ← c.word-2.ensures,
      ← c.word.ensures,
      xor_zero_l c.word-8.result,
    )
