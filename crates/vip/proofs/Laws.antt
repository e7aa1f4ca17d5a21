-- What callers cite: a block is read exactly when some permitted VIP number makes it, and gives that number.
use borrow.Author.Tests.{eqb-true, eq-eqb, le-leb}
use mathlib.Core.Path.{◌≡◌, refl, sym, ◌∙◌}
use mathlib.Core.Bool.{Bool, true}
use mathlib.Core.List.{List, map-id}
use Prim.Native.Nat.{ℕ, ◌≤◌}
use native.Mathlib.Omega.{arith}
use lib.Dec.{eqb}
use lib.ListN.{length}
use Rattle.lent.specs.Characters.{digit, capitalized, hexadecimal}
use Rattle.lent.specs.Choice.{both, all}
use Rattle.lent.specs.Frames.{framed_text}
use Rattle.lent.specs.ReadsBack.{Block, ReadsBack}
use Rattle.lent.specs.Result.{Result, done, Writes}
use Rattle.lent.proofs.Frames.{framed_length, framed_all, framed_back}
use Rattle.lent.proofs.Laws.{both_true, between_true, below}
use Rattle.lent.proofs.Lists.{map_all, all_weaker}
use Rattle.lent.proofs.ReadsBack.{made_reads_back}
use Rattle.lent.proofs.Results.{over_whole}
use Rattle.keyentry.specs.Hexadecimal.{text_of}
use Rattle.keyentry.specs.KeyEntry.{text_bytes}
use Rattle.keyentry.proofs.Texts.{text_read, bytes_length, bytes_below}
use Rattle.vip.specs.Vip.{vip_size, permitted, block_text, vip_block, make, read}

-- hexadecimal, and no small letter
capital : ℕ → Bool
capital x = both (hexadecimal x) (eqb (capitalized x) x)

digit_capital : (x : ℕ) → digit x ≡ true → capital x ≡ true
unfolding capital hexadecimal capitalized
digit_capital x e = simp (e, below 97 122 x (omega (arith, between_true 48 57 x e)), eq-eqb x x refl)

-- a value that fills memory is written, and is what stands there
filled : (v : List ℕ) {before after : List ℕ} {r : Result ℕ} → length v ≡ length before → Writes (done v) before r after → (r ≡ done (length v)) × (after ≡ v)
filled v {before} e w =
    let room : length v ≤ length before = omega arith in
    (rw (le-leb _ _ room) at w.value, (rw (le-leb _ _ room) at w.memory) ∙ over_whole v before e)

module _ (digits : List ℕ) (h : permitted digits ≡ true) where
  short : length digits ≤ 19
  short = (between_true 11 19 (length digits) (both_true (vip_size digits) (all digit digits) h).0).1

  text_length : length (block_text digits) ≡ 32
  unfolding block_text
  text_length = framed_length 32 0x46 digits (omega (arith, short))

  text_capital : all capital (block_text digits) ≡ true
  unfolding block_text capital hexadecimal capitalized
  text_capital =
      framed_all 32 0x46 digits (omega (arith, short)) capital digit_capital
      (all_weaker digit capital digit_capital digits (both_true (vip_size digits) (all digit digits) h).1) refl

  text_hexadecimal : all hexadecimal (block_text digits) ≡ true
  unfolding capital
  text_hexadecimal =
      all_weaker capital hexadecimal (λ x e. (both_true (hexadecimal x) (eqb (capitalized x) x) e).0) (block_text digits) text_capital

  -- the bytes of its half-bytes have these half-bytes
  text_back : text_of 65 (vip_block digits) ≡ block_text digits
  unfolding vip_block capital
  text_back =
      sym (text_read (block_text digits) 16 text_length text_hexadecimal)
      ∙ map_all capital capitalized (λ x. x) (λ x e. eqb-true (capitalized x) x (both_true (hexadecimal x) (eqb (capitalized x) x) e).1) (block_text digits) text_capital
      ∙ map-id (block_text digits)

  -- making it is not refused
  pub block_text_bytes : text_bytes (block_text digits) ≡ done (vip_block digits)
  unfolding text_bytes vip_block
  block_text_bytes = simp (text_length, text_hexadecimal)

  pub vip_block_bytes : Block 16 (vip_block digits)
  unfolding vip_block
  vip_block_bytes = record { size = bytes_length (block_text digits) 16 text_length; bytes = bytes_below (block_text digits) text_hexadecimal }

  -- and fills sixteen bytes
  pub block_written : {before after : List ℕ} {r : Result ℕ} → length before ≡ 16 → Writes (text_bytes (block_text digits)) before r after
      → (r ≡ done 16) × (after ≡ vip_block digits)
  block_written {before} n w =
      let long : length (vip_block digits) ≡ length before = vip_block_bytes.size ∙ sym n in
      let k = filled (vip_block digits) long (rw block_text_bytes at w) in
      (k.0 ∙ rw vip_block_bytes.size, k.1)

  vip_back : framed_text (text_of 65 (vip_block digits)) ≡ digits
  unfolding block_text
  vip_back = rw text_back (framed_back 32 0x46 digits (omega (arith, short)) (omega (arith, short)))

pub read_back : ReadsBack 16 permitted make read
unfolding make read
read_back = made_reads_back 16 11 19 digit vip_block vip_block_bytes (λ block. framed_text (text_of 65 block)) vip_back
