-- What callers cite: a block is read exactly when some permitted password makes it, and gives that password.
use borrow.Author.Tests.{lt-ltb}
use mathlib.Core.Path.{◌≡◌, refl}
use mathlib.Core.Bool.{true}
use mathlib.Core.List.{List}
use Prim.Native.Nat.{ℕ, ◌≤◌}
use native.Mathlib.Omega.{arith}
use lib.ListN.{length}
use Rattle.lent.specs.Characters.{graphic}
use Rattle.lent.specs.Choice.{between, all}
use Rattle.lent.specs.Frames.{framed_text}
use Rattle.lent.specs.ReadsBack.{Block, ReadsBack}
use Rattle.lent.specs.Words.{byte}
use Rattle.lent.proofs.Frames.{framed_length, framed_all, framed_back}
use Rattle.lent.proofs.Laws.{both_true, between_true}
use Rattle.lent.proofs.Lists.{all_weaker}
use Rattle.lent.proofs.ReadsBack.{made_reads_back}
use Rattle.password.specs.Password.{password_size, permitted, password_block, make, read}

-- characters of a range below 256 are bytes
range_byte : (lo hi x : ℕ) → hi ≤ 255 → between lo hi x ≡ true → byte x ≡ true
range_byte lo hi x h e = lt-ltb x 256 (omega (arith, between_true lo hi x e))

-- a permitted password has at most 20 characters
short : (password : List ℕ) → permitted password ≡ true → length password ≤ 20
short password h = (between_true 6 20 (length password) (both_true (password_size password) (all graphic password) h).0).1

pub password_block_sized : (password : List ℕ) → permitted password ≡ true → Block 24 (password_block password)
unfolding password_block
password_block_sized password h =
    let graphics = (both_true (password_size password) (all graphic password) h).1 in
    record {
      size = framed_length 24 0xFF password (omega (arith, short password h));
      bytes =
          framed_all 24 0xFF password (omega (arith, short password h)) byte (λ x e. range_byte 48 57 x (omega arith) e)
          (all_weaker graphic byte (λ x e. range_byte 33 126 x (omega arith) e) password graphics) refl;
    }

pub read_back : ReadsBack 24 permitted make read
unfolding make read password_block
read_back =
    made_reads_back 24 6 20 graphic password_block password_block_sized framed_text
    (λ password h. framed_back 24 0xFF password (omega (arith, short password h)) (omega (arith, short password h)))
