-- Reading a block, defined by making it, and what ties the two. It is proved of each reader of PIN, password and VIP blocks and its maker.
use Rattle.std.specs.Prelude.{Bool, true, false, ◌≡◌, List, ℕ, length}
use Rattle.lent.specs.Choice.{all}
use Rattle.lent.specs.Refusals.{bad_block}
use Rattle.lent.specs.Result.{Result, done, refused, require}
use Rattle.lent.specs.Texts.{same}
use Rattle.lent.specs.Words.{byte}

-- the answer is done, with this block
abbrev pub gives : Result (List ℕ) → List ℕ → Bool
gives (done made) block = same made block
gives (refused why) block = false

-- a text, if making gives this block
abbrev pub if_made : (List ℕ → Result (List ℕ)) → List ℕ → List ℕ → Result (List ℕ)
if_made make text block = require (gives (make text) block) bad_block (done text)

-- A block of n bytes.
pub record Block (n : ℕ) (block : List ℕ) : Type 0 where
  pub size : length block ≡ n
  pub bytes : all byte block ≡ true

-- A permitted text that makes the block.
pub record Makes (permitted : List ℕ → Bool) (make : List ℕ → Result (List ℕ)) (text block : List ℕ) : Type 0 where
  pub allowed : permitted text ≡ true
  pub made : make text ≡ done block

-- A block of n bytes is read exactly when some permitted text makes it, and reading gives that text. Every other block is 8.
pub record ReadsBack (n : ℕ) (permitted : List ℕ → Bool) (make read : List ℕ → Result (List ℕ)) : Type 0 where
  -- every permitted text makes a block
  pub makes : (text : List ℕ) → permitted text ≡ true → (block : List ℕ) × Block n block × Makes permitted make text block
  -- at most one permitted text makes a block
  pub one : (text text' block : List ℕ) → Makes permitted make text block → Makes permitted make text' block → text ≡ text'
  -- a block that a permitted text makes is read as that text
  pub back : (text block : List ℕ) → Makes permitted make text block → read block ≡ done text
  -- what a block is read as is a permitted text that makes it
  pub only : (text block : List ℕ) → Block n block → read block ≡ done text → Makes permitted make text block
  -- a block that no permitted text makes is refused
  pub other : (block : List ℕ) → Block n block → ((text : List ℕ) → Makes permitted make text block → ⊥) → read block ≡ refused bad_block
