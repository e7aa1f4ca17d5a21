-- A block is read exactly when some permitted text makes it: once for every maker and reader.
use borrow.Author.Tests.{eq-eqb}
use mathlib.Core.Path.{◌≡◌, sym, ap, ◌∙◌}
use mathlib.Core.Bool.{Bool, true}
use mathlib.Core.List.{List}
use Prim.Native.Nat.{ℕ}
use lib.Dec.{eqb}
use lib.ListN.{length}
use Rattle.lent.specs.Choice.{both, between, all}
use Rattle.lent.specs.ReadsBack.{gives, if_made, Block, Makes, ReadsBack}
use Rattle.lent.specs.Permitted.{permitted as tests}
use Rattle.lent.specs.Refusals.{size, character, bad_block}
use Rattle.lent.specs.Result.{Result, done, refused, require}
use Rattle.lent.specs.declared.refusals.Refusal.{Refusal}
use Rattle.lent.proofs.Laws.{cases, never, both_true}
use Rattle.lent.proofs.Prefixes.{same_true, same_self}
use Rattle.lent.proofs.Results.{same_done, require_done}

-- A maker of blocks of n bytes, and a reader that takes what stands in a block if that passes a test, which it does exactly if it is permitted
-- and makes the block.
pub record Reader (n : ℕ) (permitted : List ℕ → Bool) (make read : List ℕ → Result (List ℕ)) : Type 0 where
  pub block_of : List ℕ → List ℕ
  pub stands : List ℕ → List ℕ
  pub test : List ℕ → List ℕ → Bool
  pub is_block : (text : List ℕ) → permitted text ≡ true → Block n (block_of text)
  pub maker : (text : List ℕ) → permitted text ≡ true → make text ≡ done (block_of text)
  pub reader : (block : List ℕ) → Block n block → read block ≡ require (test (stands block) block) bad_block (done (stands block))
  pub stands_back : (text : List ℕ) → permitted text ≡ true → stands (block_of text) ≡ text
  pub passes : (text : List ℕ) → permitted text ≡ true → test text (block_of text) ≡ true
  pub only : (text block : List ℕ) → Block n block → test text block ≡ true → (permitted text ≡ true) × (block_of text ≡ block)

module _ {n : ℕ} {permitted : List ℕ → Bool} {make read : List ℕ → Result (List ℕ)} (r : Reader n permitted make read) where
  read_made : (text block : List ℕ) → Makes permitted make text block → read block ≡ done text
  read_made text block m =
      let same : block ≡ r.block_of text = same_done (sym m.made ∙ r.maker text m.allowed) in
      rw (same, r.reader _ (r.is_block text m.allowed), r.stands_back text m.allowed, r.passes text m.allowed)

  makes : (text block : List ℕ) → Block n block → r.test text block ≡ true → Makes permitted make text block
  makes text block b t = let o = r.only text block b t in record { allowed = o.0; made = r.maker text o.0 ∙ ap done o.1 }

  read_makes : (text block : List ℕ) → Block n block → read block ≡ done text → Makes permitted make text block
  read_makes text block b e =
      let q = r.stands block in
      let k = require_done (r.test q block) bad_block (done q) text (sym (r.reader block b) ∙ e) in
      rw (same_done k.1) at (makes q block b k.0)

  pub reads_back : ReadsBack n permitted make read
  reads_back =
      record {
        makes = λ text h. (r.block_of text, r.is_block text h, record { allowed = h; made = r.maker text h });
        one = λ text text' block m m'. same_done (sym (read_made text block m) ∙ read_made text' block m');
        back = read_made;
        only = read_makes;
        other = λ block b none.
            r.reader block b
            ∙ cases (r.test (r.stands block) block) (λ t. absurd (none _ (makes _ block b t))) (λ f. rw f);
      }

-- ---- reading defined by making

-- an answer that gives a block is done with it
given : (answer : Result (List ℕ)) (block : List ℕ) → gives answer block ≡ true → answer ≡ done block
given (done made) block e = ap done (same_true made block e)
given (refused why) block e = never (cc)

-- A text of a range of lengths whose characters pass a test makes a block of n bytes.
module _ (n least most : ℕ) (p : ℕ → Bool) (block_of : List ℕ → List ℕ) where
  abbrev sized : List ℕ → Bool
  sized text = between least most (length text)

  abbrev permitted : List ℕ → Bool
  permitted text = both (sized text) (all p text)

  abbrev make : List ℕ → Result (List ℕ)
  make text = require (sized text) size (require (all p text) character (done (block_of text)))

  -- a text that passes its tests, or whose refusal is theirs
  pub passed : (text : List ℕ) → tests least most p text ≡ done tt → permitted text ≡ true
  passed text e =
      let s = require_done (sized text) size (require (all p text) character (done tt)) tt e in
      let t = require_done (all p text) character (done tt) tt s.1 in
      rw s.0 t.0

  pub of_permitted : (text : List ℕ) → tests least most p text ≡ done tt → make text ≡ done (block_of text)
  of_permitted text e = let b = both_true (sized text) (all p text) (passed text e) in simp (b.0, b.1)

  pub of_refused : (text : List ℕ) (why : Refusal) → tests least most p text ≡ refused why → make text ≡ refused why
  of_refused text why e =
      cases (sized text)
      (λ s. cases (all p text) (λ t. let k = simp (s, t) at e in never (cc)) (λ t. let k = simp (s, t) at e in simp (s, t) (cc)))
      (λ s. let k = simp s at e in simp s (cc))

  maker : (text : List ℕ) → permitted text ≡ true → make text ≡ done (block_of text)
  maker text h = let b = both_true (sized text) (all p text) h in simp (b.0, b.1)

  made : (text block : List ℕ) → make text ≡ done block → (permitted text ≡ true) × (block_of text ≡ block)
  made text block e =
      let s = require_done (sized text) size (require (all p text) character (done (block_of text))) block e in
      let t = require_done (all p text) character (done (block_of text)) block s.1 in
      (rw s.0 t.0, same_done t.1)

  module _ (is_block : (text : List ℕ) → permitted text ≡ true → Block n (block_of text)) where
    -- if it stands in its block, it is read back
    pub made_reads_back : (stands : List ℕ → List ℕ) → ((text : List ℕ) → permitted text ≡ true → stands (block_of text) ≡ text)
        → ReadsBack n permitted make (λ block. require (eqb (length block) n) size (if_made make (stands block) block))
    made_reads_back stands stands_back =
        reads_back (record {
          block_of = block_of;
          stands = stands;
          test = λ text block. gives (make text) block;
          is_block = is_block;
          maker = maker;
          reader = λ block b. simp (eq-eqb (length block) n b.size);
          stands_back = stands_back;
          passes = λ text h. rw (maker text h) (same_self (block_of text));
          only = λ text block b t. made text block (given (make text) block t);
        })
