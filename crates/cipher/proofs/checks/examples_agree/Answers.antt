use borrow.Author.Tests.{eq-eqb}
use mathlib.Core.Path.{◌≡◌, ◌∙◌}
use mathlib.Core.Bool.{true, ◌&&◌}
use Prim.Native.Nat.{ℕ}
use lib.Dec.{eqb}
use Rattle.cipher.proofs.Vectors.{encrypted_example, decrypted_example, triple_example}
use Rattle.cipher.proofs.checks.examples_agree.Goals as goal

all_three : {a b c x y z : ℕ} → a ≡ x → b ≡ y → c ≡ z → (eqb a x && (eqb b y && (eqb c z && true))) ≡ true
all_three e f g = simp (eq-eqb _ _ e, eq-eqb _ _ f, eq-eqb _ _ g)

pub returns : goal.returns
returns c =
    c.eq.ensures
    ∙ all_three (c.encrypt.ensures ∙ encrypted_example) (c.decrypt.ensures ∙ decrypted_example) (c.triple_encrypt.ensures ∙ triple_example)
