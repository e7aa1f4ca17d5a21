use Rattle.std.proofs.Common.{◌≡◌, ◌∙◌, ℕ, ap, sym}
use Rattle.std.specs.Result.{MatchResult, IsOkAnd}
use Rattle.lent.specs.Result.{Result, done, refused}
use Rattle.lent.proofs.Results.{refused_writes}
use Rattle.keyentry.specs.KeyEntry.{bytes_written, key_entry}
use Rattle.keyentry.specs.declared.units.Bytes.{Bytes}
use Rattle.keyentry.proofs.entry.key_entry.Goals as goal
use Rattle.keyentry.proofs.entry.key_entry.Goals.{then-not-key_size-via-then-not-key_size, then-not-key_size-via-else-not-key_size+then-not-full_text}

pub returns-then-not-key_size : goal.returns-then-not-key_size
unfolding key_entry
returns-then-not-key_size c =
    let of_size = sym c.key_size.ensures in
    elim c.then-not-key_size.branch [
      | then-not-key_size-via-then-not-key_size w ↦ refused_writes (simp (of_size ∙ w.if-not-key_size.true))
      | then-not-key_size-via-else-not-key_size+then-not-full_text w ↦
          refused_writes (simp (of_size ∙ w.if-not-key_size.false, sym w.full_text.ensures ∙ w.if-not-full_text.true))
    ]

-- a size that is given for a length
sized : (r : Result ℕ) (s : Result Bytes) → MatchResult r (λ n. IsOkAnd s (λ b. b.0 ≡ n)) (λ why. s ≡ refused why) → bytes_written s ≡ r
sized (done n) (done b) e = ap (λ (k : ℕ). done k) e
sized (done n) (refused why) e = absurd e
sized (refused why) s e = rw e

pub returns : goal.returns
unfolding key_entry
returns c =
    rw (sized c.text_bytes.result c.map.result c.map.ensures.cases)
    (simp (sym c.key_size.ensures ∙ c.if-not-key_size.false, sym c.full_text.ensures ∙ c.if-not-full_text.false) c.text_bytes.ensures)
