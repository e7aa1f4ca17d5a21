use Rattle.std.proofs.Common.{◌≡◌, ◌%◌, ◌/◌, ◌∙◌, ℕ, Ok, sym, ap, true, eqb, length, arith}
use Rattle.std.proofs.lemmas.Bool.{eq-eqb, ne_eqb, le-leb, lt-leb}
use Rattle.lent.proofs.Results.{refused_writes, no_room_writes, same_writes}
use Rattle.keyentry.specs.Hexadecimal.{bytes_of}
use Rattle.keyentry.specs.KeyEntry.{text_bytes}
use Rattle.keyentry.proofs.Sizes.{decoded}
use Rattle.keyentry.proofs.Texts.{bytes_length}
use Rattle.keyentry.proofs.decoding.text_bytes.Goals as goal

pub returns-then-text-ne0 : goal.returns-then-text-ne0
unfolding text_bytes
returns-then-text-ne0 c = refused_writes (simp (ne_eqb _ _ c.if-text-ne0.true))

pub returns-then-not-all_of_kind : goal.returns-then-not-all_of_kind
unfolding text_bytes
returns-then-not-all_of_kind c =
    refused_writes (simp (eq-eqb _ _ c.if-text-ne0.false, sym c.all_of_kind.ensures ∙ c.if-not-all_of_kind.true))

pub returns-then-out-size : goal.returns-then-out-size
returns-then-out-size c =
    let text = c.args.text.now in
    let even : eqb (length text % 2) 0 ≡ true = eq-eqb _ _ c.if-text-ne0.false in
    let n = bytes_length text (length text / 2) (omega arith) in
    let h = lt-leb (length (bytes_of text)) (length c.args.out.now) (omega (arith, n)) in
    no_room_writes (rw (decoded text even (sym c.all_of_kind.ensures ∙ c.if-not-all_of_kind.false), h))

pub put_bytes-requires : goal.put_bytes-requires
put_bytes-requires c =
    record { text_len = omega arith; all_hexadecimal = sym c.all_of_kind.ensures ∙ c.if-not-all_of_kind.false; size_in_bounds = omega arith }

pub returns : goal.returns
returns c =
    let text = c.args.text.now in
    let even : eqb (length text % 2) 0 ≡ true = eq-eqb _ _ c.if-text-ne0.false in
    let n = bytes_length text (length text / 2) (omega arith) in
    let h = le-leb (length (bytes_of text)) (length c.args.out.now) (omega (arith, n)) in
    same_writes (decoded text even (sym c.all_of_kind.ensures ∙ c.if-not-all_of_kind.false))
    (record { value = simp h (ap (λ (k : ℕ). Ok k) (sym n)); memory = simp h c.put_bytes.ensures })
