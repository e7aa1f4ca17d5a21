use mathlib.Core.Path.{◌≡◌, sym, ◌∙◌}
use Prim.Native.Nat.{ℕ, ◌+◌, ◌*◌, ◌^◌, ◌<◌}
use native.Mathlib.Nat.{mod-eq_of_lt}
use native.Mathlib.Omega.{arith}
use borrow.Author.Tests.{eq-eqb}
use lib.Dec.{lit<}
use lib.Pow.{high, low}
use Rattle.cipher.specs.Bits.{permuted}
use Rattle.cipher.specs.Private.{seven, four_times, window}
use Rattle.cipher.specs.Tables.{permuted_choice2}
use Rattle.cipher.proofs.checks.choice_agrees.Goals as goal

first-seven : (n : ℕ) → n < 128 → seven (n * 2 ^ 21) 0 ≡ n
unfolding seven
first-seven n h =
    let e : n * 2 ^ 21 * 0x1000_0001 ≡ n * 2 ^ 49 + n * 2 ^ 21 = omega arith in
    let small : n * 2 ^ 21 < 2 ^ 49 = omega arith in
    rw (e, high n 49 small) (mod-eq_of_lt h)

-- the first window of C and D that start with these seven bits and are zero after them
first-window : (c d : ℕ) → c < 128 → d < 128
    → window (c * 2 ^ 49 + d * 2 ^ 21) 0 ≡ permuted 56 permuted_choice2 (c * 0x20_4081 * 2 ^ 28 + d * 0x20_4081)
unfolding window four_times
first-window c d hc hd =
    let half = d * 2 ^ 21 in
    let small : half < 2 ^ 28 = omega arith in
    let both : c * 2 ^ 49 + half ≡ c * 2 ^ 21 * 2 ^ 28 + half = omega arith in
    rw (both, high (c * 2 ^ 21) 28 small, low (c * 2 ^ 21) 28 small, first-seven c hc, first-seven d hd)

pub returns : goal.returns
returns c =
    eq-eqb _ _ (c.windows-words.ensures.at 0 (lit< tt) ∙ first-window c.args.c c.args.d c.requires.0 c.requires.1 ∙ sym c.permuted_choice_2.ensures)
