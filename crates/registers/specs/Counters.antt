-- The counters that a terminal gives out, and their order (01, Terminal keys).
use Rattle.std.specs.Prelude.{◌≡◌, Bool, true, false, ℕ, zero, suc, ◌+◌, ◌*◌, ◌/◌, ◌%◌, ◌^◌, ◌≤◌, ◌<◌, ltb}
use Rattle.std.proofs.Math.Logic.Dec
use Rattle.std.proofs.Math.Logic.{ite}
use Rattle.std.proofs.Math.Decide.{dec_le, dec_lt, map_dec}
use Rattle.std.specs.Int.Count.{ones, count_trailing_zeros}
use Rattle.lent.specs.Choice.{pick}

-- bit b of x, the lowest being bit 0
abbrev pub bit : ℕ → ℕ → ℕ
bit x b = x / 2 ^ b % 2

-- the bits of x from bit b up: all below it are cleared
abbrev pub bits_from : ℕ → ℕ → ℕ
bits_from b x = x / 2 ^ b * 2 ^ b

-- a counter that may be given out: from 1, of 21 bits, at most ten of them one
pub record Permitted (c : ℕ) : Type 0 where
  pub from_one : 1 ≤ c
  pub fits : c < 2 ^ 21
  pub few : ones c ≤ 10

-- whether c is permitted
pub permitted? : (c : ℕ) → Dec (Permitted c)
permitted? c =
    map_dec (λ h. record { from_one = h.0; fits = h.1.0; few = h.1.1 }) (λ p. (p.from_one, (p.fits, p.few)))
    (Dec.and (dec_le 1 c) (Dec.and (dec_lt c (2 ^ 21)) (dec_le (ones c) 10)))

abbrev pub counter_permitted : ℕ → Bool
counter_permitted c = ite (permitted? c) true false

-- how many of 1, .., x pass the test
unfoldable pub count_to : (ℕ → Bool) → ℕ → ℕ
count_to test zero = 0
count_to test (suc x) = count_to test x + pick (test (suc x)) 1 0

-- how many permitted counters lie from 1 up to c
abbrev pub permitted_to : ℕ → ℕ
permitted_to c = count_to counter_permitted c

-- c is the n-th smallest permitted counter
pub record Nth (n c : ℕ) : Type 0 where
  pub permitted : Permitted c
  pub number : permitted_to c ≡ n

-- the last permitted counter
abbrev pub last_counter : ℕ
last_counter = 0x1FF800

-- how many permitted counters there are
abbrev pub counter_total : ℕ
counter_total = 1_048_575

-- the place of the lowest one bit of c, a number of 32 bits
abbrev pub lowest_place : ℕ → ℕ
lowest_place c = count_trailing_zeros 32 c

-- the rule for the next counter: below ten one bits, add 1; at ten, add the lowest one bit
unfoldable pub next_after : ℕ → ℕ
next_after c = pick (ltb (ones c) 10) (c + 1) (c + 2 ^ lowest_place c)

-- the counter that is next once c was given out; from the last counter on there is none, which is written 0
unfoldable pub next_counter : ℕ → ℕ
next_counter c = pick (ltb c last_counter) (next_after c) 0
