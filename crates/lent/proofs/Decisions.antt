-- Decisions put together: of one of two, of an implication, and of every number below a bound. The types say all.
use mathlib.Core.Path.{◌≡◌, subst}
use mathlib.Core.Logic.{◌⊎◌, inl, inr, ⊎_elim, by_cases}
use Prim.Native.Nat.{ℕ, zero, suc, ◌<◌}
use native.Mathlib.Nat.{not-suc-le-zero}
use native.Mathlib.Decide.{dec_lt}
use native.Mathlib.Omega.{arith}

pub either? : {P Q : Type 0} → Dec P → Dec Q → Dec (P ⊎ Q)
either? (yes p) d = yes (inl p)
either? (no p) (yes q) = yes (inr q)
either? (no p) (no q) = no (⊎_elim p q)

pub implies? : {P Q : Type 0} → Dec P → Dec Q → Dec (P → Q)
implies? (no p) d = yes (λ h. absurd (p h))
implies? (yes p) (yes q) = yes (λ h. q)
implies? (yes p) (no q) = no (λ f. q (f p))

pub below? : {P : ℕ → Type 0} → ((b : ℕ) → Dec (P b)) → (n : ℕ) → Dec ((b : ℕ) → b < n → P b)
below? d zero = yes (λ b h. absurd (not-suc-le-zero h))
below? {P} d (suc n) = go (below? d n) (d n)
  where
    go : Dec ((b : ℕ) → b < n → P b) → Dec (P n) → Dec ((b : ℕ) → b < suc n → P b)
    go (no f) e = no (λ g. f (λ b h. g b (omega arith)))
    go (yes f) (no k) = no (λ g. k (g n (omega arith)))
    go (yes f) (yes p) = yes (λ b h. by_cases (dec_lt b n) (f b) (λ k. let e : n ≡ b = omega arith in subst P e p))
