-- What demand 3's sentences on a record say together: which counters were given out by its next one, and from which key each other counter's
-- is derived.
use mathlib.Core.Path.{◌≡◌, sym, ap, ◌∙◌, subst}
use mathlib.Core.Logic.{◌↔◌, ⊎_elim, by_cases}
use mathlib.Core.Bool.{true, false, false≢true}
use mathlib.Core.List.Memᴰ
use mathlib.Core.List.{List, [], ◌∷◌, Memᴰ}
use Prim.Native.Nat.{ℕ, ◌<◌}
use native.Mathlib.Decide.{dec_lt, ℕ_discrete, map_dec}
use native.Mathlib.Omega.{arith}
use Rattle.lent.proofs.Decisions.{either?}
use Rattle.registers.specs.Counters.{bits_from, Permitted}
use Rattle.registers.specs.SerialNumber.{cleared_tail}
use Rattle.registers.specs.RegisterKey.{derive}
use Rattle.registers.specs.Device.{Device}
use Rattle.registers.specs.Machine.{State, key_at}
use Rattle.registers.specs.Rule.{label, Valid}
use Rattle.registers.specs.Reach.{UnderFilled}
use Rattle.registers.specs.Host.{initial_of, key_of}
use Rattle.registers.specs.Demand.{StateDemand}
use Rattle.registers.proofs.Keys.{key_under}
use Rattle.registers.proofs.Reach.{label_place, under_fills, under_later, later_under}

member? : (x : ℕ) (list : List ℕ) → Dec (Memᴰ x list)
member? x [] = no Memᴰ.not-nil
member? x (y ∷ list) = map_dec (λ c. ⊎_elim (λ e. Memᴰ.head e) (λ m. Memᴰ.tail m) c) Memᴰ.cases_cons (either? (ℕ_discrete x y) (member? x list))

module _ {K : Type 0} (device : Device K) (derivation serial : List ℕ) (given : List ℕ) (s : State K) (valid : Valid device s)
    (demand : StateDemand device derivation serial given s) where
  -- the permitted counters given out are those below the next one, and once there is none all
  pub given_below : s.exhausted ≡ false → (x : ℕ) → Permitted x → Memᴰ x given ↔ (x < s.counter)
  given_below runs x ok = (
    λ m. by_cases (dec_lt x s.counter) (λ h. h) (λ h. absurd (demand.beyond_reach x m _ (later_under device s valid x runs (omega arith) ok.fits).lies)),
    λ h. by_cases (member? x given) (λ m. m) (λ new. absurd (omega (arith, (under_later device s valid x _ (demand.within_reach x ok new).lies).1))),
  )

  pub given_all : s.exhausted ≡ true → (x : ℕ) → Permitted x → Memᴰ x given
  given_all stopped x ok =
      by_cases (member? x given) (λ m. m)
      (λ new. absurd (false≢true (sym (under_later device s valid x _ (demand.within_reach x ok new).lies).0 ∙ stopped)))

  -- a counter's key is derived from that of the register that it lies under, by the steps for its bits below
  pub reached_key : (x b : ℕ) → UnderFilled s x b
      → key_of device derivation serial x ≡ derive device.one_way (cleared_tail serial) b (key_at device s b) x
  reached_key x b lies =
      let held = (demand.rule.filled b lies.register (under_fills device s valid x b lies)).1 in
      let cleared : bits_from b x ≡ label s.counter b =
      subst (λ (k : ℕ). bits_from k x ≡ label s.counter b) (label_place s.counter b lies.register) lies.under in
      key_under device.one_way (initial_of device derivation serial) (cleared_tail serial) x b (omega (arith, lies.register))
      ∙ ap (λ (k : K). derive device.one_way (cleared_tail serial) b k x) (ap (key_of device derivation serial) cleared ∙ sym held)
