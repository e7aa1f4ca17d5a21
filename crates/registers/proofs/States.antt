-- What demand 3 says of a state, when some counters were given out.
use mathlib.Core.Path.{◌≡◌, sym, ◌∙◌}
use mathlib.Core.Logic.{◌⊎◌, inl, inr, ◌↔◌, by_cases}
use mathlib.Core.Bool.{false, false≢true}
use mathlib.Core.List.Memᴰ
use mathlib.Core.List.{List, [], ◌∷◌, ◌++◌, Memᴰ}
use Prim.Native.Nat.{ℕ, suc, ◌≤◌, ◌<◌}
use native.Mathlib.Decide.{dec_le}
use native.Mathlib.Numerals.{add-one}
use native.Mathlib.Omega.{arith}
use lib.ListN.{length, length-append}
use Rattle.registers.specs.Counters.{Permitted, permitted_to, Nth, counter_total}
use Rattle.registers.specs.Device.{Device}
use Rattle.registers.specs.Machine.{State, loaded}
use Rattle.registers.specs.Rule.{label, Blank, Fills, Valid, FilledByRule}
use Rattle.registers.specs.Deciding.{fills?}
use Rattle.registers.specs.Host.{initial_of, key_of}
use Rattle.registers.specs.Demand.{Waits, StateDemand}
use Rattle.registers.proofs.Order.{count_least, nth_unique, nth_before}
use Rattle.registers.proofs.Total.{count_most}
use Rattle.registers.proofs.Places.{label_later}
use Rattle.registers.proofs.Validity.{runs_counted}
use Rattle.registers.proofs.Reach.{under_later, later_under}
use Rattle.registers.proofs.Progress.{Follows, ready_most, follows_valid, loaded_follows}

module _ {K : Type 0} (device : Device K) (derivation serial : List ℕ) where
  -- the state s after those counters were given out: it follows the rule, and as many as they are, they are that many smallest permitted ones
  pub record After (given : List ℕ) (s : State K) : Type 0 where
    pub follows : Follows device derivation serial (length given) s
    pub smallest : (c : ℕ) → Memᴰ c given ↔ (Permitted c × (permitted_to c ≤ length given))

  pub after_loading : After [] (loaded device (initial_of device derivation serial) serial)
  after_loading = record {
    follows = loaded_follows device derivation serial;
    smallest = λ c. (λ m. absurd (Memᴰ.not-nil m), λ (ok, h). absurd (omega (arith, count_least c ok)));
  }

  -- one counter more
  pub after_more : (given : List ℕ) (s t : State K) (c : ℕ) → After given s → Nth (suc (length given)) c
      → Follows device derivation serial (suc (length given)) t → After (given ++ c ∷ []) t
  after_more given s t c now nth next =
      let more : length (given ++ c ∷ []) ≡ suc (length given) = length-append given (c ∷ []) ∙ add-one (length given) in
      record { follows = rw more next; smallest = λ d. rw more (λ m. among d (Memᴰ.append_cases given m), λ (ok, h). found d ok h) }
    where
      n : ℕ
      n = length given

      among : (d : ℕ) → Memᴰ d given ⊎ Memᴰ d (c ∷ []) → Permitted d × (permitted_to d ≤ suc n)
      among d (inl old) = let (ok, h) = (now.smallest d).0 old in (ok, omega arith)
      among d (inr new) = let e : d ≡ c = Memᴰ.eq_of_singleton new in rw e (nth.permitted, omega (arith, nth.number))

      found : (d : ℕ) → Permitted d → permitted_to d ≤ suc n → Memᴰ d (given ++ c ∷ [])
      found d ok h =
          by_cases (dec_le (permitted_to d) n) (λ q. Memᴰ.append_left (c ∷ []) ((now.smallest d).1 (ok, q)))
          (λ q. Memᴰ.append_right given (Memᴰ.head (nth_unique (suc n) d c (record { permitted = ok; number = omega arith }) nth)))

  module _ (given : List ℕ) (s : State K) (now : After given s) where
    abbrev n : ℕ
    n = length given

    pub after_valid : Valid device s
    after_valid = follows_valid device derivation serial n s now.follows

    most : Follows device derivation serial n s → n ≤ counter_total
    most (inl ready) = omega (arith, ready_most device derivation serial n s ready)
    most (inr finished) = omega (arith, finished.all)

    filled_by_rule : Follows device derivation serial n s → FilledByRule device (key_of device derivation serial) s
    filled_by_rule (inl ready) = record { filled = λ b h f. (ready.valid.full b h f, ready.holds b h f.1); others = ready.valid.bare }
    filled_by_rule (inr finished) = record {
      filled = λ b h f. absurd (false≢true (sym f.0 ∙ finished.stopped));
      others = finished.valid.bare;
    }

    -- ---- the counters given out, and the next one

    -- where a permitted counter was not given out, there is a next one, and it is not below that
    later : Follows device derivation serial n s → (x : ℕ) → Permitted x → ¬ Memᴰ x given → (s.exhausted ≡ false) × (s.counter ≤ x)
    later (inl ready) x ok new = (
      ready.runs,
      by_cases (dec_le s.counter x) (λ h. h)
          (λ h. absurd (new ((now.smallest x).1 (ok, (nth_before n s.counter x ready.nth).1 (omega arith))))),
    )
    later (inr finished) x ok new = absurd (new ((now.smallest x).1 (ok, omega (arith, count_most x ok, finished.all))))

    -- and one that was given out is below the next one
    earlier : Follows device derivation serial n s → (x : ℕ) → Memᴰ x given → s.exhausted ≡ false → x < s.counter
    earlier (inl ready) x m runs = (nth_before n s.counter x ready.nth).0 ((now.smallest x).0 m).1
    earlier (inr finished) x m runs = absurd (false≢true (sym runs ∙ finished.stopped))

    -- ---- the registers

    -- the label of a filled register is a counter that was not given out
    waiting : (follows : Follows device derivation serial n s) (b : ℕ) → b < 21 → Blank device s b ⊎ Waits device derivation serial given s b
    waiting follows b h = by_cases (fills? device s b) (λ f. inr (waits f)) (λ f. inl (after_valid.bare b h f))
      where
        waits : Fills device s b → Waits device derivation serial given s b
        waits (runs, f) =
            let ok = runs_counted after_valid.counted runs in
            let next = label_later s.counter ok.from_one ok.fits ok.few b h f in
            let held = (filled_by_rule follows).filled b h (runs, f) in
            record {
              counter = label s.counter b;
              permitted = next.0;
              not_given = λ m. omega (arith, next.1, earlier follows (label s.counter b) m runs);
              filled = held.0;
              holds = held.1;
            }

    pub after_demand : StateDemand device derivation serial given s
    after_demand =
        let follows = now.follows in
        record {
          most = most follows;
          rule = filled_by_rule follows;
          registers = waiting follows;
          within_reach = λ x ok new. let (runs, h) = later follows x ok new in later_under device s after_valid x runs h ok.fits;
          beyond_reach = λ x m b lies. let (runs, h) = under_later device s after_valid x b lies in omega (arith, earlier follows x m runs);
        }
