-- Loading and the call for the next key, by their cases.
use borrow.Author.Tests.{le-leb, eq-eqb, ne_eqb}
use mathlib.Core.Path.{◌≡◌, refl, ap, ◌∙◌}
use mathlib.Core.Logic.{◌⊎◌, inl, inr, ⊎_elim, ite, if_pos, if_neg, by_cases}
use mathlib.Core.Bool.{Bool, true, false, not}
use mathlib.Core.List.{List}
use Prim.Native.Nat.{ℕ, ◌≤◌}
use native.Mathlib.Decide.{ℕ_discrete}
use native.Mathlib.Omega.{arith}
use lib.Dec.{eqb}
use lib.ListN.{length, replicate}
use Rattle.lent.specs.Refusals as refusals
use Rattle.lent.specs.Refusals.{number_of}
use Rattle.lent.specs.declared.refusals.Refusal.{Refusal}
use Rattle.lent.specs.Result.{Result, done, refused, number, require, and_then, over, of_done}
use Rattle.lent.proofs.Laws.{cases}
use Rattle.registers.specs.SerialNumber.{with_counter}
use Rattle.registers.specs.Device.{Device}
use Rattle.registers.specs.Machine.{State, loaded, ready_key, spent, zero_state}
use Rattle.registers.specs.Rule.{Valid}
use Rattle.registers.specs.Deciding.{valid?}
use Rattle.registers.specs.Calls.{Given, Call, loading, Load, given, next_key, Keeps, Next}
use Rattle.registers.proofs.Validity.{runs_counted}

module _ {K : Type 0} (device : Device K) where
  -- ---- loading: done, or refused with 6

  module _ (initial serial : List ℕ) where
    pub load_cases : (loading device initial serial ≡ done (loaded device (device.read initial) serial)) ⊎ (loading device initial serial ≡ refused refusals.size)
    unfolding loading
    load_cases =
        cases (eqb (length initial) device.size) (λ e. cases (eqb (length serial) 10) (λ f. inl (simp (e, f))) (λ f. inr (simp (e, f))))
        (λ e. inr (simp e))

    -- what is answered for a size that is not right, and for right ones
    pub load_sizes : {num : ℕ} {s : State K} → ¬ ((length initial ≡ device.size) × (length serial ≡ 10)) → num ≡ number_of refusals.size → s ≡ zero_state device
        → Load device initial serial num s
    unfolding loading
    load_sizes h en es =
        by_cases (ℕ_discrete (length initial) device.size)
        (λ i. by_cases (ℕ_discrete (length serial) 10) (λ n. absurd (h (i, n)))
        (λ n. record { number = simp (eq-eqb _ _ i, ne_eqb _ _ n) en; state = simp (eq-eqb _ _ i, ne_eqb _ _ n) es }))
        (λ i. record { number = simp (ne_eqb _ _ i) en; state = simp (ne_eqb _ _ i) es })

    pub load_done : {s : State K} → length initial ≡ device.size → length serial ≡ 10 → s ≡ loaded device (device.read initial) serial
        → Load device initial serial 0 s
    unfolding loading
    load_done i n e = record { number = simp (eq-eqb _ _ i, eq-eqb _ _ n); state = simp (eq-eqb _ _ i, eq-eqb _ _ n) e }

    -- refused, it is 6 with the all-zero state
    pub load_refused : {num : ℕ} {s : State K} → Load device initial serial num s → ¬ (num ≡ 0) → (num ≡ number_of refusals.size) × (s ≡ zero_state device)
    load_refused load h =
        ⊎_elim (λ e. absurd (h (load.number ∙ ap number e)))
        (λ e. (load.number ∙ ap number e, load.state ∙ ap (of_done (λ t. t) (zero_state device)) e)) load_cases

  -- ---- the next key: its three refusals, and done

  module _ (s : State K) (enough : Bool) where
    pub next_invalid : ¬ Valid device s → next_key device s enough ≡ refused refusals.bad_record
    unfolding next_key
    next_invalid bad = rw (if_neg (valid? device s) bad true false)

    module _ (ok : Valid device s) where
      pub next_over : s.exhausted ≡ true → next_key device s enough ≡ refused refusals.exhausted
      unfolding next_key
      next_over e = rw (if_pos (valid? device s) ok true false, e)

      pub next_short : s.exhausted ≡ false → enough ≡ false → next_key device s enough ≡ refused refusals.short_buffer
      unfolding next_key
      next_short e h = rw (if_pos (valid? device s) ok true false, e, h)

      pub next_full : s.exhausted ≡ false → enough ≡ true → next_key device s enough ≡ done (given device s)
      unfolding next_key
      next_full e h = rw (if_pos (valid? device s) ok true false, e, h)

  -- done, it gives the key of the next counter
  pub next_done : (s : State K) (enough : Bool) → number (next_key device s enough) ≡ 0 → next_key device s enough ≡ done (given device s)
  unfolding next_key
  next_done s enough = tests (ite (valid? device s) true false) s.exhausted enough
    where
      tests : (a b c : Bool) → let o = require a refusals.bad_record (require (not b) refusals.exhausted (require c refusals.short_buffer (done (given device s)))) in
          number o ≡ 0 → o ≡ done (given device s)
      tests true false true z = refl
      tests true false false z = absurd (omega arith)
      tests true true c z = absurd (omega arith)
      tests false b c z = absurd (omega arith)

  -- 13 comes last: a call is answered as one with enough memory, but for it
  pub next_room : (s : State K) (enough : Bool) → next_key device s enough ≡ and_then (next_key device s true) (λ g. require enough refusals.short_buffer (done g))
  unfolding next_key
  next_room s enough =
      cases (ite (valid? device s) true false) (λ e. cases s.exhausted (λ f. rw (e, f)) (λ f. rw (e, f))) (λ e. rw e)

  -- what is answered for a refusal
  pub refused_next : {o : Result (Given K)} {s : State K} {before : List ℕ} (why : Refusal) → o ≡ refused why
      → Keeps device o s (record { before = before; number = number_of why; counter = 0; serial = replicate 10 0; left = s; after = before })
  refused_next why e = rw e (record { number = refl; counter = refl; serial = refl; left = refl; memory = refl })

  -- and for a key
  pub given_next : {s : State K} {x : Call K} {key : K} → Valid device s → s.exhausted ≡ false → device.size ≤ length x.before
      → x.number ≡ 0 → x.counter ≡ s.counter → x.serial ≡ with_counter s.serial s.counter → x.left ≡ spent device s
      → key ≡ device.variant (ready_key device s) → x.after ≡ over (device.bytes key) x.before → Next device s x
  given_next ok runs room number counter serial left ready memory =
      rw (next_full _ _ ok runs (le-leb _ _ room), ← ready) (record { number = number; counter = counter; serial = serial; left = left; memory = memory })

  -- the all-zero state, not exhausted, does not hang together
  pub zero_invalid : ¬ Valid device (zero_state device)
  zero_invalid ok = omega (arith, (runs_counted ok.counted refl).from_one)
