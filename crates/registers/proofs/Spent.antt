-- One key given out: what the registers hold afterwards.
use mathlib.Core.Path.{◌≡◌, refl, sym, ap, ◌∙◌}
use mathlib.Core.Logic.{inl, inr, by_cases}
use mathlib.Core.Bool.{true, false}
use mathlib.Core.List.{List}
use Prim.Native.Nat.{ℕ, ◌-◌, ◌≤◌, ◌<◌}
use native.Mathlib.Decide.{dec_lt}
use native.Mathlib.Omega.{arith}
use borrow.Author.Tests.{lt-ltb, le-ltb}
use lib.ListN.{length, get_or, length-set, length-replicate, get_or-replicate}
use lib.Seq.{get_or-set_same, get_or-set_other}
use lib.Count.{ones}
use Rattle.registers.specs.Counters.{bit, Permitted, last_counter, lowest_place, next_after}
use Rattle.registers.specs.SerialNumber.{cleared_tail}
use Rattle.registers.specs.RegisterKey.{register_key}
use Rattle.registers.specs.Device.{Device}
use Rattle.registers.specs.declared.positions.Position.{Position}
use Rattle.registers.specs.Machine.{State, key_at, no_keys, stepped, emptied, fill, filled_mask, position_at, position_after, state_in, renewed, spent}
use Rattle.registers.specs.Rule.{label, Valid}
use Rattle.registers.proofs.Bits.{place_lt}
use Rattle.registers.proofs.Order.{next_permitted, next_on, next_none}
use Rattle.registers.proofs.Keys.{key_step}
use Rattle.registers.proofs.Filling.{length_fill, fill_below, fill_above}
use Rattle.registers.proofs.Places.{Says, is_filled, is_bare, says, mask_bit, Change, new_key, stays_empty, goes_empty, keeps, change}
use Rattle.registers.proofs.Validity.{mask_zero, not_none, runs_counted, checked_valid}

module _ {K : Type 0} (device : Device K) where
  -- the one-way step, and what an empty register holds
  abbrev F : K → ℕ → K
  F = device.one_way

  abbrev none : K
  none = device.empty

  -- the registers with those below that of the counter c filled from it
  abbrev refilled_below : List K → ℕ → ℕ → List K
  refilled_below keys tail c = fill (lowest_place c) (stepped device (get_or keys (lowest_place c) none) tail c) keys

  -- below ten one bits they are filled, at ten they stay; the counter's register is emptied
  pub renewed_few : (keys : List K) (tail c : ℕ) → ones c < 10 → renewed device keys tail c ≡ emptied device (lowest_place c) (refilled_below keys tail c)
  unfolding renewed
  renewed_few keys tail c h = rw (lt-ltb (ones c) 10 h) refl

  pub renewed_full : (keys : List K) (tail c : ℕ) → 10 ≤ ones c → renewed device keys tail c ≡ emptied device (lowest_place c) keys
  unfolding renewed
  renewed_full keys tail c h = rw (le-ltb (ones c) 10 h) refl

  module _ (keys : List K) (tail c : ℕ) (ok : Permitted c) (size : length keys ≡ 21) where
    abbrev l : ℕ
    l = lowest_place c

    abbrev low : List K
    low = refilled_below keys tail c

    abbrev new : ℕ → K
    new b = get_or (renewed device keys tail c) b none

    low_size : length low ≡ 21
    low_size = length_fill l (stepped device (get_or keys l none) tail c) keys ∙ size

    place : l < 21
    place = place_lt c ok.from_one ok.fits

    -- below ten one bits, and at ten
    few_at : ones c < 10 → (b : ℕ) → new b ≡ get_or (emptied device l low) b none
    few_at h b = ap (λ (k : List K). get_or k b none) (renewed_few keys tail c h)

    full_at : ¬ (ones c < 10) → (b : ℕ) → new b ≡ get_or (emptied device l keys) b none
    full_at h b = ap (λ (k : List K). get_or k b none) (renewed_full keys tail c (omega arith))

    length_renewed : length (renewed device keys tail c) ≡ 21
    length_renewed =
        by_cases (dec_lt (ones c) 10) (λ h. ap length (renewed_few keys tail c h) ∙ length-set low l _ ∙ low_size)
        (λ h. ap length (renewed_full keys tail c (omega arith)) ∙ length-set keys l _ ∙ size)

    -- register by register
    new_below : (b : ℕ) → b < l → ones c < 10 → new b ≡ stepped device (get_or keys l none) tail c b
    new_below b q h =
        few_at h b ∙ get_or-set_other low l b _ none (λ e. omega arith)
        ∙ fill_below l (stepped device (get_or keys l none) tail c) keys b none q (omega (arith, place))

    kept_below : (b : ℕ) → b < l → 10 ≤ ones c → new b ≡ get_or keys b none
    kept_below b q h = full_at (λ z. omega arith) b ∙ get_or-set_other keys l b _ none (λ e. omega arith)

    -- the emptied register is empty
    emptied_at : (k : List K) → length k ≡ 21 → get_or (emptied device l k) l none ≡ none
    emptied_at k e = get_or-set_same k l _ none (omega (arith, place))

    empty_at : (b : ℕ) → b ≡ l → new b ≡ none
    empty_at b e =
        ap new e ∙ by_cases (dec_lt (ones c) 10) (λ h. few_at h l ∙ emptied_at low low_size) (λ h. full_at h l ∙ emptied_at keys size)

    kept_above : (b : ℕ) → l < b → new b ≡ get_or keys b none
    kept_above b q =
        by_cases (dec_lt (ones c) 10)
        (λ h. few_at h b ∙ get_or-set_other low l b _ none (λ e. omega arith) ∙ fill_above l (stepped device (get_or keys l none) tail c) keys b none (omega arith))
        (λ h. full_at h b ∙ get_or-set_other keys l b _ none (λ e. omega arith))

    -- a register that is empty afterwards is zero if those that were empty are
    renewed_clear : ((b : ℕ) → b < 21 → bit (c - 1) b ≡ 1 → get_or keys b none ≡ none)
        → (b : ℕ) → b < 21 → bit (next_after c - 1) b ≡ 1 → new b ≡ none
    renewed_clear old b h e = go (change c ok.from_one ok.fits b)
      where
        go : Change c b → new b ≡ none
        go (new_key q few z y m t) = absurd (omega arith)
        go (stays_empty q many z w) = kept_below b q many ∙ old b h w
        go (goes_empty q z) = empty_at b q
        go (keeps q z t) = kept_above b q ∙ old b h (sym z ∙ e)

    module _ (initial : K) where
      abbrev key : ℕ → K
      key = register_key F initial tail

      -- a filled register holds the key of its label if those that were filled do
      pub renewed_held : get_or keys l none ≡ key c → ((b : ℕ) → b < 21 → bit (c - 1) b ≡ 0 → get_or keys b none ≡ key (label (c - 1) b))
          → (b : ℕ) → b < 21 → bit (next_after c - 1) b ≡ 0 → new b ≡ key (label (next_after c - 1) b)
      renewed_held mine old b h e = go (change c ok.from_one ok.fits b)
        where
          go : Change c b → new b ≡ key (label (next_after c - 1) b)
          go (new_key q few z y m t) = new_below b q few ∙ ap (λ (k : K). stepped device k tail c b) mine ∙ sym (key_step F initial tail c b y h m) ∙ ap key (sym t)
          go (stays_empty q many z w) = absurd (omega arith)
          go (goes_empty q z) = absurd (omega arith)
          go (keeps q z t) = kept_above b q ∙ old b h (sym z ∙ e) ∙ ap key (sym t)

  -- ---- the state

  -- the state with a counter to be given out next, and the exhausted one
  abbrev pub moved : State K → ℕ → State K
  moved s next =
      state_in (renewed device s.keys (cleared_tail s.serial) s.counter) s.serial
      (record { counter = next; filled = filled_mask next; exhausted = false })

  abbrev pub ended : State K → State K
  ended s = state_in (no_keys device) s.serial (record { counter = 0; filled = 0; exhausted = true })

  -- by the counter that was given out
  pub spent_on : (s : State K) → Permitted s.counter → s.counter < last_counter → spent device s ≡ moved s (next_after s.counter)
  unfolding spent position_after position_at
  spent_on s ok h = rw (next_on s.counter h, not_none (next_after s.counter) (next_permitted s.counter ok h).permitted)

  pub spent_over : (s : State K) → last_counter ≤ s.counter → spent device s ≡ ended s
  unfolding spent position_after position_at
  spent_over s h = rw (next_none s.counter h, mask_zero)

  -- by the position that comes after it
  module _ (s : State K) {p : Position} (after : p ≡ position_after s.counter) where
    pub spent_ends : p.exhausted ≡ true → state_in (no_keys device) s.serial p ≡ spent device s
    unfolding spent
    spent_ends e = rw (← after, e)

    pub spent_goes_on : {keys : List K} → p.exhausted ≡ false → keys ≡ renewed device s.keys (cleared_tail s.serial) s.counter
        → state_in keys s.serial p ≡ spent device s
    unfolding spent
    spent_goes_on e k = rw (← after, e, k)

  -- the state after a key of any valid state that is not exhausted is valid, whatever stands in its filled registers
  module _ (s : State K) (v : Valid device s) (runs : s.exhausted ≡ false) where
    abbrev counter : ℕ
    counter = s.counter

    abbrev permitted : Permitted counter
    permitted = runs_counted v.counted runs

    -- the rule by the bits of the number before the counter
    was_clear : (b : ℕ) → b < 21 → bit (counter - 1) b ≡ 1 → key_at device s b ≡ none
    was_clear b h e = go (says counter permitted.from_one permitted.fits b)
      where
        go : Says counter b → key_at device s b ≡ none
        go (is_filled f z t) = absurd (omega arith)
        go (is_bare f z) = (v.bare b h (λ g. f g.1)).zeros

    pub moved_valid : counter < last_counter → Valid device (moved s (next_after counter))
    moved_valid h =
        let d = (next_permitted counter permitted h).permitted in
        checked_valid device (moved s (next_after counter)) (record {
          serial_size = v.serial_size;
          clear = v.clear;
          size = length_renewed s.keys (cleared_tail s.serial) counter permitted v.size;
          order = record { counted = inl (refl, d); mask = refl };
          empties = λ b l e.
              renewed_clear s.keys (cleared_tail s.serial) counter permitted v.size was_clear b l
              (omega (arith, mask_bit (next_after counter) d.from_one d.fits b l));
        })

    pub ended_valid : Valid device (ended s)
    ended_valid = checked_valid device (ended s) (record {
      serial_size = v.serial_size;
      clear = v.clear;
      size = length-replicate 21 none;
      order = record { counted = inr (refl, refl); mask = sym mask_zero };
      empties = λ b h e. get_or-replicate 21 b none none h;
    })

    pub spent_valid : Valid device (spent device s)
    spent_valid =
        by_cases (dec_lt counter last_counter) (λ h. rw (spent_on s permitted h) (moved_valid h)) (λ h. rw (spent_over s (omega arith)) ended_valid)
