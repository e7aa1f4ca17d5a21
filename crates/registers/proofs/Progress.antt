-- A state after n keys, from the loaded one on: the registers hold the keys of their labels, and a call gives the next key in order.
use mathlib.Core.Path.{◌≡◌, refl, sym, ap, ◌∙◌, subst}
use mathlib.Core.Logic.{◌⊎◌, inl, inr, by_cases}
use mathlib.Core.Bool.{Bool, true, false}
use mathlib.Core.List.{List}
use Prim.Native.Nat.{ℕ, suc, ◌+◌, ◌-◌, ◌*◌, ◌/◌, ◌%◌, ◌^◌, ◌<◌}
use native.Mathlib.Nat.{zero-div, div-eq_of_lt, zero-lt-suc, zero-mul, le_refl}
use native.Mathlib.Decide.{dec_lt}
use native.Mathlib.Omega.{arith}
use lib.Dec.{lit<}
use lib.Pow.{pow-lt}
use lib.ListN.{get_or, length-replicate}
use Rattle.lent.specs.Refusals as refusals
use Rattle.lent.specs.Result.{Result, done, refused}
use Rattle.lent.proofs.Laws.{cases}
use Rattle.registers.specs.Counters.{bit, Permitted, counter_permitted, count_to, permitted_to, Nth, last_counter, counter_total, lowest_place, next_after}
use Rattle.registers.specs.SerialNumber.{with_counter, cleared_tail}
use Rattle.registers.specs.Device.{Device}
use Rattle.registers.specs.Machine.{State, fill, filled_mask, position_at, no_keys, key_at, stepped, loaded, ready_key, renewed, spent}
use Rattle.registers.specs.Rule.{Filled, label, Valid}
use Rattle.registers.specs.Host.{initial_of, key_of, given_key}
use Rattle.registers.specs.Calls.{Given, next_key}
use Rattle.registers.proofs.Bits.{place_lt}
use Rattle.registers.proofs.Counting.{count_hit}
use Rattle.registers.proofs.Order.{SmallestAbove, passes, one_permitted, permitted_le, next_permitted, next_count}
use Rattle.registers.proofs.Total.{total, count_most}
use Rattle.registers.proofs.Keys.{key_step, key_zero}
use Rattle.registers.proofs.Filling.{length_fill, fill_below}
use Rattle.registers.proofs.Places.{Says, is_filled, is_bare, says, mask_bit, label_own}
use Rattle.registers.proofs.Validity.{checked_valid}
use Rattle.registers.proofs.Spent.{moved, renewed_held, spent_on, spent_over, moved_valid, ended_valid}
use Rattle.registers.proofs.SerialNumbers.{length_with, counter_with, tail_with, with_with}
use Rattle.registers.proofs.Calls.{next_over, next_short, next_full}

first_count : permitted_to 1 ≡ 1
unfolding count_to
first_count = count_hit counter_permitted 0 (passes one_permitted)

module _ {K : Type 0} (device : Device K) (derivation serial : List ℕ) where
  abbrev initial : K
  initial = initial_of device derivation serial

  abbrev tail : ℕ
  tail = cleared_tail serial

  -- the register key of a counter
  abbrev key : ℕ → K
  key = key_of device derivation serial

  -- n keys were given, and the next counter is the one after them: the registers are filled by it, and hold the keys of their labels
  pub record Ready (n : ℕ) (s : State K) : Type 0 where
    pub valid : Valid device s
    pub runs : s.exhausted ≡ false
    pub same : s.serial ≡ with_counter serial 0
    pub nth : Nth (suc n) s.counter
    pub holds : (b : ℕ) → b < 21 → Filled s.counter b → key_at device s b ≡ key (label s.counter b)

  -- n keys were given, and these are all
  pub record Finished (n : ℕ) (s : State K) : Type 0 where
    pub valid : Valid device s
    pub stopped : s.exhausted ≡ true
    pub same : s.serial ≡ with_counter serial 0
    pub all : n ≡ counter_total

  abbrev pub Follows : ℕ → State K → Type 0
  Follows n s = Ready n s ⊎ Finished n s

  -- there is a key left
  pub ready_most : (n : ℕ) (s : State K) → Ready n s → n < counter_total
  ready_most n s ready = omega (arith, ready.nth.number, count_most s.counter ready.nth.permitted)

  -- it hangs together
  pub follows_valid : (n : ℕ) (s : State K) → Follows n s → Valid device s
  follows_valid n s (inl ready) = ready.valid
  follows_valid n s (inr finished) = finished.valid

  -- ---- loading

  pub loaded_follows : Follows 0 (loaded device initial serial)
  unfolding loaded position_at
  loaded_follows = inl (record {
    valid = checked_valid device (loaded device initial serial) (record {
      serial_size = length_with serial 0;
      clear = counter_with serial 0 (lit< tt);
      size = length_fill 21 first (no_keys device) ∙ length-replicate 21 device.empty;
      order = record { counted = inl (refl, one_permitted); mask = refl };
      empties = filled;
    });
    runs = refl;
    same = refl;
    nth = record { permitted = one_permitted; number = first_count };
    holds = λ b h f. held b h;
  })
    where
      first : ℕ → K
      first = stepped device initial tail 0

      -- no register is empty
      filled : (b : ℕ) → b < 21 → bit (filled_mask 1) b ≡ 0 → get_or (fill 21 first (no_keys device)) b device.empty ≡ device.empty
      filled b h e = absurd (omega (arith, mask_bit 1 (le_refl 1) (lit< tt) b h, ap (λ (x : ℕ). x % 2) (zero-div (2 ^ b))))

      -- a register's first key is one step from the initial key, the key of the counter 0
      held : (b : ℕ) → b < 21 → get_or (fill 21 first (no_keys device)) b device.empty ≡ key (label 1 b)
      held b h =
          let none_above : 1 / 2 ^ suc b ≡ 0 = div-eq_of_lt (pow-lt {i = 0} {j = suc b} (zero-lt-suc b)) in
          let bare : label 1 b ≡ 0 + 2 ^ b = ap (λ (x : ℕ). x * 2 ^ suc b + 2 ^ b) none_above ∙ omega (arith, zero-mul (2 ^ suc b)) in
          fill_below 21 first (no_keys device) b device.empty h (omega (arith, length-replicate 21 device.empty))
          ∙ ap (λ (k : K). stepped device k tail 0 b) (sym (key_zero device.one_way initial tail))
          ∙ sym (key_step device.one_way initial tail 0 b 0 h (sym (zero-mul (2 ^ suc b)))) ∙ ap key (sym bare)

  -- ---- one key

  module _ (n : ℕ) (s : State K) (ready : Ready n s) where
    abbrev c : ℕ
    c = s.counter

    abbrev ok : Permitted c
    ok = ready.nth.permitted

    -- the key that is given out is the counter's
    own_key : ready_key device s ≡ key c
    own_key =
        ready.holds (lowest_place c) (place_lt c ok.from_one ok.fits) (inl refl)
        ∙ ap key (label_own c ok.from_one ok.fits)

    -- the rule by the bits of c - 1
    was_held : (b : ℕ) → b < 21 → bit (c - 1) b ≡ 0 → key_at device s b ≡ key (label (c - 1) b)
    was_held b h e = go (says c ok.from_one ok.fits b)
      where
        go : Says c b → key_at device s b ≡ key (label (c - 1) b)
        go (is_filled f z t) = ready.holds b h f ∙ ap key t
        go (is_bare f z) = absurd (omega arith)

    -- before the last counter the next state is ready for the next key
    moved_ready : c < last_counter → Ready (suc n) (moved device s (next_after c))
    moved_ready h = record {
      valid = moved_valid device s ready.valid ready.runs h;
      runs = refl;
      same = ready.same;
      nth = record { permitted = next.permitted; number = next_count c ok h ∙ ap suc ready.nth.number };
      holds = λ b l f. go b l f (says (next_after c) next.permitted.from_one next.permitted.fits b);
    }
      where
        next : SmallestAbove c (next_after c)
        next = next_permitted c ok h

        go : (b : ℕ) → b < 21 → Filled (next_after c) b → Says (next_after c) b
            → key_at device (moved device s (next_after c)) b ≡ key (label (next_after c) b)
        go b l f (is_bare g e) = absurd (g f)
        go b l f (is_filled g e t) =
            let there = renewed_held device s.keys tail c ok ready.valid.size initial own_key was_held b l e in
            let same-tail : cleared_tail s.serial ≡ tail = ap cleared_tail ready.same ∙ tail_with serial 0 in
            ap (λ (x : ℕ). get_or (renewed device s.keys x c) b device.empty) same-tail ∙ there ∙ ap key (sym t)

    -- after a key the state follows the rule
    spent_follows : Follows (suc n) (spent device s)
    spent_follows =
        by_cases (dec_lt c last_counter) (λ h. rw (spent_on device s ok h) (inl (moved_ready h)))
        (λ h.
        let e : c ≡ last_counter = omega (arith, permitted_le c ok) in
        let all : suc n ≡ counter_total = sym ready.nth.number ∙ ap permitted_to e ∙ total in
        rw (spent_over device s (omega arith)) (inr (record { valid = ended_valid device s ready.valid ready.runs; stopped = refl; same = ready.same; all = all })))

  -- ---- one call

  -- What a done call gives when n keys were given: the next counter in order, the serial number with it, the host's key, and a state that follows.
  pub record Gives (n : ℕ) (g : Given K) : Type 0 where
    pub nth : Nth (suc n) g.counter
    pub serial_number : g.serial ≡ with_counter serial g.counter
    pub key : g.key ≡ given_key device derivation serial g.counter
    pub left : Follows (suc n) g.left

  -- what a call answers with n keys given and the state s
  pub data Answers (n : ℕ) (s : State K) (enough : Bool) : Result (Given K) → Type 0 where
    past : n ≡ counter_total → Answers n s enough (refused refusals.exhausted)
    short : n < counter_total → enough ≡ false → Answers n s enough (refused refusals.short_buffer)
    gives : {g : Given K} → n < counter_total → enough ≡ true → Gives n g → Answers n s enough (done g)

  pub step : (n : ℕ) (s : State K) (enough : Bool) → Follows n s → Answers n s enough (next_key device s enough)
  step n s enough follows = go follows
    where
      ok : Valid device s
      ok = follows_valid n s follows

      now : {o : Result (Given K)} → next_key device s enough ≡ o → Answers n s enough o → Answers n s enough (next_key device s enough)
      now e did = subst (Answers n s enough) (sym e) did

      go : Follows n s → Answers n s enough (next_key device s enough)
      go (inr finished) = now (next_over device s enough ok finished.stopped) (past finished.all)
      go (inl ready) =
          cases enough
          (λ h.
          now (next_full device s enough ok ready.runs h)
          (gives (ready_most n s ready) h (record {
            nth = ready.nth;
            serial_number = ap (λ (t : List ℕ). with_counter t s.counter) ready.same ∙ with_with s.counter serial 0;
            key = ap (λ (k : K). device.bytes (device.variant k)) (own_key n s ready);
            left = spent_follows n s ready;
          })))
          (λ h. now (next_short device s enough ok ready.runs h) (short (ready_most n s ready) h))
