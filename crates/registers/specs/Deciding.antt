-- Whether a state hangs together, decided part by part. The types say all.
use Rattle.std.proofs.Math.Logic.Dec
use Rattle.std.specs.Prelude.{Bool, true, false, ℕ, ◌^◌, length}
use Rattle.std.proofs.Math.Bool.{Bool-discrete}
use Rattle.std.proofs.Math.Decide.{dec_lt, ℕ_discrete, map_dec}
use Rattle.lent.proofs.Decisions.{either?, implies?, below?}
use Rattle.registers.specs.Counters.{bit, permitted?, lowest_place}
use Rattle.registers.specs.SerialNumber.{counter_of}
use Rattle.registers.specs.Device.{Device}
use Rattle.registers.specs.Machine.{State, Counted, key_at, filled_at}
use Rattle.registers.specs.Rule.{Blank, Fills, Valid}

counted? : (exhausted : Bool) (c : ℕ) → Dec (Counted exhausted c)
counted? exhausted c =
    either? (Dec.and (Bool-discrete exhausted false) (permitted? c)) (Dec.and (Bool-discrete exhausted true) (ℕ_discrete c 0))

module _ {K : Type 0} (device : Device K) (s : State K) where
  blank? : (b : ℕ) → Dec (Blank device s b)
  blank? b =
      map_dec (λ h. record { unfilled = h.0; zeros = h.1 }) (λ r. (r.unfilled, r.zeros))
      (Dec.and (ℕ_discrete (filled_at s b) 0) (device.empty? (key_at device s b)))

  pub fills? : (b : ℕ) → Dec (Fills device s b)
  fills? b =
      Dec.and (Bool-discrete s.exhausted false)
      (either? (ℕ_discrete b (lowest_place s.counter)) (Dec.and (dec_lt (lowest_place s.counter) b) (ℕ_discrete (bit s.counter b) 0)))

  pub valid? : Dec (Valid device s)
  valid? =
      map_dec
      (λ (n, (c, (k, (l, (w, (f, b)))))). record { serial_size = n; clear = c; counted = k; size = l; narrow = w; full = f; bare = b })
      (λ v. (v.serial_size, (v.clear, (v.counted, (v.size, (v.narrow, (v.full, v.bare)))))))
      (Dec.and (ℕ_discrete (length s.serial) 10)
      (Dec.and (ℕ_discrete (counter_of s.serial) 0)
      (Dec.and (counted? s.exhausted s.counter)
      (Dec.and (ℕ_discrete (length s.keys) 21)
      (Dec.and (dec_lt s.filled (2 ^ 21))
      (Dec.and (below? (λ b. implies? (fills? b) (ℕ_discrete (filled_at s b) 1)) 21)
      (below? (λ b. implies? (Dec.not (fills? b)) (blank? b)) 21)))))))
