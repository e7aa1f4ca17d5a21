-- Demand 3 of the C calls of the single-length terminal; and what C gets for a call for the next key.
use mathlib.Core.Path.{◌≡◌, refl, sym}
use mathlib.Core.List.{List}
use Prim.Native.Nat.{ℕ}
use Rattle.lent.specs.Result.{Result, done, refused, number, of_done, answer_of}
use Rattle.lent.specs.declared.answers.Answer.{Answer}
use Rattle.registers.specs.Device.{Device}
use Rattle.registers.specs.Demand.{Demand3}
use Rattle.host.specs.SingleLength.{single_length}
use Rattle.host.proofs.Laws.{lawful}
use Rattle.recordbytes.specs.Calls.{Next}
use Rattle.recordbytes.specs.Records.{by_bytes}
use Rattle.recordbytes.proofs.Theorem.{bytes_demand3}

pub demand3 : Demand3 single_length (by_bytes single_length)
demand3 = bytes_demand3 single_length lawful

-- what C gets keeps the promise
pub answered : {K : Type 0} (device : Device K) {bytes kb sb ra ka sa : List ℕ} (r : Result ℕ) {a : Answer}
    → Next device bytes (record { key_before = kb; serial_before = sb; number = number r; length = of_done (λ n. n) 0 r; record_after = ra; key_after = ka; serial_after = sa })
    → a ≡ answer_of r
    → Next device bytes (record { key_before = kb; serial_before = sb; number = a.number; length = a.length; record_after = ra; key_after = ka; serial_after = sa })
answered device (done n) next e = rw e next
answered device (refused why) next e = rw e next
