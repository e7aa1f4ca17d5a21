-- What readers cite, for any device: a record's bytes and the record give each other back, bytes are a valid record exactly if they are those of
-- one, any others are refused, and a call with a record's bytes is one with the record.
use borrow.Author.Tests.{leb-true, le-leb, eq-eqb, ne_eqb}
use mathlib.Core.Path.{◌≡◌, sym, ap, ◌∙◌}
use mathlib.Core.Bool.{Bool}
use mathlib.Core.Logic.{⊎_elim, ◌↔◌, if_neg, by_cases}
use mathlib.Core.List.{List, []}
use Prim.Native.Nat.{ℕ, ◌+◌, ◌*◌, ◌^◌, ◌≤◌, ◌<◌}
use native.Mathlib.Decide.{dec_lt}
use native.Mathlib.Omega.{arith}
use lib.Dec.{leb}
use lib.ListN.{length, get_or, take, drop, length-drop, get_or-eq_default}
use lib.Seq.{length-take-le}
use Rattle.lent.specs.Refusals as refusals
use Rattle.lent.specs.Result.{refused}
use Rattle.lent.proofs.Laws.{cases}
use Rattle.lent.proofs.Bases.{Digits, digits_take}
use Rattle.registers.specs.Device.{Device}
use Rattle.registers.specs.Machine.{State, key_at}
use Rattle.registers.specs.Rule.{Valid}
use Rattle.registers.specs.Deciding.{valid?}
use Rattle.registers.specs.Calls.{next_key}
use Rattle.registers.proofs.Laws.{Lawful, ReadBack}
use Rattle.recordbytes.specs.RecordBytes.{part_sizes, record_size, last_place, exhausted_byte, record_parts, record_bytes, state_of_parts, state_of, ValidBytes}
use Rattle.recordbytes.specs.Parts.{joined, cut}
use Rattle.recordbytes.specs.Calls.{next_key_of}
use Rattle.recordbytes.proofs.Bytes.{parts_cut, state_parts, last_part, number_back, bytes_back, registers_back, register_bytes_back, registers_length, registers_read_back, number_lt, sizes_of_parts, record_length, exhausted_back, exhausted_le, exhausted_byte_back}
use Rattle.recordbytes.proofs.Cutting.{cut_joined, joined_cut}

module _ {K : Type 0} (device : Device K) where
  -- a state that a record's bytes can hold: its keys are read back from their bytes, and its numbers have 32 bits
  pub record Fits (s : State K) : Type 0 where
    pub registers : length s.keys ≡ 21
    pub keys : (b : ℕ) → ReadBack device (key_at device s b)
    pub filled : s.filled < 2 ^ 32
    pub serial : length s.serial ≡ 10
    pub counter : s.counter < 2 ^ 32

  -- the call with bytes of a record's size, whose last is 0 or 1, is the call with the state of them
  pub next_bytes : (bytes : List ℕ) → length bytes ≡ record_size device → get_or bytes (last_place device) 0 ≤ 1 → (enough : Bool)
      → next_key_of device bytes enough ≡ next_key device (state_of device bytes) enough
  unfolding next_key_of
  next_bytes bytes long flag enough = rw (eq-eqb _ _ long, le-leb _ _ flag)

  -- ---- bytes that are no valid record

  -- of another size: 6
  pub other_size : (bytes : List ℕ) → ¬ (length bytes ≡ record_size device) → (enough : Bool) → next_key_of device bytes enough ≡ refused refusals.size
  unfolding next_key_of
  other_size bytes h enough = rw (ne_eqb _ _ h)

  -- of its size: 11
  pub other_bytes : (bytes : List ℕ) → length bytes ≡ record_size device → ¬ ValidBytes device bytes → (enough : Bool)
      → next_key_of device bytes enough ≡ refused refusals.bad_record
  unfolding next_key_of next_key
  other_bytes bytes long bad enough =
      rw (eq-eqb _ _ long) (cases (leb (get_or bytes (last_place device) 0) 1)
      (λ e. rw (e, if_neg (valid? device _) (λ ok. bad (record { size = long; exhausted_byte = leb-true _ _ e; hangs_together = ok }))))
      (λ e. rw e))

  module _ (lawful : Lawful device) where
    -- ---- writing, then reading

    -- a state that hangs together fits if the keys in its registers are read back from their bytes
    pub valid_fits : (s : State K) → Valid device s → ((b : ℕ) → b < 21 → ReadBack device (key_at device s b)) → Fits s
    valid_fits s ok keys = record {
      registers = ok.size;
      keys = λ b.
          by_cases (dec_lt b 21) (keys b)
          (λ h. rw (get_or-eq_default s.keys device.empty {n = b} (omega (arith, ok.size))) lawful.empty_back);
      filled = omega (arith, ok.narrow);
      serial = ok.serial_size;
      counter = ⊎_elim (λ c. omega (arith, c.1.fits)) (λ c. omega (arith, c.1)) ok.counted;
    }

    module _ (s : State K) (fits : Fits s) where
      -- a record's bytes have its size
      pub written_length : length (record_bytes device s) ≡ record_size device
      written_length = record_length device lawful s fits.registers fits.serial

      cut_written : cut (part_sizes device) (record_bytes device s) ≡ record_parts device s
      unfolding record_bytes
      cut_written =
          ap (λ sizes. cut sizes (joined (record_parts device s))) (sym (sizes_of_parts device lawful s fits.registers fits.serial))
          ∙ cut_joined (record_parts device s)

      last_byte : get_or (record_bytes device s) (last_place device) 0 ≤ 1
      last_byte =
          let last = last_part device (record_bytes device s) written_length in
          let fifth = ap (λ parts. get_or parts 4 []) (sym (parts_cut device (record_bytes device s)) ∙ cut_written) in
          let e : get_or (record_bytes device s) (last_place device) 0 ≡ exhausted_byte s.exhausted = cc in
          rw e (exhausted_le s.exhausted)

      -- what was written is read back
      pub read_written : state_of device (record_bytes device s) ≡ s
      unfolding state_of
      read_written =
          let registers = rw fits.registers at (registers_back device lawful s.keys fits.keys) in
          ap (state_of_parts device) cut_written
          ∙ rw (registers, number_back 4 s.filled fits.filled, number_back 4 s.counter fits.counter, exhausted_back s.exhausted)

      -- the bytes of a record that hangs together are valid
      pub written_valid : Valid device s → ValidBytes device (record_bytes device s)
      written_valid ok = record { size = written_length; exhausted_byte = last_byte; hangs_together = rw read_written ok }

      -- the call with them is the call with the record
      pub written_next : (enough : Bool) → next_key_of device (record_bytes device s) enough ≡ next_key device s enough
      written_next enough = rw read_written at (next_bytes (record_bytes device s) written_length last_byte enough)

    -- ---- reading, then writing

    module _ (bytes : List ℕ) (long : length bytes ≡ record_size device) (d : Digits 256 bytes) where
      -- what was read is written back
      pub written_read : get_or bytes (last_place device) 0 ≤ 1 → record_bytes device (state_of device bytes) ≡ bytes
      unfolding record_bytes
      written_read h =
          let at = 21 * device.size in
          let last = last_part device bytes long in
          let size = length-take-le at bytes (omega arith) in
          let registers = register_bytes_back device lawful 21 (take at bytes) (omega arith) (digits_take 256 at bytes d) in
          ap (record_bytes device) (state_parts device bytes)
          ∙ rw (last, registers, bytes_back 4 at bytes (omega arith) d, bytes_back 4 (at + 14) bytes (omega arith) d, exhausted_byte_back _ h)
          (rw last at (ap joined (sym (parts_cut device bytes)) ∙ joined_cut (part_sizes device) bytes long))

      -- what is read fits
      pub read_fits : Fits (state_of device bytes)
      read_fits =
          let at = 21 * device.size in
          rw (state_parts device bytes) (record {
            registers = registers_length device 21 (take at bytes);
            keys = registers_read_back device lawful 21 (take at bytes) (digits_take 256 at bytes d);
            filled = number_lt at bytes d;
            serial = length-take-le 10 (drop (at + 4) bytes) (rw length-drop (omega arith));
            counter = number_lt (at + 14) bytes d;
          })

    -- bytes are a valid record exactly if they are the bytes of one
    pub valid_bytes : (bytes : List ℕ) → Digits 256 bytes
        → ValidBytes device bytes ↔ ((s : State K) × Fits s × Valid device s × (record_bytes device s ≡ bytes))
    valid_bytes bytes d = (
      λ v. (state_of device bytes, read_fits bytes v.size d, v.hangs_together, written_read bytes v.size d v.exhausted_byte),
      λ h. rw h.3 at (written_valid h.0 h.1 h.2),
    )
