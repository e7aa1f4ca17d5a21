-- The bytes of registers and numbers, written and read back, for any device.
use borrow.Author.Tests.{eq-eqb, ne_eqb}
use mathlib.Core.Path.{◌≡◌, refl, sym, ap, ◌∙◌}
use mathlib.Core.Bool.{Bool, true, false}
use mathlib.Core.Logic.{by_cases}
use mathlib.Core.List.{List, [], ◌∷◌, ◌++◌, map, append_assoc, append-nil}
use Prim.Native.Nat.{ℕ, zero, suc, ◌+◌, ◌-◌, ◌*◌, ◌^◌, ◌≤◌, ◌<◌}
use native.Mathlib.Nat.{zero-add, add_assoc, mul-zero, mul-suc, mod-eq_of_lt, le_of_suc-le-suc}
use native.Mathlib.Numerals.{add-one}
use native.Mathlib.Decide.{ℕ_discrete}
use native.Mathlib.Omega.{arith}
use lib.Dec.{lit<, eqb}
use lib.ListN.{length, get_or, set, take, drop, length-append, length-drop, take-append-drop}
use lib.Seq.{drop_at, drop-cons, drop-drop, length-take-le, take-suc-set}
use Rattle.lent.specs.Words.{from_base, to_base}
use Rattle.lent.proofs.Bases.{Digits, digits_drop, digits_take, to_length, to_from, from_to, from_lt}
use Rattle.lent.specs.Private.{Appends}
use Rattle.lent.proofs.Appending.{both_appends}
use Rattle.lent.proofs.Results.{over_whole}
use Rattle.registers.specs.Device.{Device}
use Rattle.registers.specs.Machine.{State, state_in, position_of}
use Rattle.registers.specs.declared.positions.Position.{Position}
use Rattle.registers.proofs.Laws.{Lawful, ReadBack}
use Rattle.recordbytes.specs.RecordBytes.{number_read, exhausted_byte, rest_sizes, rest_parts, serial_in, position_in, part_sizes, record_size, last_place, register_bytes, registers_of, record_parts, record_bytes, state_of_parts, state_of}
use Rattle.recordbytes.specs.Parts.{joined, cut, total}
use Rattle.recordbytes.proofs.Cutting.{joined_length}

-- ---- numbers

-- a number that was written is read back
pub number_back : (n x : ℕ) → x < 256 ^ n → from_base 256 n (to_base 256 n x) ≡ x
number_back n x h = from_to 256 (lit< tt) n x ∙ mod-eq_of_lt h

-- n bytes of a list that were read as a number are written back
pub bytes_back : (n at : ℕ) (s : List ℕ) → at + n ≤ length s → Digits 256 s → to_base 256 n (from_base 256 n (take n (drop at s))) ≡ take n (drop at s)
bytes_back n at s h d =
    to_from 256 n (take n (drop at s)) (digits_take 256 n (drop at s) (digits_drop 256 at s d)) (length-take-le n (drop at s) (rw length-drop (omega arith)))

pub number_lt : (at : ℕ) (s : List ℕ) → Digits 256 s → from_base 256 4 (take 4 (drop at s)) < 2 ^ 32
number_lt at s d = from_lt 256 4 (take 4 (drop at s)) (digits_take 256 4 (drop at s) (digits_drop 256 at s d))

-- ---- the exhausted byte

pub exhausted_back : (e : Bool) → eqb (exhausted_byte e) 1 ≡ e
exhausted_back true = refl
exhausted_back false = refl

pub exhausted_le : (e : Bool) → exhausted_byte e ≤ 1
exhausted_le true = omega arith
exhausted_le false = omega arith

pub exhausted_byte_back : (x : ℕ) → x ≤ 1 → exhausted_byte (eqb x 1) ≡ x
exhausted_byte_back x h = by_cases (ℕ_discrete x 1) (λ e. rw (eq-eqb x 1 e) (sym e)) (λ e. rw (ne_eqb x 1 e) (omega arith))

-- ---- what stands after the registers

-- where its parts stand
pub rest_at : (s : List ℕ) → cut rest_sizes s ≡ take 4 s ∷ take 10 (drop 4 s) ∷ take 4 (drop 14 s) ∷ take 1 (drop 18 s) ∷ []
rest_at s = simp drop-drop

-- what its bytes say
pub rest_read : (s : List ℕ) {serial : List ℕ} {p : Position} → length s ≡ 19 → serial ≡ take 10 (drop 4 s)
    → p ≡ record { counter = number_read (take 4 (drop 14 s)); filled = number_read (take 4 s); exhausted = eqb (get_or s 18 0) 1 }
    → (serial ≡ serial_in (cut rest_sizes s)) × (p ≡ position_in (cut rest_sizes s))
rest_read s long es ep =
    let last : take 1 (drop 18 s) ≡ get_or s 18 0 ∷ [] = rw (drop-cons s 18 0 (omega arith)) in
    (es, ep ∙ rw (ap position_in (rest_at s), last))

module _ {K : Type 0} (device : Device K) where
  -- ---- registers

  -- one more is written
  pub registers_snoc : (keys : List K) (i : ℕ) → i < length keys
      → register_bytes device (take (suc i) keys) ≡ register_bytes device (take i keys) ++ device.bytes (get_or keys i device.empty)
  unfolding register_bytes
  registers_snoc [] i h = absurd (omega arith)
  registers_snoc (k ∷ keys) zero h = append-nil (device.bytes k)
  registers_snoc (k ∷ keys) (suc i) h = rw (registers_snoc keys i (le_of_suc-le-suc h), append_assoc)

  -- one more is read
  pub registers_more : (n : ℕ) (s : List ℕ) (keys : List K) (v : K) (i : ℕ) → i < n → length keys ≡ n → v ≡ device.read (drop (device.size * i) s)
      → take i keys ++ registers_of device (n - i) (drop (device.size * i) s) ≡ registers_of device n s
      → take (i + 1) (set keys i v) ++ registers_of device (n - (i + 1)) (drop (device.size * (i + 1)) s) ≡ registers_of device n s
  unfolding registers_of
  registers_more n s keys v i h long ev e =
      let more : n - i ≡ suc (n - suc i) = omega arith in
      rw (add-one i, mul-suc, ← drop-drop, take-suc-set keys i v (omega arith), append_assoc (take i keys), ev) (rw more at e)

  pub registers_length : (n : ℕ) (s : List ℕ) → length (registers_of device n s) ≡ n
  unfolding registers_of
  registers_length zero s = refl
  registers_length (suc n) s = ap suc (registers_length n (drop device.size s))

  -- ---- the parts of a record's bytes

  -- where each stands
  abbrev pub parts_at : List ℕ → List (List ℕ)
  parts_at s =
      let at = 21 * device.size in
      take at s ∷ take 4 (drop at s) ∷ take 10 (drop (at + 4) s) ∷ take 4 (drop (at + 14) s) ∷ take 1 (drop (at + 18) s) ∷ []

  pub parts_cut : (s : List ℕ) → cut (part_sizes device) s ≡ parts_at s
  parts_cut s = simp (drop-drop, add_assoc)

  pub state_parts : (s : List ℕ) → state_of device s ≡ state_of_parts device (parts_at s)
  unfolding state_of
  state_parts s = ap (state_of_parts device) (parts_cut s)

  -- a record whose registers and the rest were read
  pub state_read : (bytes : List ℕ) {keys : List K} {serial : List ℕ} {p : Position} → let rest = cut rest_sizes (drop (21 * device.size) bytes) in
      keys ≡ registers_of device 21 (take (21 * device.size) bytes) → serial ≡ serial_in rest → p ≡ position_in rest → state_in keys serial p ≡ state_of device bytes
  unfolding state_of
  state_read bytes ek es ep = rw (ek, es, ep)

  -- the last
  pub last_part : (s : List ℕ) → length s ≡ record_size device → take 1 (drop (last_place device) s) ≡ get_or s (last_place device) 0 ∷ []
  last_part s long = rw (drop-cons s (last_place device) 0 (omega arith))

  module _ (lawful : Lawful device) where
    -- ---- registers, written and read back

    pub register_length : (keys : List K) → length (register_bytes device keys) ≡ device.size * length keys
    unfolding register_bytes
    register_length [] = rw mul-zero
    register_length (k ∷ keys) = rw (length-append, lawful.sized k, register_length keys) (omega arith)

    pub registers_back : (keys : List K) → ((b : ℕ) → ReadBack device (get_or keys b device.empty))
        → registers_of device (length keys) (register_bytes device keys) ≡ keys
    unfolding register_bytes registers_of
    registers_back [] h = refl
    registers_back (k ∷ keys) h = rw (h 0, drop_at _ _ _ (lawful.sized k), registers_back keys (λ b. h (suc b)))

    pub register_bytes_back : (n : ℕ) (s : List ℕ) → length s ≡ device.size * n → Digits 256 s → register_bytes device (registers_of device n s) ≡ s
    unfolding register_bytes registers_of
    register_bytes_back zero [] h d = refl
    register_bytes_back zero (x ∷ s) h d = absurd (omega arith)
    register_bytes_back (suc n) s h d =
        let size = device.size in
        let rest = register_bytes_back n (drop size s) (rw length-drop (omega arith)) (digits_drop 256 size s d) in
        rw (lawful.bytes_back s d (omega arith), rest) (take-append-drop size s)

    pub registers_read_back : (n : ℕ) (s : List ℕ) → Digits 256 s → (b : ℕ) → ReadBack device (get_or (registers_of device n s) b device.empty)
    unfolding registers_of
    registers_read_back zero s d b = lawful.empty_back
    registers_read_back (suc n) s d zero = lawful.read_back s d
    registers_read_back (suc n) s d (suc b) = registers_read_back n (drop device.size s) (digits_drop 256 device.size s d) b

    -- ---- the parts of a record

    module _ (s : State K) (registers : length s.keys ≡ 21) (serial : length s.serial ≡ 10) where
      pub sizes_of_parts : map length (record_parts device s) ≡ part_sizes device
      sizes_of_parts =
          let first : length (register_bytes device s.keys) ≡ 21 * device.size = register_length s.keys ∙ rw registers (omega arith) in
          rw (first, to_length 256 4 s.filled, serial, to_length 256 4 s.counter)

      pub record_length : length (record_bytes device s) ≡ record_size device
      unfolding record_bytes
      record_length = joined_length (record_parts device s) ∙ ap total sizes_of_parts

      -- registers and the rest, written one after the other, fill a record's bytes
      pub record_put : (before : List ℕ) {mid after : List ℕ} {k r : ℕ} → length before ≡ record_size device
          → Appends (register_bytes device s.keys) before mid 0 k → Appends (joined (rest_parts s.serial (position_of s))) mid after k r
          → after ≡ record_bytes device s
      unfolding record_bytes
      record_put before l first rest =
          (both_appends first rest (rw (record_length, l) (omega arith))).memory ∙ rw zero-add (over_whole (record_bytes device s) before (record_length ∙ sym l))
