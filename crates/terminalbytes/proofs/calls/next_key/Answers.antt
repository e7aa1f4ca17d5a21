use mathlib.Core.Path.{◌≡◌, refl, sym, ap, ◌∙◌}
use Prim.Native.Nat.{◌-◌, ◌≤◌}
use native.Mathlib.Omega.{arith}
use lib.ListN.{length, get_or}
use Rattle.std.proofs.lemmas.Result.{err_from_is_err_and}
use Rattle.lent.specs.Refusals.{size, bad_record, short_buffer}
use Rattle.recordbytes.specs.RecordBytes.{last_place, record_bytes, ValidBytes}
use Rattle.recordbytes.proofs.Laws.{other_size, other_bytes}
use Rattle.recordbytes.proofs.Calling.{refused_call, by_state, short_buffers, given_call}
use Rattle.terminal.specs.View.{view}
use Rattle.terminalbytes.proofs.calls.next_key.Goals as goal

pub returns-in_default : goal.returns-in_default
returns-in_default g c = let device = g.K.RegisterKey.device in refused_call device size (other_size device _ c.in_default.ensures _)

pub returns-then-record-gt1 : goal.returns-then-record-gt1
returns-then-record-gt1 g c =
    let device = g.K.RegisterKey.device in
    let bytes = c.args.«record».now in
    let said = c.in-Some.ensures in
    let last : length bytes - 1 ≡ last_place device = omega (arith, said.0) in
    let above = rw last at c.if-record-gt1.true in
    let bad : ¬ ValidBytes device bytes = λ v. omega (arith, v.exhausted_byte, above) in
    refused_call device bad_record (other_bytes device bytes said.0 bad _)

pub returns-in_err-counter : goal.returns-in_err-counter
returns-in_err-counter g c =
    let device = g.K.RegisterKey.device in
    let bytes = c.args.«record».now in
    let said = c.in-Some.ensures in
    let last : length bytes - 1 ≡ last_place device = omega (arith, said.0) in
    let flag : get_or bytes (last_place device) 0 ≤ 1 = let f = rw last at c.if-record-gt1.false in omega (arith, f) in
    let p = err_from_is_err_and c.from_residual.result c.from_residual.ensures.1 in
    rw (p.1, p.2) (refused_call device _ (by_state device bytes (view c.in-Some.terminal) said.0 flag said.1 _ ∙ c.in_err-counter.ensures.refusal _))

pub returns-then-not-enough : goal.returns-then-not-enough
returns-then-not-enough g c =
    let device = g.K.RegisterKey.device in
    let bytes = c.args.«record».now in
    let said = c.in-Some.ensures in
    let last : length bytes - 1 ≡ last_place device = omega (arith, said.0) in
    let flag : get_or bytes (last_place device) 0 ≤ 1 = let f = rw last at c.if-record-gt1.false in omega (arith, f) in
    let ready = c.in_ok-counter.ensures in
    let few = rw c.size-size.ensures.value at (sym c.enough.ensures ∙ c.if-not-enough.true) in
    refused_call device short_buffer (short_buffers device bytes (view c.in-Some.terminal) said.0 flag said.1 ready.valid ready.running _ few)

pub returns : goal.returns
returns g c =
    let device = g.K.RegisterKey.device in
    let bytes = c.args.«record».now in
    let said = c.in-Some.ensures in
    let last : length bytes - 1 ≡ last_place device = omega (arith, said.0) in
    let flag : get_or bytes (last_place device) 0 ≤ 1 = let f = rw last at c.if-record-gt1.false in omega (arith, f) in
    let ready = c.in_ok-counter.ensures in
    let enough = rw c.size-size.ensures.value at (sym c.enough.ensures ∙ c.if-not-enough.false) in
    let written = c.copy_from_slice.ensures.after ∙ c.as_slice.ensures ∙ c.bytes.ensures in
    given_call device bytes (view c.in-Some.terminal) said.0 flag said.1 ready.valid ready.running _ {key = c.given_key.result} g.met.K.RegisterKey.lawful
    enough refl c.size-size.ensures.value (c.put_record.ensures ∙ ap (record_bytes device) (c.after_key.ensures ready.counter))
    (rw ready.counter at c.given_key.ensures) (rw (written, c.size-size.ensures.value))
    (rw (c.copy_from_slice-2.ensures.after ∙ (rw ready.counter at c.with_counter.ensures)))
