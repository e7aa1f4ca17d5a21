use Rattle.recordbytes.proofs.Bytes.{rest_read}
use Rattle.recordbytes.proofs.parts.rest_of.Goals as goal

pub returns-then-bytes-ne19 : goal.returns-then-bytes-ne19
returns-then-bytes-ne19 c = λ long. absurd (c.if-bytes-ne19.true long)

pub returns : goal.returns
returns c = λ long.
    rest_read c.args.bytes.now long c.copy_from_slice.ensures.after (rw (c.number_of.ensures, c.number_of-2.ensures))
