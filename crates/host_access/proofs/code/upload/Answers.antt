use Rattle.std.proofs.Common.{◌∙◌, ◌+◌, ◌-◌, arith}
use Rattle.isa.specs.Writer.{le_bytes}
use Rattle.host_registers.specs.Code.{after_upload, four_marks}
use Rattle.host_access.proofs.Uploads.{word_bytes, stored, four_of}
use Rattle.host_access.proofs.code.upload.Goals as goal

pub returns : goal.returns
unfolding after_upload
returns c =
    let s = c.args.state.now in
    let at = c.args.at in
    let k = at + 4 - at in
    rw (
      stored s.code _ (le_bytes 4 c.args.word) at k (omega arith) (omega arith)
          (c.copy_from_slice.ensures.after ∙ c.to_le_bytes.ensures ∙ word_bytes c.args.word),
      stored s.marks _ four_marks at k (omega arith) (omega arith) (c.fill.ensures.after (λ y e. e) ∙ four_of s.marks at 1 (omega arith)),
    )
