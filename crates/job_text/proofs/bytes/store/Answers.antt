use Rattle.std.proofs.Common.{◌+◌, ◌<◌, ◌≤◌, length, rules, arith, sym}
use Rattle.job_text.proofs.PutLaws.{after_room, copied, full}
use Rattle.job_text.proofs.bytes.store.Goals as goal
use Rattle.job_text.proofs.bytes.store.Goals.{then-out-at-via-then-out-at, then-out-at-via-else-out-at+then-out-at-2}

pub returns-then-out-at : goal.returns-then-out-at
returns-then-out-at c =
    let a = c.args in
    let no_room : length a.out.now < a.at + length a.text.now = elim c.then-out-at.branch [
      | then-out-at-via-then-out-at w ↦ omega arith
      | then-out-at-via-else-out-at+then-out-at-2 w ↦ omega arith
    ] in
    let same = full a.out.now a.at a.text.now no_room in
    record { value = same.0; out_after = same.1 }

pub returns : goal.returns
returns c =
    let a = c.args in
    let room : a.at + length a.text.now ≤ length a.out.now = omega arith in
    record { value = sym (after_room a.out.now a.at a.text.now room); out_after = search (rules, copied) }
