use Rattle.std.proofs.Common.{◌≡◌, true, false, sym, ◌∙◌}
use Rattle.event_log.specs.Log.{Log, lent_log}
use Rattle.log_ewaits.proofs.EwaitLaws.{reads_at, in64_start, in64_end, in64_here, in64_next, ewaits}
use Rattle.log_ewaits.proofs.ewait.event_wait.Goals as goal

pub loop-row-init : goal.loop-row-init
loop-row-init c = let a = c.args in in64_start (lent_log a.log) a.event a.value a.at

pub returns-then-has_reading : goal.returns-then-has_reading
returns-then-has_reading c =
    let a = c.args in
    let v = c.loop-row in
    let log : Log = lent_log a.log in
    let reads : reads_at log a.event a.value v.row ≡ true = cc in
    let here = in64_here log a.event a.value v.row v.used v.passed v.auto.passed-fits.fits c.if-log-row.false reads in
    ewaits log a.at a.event a.value _ (sym here ∙ v.invariant)

pub loop-row-preserved : goal.loop-row-preserved
loop-row-preserved c =
    let a = c.args in
    let v = c.loop-row in
    let log : Log = lent_log a.log in
    let reads : reads_at log a.event a.value v.row ≡ false = cc in
    rw c.unused-passed.ensures (sym (in64_next log a.event a.value v.row v.used v.passed c.if-log-row.false reads) ∙ v.invariant)

pub returns-then-log-row : goal.returns-then-log-row
returns-then-log-row c =
    let a = c.args in
    let v = c.loop-row in
    let log : Log = lent_log a.log in
    let end = in64_end log a.event a.value v.row v.used v.passed v.auto.passed-fits.fits c.if-log-row.true in
    ewaits log a.at a.event a.value _ (sym end ∙ v.invariant)
