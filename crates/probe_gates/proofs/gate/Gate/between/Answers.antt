use Rattle.probe_gates.proofs.Readings.{between_of, levels_between}
use Rattle.probe_gates.proofs.gate.Gate.between.Goals as goal

pub returns-then-low-volts : goal.returns-then-low-volts
returns-then-low-volts c =
    let a = c.args in
    between_of a.self a.volts _ (rw (levels_between a.volts c.in-Normal.is, c.if-low-volts.true))

pub returns-else-low-volts : goal.returns-else-low-volts
returns-else-low-volts c =
    let a = c.args in
    between_of a.self a.volts _ (rw (levels_between a.volts c.in-Normal.is, c.if-low-volts.false))
