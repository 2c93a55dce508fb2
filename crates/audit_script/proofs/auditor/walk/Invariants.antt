use Prim.Native.Nat.{◌-◌}
use Rattle.script.specs.Script.{lent_script}
use Rattle.audit_script.proofs.Walking.{Going}
use Rattle.audit_script.proofs.auditor.walk.Given as goal

-- the walk begins at the entry
abbrev pub invariant-loop-instruction : goal.invariant-loop-instruction
invariant-loop-instruction l = Going (lent_script l.script) l.ranges l.at l.known

abbrev pub decreases-loop-instruction : goal.decreases-loop-instruction
decreases-loop-instruction l = 512 - l.at
