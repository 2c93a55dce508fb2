use Prim.Native.Nat.{◌-◌}
use Rattle.script.specs.Script.{lent_script}
use Rattle.audit_witness.specs.Columns.{columns_log, SameColumns}
use Rattle.audit_witness.specs.Witnesses.{way}
use Rattle.audit_witness.proofs.Making.{Making}
use Rattle.audit_witness.proofs.showing.follow.Given as goal

abbrev pub invariant-loop-at : goal.invariant-loop-at
invariant-loop-at l =
    let x = lent_script l.script in
    (Making x l.ranges l.place.0 (way x l.ranges) (columns_log l.initial.columns) (columns_log l.columns) l.at l.made)
    × (SameColumns l.initial.columns l.columns)

abbrev pub decreases-loop-at : goal.decreases-loop-at
decreases-loop-at l = 512 - l.at
