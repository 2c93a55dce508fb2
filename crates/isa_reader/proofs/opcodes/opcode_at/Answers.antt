use native.Mathlib.Omega.{arith}
use mathlib.Core.Path.{◌∙◌}
use Rattle.isa.proofs.OpcodeLaws.{wait, exit, unset, set1, set0, addr_lo, data_lo, ewait, addr, data32, unknown}
use Rattle.isa_reader.proofs.opcodes.opcode_at.Goals as goal

pub returns-in-64 : goal.returns-in-64
returns-in-64 c = c.later_only.ensures ∙ addr_lo c.args.family c.args.first (omega arith)

pub returns-in-66 : goal.returns-in-66
returns-in-66 c = c.later_only-in-66.ensures ∙ data_lo c.args.family c.args.first (omega arith)

pub returns-in-95 : goal.returns-in-95
returns-in-95 c = c.later_only-in-95.ensures ∙ ewait c.args.family c.args.first (omega arith)

pub returns-in-127 : goal.returns-in-127
returns-in-127 c = exit _ _ (omega arith)

pub returns-in-224 : goal.returns-in-224
returns-in-224 c = c.later_only-in-224.ensures ∙ addr c.args.family c.args.first (omega arith)

pub returns-in-226 : goal.returns-in-226
returns-in-226 c = c.later_only-in-226.ensures ∙ data32 c.args.family c.args.first (omega arith)

pub returns-in-0-to-63 : goal.returns-in-0-to-63
returns-in-0-to-63 c = wait _ _ (omega arith)

pub returns-in-128-to-159 : goal.returns-in-128-to-159
returns-in-128-to-159 c = unset _ _ (omega arith) (omega arith)

pub returns-in-160-to-191 : goal.returns-in-160-to-191
returns-in-160-to-191 c = set1 _ _ (omega arith) (omega arith)

pub returns-in-192-to-223 : goal.returns-in-192-to-223
returns-in-192-to-223 c = set0 _ _ (omega arith) (omega arith)

pub returns-in_default : goal.returns-in_default
returns-in_default c = unknown _ _ (omega arith) (omega arith) (omega arith) (omega arith) (omega arith) (omega arith) (omega arith) (omega arith)

pub returns-in_default-2 : goal.returns-in_default-2
returns-in_default-2 c = unknown _ _ (omega arith) (omega arith) (omega arith) (omega arith) (omega arith) (omega arith) (omega arith) (omega arith)
