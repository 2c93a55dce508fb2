use mathlib.Core.Path.{refl, sym, ◌∙◌, subst}
use mathlib.Core.Bool.{Bool, not}
use Prim.Native.Nat.{◌%◌, ◌≤◌}
use native.Mathlib.Omega.{arith}
use borrow.Author.Tests.{lt-ltb, le-ltb}
use lib.Dec.{T}
use lib.Ieee.{binary32, of_bits}
use lib.Ieee.Bits.{nan_bits_is, nan_bits_above}
use Rattle.probe_floats.proofs.Patterns.{only_nan, zero_by_zero, from_pattern}
use Rattle.probe_floats.proofs.float_of.Goals as goal

pub float_from_bits-result : goal.float_from_bits-result
float_from_bits-result c =
    let bits = c.args.bits in
    let small : bits % 0x8000_0000 ≤ 0x7f80_0000 = omega (arith, c.if-bits-gt-INFINITY_PATTERN.false) in
    subst (λ (t : Bool). T (not t)) (sym (nan_bits_above binary32 bits ∙ le-ltb _ _ small)) tt

pub returns-then-bits-gt-INFINITY_PATTERN : goal.returns-then-bits-gt-INFINITY_PATTERN
returns-then-bits-gt-INFINITY_PATTERN c =
    let bits = c.args.bits in
    from_pattern bits _ (omega arith)
    (zero_by_zero ∙ sym (only_nan (of_bits binary32 bits) (sym (nan_bits_is binary32 bits) ∙ nan_bits_above binary32 bits
    ∙ lt-ltb 0x7f80_0000 (bits % 0x8000_0000) (omega (arith, c.if-bits-gt-INFINITY_PATTERN.true)))))

pub returns-else-bits-gt-INFINITY_PATTERN : goal.returns-else-bits-gt-INFINITY_PATTERN
returns-else-bits-gt-INFINITY_PATTERN c = from_pattern c.args.bits _ (omega arith) refl
