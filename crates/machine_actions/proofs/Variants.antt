-- The arm `_` of a match is told which variants are left to it. Assumes nothing.
use Prim.Native.Nat.{ℕ}
use mathlib.Core.Bool.{not}
use mathlib.Core.List.{List}
use lib.Dec.{T}
use mir.Val.{has_key}
use types.Run.{OneOf, miss}

-- a variant that has an arm of its own is none of them
pub no_such : {A : Type 0} (ks : List ℕ) (k : ℕ) → T (not (has_key ks k)) → OneOf ks k → A
no_such ks k t h = elim (miss ks k t h) [ ]
