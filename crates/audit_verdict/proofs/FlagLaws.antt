-- Flag 16 after a flag is changed. Assumes nothing.
use Prim.Native.Nat.{ℕ, ◌<◌}
use mathlib.Core.Path.{◌≡◌, refl, sym, subst}
use mathlib.Core.Bool.{Bool, true, false, cond}
use native.Mathlib.Omega.{arith}
use lib.Dec.{eqb}
use borrow.Author.Tests.{eqb-true, eqb-false}
use Rattle.machine_flags.specs.Flags.{changed_flags, overrides1, ChangesFlags}
use Rattle.machine_flags.specs.declared.flags.Change.{Change}
use Rattle.machine_flags.specs.declared.flags.Flags.{Flags}
use Rattle.machine_flags.proofs.FlagLaws.{changes}
use Rattle.audit_verdict.specs.Auditor.{is_set1}

-- the flag that was changed is at override 1 after set1 alone
own : (change : Change) {n : ℕ} {old new : Flags} → n < 32 → ChangesFlags change n old new → overrides1 n new ≡ is_set1 change
unfolding overrides1
own Change.Unset h c = rw (c.enable h) refl
own Change.Set1 h c = rw (c.enable h, c.value h) refl
own Change.Set0 h c = rw (c.enable h, c.value h) refl

-- and any other is as before
other : {change : Change} {flag n : ℕ} {old new : Flags} → (n ≡ flag → ⊥) → ChangesFlags change flag old new → overrides1 n new ≡ overrides1 n old
unfolding overrides1
other {n = n} apart c = let same = c.others n apart in rw (same.0, same.1) refl

-- so it is with flag 16
pub flag_law : (change : Change) (flag : ℕ) (flags : Flags) → flag < 32
    → overrides1 16 (changed_flags change flag flags) ≡ cond (eqb flag 16) (is_set1 change) (overrides1 16 flags)
flag_law change flag flags h = by (eqb flag 16) refl
  where
    new : Flags
    new = changed_flags change flag flags

    by : (same : Bool) → eqb flag 16 ≡ same → overrides1 16 new ≡ cond same (is_set1 change) (overrides1 16 flags)
    by true e = own change (omega arith) (subst (λ n. ChangesFlags change n flags new) (eqb-true flag 16 e) (changes change flag flags new refl))
    by false e = other (λ is. eqb-false flag 16 e (sym is)) (changes change flag flags new refl)
