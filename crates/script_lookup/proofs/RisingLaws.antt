-- Ranges that rise: the test's loop, and what it says of any two ranges. Assumes nothing.
use Prim.Native.Nat.{ℕ, zero, suc, ◌+◌, ◌*◌, ◌≤◌, ◌<◌}
use mathlib.Core.Path.{◌≡◌, refl, sym, ap, ◌∙◌}
use mathlib.Core.Bool.{Bool, true, false, not, ◌&&◌, and-true, true≢false}
use mathlib.Core.List.{List, [], ◌∷◌}
use native.Mathlib.Omega.{arith}
use lib.Dec.{leb, ltb}
use lib.ListN.{length, get_or}
use borrow.Author.Tests.{leb-true, ltb-true, ltb-false}
use Rattle.families.proofs.Tests.{both_left, both_right}
use Rattle.script.specs.Input.{ranges_paired}
use Rattle.std.proofs.Common.{◌||◌, ◌++◌}
use Rattle.std.proofs.lemmas.Grind.{common_steps}
use Rattle.std.proofs.lemmas.Bool.Decides.{nat_tests}
use Rattle.script_lookup.specs.Rising.{range_first, range_last, ranges_rise, Rises}

-- ---- the test's loop

-- the very first is not looked at
head_unread : (a b : ℕ) (ranges : List ℕ) → ranges_rise (a ∷ ranges) ≡ ranges_rise (b ∷ ranges)
head_unread a b [] = refl
head_unread a b (last ∷ []) = refl
head_unread a b (last ∷ following ∷ ranges) = refl

pub rise_start : (ranges rest : List ℕ) (first : ℕ) → ranges ≡ first ∷ rest → ranges_rise (0 ∷ rest) ≡ ranges_rise ranges
rise_start ranges rest first e = rw e (head_unread 0 first rest)

-- none so far met the one before it, and the rest rise
pub rise_next : (met : Bool) (pair ranges : List ℕ) → length pair ≡ 2
    → (not (met || leb (get_or pair 1 0) (get_or pair 0 0)) && ranges_rise (0 ∷ ranges)) ≡ (not met && ranges_rise (0 ∷ (pair ++ ranges)))
rise_next met [] ranges h = absurd (omega arith)
rise_next met (last ∷ []) ranges h = absurd (omega arith)
rise_next met (last ∷ following ∷ []) ranges h = rw (head_unread following 0 ranges) (by (ranges_rise (0 ∷ ranges)))
  where
    by : (later : Bool) → (not (met || leb following last) && later) ≡ (not met && (ltb last following && later))
    by later = grind (arith, common_steps, nat_tests)
rise_next met (last ∷ following ∷ more ∷ pair) ranges h = absurd (omega arith)

pub rise_end : (met : Bool) (ranges : List ℕ) → length ranges < 2 → not met ≡ (not met && ranges_rise (0 ∷ ranges))
rise_end met [] h = sym (and-true (not met))
rise_end met (last ∷ []) h = sym (and-true (not met))
rise_end met (last ∷ following ∷ ranges) h = absurd (omega arith)

-- ---- what it says of any two ranges

-- range i + 1 of a list is range i of the list without its first range
pub shifted_by_one : (first last : ℕ) (ranges : List ℕ) (i : ℕ)
    → (range_first (first ∷ last ∷ ranges) (suc i) ≡ range_first ranges i) × (range_last (first ∷ last ∷ ranges) (suc i) ≡ range_last ranges i)
shifted_by_one first last ranges i =
    let a : 2 * suc i ≡ suc (suc (2 * i)) = omega arith in
    let b : 2 * suc i + 1 ≡ suc (suc (2 * i + 1)) = omega arith in
    (ap (λ (m : ℕ). get_or (first ∷ last ∷ ranges) m 0) a, ap (λ (m : ℕ). get_or (first ∷ last ∷ ranges) m 0) b)

rise_rest : (first last : ℕ) (ranges : List ℕ) → ranges_rise (first ∷ last ∷ ranges) ≡ true → ranges_rise ranges ≡ true
rise_rest first last [] r = refl
rise_rest first last (following ∷ ranges) r = both_right (ltb last following) (ranges_rise (following ∷ ranges)) r

pair_rest : (first last : ℕ) (ranges : List ℕ) → ranges_paired (first ∷ last ∷ ranges) ≡ true → ranges_paired ranges ≡ true
pair_rest first last ranges p = both_right (leb first last) (ranges_paired ranges) p

pair_own : (first last : ℕ) (ranges : List ℕ) → ranges_paired (first ∷ last ∷ ranges) ≡ true → first ≤ last
pair_own first last ranges p = leb-true first last (both_left (leb first last) (ranges_paired ranges) p)

-- the last of a range is below the first of every later one
below_later : (first last : ℕ) (ranges : List ℕ) → ranges_rise (first ∷ last ∷ ranges) ≡ true → ranges_paired ranges ≡ true
    → (j : ℕ) → 2 * j < length ranges → last < range_first ranges j
below_later first last [] r p j h = absurd (omega (arith, h))
below_later first last (following ∷ []) r p j h = absurd (true≢false (sym p))
below_later first last (following ∷ its_last ∷ ranges) r p zero h =
    ltb-true last following (both_left (ltb last following) (ranges_rise (following ∷ its_last ∷ ranges)) r)
below_later first last (following ∷ its_last ∷ ranges) r p (suc j) h =
    let above = ltb-true last following (both_left (ltb last following) (ranges_rise (following ∷ its_last ∷ ranges)) r) in
    let rest = rise_rest first last (following ∷ its_last ∷ ranges) r in
    let later = below_later following its_last ranges rest (pair_rest following its_last ranges p) j (omega (arith, h)) in
    rw (shifted_by_one following its_last ranges j).0 (omega (arith, above, later, pair_own following its_last ranges p))

-- of two ranges the later one lies above the other
pub apart : (ranges : List ℕ) → ranges_rise ranges ≡ true → ranges_paired ranges ≡ true
    → (i j : ℕ) → i < j → 2 * j < length ranges → range_last ranges i < range_first ranges j
apart [] r p i j l h = absurd (omega (arith, h))
apart (first ∷ []) r p i j l h = absurd (true≢false (sym p))
apart (first ∷ last ∷ ranges) r p i zero l h = absurd (omega (arith, l))
apart (first ∷ last ∷ ranges) r p zero (suc j) l h =
    rw (shifted_by_one first last ranges j).0 (below_later first last ranges r (pair_rest first last ranges p) j (omega (arith, h)))
apart (first ∷ last ∷ ranges) r p (suc i) (suc j) l h =
    rw ((shifted_by_one first last ranges i).1, (shifted_by_one first last ranges j).0)
    (apart ranges (rise_rest first last ranges r) (pair_rest first last ranges p) i j (omega (arith, l)) (omega (arith, h)))

-- no first is above its last
pub own : (ranges : List ℕ) → ranges_paired ranges ≡ true → (i : ℕ) → 2 * i < length ranges → range_first ranges i ≤ range_last ranges i
own [] p i h = absurd (omega (arith, h))
own (first ∷ []) p i h = absurd (true≢false (sym p))
own (first ∷ last ∷ ranges) p zero h = pair_own first last ranges p
own (first ∷ last ∷ ranges) p (suc i) h =
    let s = shifted_by_one first last ranges i in
    rw (s.0, s.1) (own ranges (pair_rest first last ranges p) i (omega (arith, h)))

-- where not all rise, some range is not above the one before it
pub some_meet : (ranges : List ℕ) → ranges_rise ranges ≡ false
    → (i : ℕ) × (2 * (i + 1) < length ranges) × (range_first ranges (i + 1) ≤ range_last ranges i)
some_meet [] r = absurd (true≢false r)
some_meet (first ∷ []) r = absurd (true≢false r)
some_meet (first ∷ last ∷ []) r = absurd (true≢false r)
some_meet (first ∷ last ∷ following ∷ ranges) r = by (ltb last following) refl (λ e. some_meet (following ∷ ranges) e)
  where
    by : (above : Bool) → ltb last following ≡ above
        → (ranges_rise (following ∷ ranges) ≡ false
        → (i : ℕ) × (2 * (i + 1) < length (following ∷ ranges)) × (range_first (following ∷ ranges) (i + 1) ≤ range_last (following ∷ ranges) i))
        → (i : ℕ) × (2 * (i + 1) < length (first ∷ last ∷ following ∷ ranges))
        × (range_first (first ∷ last ∷ following ∷ ranges) (i + 1) ≤ range_last (first ∷ last ∷ following ∷ ranges) i)
    by false e later = (0, omega arith, ltb-false last following e)
    by true e later =
        let m = later (sym (ap (λ (a : Bool). a && ranges_rise (following ∷ ranges)) e) ∙ r) in
        let i = m.0 in
        let all = first ∷ last ∷ following ∷ ranges in
        let place : suc i + 1 ≡ suc (i + 1) = omega arith in
        let same_first = ap (range_first all) place ∙ (shifted_by_one first last (following ∷ ranges) (i + 1)).0 in
        (suc i, omega (arith, m.1), omega (arith, same_first, (shifted_by_one first last (following ∷ ranges) i).1, m.2))

pub rises : (ranges : List ℕ) {answer : Bool} → answer ≡ ranges_rise ranges → Rises ranges answer
rises ranges e = record { answered = e; apart = λ t. apart ranges (sym e ∙ t); meets = λ f. some_meet ranges (sym e ∙ f) }
