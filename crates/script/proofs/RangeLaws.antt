-- Ranges, one pair at a time, and marks. Assumes nothing.
use Prim.Native.Nat.{ℕ, ◌*◌, ◌%◌, ◌≤◌, ◌<◌}
use mathlib.Core.Path.{◌≡◌, refl, sym, ap, ◌∙◌}
use mathlib.Core.Bool.{Bool, true, false, not, ◌&&◌, and-true, and-false, and_assoc}
use mathlib.Core.List.{List, [], ◌∷◌}
use native.Mathlib.Omega.{arith}
use borrow.Author.Tests.{leb-true}
use lib.Dec.{leb, ltb}
use lib.ListN.{length, get_or}
use Rattle.std.proofs.Common.{◌||◌, ◌++◌, max, length-append}
use Rattle.std.proofs.lemmas.Grind.{common_steps}
use Rattle.std.proofs.lemmas.Iterator.{YieldsList}
use Rattle.std.specs.List.{fold, list_any}
use Rattle.std.specs.Iterator.{AlwaysYields}
use Rattle.std.specs.Slice.Iter.{chunks_exact_rest, chunks_exact_size, chunks_exact_steps}
use Rattle.std.specs.declared.slice.ChunksExact.{ChunksExact}
use Rattle.std.proofs.lemmas.Bool.Decides.{nat_tests}
use Rattle.families.specs.Family.{within}
use Rattle.families.proofs.Tests.{both_left, both_right}
use Rattle.script.specs.Input.{listed_in, ranges_paired, marks_plain, max_ranges, ranges_fit}

-- ---- ranges in pairs, as `chunks_exact(2)` takes them from a list

-- none so far is crossed, nor is this one, and the rest are in order
pub paired_next : (crossed : Bool) (pair ranges : List ℕ) → length pair ≡ 2
    → (not (crossed || ltb (get_or pair 1 0) (get_or pair 0 0)) && ranges_paired ranges) ≡ (not crossed && ranges_paired (pair ++ ranges))
paired_next crossed [] ranges h = absurd (omega arith)
paired_next crossed (first ∷ []) ranges h = absurd (omega arith)
paired_next crossed (first ∷ last ∷ []) ranges h = grind (arith, common_steps, nat_tests)
paired_next crossed (first ∷ last ∷ more ∷ pair) ranges h = absurd (omega arith)

-- an odd one has no last
pub paired_odd : (ranges : List ℕ) → length ranges % 2 ≡ 1 → false ≡ ranges_paired ranges
paired_odd [] h = absurd (omega (arith, h))
paired_odd (first ∷ []) h = refl
paired_odd (first ∷ last ∷ ranges) h = rw (sym (paired_odd ranges (omega (arith, h)))) (sym (and-false (leb first last)))

-- what is left of whole pairs is none
pub paired_few : (ranges : List ℕ) → length ranges < 2 → length ranges % 2 ≡ 0 → ranges_paired ranges ≡ true
paired_few [] h e = refl
paired_few (first ∷ []) h e = absurd (omega arith)
paired_few (first ∷ last ∷ ranges) h e = absurd (omega arith)

-- the list in pairs; a first without its last is left out
abbrev pub pairs_of : List ℕ → List (List ℕ)
pairs_of [] = []
pairs_of (first ∷ []) = []
pairs_of (first ∷ last ∷ ranges) = (first ∷ last ∷ []) ∷ pairs_of ranges

-- a pair does not come of fewer than two, and of more it is the first two
too_few : (ranges pair rest : List ℕ) → length ranges < 2 → length pair ≡ 2 → ranges ≡ pair ++ rest → ⊥
too_few ranges pair rest h p e = omega (arith, ap length e, length-append {A = ℕ})

parts : (first last : ℕ) (ranges pair rest : List ℕ) → length pair ≡ 2 → first ∷ last ∷ ranges ≡ pair ++ rest
    → (pair ≡ first ∷ last ∷ []) × (rest ≡ ranges)
parts first last ranges [] rest h e = absurd (omega arith)
parts first last ranges (a ∷ []) rest h e = absurd (omega arith)
parts first last ranges (a ∷ b ∷ []) rest h e = (cc, cc)
parts first last ranges (a ∷ b ∷ c ∷ pair) rest h e = absurd (omega arith)

-- the pairs come in order, and then none
pairs_come : (ranges : List ℕ) (s : ChunksExact ℕ) → chunks_exact_rest s ≡ ranges → chunks_exact_size s ≡ 2
    → AlwaysYields chunks_exact_steps (λ pair. pair.now) s (pairs_of ranges)
pairs_come [] s e z = λ x j h. too_few [] x.now (chunks_exact_rest j) (omega arith) (h.1.1 ∙ z) (sym e ∙ h.1.0)
pairs_come (first ∷ []) s e z = λ x j h. too_few (first ∷ []) x.now (chunks_exact_rest j) (omega arith) (h.1.1 ∙ z) (sym e ∙ h.1.0)
pairs_come (first ∷ last ∷ ranges) s e z = (
  λ j h. absurd (let few : length (chunks_exact_rest s) < 2 = omega (arith, h.1.0, z) in omega (arith, ap length e)),
  λ x j h. let same = parts first last ranges x.now (chunks_exact_rest j) (h.1.1 ∙ z) (sym e ∙ h.1.0) in
      (same.0, pairs_come ranges j same.1 (h.0 ∙ z)),
)

pub pairs_yield : (ranges : List ℕ) (s : ChunksExact ℕ) → chunks_exact_rest s ≡ ranges → chunks_exact_size s ≡ 2
    → YieldsList chunks_exact_steps (λ pair. pair.now) s (pairs_of ranges)
pairs_yield ranges s e z = record { runs = pairs_come ranges s e z }

pub listed_pairs : (ranges : List ℕ) (address : ℕ)
    → list_any (λ pair. within (get_or pair 0 0) address (get_or pair 1 0)) (pairs_of ranges) ≡ listed_in ranges address
listed_pairs [] address = refl
listed_pairs (first ∷ []) address = refl
listed_pairs (first ∷ last ∷ ranges) address = ap (◌||◌ (within first address last)) (listed_pairs ranges address)

-- ranges that fit: no more than there may be, and in pairs
pub fit_few : (ranges : List ℕ) → ranges_fit ranges ≡ true → length ranges ≤ 2 * max_ranges
unfolding ranges_fit
fit_few ranges e = leb-true (length ranges) (2 * max_ranges) (both_left (leb (length ranges) (2 * max_ranges)) (ranges_paired ranges) e)

pub fit_paired : (ranges : List ℕ) → ranges_fit ranges ≡ true → ranges_paired ranges ≡ true
unfolding ranges_fit
fit_paired ranges e = both_right (leb (length ranges) (2 * max_ranges)) (ranges_paired ranges) e

-- ---- marks: the largest is plain where each is

plain_both : (a b : ℕ) → leb (max a b) 1 ≡ (leb a 1 && leb b 1)
plain_both a b = grind (arith, common_steps, nat_tests)

pub plain_fold : (marks : List ℕ) (most : ℕ) → leb (fold (λ a x. max a x) most marks) 1 ≡ (leb most 1 && marks_plain marks)
plain_fold [] most = sym (and-true (leb most 1))
plain_fold (mark ∷ marks) most = plain_fold marks (max most mark) ∙ rw (plain_both most mark) (and_assoc (leb most 1) (leb mark 1) (marks_plain marks))
