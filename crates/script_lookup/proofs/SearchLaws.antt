-- The search by halves: how many looks it takes, and what it finds. Assumes nothing.
use Prim.Native.Nat.{ℕ, zero, suc, ◌+◌, ◌-◌, ◌*◌, ◌/◌, ◌^◌, ◌≤◌, ◌<◌}
use mathlib.Core.Path.{◌≡◌, refl, ap, sym, ◌∙◌}
use mathlib.Core.Logic.{◌⊎◌, inl, inr}
use mathlib.Core.Bool.{Bool, true, false, cond, ◌||◌, true≢false}
use mathlib.Core.List.{List, [], ◌∷◌}
use native.Mathlib.Decide.{dec_lt}
use native.Mathlib.Omega.{arith}
use native.Mathlib.Nat.{pow-suc}
use lib.ListN.{length}
use lib.Dec.{leb, eqb}
use borrow.Author.Tests.{leb-true, leb-false, eq-eqb, ne_eqb, eqb-true, eqb-false}
use Rattle.families.specs.Family.{within}
use Rattle.families.proofs.Tests.{cond_elim, inside, bounds}
use Rattle.script.specs.Input.{listed_in, ranges_paired}
use Rattle.script.proofs.RangeLaws.{fit_paired, fit_few}
use Rattle.script_lookup.specs.Rising.{range_first, range_last, ranges_rise}
use Rattle.script_lookup.specs.Lookup.{middle_of, looked_at, search_in, nothing_found, search_of}
use Rattle.script_lookup.specs.WorkedLists.{spaced, WorkedLists}
use Rattle.script_lookup.specs.Promises.{Searches, max_looks, QuickLookups}
use Rattle.script_lookup.specs.declared.lookup.Lookup.{Lookup}
use Rattle.script_lookup.proofs.RisingLaws.{apart, own, shifted_by_one}

-- where the search goes on after a look at the middle range
abbrev pub low_after : List ℕ → ℕ → ℕ → ℕ → ℕ
low_after ranges address low n = cond (leb (range_first ranges (low + middle_of n)) address) (low + (n - middle_of n)) low

module _ (ranges : List ℕ) (address : ℕ) where
  pub search_none : (left low : ℕ) (found : Lookup) → search_in left ranges address low 0 found ≡ found
  unfolding search_in
  search_none zero low found = refl
  search_none (suc left) low found = refl

  -- one look
  pub search_look : (left low n : ℕ) (found : Lookup) → 0 < n
      → search_in (suc left) ranges address low n found
      ≡ search_in left ranges address (low_after ranges address low n) (middle_of n) (looked_at ranges address (low + middle_of n) found)
  unfolding search_in
  search_look left low n found h = let some : eqb n 0 ≡ false = ne_eqb n 0 (λ e. omega (arith, h, e)) in rw some

  -- ---- how many looks

  pub few : (left k low n : ℕ) (found : Lookup) → n < 2 ^ k → (search_in left ranges address low n found).looks ≤ found.looks + k
  unfolding search_in
  few zero k low n found h = omega arith
  few (suc left) zero low n found h = let z : n ≡ 0 = omega (arith, h) in rw (eq-eqb n 0 z) (omega arith)
  few (suc left) (suc k) low n found h =
      cond_elim (λ (r : Lookup). r.looks ≤ found.looks + suc k) (eqb n 0)
      (λ _. omega arith)
      (λ _. let p = pow-suc 2 k in
      let half : middle_of n < 2 ^ k = omega (arith, h, p) in
      let r = few left k (low_after ranges address low n) (middle_of n) (looked_at ranges address (low + middle_of n) found) half in
      omega (arith, r))

-- ---- what it finds

-- range i holds the address
pub record Holds (ranges : List ℕ) (i address : ℕ) : Type 0 where
  pub there : 2 * i + 1 < length ranges
  pub first : range_first ranges i ≤ address
  pub last : address ≤ range_last ranges i

or_right : (a b : Bool) → b ≡ true → (a || b) ≡ true
or_right true b e = refl
or_right false b e = e

or_cases : (a b : Bool) → (a || b) ≡ true → (a ≡ true) ⊎ (b ≡ true)
or_cases true b e = inl refl
or_cases false b e = inr e

holds_listed : (ranges : List ℕ) (i address : ℕ) → Holds ranges i address → listed_in ranges address ≡ true
holds_listed [] i address h = absurd (omega (arith, h.there))
holds_listed (first ∷ []) i address h = absurd (omega (arith, h.there))
holds_listed (first ∷ last ∷ ranges) zero address h = rw (inside first address last h.first h.last) refl
holds_listed (first ∷ last ∷ ranges) (suc i) address h =
    let s = shifted_by_one first last ranges i in
    let later : Holds ranges i address = record { there = omega (arith, h.there); first = omega (arith, s.0, h.first); last = omega (arith, s.1, h.last) } in
    or_right (within first address last) (listed_in ranges address) (holds_listed ranges i address later)

listed_holds : (ranges : List ℕ) (address : ℕ) → listed_in ranges address ≡ true → (i : ℕ) × Holds ranges i address
listed_holds [] address h = absurd (true≢false (sym h))
listed_holds (first ∷ []) address h = absurd (true≢false (sym h))
listed_holds (first ∷ last ∷ ranges) address h =
    by (or_cases (within first address last) (listed_in ranges address) h) (λ e. listed_holds ranges address e)
  where
    by : ((within first address last ≡ true) ⊎ (listed_in ranges address ≡ true)) → (listed_in ranges address ≡ true → (i : ℕ) × Holds ranges i address)
        → (i : ℕ) × Holds (first ∷ last ∷ ranges) i address
    by (inl e) later = let b = bounds first address last e in (0, record { there = omega arith; first = b.0; last = b.1 })
    by (inr e) later =
        let r = later e in
        let s = shifted_by_one first last ranges r.0 in
        let h = r.1 in
        (suc r.0, record { there = omega (arith, h.there); first = omega (arith, s.0, h.first); last = omega (arith, s.1, h.last) })

module _ (ranges : List ℕ) (address : ℕ) where
  -- in any list what is found is listed
  pub found_listed : (left low n : ℕ) (found : Lookup) → 2 * (low + n) ≤ length ranges → (found.listed ≡ true → listed_in ranges address ≡ true)
      → (search_in left ranges address low n found).listed ≡ true → listed_in ranges address ≡ true
  unfolding search_in
  found_listed zero low n found h before = before
  found_listed (suc left) low n found h before =
      cond_elim (λ (r : Lookup). r.listed ≡ true → listed_in ranges address ≡ true) (eqb n 0)
      (λ _. before)
      (λ some. found_listed left (low_after ranges address low n) (middle_of n) (looked_at ranges address (low + middle_of n) found)
      (fits (leb (range_first ranges (low + middle_of n)) address))
      (λ e. by (eqb-false n 0 some)
      (or_cases (within (range_first ranges (low + middle_of n)) address (range_last ranges (low + middle_of n))) found.listed e)))
    where
      fits : (above : Bool) → 2 * (cond above (low + (n - middle_of n)) low + middle_of n) ≤ length ranges
      fits true = omega (arith, h)
      fits false = omega (arith, h)

      by : (n ≡ 0 → ⊥) → ((within (range_first ranges (low + middle_of n)) address (range_last ranges (low + middle_of n)) ≡ true) ⊎ (found.listed ≡ true))
          → listed_in ranges address ≡ true
      by some (inl e) =
          let b = bounds (range_first ranges (low + middle_of n)) address (range_last ranges (low + middle_of n)) e in
          holds_listed ranges (low + middle_of n) address (record { there = omega (arith, h, some); first = b.0; last = b.1 })
      by some (inr e) = before e

  -- the range that holds the address is among those that are left, or was looked at as the last one below them
  module _ (rise : ranges_rise ranges ≡ true) (paired : ranges_paired ranges ≡ true) (i : ℕ) (h : Holds ranges i address) where
    -- a range whose first is not above the address does not lie above it, and one whose first is above does
    not_below : (m : ℕ) → 2 * m < length ranges → range_first ranges m ≤ address → m ≤ i
    not_below m there reached = elim (dec_lt i m) as (λ _. m ≤ i) [
      | yes l ↦ absurd (omega (arith, apart ranges rise paired i m l there, reached, h.last))
      | no l ↦ omega (arith, l)
    ]

    not_above : (m : ℕ) → 2 * m < length ranges → address < range_first ranges m → i < m
    not_above m there missed = elim (dec_lt m i) as (λ _. i < m) [
      | yes l ↦ absurd (omega (arith, apart ranges rise paired m i l (omega (arith, h.there)), own ranges paired m there, missed, h.first))
      | no l ↦ elim (dec_lt i m) as (λ _. i < m) [
        | yes b ↦ b
        | no b ↦ let same : i ≡ m = omega (arith, l, b) in absurd (omega (arith, ap (range_first ranges) same, missed, h.first))
      ]
    ]

    pub listed_found : (left low n : ℕ) (found : Lookup) → n ≤ left → low ≤ i + 1 → i + 1 ≤ low + n → 2 * (low + n) ≤ length ranges
        → (low ≡ i + 1 → found.listed ≡ true) → (search_in left ranges address low n found).listed ≡ true
    unfolding search_in
    listed_found zero low n found enough l u t before = before (omega (arith, enough, l, u))
    listed_found (suc left) low n found enough l u t before =
        cond_elim (λ (r : Lookup). r.listed ≡ true) (eqb n 0)
        (λ none. before (omega (arith, eqb-true n 0 none, l, u)))
        (λ some. go (eqb-false n 0 some) (leb (range_first ranges (low + middle_of n)) address) refl (listed_found left))
      where
        go : (n ≡ 0 → ⊥) → (above : Bool) → leb (range_first ranges (low + middle_of n)) address ≡ above
            → ((low' n' : ℕ) (found' : Lookup) → n' ≤ left → low' ≤ i + 1 → i + 1 ≤ low' + n' → 2 * (low' + n') ≤ length ranges
            → (low' ≡ i + 1 → found'.listed ≡ true) → (search_in left ranges address low' n' found').listed ≡ true)
            → (search_in left ranges address (cond above (low + (n - middle_of n)) low) (middle_of n)
            (looked_at ranges address (low + middle_of n) found)).listed ≡ true
        go some true e later =
            let reached = leb-true (range_first ranges (low + middle_of n)) address e in
            let at_most = not_below (low + middle_of n) (omega (arith, t, some)) reached in
            later (low + (n - middle_of n)) (middle_of n) (looked_at ranges address (low + middle_of n) found)
            (omega (arith, enough, some)) (omega (arith, at_most)) (omega (arith, u)) (omega (arith, t))
            (λ same. let here : low + middle_of n ≡ i = omega (arith, same, at_most) in
            rw (inside (range_first ranges (low + middle_of n)) address (range_last ranges (low + middle_of n)) reached
            (omega (arith, ap (range_last ranges) here, h.last))) refl)
        go some false e later =
            let missed = leb-false (range_first ranges (low + middle_of n)) address e in
            let below = not_above (low + middle_of n) (omega (arith, t, some)) missed in
            later low (middle_of n) (looked_at ranges address (low + middle_of n) found)
            (omega (arith, enough, some)) l (omega (arith, below)) (omega (arith, t))
            (λ same. or_right (within (range_first ranges (low + middle_of n)) address (range_last ranges (low + middle_of n))) found.listed (before same))

-- ---- the whole search

module _ (ranges : List ℕ) (address : ℕ) where
  pub search_there : (search_of ranges address).listed ≡ true → listed_in ranges address ≡ true
  unfolding search_of
  search_there = found_listed ranges address (length ranges / 2) 0 (length ranges / 2) nothing_found (omega arith) (λ e. absurd (true≢false (sym e)))

  pub search_listed : ranges_paired ranges ≡ true → ranges_rise ranges ≡ true → (search_of ranges address).listed ≡ listed_in ranges address
  unfolding search_of
  search_listed paired rise = same (search_of ranges address).listed (listed_in ranges address) search_there (λ e. finds (listed_holds ranges address e))
    where
      finds : ((i : ℕ) × Holds ranges i address) → (search_of ranges address).listed ≡ true
      finds (i, h) =
          listed_found ranges address rise paired i h (length ranges / 2) 0 (length ranges / 2) nothing_found
          (omega arith) (omega arith) (omega (arith, h.there)) (omega arith) (λ e. absurd (omega (arith, e)))

      same : (a b : Bool) → (a ≡ true → b ≡ true) → (b ≡ true → a ≡ true) → a ≡ b
      same true true f g = refl
      same true false f g = sym (f refl)
      same false true f g = g refl
      same false false f g = refl

  pub search_few : (k : ℕ) → length ranges < 2 * 2 ^ k → (search_of ranges address).looks ≤ k
  unfolding search_of
  search_few k h = omega (arith, few ranges address (length ranges / 2) k 0 (length ranges / 2) nothing_found (omega (arith, h)))

-- ---- its loop

-- a step of m ranges where the search goes on above, and else none
pub step_most : (above : Bool) {x : ℕ} → x ≡ cond above 1 0 → (m : ℕ) → x * m ≤ m
step_most true e m = rw e (omega arith)
step_most false e m = rw e (omega arith)

pub step_low : (above : Bool) (low m : ℕ) → low + cond above 1 0 * m ≡ cond above (low + m) low
step_low true low m = omega arith
step_low false low m = omega arith

-- a word's first is not above the address just where the difference carries into bit 32
pub carries : (first address : ℕ) → first < 2 ^ 32 → address < 2 ^ 32 → (4294967296 + address - first) / 4294967296 ≡ cond (leb first address) 1 0
carries first address f a = cond_elim (λ (r : ℕ). (4294967296 + address - first) / 4294967296 ≡ r) (leb first address)
    (λ e. omega (arith, leb-true first address e, f, a))
    (λ e. omega (arith, leb-false first address e, f, a))

-- among the n ranges from `low` on: the answer from here is the search's, they lie in the list, and there were no more looks than ranges
pub record Searching (ranges : List ℕ) (address low n : ℕ) (found : Lookup) : Type 0 where
  pub left : ℕ
  pub enough : n ≤ left
  pub same : search_in left ranges address low n found ≡ search_of ranges address
  pub lie : 2 * (low + n) ≤ length ranges
  pub counted : found.looks + n ≤ length ranges

pub searching_first : (ranges : List ℕ) (address : ℕ) → Searching ranges address 0 (length ranges / 2) nothing_found
unfolding search_of
searching_first ranges address =
    record { left = length ranges / 2; enough = omega arith; same = refl; lie = omega arith; counted = omega arith }

module _ {ranges : List ℕ} {address low : ℕ} {found : Lookup} where
  pub searching_done : Searching ranges address low 0 found → found ≡ search_of ranges address
  searching_done s = sym (search_none ranges address s.left low found) ∙ s.same

  module _ {n : ℕ} (s : Searching ranges address low n found) (some : 0 < n) where
    one_remains : (l : ℕ) → s.left ≡ l → (m : ℕ) × (s.left ≡ suc m)
    one_remains zero e = absurd (omega (arith, s.enough, some, e))
    one_remains (suc m) e = (m, e)

    still_lie : (above : Bool) → 2 * (cond above (low + (n - middle_of n)) low + middle_of n) ≤ length ranges
    still_lie true = omega (arith, s.lie)
    still_lie false = omega (arith, s.lie)

    pub searching_on : Searching ranges address (low_after ranges address low n) (middle_of n) (looked_at ranges address (low + middle_of n) found)
    searching_on =
        let o = one_remains s.left refl in
        record {
          left = o.0;
          enough = omega (arith, s.enough, o.1, some);
          same = sym (search_look ranges address o.0 low n found some) ∙ ap (λ (l : ℕ). search_in l ranges address low n found) (sym o.1) ∙ s.same;
          lie = still_lie (leb (range_first ranges (low + middle_of n)) address);
          counted = omega (arith, s.counted, some);
        }

worked_lists : WorkedLists
unfolding search_in search_of spaced
worked_lists = record {
  empty = (refl, refl);
  alone = (refl, refl);
  touching = (refl, refl);
  sharing = refl;
  nested = (refl, refl, refl);
  falling = (refl, refl, refl);
  most = (refl, refl, refl, refl, refl, refl);
  one_less = refl;
}

pub searches : (ranges : List ℕ) (address : ℕ) → Searches ranges address (search_of ranges address)
searches ranges address = record {
  answered = refl;
  there = search_there ranges address;
  listed = search_listed ranges address;
  few = search_few ranges address;
  worked = worked_lists;
}

pub quick_lookups : (ranges : List ℕ) → QuickLookups ranges
quick_lookups ranges fit rise address =
    (search_few ranges address max_looks (omega (arith, fit_few ranges fit)), search_listed ranges address (fit_paired ranges fit) rise)
