-- An address looked up in ranges that rise, and at how many of them was looked (02, ticket 2).
use Rattle.std.specs.Prelude.{ℕ, zero, suc, ◌+◌, ◌-◌, ◌/◌, false, cond, ◌||◌, List, length, leb, eqb}
use Rattle.families.specs.Family.{within}
use Rattle.script_lookup.specs.Rising.{range_first, range_last}
use Rattle.script_lookup.specs.declared.lookup.Lookup.{Lookup}

-- which of n ranges is looked at: the one with so many below it
abbrev pub middle_of : ℕ → ℕ
middle_of n = n / 2

-- a look at range i, at its first and its last
abbrev pub looked_at : List ℕ → ℕ → ℕ → Lookup → Lookup
looked_at ranges address i found =
    record { listed = within (range_first ranges i) address (range_last ranges i) || found.listed; looks = found.looks + 1 }

-- among the n ranges from `low` on: a look at the middle one; then as many as were below it are left, the last of the n where its first is not above the
-- address, and else those below it. The first argument only bounds the looks
unfoldable pub search_in : ℕ → List ℕ → ℕ → ℕ → ℕ → Lookup → Lookup
search_in zero ranges address low n found = found
search_in (suc left) ranges address low n found =
    let middle = low + middle_of n in
    let next = cond (leb (range_first ranges middle) address) (low + (n - middle_of n)) low in
    let later = search_in left ranges address next (middle_of n) (looked_at ranges address middle found) in
    cond (eqb n 0) found later

abbrev pub nothing_found : Lookup
nothing_found = record { listed = false; looks = 0 }

-- a first without its last is no range
unfoldable pub search_of : List ℕ → ℕ → Lookup
search_of ranges address = let n = length ranges / 2 in search_in n ranges address 0 n nothing_found
