-- Worked lists of ranges (02, ticket 2), by computation: which of them rise, what a search finds in them, and by how many looks.
use Rattle.std.specs.Prelude.{ℕ, zero, suc, ◌+◌, ◌≡◌, true, false, List, [], ◌∷◌}
use Rattle.script.specs.Input.{listed_in}
use Rattle.script_lookup.specs.Rising.{ranges_rise}
use Rattle.script_lookup.specs.Lookup.{nothing_found, search_of}

-- the second begins right behind the first, at its last address, inside it, and below it
abbrev pub touching : List ℕ
touching = 0x0000 ∷ 0x0fff ∷ 0x1000 ∷ 0x1fff ∷ []

abbrev pub sharing : List ℕ
sharing = 0x0000 ∷ 0x1000 ∷ 0x1000 ∷ 0x1fff ∷ []

abbrev pub nested : List ℕ
nested = 0x1000 ∷ 0x1fff ∷ 0x1200 ∷ 0x12ff ∷ []

abbrev pub falling : List ℕ
falling = 0x2000 ∷ 0x2fff ∷ 0x1000 ∷ 0x1fff ∷ []

-- n ranges of 1,000 (hex) addresses from this one on, with as many between them
unfoldable pub spaced : ℕ → ℕ → List ℕ
spaced zero first = []
spaced (suc n) first = first ∷ (first + 0x0fff) ∷ spaced n (first + 0x2000)

pub record WorkedLists : Type 0 where
  pub empty : (ranges_rise [] ≡ true) × (search_of [] 0 ≡ nothing_found)
  pub alone : (ranges_rise (0x1000 ∷ []) ≡ true) × (search_of (0x1000 ∷ []) 0x1000 ≡ nothing_found)
  pub touching : (ranges_rise touching ≡ true) × (search_of touching 0x0fff ≡ record { listed = true; looks = 2 })
  pub sharing : ranges_rise sharing ≡ false
  -- why the search is not for every list: an address is listed, and not found
  pub nested : (ranges_rise nested ≡ false) × (listed_in nested 0x1300 ≡ true) × ((search_of nested 0x1300).listed ≡ false)
  pub falling : (ranges_rise falling ≡ false) × (listed_in falling 0x2000 ≡ true) × ((search_of falling 0x2000).listed ≡ false)
  -- 64 ranges: below all, at both ends of one, right behind it, and at the last address of all
  pub most : (ranges_rise (spaced 64 0x1000) ≡ true)
      × (search_of (spaced 64 0x1000) 0x0fff ≡ record { listed = false; looks = 7 })
      × (search_of (spaced 64 0x1000) 0x5000 ≡ record { listed = true; looks = 7 })
      × (search_of (spaced 64 0x1000) 0x5fff ≡ record { listed = true; looks = 7 })
      × (search_of (spaced 64 0x1000) 0x6000 ≡ record { listed = false; looks = 7 })
      × (search_of (spaced 64 0x1000) 0x7ffff ≡ record { listed = true; looks = 7 })
  pub one_less : search_of (spaced 63 0x1000) 0x1000 ≡ record { listed = true; looks = 6 }
