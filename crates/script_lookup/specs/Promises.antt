-- What a search promises, and what that is for an audit (02, ticket 2).
use Rattle.std.specs.Prelude.{ℕ, ◌*◌, ◌^◌, ◌≤◌, ◌<◌, ◌≡◌, true, List, length}
use Rattle.script.specs.Input.{listed_in, ranges_paired, ranges_fit}
use Rattle.script_lookup.specs.Rising.{ranges_rise}
use Rattle.script_lookup.specs.Lookup.{search_of}
use Rattle.script_lookup.specs.WorkedLists.{WorkedLists}
use Rattle.script_lookup.specs.declared.lookup.Lookup.{Lookup}

pub record Searches (ranges : List ℕ) (address : ℕ) (answer : Lookup) : Type 0 where
  pub answered : answer ≡ search_of ranges address
  -- in any list: what is found is listed
  pub there : answer.listed ≡ true → listed_in ranges address ≡ true
  -- in ranges that rise: what a look at every range answers
  pub listed : ranges_paired ranges ≡ true → ranges_rise ranges ≡ true → answer.listed ≡ listed_in ranges address
  -- of fewer than 2 ^ k ranges, two entries each, at most k are looked at
  pub few : (k : ℕ) → length ranges < 2 * 2 ^ k → answer.looks ≤ k
  -- of the definitions, and so of every answer
  pub worked : WorkedLists

-- the most looks of a lookup in ranges that rise, as many ranges as there may be (`max_ranges`)
abbrev pub max_looks : ℕ
max_looks = 7

-- whatever address is looked up in ranges that may be audited and rise: no more looks, and the answer of a look at every range
abbrev pub QuickLookups : List ℕ → Type 0
QuickLookups ranges = ranges_fit ranges ≡ true → ranges_rise ranges ≡ true → (address : ℕ)
    → ((search_of ranges address).looks ≤ max_looks) × ((search_of ranges address).listed ≡ listed_in ranges address)
