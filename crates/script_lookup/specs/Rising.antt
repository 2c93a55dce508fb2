-- Which ranges rise (02, ticket 2).
use Rattle.std.specs.Prelude.{ℕ, ◌+◌, ◌*◌, ◌≤◌, ◌<◌, ◌≡◌, Bool, true, false, ◌&&◌, List, [], ◌∷◌, length, get_or, ltb}
use Rattle.script.specs.Input.{ranges_paired}

-- first and last address of range i, counted from 0
abbrev pub range_first : List ℕ → ℕ → ℕ
range_first ranges i = get_or ranges (2 * i) 0

abbrev pub range_last : List ℕ → ℕ → ℕ
range_last ranges i = get_or ranges (2 * i + 1) 0

-- rising order and no overlap: each last is below the next first, so that ranges may touch; that no first is above its last is 9's own test
abbrev pub ranges_rise : List ℕ → Bool
ranges_rise [] = true
ranges_rise (first ∷ []) = true
ranges_rise (first ∷ last ∷ []) = true
ranges_rise (first ∷ last ∷ next ∷ ranges) = ltb last next && ranges_rise (next ∷ ranges)

-- what the test promises
pub record Rises (ranges : List ℕ) (answer : Bool) : Type 0 where
  pub answered : answer ≡ ranges_rise ranges
  -- of any two ranges the later one lies above the other
  pub apart : answer ≡ true → ranges_paired ranges ≡ true → (i j : ℕ) → i < j → 2 * j < length ranges → range_last ranges i < range_first ranges j
  -- some range does not lie above the one before it
  pub meets : answer ≡ false → (i : ℕ) × (2 * (i + 1) < length ranges) × (range_first ranges (i + 1) ≤ range_last ranges i)
