-- Clocks in range, of all rows at once. Assumes nothing.
use Prim.Native.Nat.{ℕ}
use mathlib.Core.Path.{◌≡◌, refl, ap}
use mathlib.Core.Bool.{◌&&◌}
use mathlib.Core.List.{List, [], ◌∷◌}
use Rattle.std.specs.List.{list_all}
use Rattle.event_log.specs.Validity.{clocks_in_range, rows_in_range}

-- every row is in range where std's test of all elements says so
pub all_in_range : (clocks : List ℕ) → list_all clocks_in_range clocks ≡ rows_in_range clocks
all_in_range [] = refl
all_in_range (c ∷ clocks) = ap (◌&&◌ (clocks_in_range c)) (all_in_range clocks)
