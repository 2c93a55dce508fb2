-- An array that is filled from its end to its start.
use Rattle.std.proofs.Common.{◌≡◌, ℕ, suc, ◌+◌, ◌-◌, ◌<◌, ◌≤◌, List, [], ◌∷◌, ◌++◌, length, drop, set, arith, append_assoc}
use Rattle.std.proofs.lemmas.List.{drop-set}

pub less : (j : ℕ) → suc j - 1 ≡ j
less j = omega arith

-- an element stored in front of those that stand
pub stored : (text front : List ℕ) (first v : ℕ) → 0 < first → first ≤ length text
    → front ++ drop (first - 1) (set text (first - 1) v) ≡ (front ++ (v ∷ [])) ++ drop first text
stored text front first v p h =
    let here : first - 1 + 1 ≡ first = omega arith in
    let behind = drop-set text (first - 1) v (omega arith) in
    simp (append_assoc, behind, here)
