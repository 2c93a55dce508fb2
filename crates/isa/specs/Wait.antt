-- The length of a wait (01, "Instructions").
use Rattle.std.specs.Prelude.{ℕ, ◌*◌, ◌^◌, Bool, cond, ◌&&◌, leb}

-- the operands that a wait's one byte can hold: two bits of length, four of shift
abbrev pub wait_fits : ℕ → ℕ → Bool
wait_fits len shift = leb len 3 && leb shift 15

-- length shifted left by twice the shift, times 32; operands that no wait can have take no clocks
unfoldable pub wait_clocks : ℕ → ℕ → ℕ
wait_clocks len shift = cond (wait_fits len shift) (len * 2 ^ (2 * shift) * 32) 0
