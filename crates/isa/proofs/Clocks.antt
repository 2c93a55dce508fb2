-- How long a wait can be. Assumes nothing.
use Prim.Native.Nat.{ℕ, ◌*◌, ◌%◌, ◌^◌, ◌≤◌}
use mathlib.Core.Path.{◌≡◌}
use mathlib.Core.Bool.{true}
use lib.Pow.{pow_mono, shl_exact}
use native.Mathlib.Nat.{mul-le-mul}
use native.Mathlib.Omega.{arith}
use Rattle.isa.specs.Wait.{wait_fits, wait_clocks}
use Rattle.families.proofs.Tests.{cond_elim}
use Rattle.isa.proofs.Writing.{wait_fits_lem}

module _ (length shift : ℕ) (fits : wait_fits length shift ≡ true) where
  -- the shift loses no bit of 64
  pub clocks_exact : (length * 2 ^ (2 * shift)) % 18446744073709551616 ≡ length * 2 ^ (2 * shift)
  clocks_exact = let h = wait_fits_lem length shift fits in shl_exact {a = length} 2 (2 * shift) 64 (omega arith) (omega arith)

  -- length is at most 3 and shift at most 15
  pub most : length * 2 ^ (2 * shift) ≤ 3221225472
  most = let h = wait_fits_lem length shift fits in mul-le-mul h.0 (pow_mono {i = 2 * shift} {j = 30} (omega arith))

-- no wait is longer than 3 << 30 times 32 clocks
pub wait_most : (length shift : ℕ) → wait_clocks length shift ≤ 103079215104
unfolding wait_clocks
wait_most length shift = cond_elim (λ (n : ℕ). n ≤ 103079215104) (wait_fits length shift) (λ e. let m = most length shift e in omega arith) (λ _. omega arith)
