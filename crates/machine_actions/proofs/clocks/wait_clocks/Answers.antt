use Prim.Native.Nat.{ℕ, ◌*◌}
use mathlib.Core.Path.{◌≡◌, ◌∙◌, sym, ap}
use mathlib.Core.Bool.{true}
use Rattle.isa.specs.Wait.{wait_fits, wait_clocks}
use Rattle.isa.proofs.Clocks.{clocks_exact}
use Rattle.machine_actions.proofs.clocks.wait_clocks.Goals as goal

pub returns-then-wait_fits : goal.returns-then-wait_fits
unfolding wait_clocks
returns-then-wait_fits c =
    let fits_so : wait_fits c.args.length c.args.shift ≡ true = sym c.wait_fits.ensures ∙ c.if-wait_fits.true in
    let a = c.args in
    let e = clocks_exact a.length a.shift fits_so in
    rw fits_so (ap (λ (n : ℕ). n * 32) e)

pub returns-else-wait_fits : goal.returns-else-wait_fits
unfolding wait_clocks
returns-else-wait_fits c = rw (sym c.wait_fits.ensures ∙ c.if-wait_fits.false)
