use Rattle.std.specs.Prelude.{Ok}
use mathlib.Core.Path.{refl, ap, sym, ◌∙◌}
use native.Mathlib.Omega.{arith}
use borrow.Author.Tests.{le-leb, lt-leb}
use Rattle.script.proofs.Scripts.{fits_script}
use Rattle.run.specs.Replay.{run_answer_of}
use Rattle.run.proofs.ReplayEnds.{runs_slot}
use Rattle.run_replay.proofs.replays.run.Goals as goal

pub returns-then-not-fits : goal.returns-then-not-fits
unfolding run_answer_of
returns-then-not-fits c = runs_slot (simp (sym c.fits.ensures ∙ c.if-not-fits.true)) refl

pub returns-then-writes-lt-MAX_ENTRIES : goal.returns-then-writes-lt-MAX_ENTRIES
unfolding run_answer_of
returns-then-writes-lt-MAX_ENTRIES c =
    runs_slot (simp (sym c.fits.ensures ∙ c.if-not-fits.false, lt-leb _ _ c.if-writes-lt-MAX_ENTRIES.true)) refl

pub returns-then-not-is_valid : goal.returns-then-not-is_valid
unfolding run_answer_of
returns-then-not-is_valid c =
    let fits = sym c.fits.ensures ∙ c.if-not-fits.false in
    let log = sym c.is_valid.ensures ∙ c.if-not-is_valid.true in
    runs_slot (simp (fits, le-leb _ _ c.if-writes-lt-MAX_ENTRIES.false, log)) refl

pub run_slot_steps-requires : goal.run_slot_steps-requires
run_slot_steps-requires c =
    let fits = sym c.fits.ensures ∙ c.if-not-fits.false in
    (omega (arith, (fits_script _ fits).entry_low), sym c.is_valid.ensures ∙ c.if-not-is_valid.false, c.if-writes-lt-MAX_ENTRIES.false)

pub returns : goal.returns
unfolding run_answer_of
returns c =
    let fits = sym c.fits.ensures ∙ c.if-not-fits.false in
    let log = sym c.is_valid.ensures ∙ c.if-not-is_valid.false in
    runs_slot (ap Ok c.run_slot_steps.ensures.at_run ∙ simp (fits, le-leb _ _ c.if-writes-lt-MAX_ENTRIES.false, log)) c.run_slot_steps.ensures.lent
