-- The auditor's walk, one instruction at a time, and what stays small along it. Assumes nothing.
use Rattle.std.specs.Prelude.{Ok, Err}
use Prim.Native.Nat.{ℕ, zero, suc, ◌+◌, ◌*◌, ◌^◌, ◌≤◌, ◌<◌}
use mathlib.Core.Path.{◌≡◌, refl, sym, ap, ◌∙◌}
use mathlib.Core.Bool.{true}
use mathlib.Core.List.{List}
use native.Mathlib.Omega.{arith}
use lib.ListN.{length-take}
use Rattle.families.specs.Family.{code_size}
use Rattle.families.proofs.Tests.{both_left}
use Rattle.isa.specs.declared.instructions.Instruction.{Instruction}
use Rattle.isa.specs.Answers.{Decoded}
use Rattle.refusals.specs.declared.refusals.Unreadable.{Unreadable}
use Rattle.isa.proofs.Clocks.{wait_most}
use Rattle.isa_fetch.specs.Fetch.{Fetches}
use Rattle.isa_fetch.proofs.Places.{size_small, fetch_past}
use Rattle.machine_actions.specs.Action.{action_of}
use Rattle.machine_actions.specs.declared.actions.Action.{Action}
use Rattle.script.specs.Script.{Script, fetch_at}
use Rattle.script.specs.Input.{script_fits, ranges_fit, input_fits}
use Rattle.script.proofs.Scripts.{fits_script}
use Rattle.audit_verdict.specs.Auditor.{fault_of, judge_of, poke_count, wait_length, know_next, know_nothing, pass_at, fault_at, verdict_in, walk_of}
use Rattle.refusals.specs.declared.refusals.Fault.{Fault}
use Rattle.audit_verdict.specs.declared.verdicts.Judgement.{Judgement}
use Rattle.audit_verdict.specs.declared.verdicts.Knowledge.{Knowledge}
use Rattle.audit_verdict.specs.declared.verdicts.Verdict.{Verdict}
use Rattle.audit_verdict.proofs.FirstFault.{walk_fine, walk_exit, walk_bad, walk_none}

pub wait_small : (i : Instruction) → wait_length (action_of i) ≤ 103079215104
wait_small (Instruction.Wait l s) = wait_most l s
wait_small (Instruction.AddrLo a) = omega arith
wait_small (Instruction.DataLo d) = omega arith
wait_small (Instruction.Ewait e v) = omega arith
wait_small Instruction.Exit = omega arith
wait_small (Instruction.Unset f) = omega arith
wait_small (Instruction.Set1 f) = omega arith
wait_small (Instruction.Set0 f) = omega arith
wait_small (Instruction.Addr a) = omega arith
wait_small (Instruction.Data d) = omega arith

pub poke_small : (a : Action) → poke_count a ≤ 1
poke_small (Action.Wait n) = omega arith
poke_small (Action.Ewait e v) = omega arith
poke_small (Action.Flag c f) = omega arith
poke_small (Action.Load p x) = omega arith
poke_small (Action.Poke p x) = omega arith
poke_small Action.Exit = omega arith

module _ (x : Script) (ranges : List ℕ) where
  -- past the code RAM no instruction is left to count on, and none is found
  none_remain : (left at : ℕ) (k : Knowledge) (why : Unreadable) → code_size x.family ≤ at + left → fetch_at x at ≡ Err why
      → verdict_in left x ranges at k ≡ fault_at (fault_of why) at
  unfolding verdict_in
  none_remain zero at k why h f =
      let e : Unreadable.Empty ≡ why = cc (fetch_past x.family x.code x.marks at (omega arith)) in
      ap (λ (w : Unreadable). fault_at (fault_of w) at) e
  none_remain (suc left) at k why h f = walk_none x ranges left at k why f

  -- the loop at a place: the verdict from here is the walk's, and the counts are small
  pub record Going (at : ℕ) (k : Knowledge) : Type 0 where
    pub left : ℕ
    pub enough : code_size x.family ≤ at + left
    pub same : verdict_in left x ranges at k ≡ walk_of x ranges
    pub low : at ≤ 512
    pub counted : k.count ≤ at
    pub wrote : k.writes ≤ k.count
    pub waited : k.clocks ≤ k.count * 103079215104

  pub going_first : input_fits x ranges ≡ true → {k : Knowledge} → k ≡ know_nothing → Going x.entry k
  going_first fits e =
      let low = (fits_script x (both_left (script_fits x) (ranges_fit ranges) fits)).entry_low in
      rw e (record {
        left = code_size x.family;
        enough = omega arith;
        same = refl;
        low = omega (arith, low);
        counted = omega arith;
        wrote = omega arith;
        waited = omega arith;
      })

-- at a place of the loop, a fetch there
module _ {x : Script} {ranges : List ℕ} {at : ℕ} {k : Knowledge} (g : Going x ranges at k)
    {answer : Decoded} (fetched : Fetches x.family x.code x.marks at answer) where
  pub going_none : {why : Unreadable} {fault : Fault} → answer ≡ Err why → fault ≡ fault_of why → fault_at fault at ≡ walk_of x ranges
  going_none {why} is told =
      ap (λ (f : Fault). fault_at f at) told ∙ sym (none_remain x ranges g.left at k why g.enough (sym fetched.answered ∙ is)) ∙ g.same

  -- an instruction, and its action
  module _ {i : Instruction} {n : ℕ} (is : answer ≡ Ok (i, n)) {action : Action} (acts : action ≡ action_of i) where
    found : fetch_at x at ≡ Ok (i, n)
    found = sym fetched.answered ∙ is

    pub going_inside : (0 < n) × (at + n ≤ 512)
    going_inside = let p = rw is at fetched.inside in (p.0, omega (arith, p.2, length-take (code_size x.family) x.code, size_small x.family))

    one_remains : (l : ℕ) → g.left ≡ l → (m : ℕ) × (g.left ≡ suc m)
    one_remains zero e = let p = rw is at fetched.inside in absurd (omega (arith, g.enough, p.0, p.2, length-take (code_size x.family) x.code))
    one_remains (suc m) e = (m, e)

    -- the counts that one more instruction makes still fit
    pub going_fits : (k.count < 1024) × (k.writes < 1024) × (k.clocks + wait_length action < 2 ^ 64)
    going_fits = (
      omega (arith, g.counted, g.low),
      omega (arith, g.counted, g.low, g.wrote),
      rw acts (omega (arith, g.counted, g.low, g.waited, wait_small i)),
    )

    -- its judgement
    module _ {judged : Judgement} (says : judged ≡ judge_of x.family ranges action k) where
      is_judged : {j : Judgement} → judged ≡ j → judge_of x.family ranges (action_of i) k ≡ j
      is_judged e = ap (λ (a : Action). judge_of x.family ranges a k) (sym acts) ∙ sym says ∙ e

      by_left : (v : Verdict) → ((m : ℕ) → verdict_in (suc m) x ranges at k ≡ v) → v ≡ walk_of x ranges
      by_left v h =
          let o = one_remains g.left refl in
          sym (ap (λ (l : ℕ). verdict_in l x ranges at k) o.1 ∙ h o.0) ∙ g.same

      pub going_exit : judged ≡ Judgement.Exit → pass_at at k ≡ walk_of x ranges
      going_exit e = by_left (pass_at at k) (λ m. walk_exit x ranges m at k i n found (is_judged e))

      pub going_bad : {fault : Fault} → judged ≡ Judgement.Bad fault → fault_at fault at ≡ walk_of x ranges
      going_bad {fault} e = by_left (fault_at fault at) (λ m. walk_bad x ranges m at k i n found fault (is_judged e))

      pub going_on : judged ≡ Judgement.Fine → {next : Knowledge} → next ≡ know_next action k → Going x ranges (at + n) next
      going_on e made =
          let o = one_remains g.left refl in
          rw (made, acts) (record {
            left = o.0;
            enough = omega (arith, o.1, g.enough, going_inside.0);
            same = sym (walk_fine x ranges o.0 at k i n found (is_judged e)) ∙ ap (λ (l : ℕ). verdict_in l x ranges at k) (sym o.1) ∙ g.same;
            low = going_inside.1;
            counted = omega (arith, g.counted, going_inside.0);
            wrote = omega (arith, g.wrote, poke_small (action_of i));
            waited = omega (arith, g.waited, wait_small i);
          })
