-- The auditor's walk as a derivation, free of its count of what is left: the one thing that every claim is an induction on. Assumes nothing.
use Rattle.std.specs.Prelude.{Ok, Err}
use Prim.Native.Nat.{ℕ, zero, suc, ◌+◌, ◌^◌, ◌≤◌, ◌<◌}
use mathlib.Core.Path.{◌≡◌, refl, ap}
use mathlib.Core.Bool.{false, ◌&&◌}
use mathlib.Core.List.{List, [], ◌∷◌}
use native.Mathlib.Omega.{arith}
use lib.Dec.{eqb}
use lib.ListN.{length, get_or}
use borrow.Author.Tests.{eq-eqb, ne_eqb}
use Rattle.families.specs.Family.{code_size, pauses_memory}
use Rattle.isa.specs.declared.instructions.Instruction.{Instruction}
use Rattle.isa.specs.Answers.{Decoded}
use Rattle.refusals.specs.declared.refusals.Unreadable.{Unreadable}
use Rattle.isa_fetch.proofs.Places.{fetch_past}
use Rattle.machine_actions.specs.Action.{action_of}
use Rattle.machine_actions.specs.declared.actions.Action.{Action}
use Rattle.audit_verdict.specs.Auditor.{fault_of, judge_of, know_next, pass_at, fault_at, verdict_in}
use Rattle.audit_verdict.specs.Witness.{writes_over, actions_to, place_of}
use Rattle.refusals.specs.declared.refusals.Fault.{Fault}
use Rattle.audit_verdict.specs.declared.verdicts.Judgement.{Judgement}
use Rattle.audit_verdict.specs.declared.verdicts.Knowledge.{Knowledge}
use Rattle.audit_verdict.specs.declared.verdicts.Verdict.{Verdict}
use Rattle.script.specs.Script.{Script, fetch_at}
use Rattle.script.proofs.Scripts.{Reads, fetch_reads}
use Rattle.audit_verdict.proofs.FirstFault.{walk_fine, walk_exit, walk_bad, walk_none}
use Rattle.audit_verdict.proofs.Judging.{Fine, Blame, Why, explain}

module _ (x : Script) (ranges : List ℕ) where
  -- a straight run of actions judged fine
  pub data Walk : ℕ → Knowledge → ℕ → Knowledge → Type 0 where
    here : {p : ℕ} {k : Knowledge} → Walk p k p k
    further : {p : ℕ} {k : Knowledge} {q : ℕ} {l : Knowledge} (action : Action) (n : ℕ)
        → Reads x p action n → Fine x.family ranges action k → Walk (p + n) (know_next action k) q l → Walk p k q l

  -- how it ends
  pub data Ends : ℕ → Knowledge → Verdict → Type 0 where
    at_refused : {p : ℕ} {k : Knowledge} (why : Unreadable) → fetch_at x p ≡ Err why → Ends p k (fault_at (fault_of why) p)
    at_bad : {p : ℕ} {k : Knowledge} (action : Action) (n : ℕ) (fault : Fault)
        → Reads x p action n → Blame x.family ranges action k fault → Ends p k (fault_at fault p)
    at_exit : {p : ℕ} {k : Knowledge} (n : ℕ) → Reads x p Action.Exit n → (pauses_memory x.family && k.paused) ≡ false → Ends p k (pass_at p k)

  -- the walk to a verdict's place
  pub record Walked (p : ℕ) (k : Knowledge) (verdict : Verdict) : Type 0 where
    pub knows : Knowledge
    pub walk : Walk p k (place_of verdict) knows
    pub ends : Ends (place_of verdict) knows verdict

-- ---- what a walk does

module _ {x : Script} {ranges : List ℕ} where
  abbrev pub actions_of : {p : ℕ} {k : Knowledge} {q : ℕ} {l : Knowledge} → Walk x ranges p k q l → List Action
  actions_of here = []
  actions_of (further action n e f w) = action ∷ actions_of w

  pub walk_forward : {p q : ℕ} {k l : Knowledge} → Walk x ranges p k q l → p ≤ q
  walk_forward here = omega arith
  walk_forward (further action n e f w) = omega (arith, walk_forward w)

  pub walk_counts : {p q : ℕ} {k l : Knowledge} (w : Walk x ranges p k q l) → k.count + length (actions_of w) ≡ l.count
  walk_counts here = omega arith
  walk_counts (further action n e f w) = omega (arith, walk_counts w)

  pub walk_writes : {p q : ℕ} {k l : Knowledge} (w : Walk x ranges p k q l) → k.writes + writes_over (actions_of w) ≡ l.writes
  walk_writes here = omega arith
  walk_writes (further action n e f w) = omega (arith, walk_writes w)

  -- it is the script's way to where it ends
  pub way_is : {p q : ℕ} {k l : Knowledge} (left : ℕ) (w : Walk x ranges p k q l) → code_size x.family ≤ p + left
      → actions_to left x q p ≡ actions_of w
  unfolding actions_to
  way_is zero here h = refl
  way_is {p} (suc left) here h = rw (eq-eqb p p refl) refl
  way_is zero (further action n e f w) h = absurd (omega (arith, e.some, e.inside))
  way_is {p} {q} (suc left) (further action n e f w) h =
      let before : eqb p q ≡ false = ne_eqb p q (λ same. omega (arith, walk_forward w, e.some)) in
      rw (before, e.found, e.acts, actions_to) (ap (λ (later : List Action). action ∷ later) (way_is {p = p + n} left w (omega (arith, e.some))))

-- ---- the auditor walks so

module _ (x : Script) (ranges : List ℕ) where
  abbrev WalkedTo : ℕ → Knowledge → Verdict → Type 0
  WalkedTo = Walked x ranges

  on : {p : ℕ} {k : Knowledge} {v : Verdict} (action : Action) (n : ℕ) → Reads x p action n → Fine x.family ranges action k
      → WalkedTo (p + n) (know_next action k) v → WalkedTo p k v
  on action n e f w = record { knows = w.knows; walk = further action n e f w.walk; ends = w.ends }

  at_once : {p : ℕ} {k : Knowledge} {v : Verdict} → Ends x ranges p k v → WalkedTo p k v
  at_once {p} {k} (at_refused why e) = record { knows = k; walk = here; ends = at_refused why e }
  at_once {p} {k} (at_bad action n fault e b) = record { knows = k; walk = here; ends = at_bad action n fault e b }
  at_once {p} {k} (at_exit n e unpaused) = record { knows = k; walk = here; ends = at_exit n e unpaused }

  abbrev verdict : ℕ → ℕ → Knowledge → Verdict
  verdict left p k = verdict_in left x ranges p k

  pub audit_walks : ((i : ℕ) → get_or x.code i 0 < 2 ^ 8) → (left p : ℕ) (k : Knowledge) → code_size x.family ≤ p + left → WalkedTo p k (verdict left p k)
  unfolding verdict_in
  audit_walks bytes zero p k h = at_once (at_refused Unreadable.Empty (fetch_past x.family x.code x.marks p (omega arith)))
  audit_walks bytes (suc left) p k h = by (λ action n g. audit_walks bytes left (p + n) (know_next action k) g) (fetch_at x p) refl
    where
      -- the walk from the next place on
      Later : Action → ℕ → Type 0
      Later action n = WalkedTo (p + n) (know_next action k) (verdict left (p + n) (know_next action k))

      judged : (i : Instruction) (n : ℕ) → Reads x p (action_of i) n → fetch_at x p ≡ Ok (i, n) → Later (action_of i) n
          → (j : Judgement) → judge_of x.family ranges (action_of i) k ≡ j → Why x.family ranges (action_of i) k j → WalkedTo p k (verdict (suc left) p k)
      judged i n e f w Judgement.Fine j y = rw (walk_fine x ranges left p k i n f j) (on (action_of i) n e y w)
      judged i n e f w Judgement.Exit j y = rw (walk_exit x ranges left p k i n f j) (at_once (at_exit n (rw y.0 at e) y.1))
      judged i n e f w (Judgement.Bad fault) j y = rw (walk_bad x ranges left p k i n f fault j) (at_once (at_bad (action_of i) n fault e y))

      by : ((action : Action) (n : ℕ) → code_size x.family ≤ p + n + left → Later action n)
          → (d : Decoded) → fetch_at x p ≡ d → WalkedTo p k (verdict (suc left) p k)
      by w (Ok (i, n)) e =
          let r = fetch_reads x bytes p i n e in
          judged i n r e (w (action_of i) n (omega arith)) (judge_of x.family ranges (action_of i) k) refl (explain x.family ranges (action_of i) k)
      by w (Err why) e = rw (walk_none x ranges left p k why e) (at_once (at_refused why e))
