-- The verdict's number is that of the first of 01's tests which fails, on the way from the entry to the first exit. Assumes nothing.
use Rattle.std.specs.Prelude.{Ok, Err, Some, None, Option}
use Prim.Native.Nat.{ℕ, zero, suc, ◌+◌}
use mathlib.Core.Path.{◌≡◌, refl, sym, ap, ◌∙◌}
use mathlib.Core.Bool.{Bool, true, false, cond, not, ◌&&◌, ◌||◌}
use mathlib.Core.List.{List, [], ◌∷◌, ◌++◌}
use native.Mathlib.Omega.{arith}
use lib.Dec.{ltb, eqb}
use borrow.Author.Tests.{ltb-true, ltb-false, lt-ltb, le-ltb}
use Rattle.families.specs.Family.{code_size, pauses_memory}
use Rattle.refusals.specs.Listing.{Test, first_of}
use Rattle.refusals.specs.Number.{unreadable_number, fault_number}
use Rattle.refusals.specs.declared.refusals.Fault.{Fault}
use Rattle.refusals.specs.declared.refusals.Unreadable.{Unreadable}
use Rattle.isa.specs.Reader.{decoded_number}
use Rattle.isa.specs.declared.instructions.Instruction.{Instruction}
use Rattle.isa.specs.Answers.{Decoded}
use Rattle.isa_fetch.specs.Fetch.{fetch_tests, fetch_refusal}
use Rattle.isa_fetch.proofs.Numbers.{fetch_numbered}
use Rattle.families.proofs.Tests.{cond_elim}
use Rattle.machine_actions.specs.Action.{action_of, merge_of}
use Rattle.machine_actions.specs.declared.actions.Action.{Action}
use Rattle.machine_actions.specs.declared.actions.Part.{Part}
use Rattle.script.specs.Script.{Script, fetch_at}
use Rattle.script.specs.Input.{listed_in, input_fits}
use Rattle.audit_verdict.specs.Auditor.{verdict_number, fault_of, target_of, judge_poke, can_release, judge_of, know_next, know_nothing, pass_at, fault_at}
use Rattle.audit_verdict.specs.Auditor.{verdict_in, walk_of, audit_of}
use Rattle.audit_verdict.specs.Numbers.{is_low, is_addr, is_data, is_exit, some_is, addr_held, left_paused, action_tests, found_tests, number_in}
use Rattle.audit_verdict.specs.Numbers.{audit_number}
use Rattle.audit_verdict.specs.declared.verdicts.Judgement.{Judgement}
use Rattle.isa.specs.declared.addresses.MmioAddress.{MmioAddress}
use Rattle.audit_verdict.specs.declared.verdicts.Knowledge.{Knowledge}
use Rattle.audit_verdict.specs.declared.verdicts.Verdict.{Verdict}
use Rattle.audit_verdict.proofs.Cases.{never}

-- ---- what the auditor keeps of the actions before a place

abbrev known_held : List Action → Option MmioAddress
known_held before = cond (some_is is_addr before) (Some (record { 0 = addr_held before })) None

record Noted (k : Knowledge) (before : List Action) : Type 0 where
  addr : k.addr ≡ known_held before
  halves : k.«data» ≡ some_is is_data before
  paused : k.paused ≡ left_paused before

-- where an addrlo goes, whether or not an addr came before it
low_target : (set : Bool) (addr word : ℕ)
    → target_of Part.Low word (cond set (Some (record { 0 = addr })) None)
    ≡ cond set (Some (record { 0 = merge_of Part.Low addr word })) None
low_target true addr word = refl
low_target false addr word = refl

noted_next : (action : Action) {k : Knowledge} {before : List Action} → Noted k before → Noted (know_next action k) (action ∷ before)
noted_next (Action.Wait n) t = record { addr = t.addr; halves = t.halves; paused = t.paused }
noted_next (Action.Ewait event value) t = record { addr = t.addr; halves = t.halves; paused = t.paused }
noted_next (Action.Flag change flag) t = record { addr = t.addr; halves = t.halves; paused = rw t.paused refl }
noted_next (Action.Load Part.Whole word) t = record { addr = t.addr; halves = refl; paused = t.paused }
noted_next (Action.Load Part.Low word) t = record { addr = t.addr; halves = t.halves; paused = t.paused }
noted_next (Action.Poke Part.Whole word) t = record { addr = refl; halves = t.halves; paused = t.paused }
noted_next (Action.Poke Part.Low word) {before = before} t = record {
  addr = ap (target_of Part.Low word) t.addr ∙ low_target (some_is is_addr before) (addr_held before) word;
  halves = t.halves;
  paused = t.paused;
}
noted_next Action.Exit t = record { addr = t.addr; halves = t.halves; paused = t.paused }

-- ---- what is said of an action is the first of its tests

abbrev judged_number : Judgement → ℕ
judged_number Judgement.Fine = 0
judged_number Judgement.Exit = 0
judged_number (Judgement.Bad fault) = fault_number fault

past : (n m : ℕ) → ltb m n ≡ not (ltb n (suc m))
past n m =
    elim (ltb n (suc m)) as (λ b. ltb n (suc m) ≡ b → ltb m n ≡ not b) [
      | true ↦ λ l. le-ltb m n (omega (arith, ltb-true n (suc m) l))
      | false ↦ λ l. lt-ltb m n (omega (arith, ltb-false n (suc m) l))
    ] refl

ewait_number : (event value : Bool)
    → cond (not event || not value) 7 0 ≡ judged_number (cond (event && value) Judgement.Fine (Judgement.Bad Fault.Unreleased))
ewait_number true true = refl
ewait_number true false = refl
ewait_number false value = refl

exit_number : (paused : Bool) → cond paused 8 0 ≡ judged_number (cond paused (Judgement.Bad Fault.Paused) Judgement.Exit)
exit_number true = refl
exit_number false = refl

listed_number : (listed : Bool) → cond (not listed) 6 0 ≡ judged_number (cond listed Judgement.Fine (Judgement.Bad Fault.Outside))
listed_number true = refl
listed_number false = refl

module _ (family : ℕ) (ranges : List ℕ) where
  poke_number : (part : Part) (word addr : ℕ) (set halves : Bool)
      → cond (is_low part && not set) 4 (cond (not halves) 5 (cond (not (listed_in ranges (merge_of part addr word))) 6 0))
      ≡ judged_number (judge_poke ranges (target_of part word (cond set (Some (record { 0 = addr })) None)) halves)
  poke_number Part.Whole word addr set true = listed_number (listed_in ranges word)
  poke_number Part.Whole word addr set false = refl
  poke_number Part.Low word addr true true = listed_number (listed_in ranges (merge_of Part.Low addr word))
  poke_number Part.Low word addr true false = refl
  poke_number Part.Low word addr false halves = refl

  judge_number : (action : Action) {k : Knowledge} {before : List Action} → Noted k before
      → first_of (action_tests family ranges before action) ≡ judged_number (judge_of family ranges action k)
  unfolding can_release
  judge_number (Action.Wait n) t = refl
  judge_number (Action.Ewait event value) t = rw (past event 31, past value 1) (ewait_number (ltb event 32) (ltb value 2))
  judge_number (Action.Flag change flag) t = refl
  judge_number (Action.Load part word) t = refl
  judge_number (Action.Poke part word) {before = before} t =
      rw (t.addr, t.halves) (poke_number part word (addr_held before) (some_is is_addr before) (some_is is_data before))
  judge_number Action.Exit {before = before} t = rw t.paused (exit_number (pauses_memory family && left_paused before))

  -- exit alone ends the walk
  abbrev Walks : Action → Judgement → Type 0
  Walks action Judgement.Fine = is_exit action ≡ false
  Walks action Judgement.Exit = is_exit action ≡ true
  Walks action (Judgement.Bad fault) = Unit {0}

  poke_walks : (part : Part) (word : ℕ) (target : Option MmioAddress) (halves : Bool) → Walks (Action.Poke part word) (judge_poke ranges target halves)
  poke_walks part word None halves = tt
  poke_walks part word (Some address) halves =
      cond_elim (Walks (Action.Poke part word)) halves
      (λ _. cond_elim (Walks (Action.Poke part word)) (listed_in ranges address.0) (λ _. refl) (λ _. tt))
      (λ _. tt)

  judge_walks : (action : Action) (k : Knowledge) → Walks action (judge_of family ranges action k)
  judge_walks (Action.Wait n) k = refl
  judge_walks (Action.Ewait event value) k = cond_elim (Walks (Action.Ewait event value)) (can_release event value) (λ _. refl) (λ _. tt)
  judge_walks (Action.Flag change flag) k = refl
  judge_walks (Action.Load part word) k = refl
  judge_walks (Action.Poke part word) k = poke_walks part word (target_of part word k.addr) k.«data»
  judge_walks Action.Exit k = cond_elim (Walks Action.Exit) (pauses_memory family && k.paused) (λ _. tt) (λ _. refl)

-- a number other than 0 is told
told : (n later : ℕ) → eqb n 0 ≡ false → cond (eqb n 0) later n ≡ n
told n later e = rw e refl

-- ---- tests of the fetch come first

abbrev AllNumbered : List Test → Type 0
AllNumbered [] = Unit {0}
AllNumbered (t ∷ later) = (eqb t.number 0 ≡ false) × AllNumbered later

-- none of them fails: the first of the others
first_later : (tests others : List Test) → AllNumbered tests → first_of tests ≡ 0 → first_of (tests ++ others) ≡ first_of others
first_later [] others a e = refl
first_later (t ∷ tests) others a e = by t.fails (λ passed. first_later tests others a.1 passed) e
  where
    by : (fails : Bool) → (first_of tests ≡ 0 → first_of (tests ++ others) ≡ first_of others)
        → cond fails t.number (first_of tests) ≡ 0 → cond fails t.number (first_of (tests ++ others)) ≡ first_of others
    by true later e = let no : false ≡ true = sym a.0 ∙ rw e refl in never (cc)
    by false later e = later e

-- one of them fails: its number
first_now : (tests others : List Test) (n : ℕ) → eqb n 0 ≡ false → first_of tests ≡ n → first_of (tests ++ others) ≡ n
first_now [] others n a e = let no : false ≡ true = sym a ∙ rw (sym e) refl in never (cc)
first_now (t ∷ tests) others n a e = by t.fails (λ failed. first_now tests others n a failed) e
  where
    by : (fails : Bool) → (first_of tests ≡ n → first_of (tests ++ others) ≡ n)
        → cond fails t.number (first_of tests) ≡ n → cond fails t.number (first_of (tests ++ others)) ≡ n
    by true later e = e
    by false later e = later e

unread_numbered : (why : Unreadable) → eqb (unreadable_number why) 0 ≡ false
unread_numbered Unreadable.Family = refl
unread_numbered Unreadable.Empty = refl
unread_numbered Unreadable.Unknown = refl
unread_numbered Unreadable.Short = refl
unread_numbered Unreadable.NotUploaded = refl

same_number : (why : Unreadable) → fault_number (fault_of why) ≡ unreadable_number why
same_number Unreadable.Family = refl
same_number Unreadable.Empty = refl
same_number Unreadable.Unknown = refl
same_number Unreadable.Short = refl
same_number Unreadable.NotUploaded = refl

fault_numbered : (fault : Fault) → eqb (fault_number fault) 0 ≡ false
fault_numbered Fault.PastRam = refl
fault_numbered Fault.NotUploaded = refl
fault_numbered Fault.Unknown = refl
fault_numbered Fault.NoAddress = refl
fault_numbered Fault.HalfData = refl
fault_numbered Fault.Outside = refl
fault_numbered Fault.Unreleased = refl
fault_numbered Fault.Paused = refl
fault_numbered Fault.Input = refl

-- ---- the walk

module _ (x : Script) (ranges : List ℕ) where
  -- one instruction of the verdict's definition
  module _ (left at : ℕ) (k : Knowledge) where
    module _ (i : Instruction) (n : ℕ) (f : fetch_at x at ≡ Ok (i, n)) where
      pub walk_fine : judge_of x.family ranges (action_of i) k ≡ Judgement.Fine
          → verdict_in (suc left) x ranges at k ≡ verdict_in left x ranges (at + n) (know_next (action_of i) k)
      unfolding verdict_in
      walk_fine j = rw (f, j, verdict_in) refl

      pub walk_exit : judge_of x.family ranges (action_of i) k ≡ Judgement.Exit → verdict_in (suc left) x ranges at k ≡ pass_at at k
      unfolding verdict_in
      walk_exit j = rw (f, j, verdict_in) refl

      pub walk_bad : (fault : Fault) → judge_of x.family ranges (action_of i) k ≡ Judgement.Bad fault → verdict_in (suc left) x ranges at k ≡ fault_at fault at
      unfolding verdict_in
      walk_bad fault j = rw (f, j, verdict_in) refl

    pub walk_none : (why : Unreadable) → fetch_at x at ≡ Err why → verdict_in (suc left) x ranges at k ≡ fault_at (fault_of why) at
    unfolding verdict_in
    walk_none why f = rw (f, verdict_in) refl

  abbrev tests : ℕ → List Test
  tests at = fetch_tests x.family x.code x.marks at

  fetch_number : (at : ℕ) (d : Decoded) → fetch_at x at ≡ d → first_of (tests at) ≡ decoded_number d
  unfolding fetch_refusal
  fetch_number at d e = sym (fetch_numbered x.family x.code x.marks at) ∙ ap decoded_number e

  -- and one of its number's
  module _ (left at : ℕ) (before : List Action) where
    abbrev later_number : Decoded → ℕ
    later_number d = elim d [
      | Ok (i, n) ↦ cond (is_exit (action_of i)) 0 (number_in left x ranges (action_of i ∷ before) (at + n))
      | Err why ↦ 0
    ]

    number_then : (d : Decoded) → fetch_at x at ≡ d → (number : ℕ) → first_of (tests at ++ found_tests x.family ranges before d) ≡ number
        → number_in (suc left) x ranges before at ≡ cond (eqb number 0) (later_number d) number
    unfolding number_in
    number_then d e number first =
        ap (λ (c : Decoded). let n = first_of (tests at ++ found_tests x.family ranges before c) in cond (eqb n 0) (later_number c) n) e
        ∙ ap (λ (n : ℕ). cond (eqb n 0) (later_number d) n) first

    -- the fetch fails
    number_none : (why : Unreadable) → fetch_at x at ≡ Err why → number_in (suc left) x ranges before at ≡ unreadable_number why
    number_none why e =
        number_then (Err why) e (unreadable_number why)
        (first_now (tests at) [] (unreadable_number why) (unread_numbered why) (fetch_number at (Err why) e))
        ∙ told (unreadable_number why) 0 (unread_numbered why)

    module _ (i : Instruction) (n : ℕ) (e : fetch_at x at ≡ Ok (i, n)) {k : Knowledge} (t : Noted k before) (j : Judgement)
        (judged : judge_of x.family ranges (action_of i) k ≡ j) where
      number_judged : (exits : Bool) → is_exit (action_of i) ≡ exits
          → number_in (suc left) x ranges before at
          ≡ cond (eqb (judged_number j) 0) (cond exits 0 (number_in left x ranges (action_of i ∷ before) (at + n))) (judged_number j)
      number_judged exits y =
          number_then (Ok (i, n)) e (judged_number j)
          (first_later (tests at) (action_tests x.family ranges before (action_of i)) (refl, (refl, (refl, (refl, (refl, tt)))))
          (fetch_number at (Ok (i, n)) e)
          ∙ judge_number x.family ranges (action_of i) t
          ∙ ap judged_number judged)
          ∙ rw y refl

  abbrev Numbered : ℕ → ℕ → Knowledge → List Action → Type 0
  Numbered left at k before = verdict_number (verdict_in left x ranges at k) ≡ number_in left x ranges before at

  walk_numbered : (left at : ℕ) (k : Knowledge) (before : List Action) → Noted k before → Numbered left at k before
  unfolding verdict_in number_in
  walk_numbered zero at k before t = refl
  walk_numbered (suc left) at k before t =
      by (λ action n. walk_numbered left (at + n) (know_next action k) (action ∷ before) (noted_next action t)) (fetch_at x at) refl
    where
      judged : (i : Instruction) (n : ℕ) → fetch_at x at ≡ Ok (i, n) → Numbered left (at + n) (know_next (action_of i) k) (action_of i ∷ before)
          → (j : Judgement) → judge_of x.family ranges (action_of i) k ≡ j → Walks x.family ranges (action_of i) j → Numbered (suc left) at k before
      judged i n e same Judgement.Fine j y =
          ap verdict_number (walk_fine left at k i n e j) ∙ same ∙ sym (number_judged left at before i n e t Judgement.Fine j false y)
      judged i n e same Judgement.Exit j y =
          ap verdict_number (walk_exit left at k i n e j) ∙ sym (number_judged left at before i n e t Judgement.Exit j true y)
      judged i n e same (Judgement.Bad fault) j y =
          ap verdict_number (walk_bad left at k i n e fault j)
          ∙ sym (number_judged left at before i n e t (Judgement.Bad fault) j (is_exit (action_of i)) refl ∙ told (fault_number fault) _ (fault_numbered fault))

      by : ((action : Action) (n : ℕ) → Numbered left (at + n) (know_next action k) (action ∷ before))
          → (d : Decoded) → fetch_at x at ≡ d → Numbered (suc left) at k before
      by same (Ok (i, n)) e =
          judged i n e (same (action_of i) n) (judge_of x.family ranges (action_of i) k) refl (judge_walks x.family ranges (action_of i) k)
      by same (Err why) e = ap verdict_number (walk_none left at k why e) ∙ same_number why ∙ sym (number_none left at before why e)

number_of : (fits : Bool) (v : Verdict) (n : ℕ) → verdict_number v ≡ n → verdict_number (cond fits v (fault_at Fault.Input 0)) ≡ cond fits n 9
number_of true v n e = e
number_of false v n e = refl

pub audit_numbered : (x : Script) (ranges : List ℕ) → verdict_number (audit_of x ranges) ≡ audit_number x ranges
unfolding audit_of audit_number
audit_numbered x ranges =
    number_of (input_fits x ranges) (walk_of x ranges) (number_in (code_size x.family) x ranges [] x.entry)
    (walk_numbered x ranges (code_size x.family) x.entry know_nothing [] (record { addr = refl; halves = refl; paused = refl }))
