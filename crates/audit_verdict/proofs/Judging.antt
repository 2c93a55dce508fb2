-- What each judgement of the auditor says of the action it judges: the one case split over actions that looks at `judge_of`. Assumes nothing.
use Rattle.std.specs.Prelude.{Some, None, Option}
use Prim.Native.Nat.{ℕ}
use mathlib.Core.Path.{◌≡◌, refl, sym, ap, ◌∙◌}
use mathlib.Core.Bool.{Bool, true, false, ◌&&◌}
use mathlib.Core.List.{List}
use Rattle.families.specs.Family.{pauses_memory}
use Rattle.isa.specs.declared.addresses.MmioAddress.{MmioAddress}
use Rattle.families.proofs.Tests.{cond_elim}
use Rattle.machine_actions.specs.Action.{merge_of}
use Rattle.machine_slot.specs.SlotStep.{mode_after, ip_after, addr_after, effect_of}
use Rattle.machine_actions.specs.declared.actions.Action.{Action}
use Rattle.machine_actions.specs.declared.actions.Part.{Part}
use Rattle.machine_state.specs.declared.slots.Mode.{Mode}
use Rattle.audit_verdict.specs.Auditor.{target_of, judge_poke, can_release, Releasable, judge_of, known_addr}
use Rattle.audit_verdict.specs.Demand3.{AllListed}
use Rattle.script.specs.Input.{listed_in}
use Rattle.run.specs.Run.{wrote_by}
use Rattle.refusals.specs.declared.refusals.Fault.{Fault}
use Rattle.audit_verdict.specs.declared.verdicts.Judgement.{Judgement}
use Rattle.audit_verdict.specs.declared.verdicts.Knowledge.{Knowledge}
use Rattle.audit_verdict.proofs.Cases.{never}

-- what ADDR holds: what the script has set, or else what the start had
abbrev pub held_addr : Option MmioAddress → ℕ → ℕ
held_addr None start = start
held_addr (Some address) start = address.0

-- an address that is not known is none
nowhere : {A : Type 0} {address : MmioAddress} → None ≡ Some address → A
nowhere e = never (cc)

-- a poke goes where the auditor says
pub poke_addr : (part : Part) (word start addr : ℕ) (address : MmioAddress) (known : Option MmioAddress)
    → target_of part word known ≡ Some address → addr ≡ held_addr known start → merge_of part addr word ≡ address.0
poke_addr Part.Whole word start addr address known t e = ap (λ (k : Option MmioAddress). held_addr k 0) t
poke_addr Part.Low word start addr address None t e = nowhere t
poke_addr Part.Low word start addr address (Some a) t e = rw e (ap (λ (k : Option MmioAddress). held_addr k 0) t)

module _ (family : ℕ) (ranges : List ℕ) where
  -- the run goes on, as the auditor has it, and writes only where it may, and the same whatever ADDR and DATA held at the start
  pub record Fine (action : Action) (k : Knowledge) : Type 0 where
    pub goes : mode_after action true true ≡ Mode.Running
    pub moves : (at next : ℕ) → ip_after action at next ≡ next
    pub addr : (start addr : ℕ) → addr ≡ held_addr k.addr start → addr_after action addr ≡ held_addr (known_addr action k.addr) start
    pub listed : (start addr word : ℕ) → addr ≡ held_addr k.addr start → AllListed ranges (wrote_by (effect_of action true addr word))
    pub event : Releasable action
    pub writes : (start start' addr addr' word word' : ℕ) → addr ≡ held_addr k.addr start → addr' ≡ held_addr k.addr start' → (k.«data» ≡ true
        → word ≡ word')
        → wrote_by (effect_of action true addr word) ≡ wrote_by (effect_of action true addr' word')

  -- the action that a fault blames, and for what
  abbrev pub Blame : Action → Knowledge → Fault → Type 0
  Blame action k Fault.PastRam = ⊥
  Blame action k Fault.NotUploaded = ⊥
  Blame action k Fault.Unknown = ⊥
  Blame action k Fault.NoAddress = (word : ℕ) × (action ≡ Action.Poke Part.Low word) × (k.addr ≡ None)
  Blame action k Fault.HalfData =
      (part : Part) × (word : ℕ) × (address : MmioAddress) × (action ≡ Action.Poke part word) × (target_of part word k.addr ≡ Some address)
      × (k.«data» ≡ false)
  Blame action k Fault.Outside =
      (part : Part) × (word : ℕ) × (address : MmioAddress) × (action ≡ Action.Poke part word) × (target_of part word k.addr ≡ Some address)
      × (k.«data» ≡ true) × (listed_in ranges address.0 ≡ false)
  Blame action k Fault.Unreleased = (event : ℕ) × (value : ℕ) × (action ≡ Action.Ewait event value) × (can_release event value ≡ false)
  Blame action k Fault.Paused = (action ≡ Action.Exit) × ((pauses_memory family && k.paused) ≡ true)
  Blame action k Fault.Input = ⊥

  abbrev pub Why : Action → Knowledge → Judgement → Type 0
  Why action k Judgement.Fine = Fine action k
  Why action k Judgement.Exit = (action ≡ Action.Exit) × ((pauses_memory family && k.paused) ≡ false)
  Why action k (Judgement.Bad fault) = Blame action k fault

  -- what is to be shown of each judgement
  no_address : (word : ℕ) (k : Knowledge) → k.addr ≡ None → Blame (Action.Poke Part.Low word) k Fault.NoAddress
  no_address word k unset = (word, refl, unset)

  half_data : (part : Part) (word : ℕ) (k : Knowledge) (address : MmioAddress) → target_of part word k.addr ≡ Some address
      → k.«data» ≡ false → Blame (Action.Poke part word) k Fault.HalfData
  half_data part word k address t d = (part, word, address, refl, t, d)

  outside : (part : Part) (word : ℕ) (k : Knowledge) (address : MmioAddress) → target_of part word k.addr ≡ Some address
      → k.«data» ≡ true → listed_in ranges address.0 ≡ false → Blame (Action.Poke part word) k Fault.Outside
  outside part word k address t d l = (part, word, address, refl, t, d, l)

  unreleased : (event value : ℕ) (k : Knowledge) → can_release event value ≡ false → Blame (Action.Ewait event value) k Fault.Unreleased
  unreleased event value k c = (event, value, refl, c)

  exits : (k : Knowledge) → (pauses_memory family && k.paused) ≡ false → Why Action.Exit k Judgement.Exit
  exits k e = (refl, e)

  exits_paused : (k : Knowledge) → (pauses_memory family && k.paused) ≡ true → Blame Action.Exit k Fault.Paused
  exits_paused k e = (refl, e)

  why_poke : (part : Part) (word : ℕ) (k : Knowledge) (target : Option MmioAddress) → target_of part word k.addr ≡ target
      → (halves : Bool) → k.«data» ≡ halves → Why (Action.Poke part word) k (judge_poke ranges target halves)
  why_poke Part.Whole word k None t halves d = never (cc)
  why_poke Part.Low word k None t halves d = no_address word k (unset k.addr t)
    where
      unset : (known : Option MmioAddress) → target_of Part.Low word known ≡ None → known ≡ None
      unset None t = refl
      unset (Some address) t = never (cc)
  why_poke part word k (Some address) t true d =
      cond_elim (Why (Action.Poke part word) k) (listed_in ranges address.0)
      (λ l. record {
        goes = refl;
        moves = λ at next. refl;
        addr = λ start addr e. poke_addr part word start addr address k.addr t e ∙ ap (λ (known : Option MmioAddress). held_addr known start) (sym t);
        listed = λ start addr data' e. (rw (poke_addr part word start addr address k.addr t e) l, tt);
        event = λ event value q. never (cc);
        writes = λ start start' addr addr' data' data'' e e' same.
            rw (poke_addr part word start addr address k.addr t e, poke_addr part word start' addr' address k.addr t e', same d) refl;
      })
      (λ l. outside part word k address t d l)
  why_poke part word k (Some address) t false d = half_data part word k address t d

  pub explain : (action : Action) (k : Knowledge) → Why action k (judge_of family ranges action k)
  explain (Action.Wait n) k =
      record {
        goes = refl;
        moves = λ at next. refl;
        addr = λ start addr e. e;
        listed = λ start addr word e. tt;
        event = λ event value q. never (cc);
        writes = λ start start' addr addr' word word' e e' same. refl;
      }
  explain (Action.Ewait event value) k =
      cond_elim (Why (Action.Ewait event value) k) (can_release event value)
      (λ c. record {
        goes = refl;
        moves = λ at next. refl;
        addr = λ start addr e. e;
        listed = λ start addr word e. tt;
        event = λ event' value' q. cc;
        writes = λ start start' addr addr' word word' e e' same. refl;
      })
      (λ c. unreleased event value k c)
  explain (Action.Flag change flag) k =
      record {
        goes = refl;
        moves = λ at next. refl;
        addr = λ start addr e. e;
        listed = λ start addr word e. tt;
        event = λ event value q. never (cc);
        writes = λ start start' addr addr' word word' e e' same. refl;
      }
  explain (Action.Load part word) k =
      record {
        goes = refl;
        moves = λ at next. refl;
        addr = λ start addr e. e;
        listed = λ start addr word e. tt;
        event = λ event value q. never (cc);
        writes = λ start start' addr addr' word word' e e' same. refl;
      }
  explain (Action.Poke part word) k = why_poke part word k (target_of part word k.addr) refl _ refl
  explain Action.Exit k = cond_elim (Why Action.Exit k) (pauses_memory family && k.paused) (λ e. exits_paused k e) (λ e. exits k e)
