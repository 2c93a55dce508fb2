-- What `witness` answers, what it leaves in the lent columns, and what these show.
use Rattle.std.specs.Prelude.{ℕ, ◌≡◌, Bool, cond, not, ◌&&◌, List, leb, length, Result, Ok, Err}
use Rattle.refusals.specs.Number.{unshowable_number}
use Rattle.refusals.specs.declared.refusals.Unshowable.{Unshowable}
use Rattle.event_log.specs.Log.{Log}
use Rattle.event_log.specs.Rows.{rows_into, first_rows}
use Rattle.event_log.specs.declared.row.Row.{Row}
use Rattle.machine_actions.specs.declared.actions.Action.{Action}
use Rattle.script.specs.Script.{Script}
use Rattle.script.specs.Input.{input_fits}
use Rattle.audit_verdict.specs.Auditor.{audit_of}
use Rattle.audit_verdict.specs.Witness.{first_row, rows_over, writes_over, max_shown, way_to, ShownBy}
use Rattle.audit_verdict.specs.WorkedLogs.{WorkedLogs}
use Rattle.audit_script.specs.Promises.{Audits}
use Rattle.audit_witness.specs.declared.showing.Shown.{Shown}

-- 171 entries in each column
abbrev pub lent_enough : Log → Bool
lent_enough lent = leb max_shown (length lent.clocks) && (leb max_shown (length lent.known) && leb max_shown (length lent.values))

-- the verdict with the numbers of its log, or why there is none
abbrev pub WitnessAnswer : Type 0
WitnessAnswer = Result Shown Unshowable

-- the number that an answer stands for, 0 where a log was made
abbrev pub witness_number : WitnessAnswer → ℕ
witness_number (Ok told) = 0
witness_number (Err why) = unshowable_number why

-- what a script does before its verdict's place
abbrev pub way : Script → List ℕ → List Action
way script ranges = way_to script (audit_of script ranges)

-- a script with ranges, and the columns that are lent
module _ (script : Script) (ranges : List ℕ) (lent : Log) where
  -- the rows that its way asks for
  abbrev pub rows : List Row
  rows = rows_over (way script ranges) first_row

  -- no script with ranges, fewer than 171 entries lent in a column: tested in this order; then the verdict and the numbers of its log
  unfoldable pub witness_of : WitnessAnswer
  witness_of =
      cond (input_fits script ranges)
      (cond (lent_enough lent)
      (Ok (record {
        verdict = audit_of script ranges;
        rows = length rows;
        steps = length (way script ranges);
        writes = writes_over (way script ranges);
      }))
      (Err Unshowable.Room))
      (Err Unshowable.Input)

  -- which number an answer must have: 9 as the auditor's row says, 14 fewer than 171 entries, tested in this order
  unfoldable pub witness_refusal : ℕ
  witness_refusal =
      cond (not (input_fits script ranges)) 9
      (cond (not (lent_enough lent)) 14
      0)

  -- the columns after the answer: the log and then as lent, and after a refusal as lent
  abbrev pub columns_after : WitnessAnswer → Log
  columns_after (Ok told) = rows_into lent rows
  columns_after (Err why) = lent

  -- of the verdict all holds that the auditor promises, and the first entries of the columns show it, from every start
  abbrev pub ShowsIt : Log → WitnessAnswer → Type 0
  ShowsIt new (Ok told) = (Audits script ranges told.verdict)
      × (ShownBy script ranges (first_rows told.rows new) told.steps told.writes told.verdict)
  ShowsIt new (Err why) = Unit {0}

  -- what it promises of its answer and of the columns, lent and new
  pub record Witnesses (new : Log) (answer : WitnessAnswer) : Type 0 where
    pub answered : answer ≡ witness_of
    pub numbered : witness_number answer ≡ witness_refusal
    pub columns : new ≡ columns_after answer
    pub shows : ShowsIt new answer
    -- of the definition, and so of every answer
    pub worked : WorkedLogs
