-- From what a call promises of its answer to what the call with a C name promises of its reply. Assumes nothing.
use Prim.Native.Nat.{ℕ}
use mathlib.Core.Path.{◌≡◌, ap, subst, ◌∙◌}
use mathlib.Core.List.{List}
use Rattle.event_log.specs.Log.{Log}
use Rattle.script.specs.Script.{Script}
use Rattle.run.specs.Registers.{Registers}
use Rattle.run.specs.Replay.{Replays}
use Rattle.run.specs.Replay.{ReplayAnswer}
use Rattle.capi_replay.specs.Replays.{replay_reply, HwsqReplay}
use Rattle.capi_replay.specs.declared.replays.ReplayReply.{ReplayReply}

pub replay_passed : {script : Script} {registers : Registers} {log : Log} {old new : List ℕ} {answer : ReplayAnswer} {reply : ReplayReply}
    → Replays script registers log old new answer → reply ≡ replay_reply answer → HwsqReplay script registers log old new reply
replay_passed {script} {registers} {log} {old} {new} p told = record {
  answered = told ∙ ap replay_reply p.answered;
  replays = subst (Replays script registers log old new) p.answered p;
}
