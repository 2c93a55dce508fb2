-- Replay's answer as numbers.
use Rattle.std.specs.Prelude.{ℕ, ◌≡◌, List, length, Ok, Err}
use Rattle.refusals.specs.Number.{unreplayable_number}
use Rattle.event_log.specs.Log.{Log}
use Rattle.script.specs.Script.{Script}
use Rattle.run.specs.Registers.{Registers}
use Rattle.run.specs.Replay.{ending_number, ReplayAnswer, replay_of, Replays}
use Rattle.run.specs.declared.answers.Replayed.{Replayed}
use Rattle.capi_replay.specs.declared.replays.ReplayReply.{ReplayReply}

abbrev pub unreplayed_reply : ℕ → ReplayReply
unreplayed_reply number = record {
  refusal = number;
  ending = 0;
  addr = 0;
  «data» = 0;
  flags_0 = 0;
  flags_1 = 0;
  ip = 0;
  row = 0;
  used = 0;
  steps = 0;
  writes = 0;
  waited = 0;
  searched = 0;
  left = 0;
}

abbrev pub ended_reply : Replayed → ReplayReply
ended_reply told = record {
  refusal = 0;
  ending = ending_number told.ending;
  addr = told.addr.0;
  «data» = told.«data»;
  flags_0 = told.flags_0;
  flags_1 = told.flags_1;
  ip = told.ip.0;
  row = told.place.row;
  used = told.place.used;
  steps = told.steps;
  writes = told.writes;
  waited = told.waited;
  searched = told.searched;
  left = told.left;
}

abbrev pub replay_reply : ReplayAnswer → ReplayReply
replay_reply (Ok told) = ended_reply told
replay_reply (Err why) = unreplayed_reply (unreplayable_number why)

-- the reply tells replay's answer, of which and of the lent entries all holds that replay promises
pub record HwsqReplay (script : Script) (registers : Registers) (log : Log) (old new : List ℕ) (reply : ReplayReply) : Type 0 where
  pub answered : reply ≡ replay_reply (replay_of script registers log (length old))
  pub replays : Replays script registers log old new (replay_of script registers log (length old))
