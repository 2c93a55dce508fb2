use Rattle.std.proofs.Common.{◌≡◌, ◌<◌, ◌^◌, ◌++◌, length, drop}
use Rattle.job_text.specs.Digits.{decimal_in, decimal_text}
use Rattle.job_text.proofs.decimal.digits.Given as goal

-- behind the digits still to come, for which there is room, stand those that are made
abbrev pub invariant-loop-first : goal.invariant-loop-first
invariant-loop-first l = record {
  text_size : length l.text ≡ length l.initial.text;
  to_come : 0 < l.first;
  room : l.rest < 10 ^ l.first;
  made : decimal_in l.first l.rest ++ drop l.first l.text ≡ decimal_text l.n;
}
