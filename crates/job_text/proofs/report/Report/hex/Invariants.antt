use Rattle.std.proofs.Common.{◌≡◌, ◌++◌, length, drop}
use Rattle.job_text.specs.Digits.{hex_in, hex_word}
use Rattle.job_text.proofs.report.Report.hex.Given as goal

-- behind the digits still to come stand those that are made
abbrev pub invariant-loop-place : goal.invariant-loop-place
invariant-loop-place l = record {
  text_size : length l.text ≡ length l.initial.text;
  made : hex_in l.place l.rest ++ drop l.place l.text ≡ hex_word l.n;
}
