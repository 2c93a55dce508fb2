-- A script as auditor and replay are given it (01, "What the auditor says"): family, code, upload marks and entry.
use Rattle.std.specs.Prelude.{ℕ, List}
use Rattle.isa.specs.Answers.{Decoded}
use Rattle.isa_fetch.specs.Fetch.{fetch_of}
use Rattle.script.specs.declared.input.Script.{Script as Lent}

pub record Script : Type 0 where
  pub family : ℕ
  pub code : List ℕ
  -- 1 for each byte that was uploaded, else 0
  pub marks : List ℕ
  -- where its first instruction stands
  pub entry : ℕ

-- the script of these four
abbrev pub script_of : ℕ → List ℕ → List ℕ → ℕ → Script
script_of family code marks entry = record { family = family; code = code; marks = marks; entry = entry }

-- the script that is lent
abbrev pub lent_script : Lent → Script
lent_script s = script_of s.ram.family s.ram.code.now s.ram.marks.now s.entry.0

-- what is fetched at a place of its code
abbrev pub fetch_at : Script → ℕ → Decoded
fetch_at script place = fetch_of script.family script.code script.marks place
