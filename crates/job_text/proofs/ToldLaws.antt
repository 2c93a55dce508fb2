-- Texts told one after the other are one text.
use Rattle.std.proofs.Common.{◌≡◌, ℕ, List, [], ◌++◌, length, ◌∙◌, refl, subst}
use Rattle.job_text.specs.Put.{Stored}
use Rattle.job_text.specs.Told.{Starts, Told}
use Rattle.job_text.specs.declared.report.Report.{Report}
use Rattle.job_text.proofs.PutLaws.{both_stored, no_text}

pub both_told : {a b c : Report} (t u : List ℕ) → Told a t b → Told b u c → Told a (t ++ u) c
both_told {a} t u p q = record { stored = both_stored a.out.now a.at t u p.stored q.stored; lent = q.lent ∙ p.lent }

-- a text by another name
pub told_as : {a b : Report} {t u : List ℕ} → t ≡ u → Told a t b → Told a u b
told_as {a} {b} e h = subst (λ t. Told a t b) e h

-- where a run of texts begins
pub told_none : (a : Report) → Told a [] a
told_none a = record { stored = no_text a.out.now a.at; lent = refl }

-- what the lender of a report's buffer has then
pub told_lent : {old new t : List ℕ} {a b : Report} → Starts old a → Told a t b → new ≡ b.out.now → Stored old 0 t b.at new
told_lent {b = b} s told e = rw (← s.contents, e, ← s.start) told.stored

pub lent_size : {bytes : List ℕ} {a : Report} → Starts bytes a → length bytes ≡ 65536
lent_size s = rw s.contents at s.size
