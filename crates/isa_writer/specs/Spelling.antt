-- The bytes that the writer's own enum of spellings holds.
use Rattle.std.specs.Prelude.{ℕ, List, [], ◌∷◌}
use Rattle.isa_writer.specs.declared.writer.Spelling.{Spelling}

abbrev pub spelling_bytes : Spelling → List ℕ
spelling_bytes (Spelling.One a) = a ∷ []
spelling_bytes (Spelling.Three a b c) = a ∷ b ∷ c ∷ []
spelling_bytes (Spelling.Five a b c d e) = a ∷ b ∷ c ∷ d ∷ e ∷ []
