-- The facts of a family as a reply.
use Rattle.std.specs.Prelude.{ℕ, cond}
use Rattle.families.specs.Family.{known_family, code_size, slot_count, unknown_hangs, pauses_memory, highest_entry}
use Rattle.capi_codec.specs.declared.facts.FamilyReply.{FamilyReply}

abbrev pub unknown_number : ℕ → ℕ
unknown_number family = cond (known_family family) 0 9

-- a number that names no family is refused, and has nothing of all this
abbrev pub family_reply : ℕ → FamilyReply
family_reply family = record {
  refusal = unknown_number family;
  hangs = unknown_hangs family;
  pauses = pauses_memory family;
  size = code_size family;
  slots = slot_count family;
  entry = highest_entry family;
}
