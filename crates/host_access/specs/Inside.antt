-- What private functions cite; no public contract does.
use Rattle.std.specs.Prelude.{ℕ, Bool, cond, Result, Ok, Err}
use Rattle.families.specs.Family.{known_family}
use Rattle.refusals.specs.declared.refusals.Inaccessible.{Inaccessible}
use Rattle.host_registers.specs.Register.{is_writable}
use Rattle.host_registers.specs.declared.registers.Register.{Register}

-- what the tests of a write come to, in their order
unfoldable pub write_outcome : ℕ → Register → Bool → Result Unit Inaccessible
write_outcome family register taken =
    cond (known_family family)
    (cond (is_writable register)
    (cond taken
    (Ok tt)
    (Err Inaccessible.Executing))
    (Err Inaccessible.Register))
    (Err Inaccessible.Family)
