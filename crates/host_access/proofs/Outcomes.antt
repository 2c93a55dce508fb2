-- What the tests of an access come to, and what it leaves. Assumes nothing.
use Prim.Native.Nat.{ℕ}
use mathlib.Core.Path.{◌≡◌, refl}
use mathlib.Core.Bool.{Bool, true, false, cond}
use Rattle.std.specs.Prelude.{Result, Ok, Err, is_ok}
use Rattle.families.specs.Family.{known_family}
use Rattle.isa.specs.declared.addresses.MmioAddress.{MmioAddress}
use Rattle.refusals.specs.declared.refusals.Inaccessible.{Inaccessible}
use Rattle.machine_state.specs.declared.state.State.{State}
use Rattle.host_registers.specs.Access.{done, refused, after_write, is_taken, write_of}
use Rattle.host_registers.specs.Register.{register_at, is_writable}
use Rattle.host_registers.specs.declared.access.Access.{Access}
use Rattle.host_registers.specs.declared.registers.Register.{Register}
use Rattle.host_access.specs.Inside.{write_outcome}

module _ (s : State) (address : MmioAddress) (word : ℕ) where
  abbrev register : Register
  register = register_at s.family address

  -- a write whose tests come to this
  abbrev Answers : Result Unit Inaccessible → Access → Type 0
  Answers outcome t = ◌≡◌ {A = Access} (record { state = cond (is_ok outcome) (after_write s register word) s; outcome = outcome }) t

  -- the tests in the order of the definition, with what each outcome leaves
  answers : Answers (write_outcome s.family register (is_taken s address word)) (write_of s address word)
  unfolding write_outcome write_of
  answers = chosen (known_family s.family) (is_writable register) (is_taken s address word)
    where
      chosen : (known writable taken : Bool)
          → Answers (cond known (cond writable (cond taken (Ok tt) (Err Inaccessible.Executing)) (Err Inaccessible.Register)) (Err Inaccessible.Family))
          (cond known (cond writable (cond taken (done (after_write s register word)) (refused s Inaccessible.Executing)) (refused s Inaccessible.Register))
          (refused s Inaccessible.Family))
      chosen true true true = refl
      chosen true true false = refl
      chosen true false taken = refl
      chosen false writable taken = refl

  -- what a write answers, by the outcome of its tests
  pub written_as : {there : Register} {outcome : Result Unit Inaccessible} {t : State} → there ≡ register
      → outcome ≡ write_outcome s.family there (is_taken s address word) → t ≡ cond (is_ok outcome) (after_write s there word) s
      → ◌≡◌ {A = Access} (record { state = t; outcome = outcome }) (write_of s address word)
  written_as r o e = rw (e, o, r) answers
