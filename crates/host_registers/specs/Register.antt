-- The registers and where they stand (01, "Host registers"; 004, "MMIO registers" and "Code space").
use Rattle.std.specs.Prelude.{ℕ, ◌+◌, ◌-◌, ◌%◌, ◌≤◌, Bool, true, false, cond, ◌&&◌, ltb, eqb}
use Rattle.families.specs.Family.{code_size, within, max_code}
use Rattle.isa.specs.declared.addresses.MmioAddress.{MmioAddress}
use Rattle.host_registers.specs.declared.registers.Register.{Register}

-- the addresses of STATUS and TRIGGER
abbrev pub status_at : ℕ
status_at = 0x001308

abbrev pub trigger_at : ℕ
trigger_at = 0x00130c

-- family 4 alone has ENTRY_POINT_HIGH and NEW_CODE
abbrev pub is_high : ℕ → Bool
is_high family = eqb family 4

abbrev pub if_high : ℕ → Register
if_high family = cond (is_high family) Register.EntryPointHigh Register.Unlisted

-- NEW_CODE shows all of family 4's code RAM, and no other family's
abbrev pub high_window : ℕ → ℕ
high_window family = cond (is_high family) (code_size family) 0

-- a window on so many bytes of code RAM has a register at each offset in it that is divisible by 4
abbrev pub code_in : ℕ → ℕ → Register
code_in size offset = cond (ltb offset size && eqb (offset % 4) 0) (Register.Code (record { 0 = offset })) Register.Unlisted

-- CODE shows the first 256 bytes of code RAM at most
unfoldable pub code_at : ℕ → ℕ → Register
code_at family at =
    cond (within 0x001400 at 0x0014ff) (code_in (code_size family) (at - 0x001400))
    (cond (within 0x080000 at 0x0801ff) (code_in (high_window family) (at - 0x080000))
    Register.Unlisted)

-- the register at an address
unfoldable pub register_at : ℕ → MmioAddress → Register
register_at family address =
    let at = address.0 in
    cond (eqb at 0x001098) Register.Control
    (cond (eqb at 0x001304) Register.EntryPoint
    (cond (eqb at status_at) Register.Status
    (cond (eqb at trigger_at) Register.Trigger
    (cond (eqb at 0x001310) Register.Flags0
    (cond (eqb at 0x001314) Register.Flags1
    (cond (eqb at 0x001318) (if_high family)
    (cond (eqb at 0x001578) Register.Events
    (code_at family at))))))))

-- STATUS is read only, EVENTS is not writable
abbrev pub is_writable : Register → Bool
is_writable Register.Control = true
is_writable Register.EntryPoint = true
is_writable Register.Status = false
is_writable Register.Trigger = true
is_writable Register.Flags0 = true
is_writable Register.Flags1 = true
is_writable Register.EntryPointHigh = true
is_writable (Register.Code at) = true
is_writable Register.Events = false
is_writable Register.Unlisted = false

-- the four bytes of a code register lie in the 512 bytes that a state has room for
abbrev pub InRoom : Register → Type 0
InRoom Register.Control = Unit {0}
InRoom Register.EntryPoint = Unit {0}
InRoom Register.Status = Unit {0}
InRoom Register.Trigger = Unit {0}
InRoom Register.Flags0 = Unit {0}
InRoom Register.Flags1 = Unit {0}
InRoom Register.EntryPointHigh = Unit {0}
InRoom (Register.Code at) = at.0 + 4 ≤ max_code
InRoom Register.Events = Unit {0}
InRoom Register.Unlisted = Unit {0}
