-- The entry points (01, "Host registers"; 004, "Script execution").
use Rattle.std.specs.Prelude.{ℕ, ◌+◌, ◌*◌, ◌/◌, ◌%◌, ◌^◌, cond}
use Rattle.host_registers.specs.Register.{is_high}

-- ENTRY_POINT_HIGH has a meaning at bits 0, 8, 16 and 24; its other bits read 0
abbrev pub entry_bits : ℕ → ℕ
entry_bits word = word % 2 + 256 * (word / 256 % 2) + 65536 * (word / 65536 % 2) + 16777216 * (word / 16777216 % 2)

-- entry point n: byte n of ENTRY_POINT, and on family 4 bit 8 n of ENTRY_POINT_HIGH as its bit 8
unfoldable pub entry_point : ℕ → ℕ → ℕ → ℕ → ℕ
entry_point family low high n = cond (is_high family) (low / 2 ^ (8 * n) % 256 + 256 * (high / 2 ^ (8 * n) % 2)) (low / 2 ^ (8 * n) % 256)
