-- Which opcode a first byte is, from facts on numbers. Assumes nothing.
use Prim.Native.Nat.{ℕ, ◌<◌, ◌≤◌}
use mathlib.Core.Path.{◌≡◌}
use mathlib.Core.Logic.{◌≢◌}
use native.Mathlib.Omega.{arith}
use borrow.Author.Tests.{ne_eqb}
use Rattle.isa.specs.Opcode.{opcode_at, later_only}
use Rattle.isa.specs.declared.opcodes.Opcode.{Opcode}
use Rattle.families.proofs.Tests.{inside, outside}

module _ (f b : ℕ) where
  pub wait : b ≤ 0x3f → Opcode.Wait ≡ opcode_at f b
  unfolding opcode_at
  wait h = simp (inside 0x00 b 0x3f (omega arith) h)

  pub addr_lo : b ≡ 0x40 → later_only f Opcode.AddrLo ≡ opcode_at f b
  unfolding opcode_at
  addr_lo h = simp h

  pub data_lo : b ≡ 0x42 → later_only f Opcode.DataLo ≡ opcode_at f b
  unfolding opcode_at
  data_lo h = simp h

  pub ewait : b ≡ 0x5f → later_only f Opcode.Ewait ≡ opcode_at f b
  unfolding opcode_at
  ewait h = simp h

  pub exit : b ≡ 0x7f → Opcode.Exit ≡ opcode_at f b
  unfolding opcode_at
  exit h = simp h

  pub addr : b ≡ 0xe0 → later_only f Opcode.Addr ≡ opcode_at f b
  unfolding opcode_at
  addr h = simp h

  pub data32 : b ≡ 0xe2 → later_only f Opcode.Data ≡ opcode_at f b
  unfolding opcode_at
  data32 h = simp h

  pub unset : 0x80 ≤ b → b ≤ 0x9f → Opcode.Unset ≡ opcode_at f b
  unfolding opcode_at
  unset h k =
      simp (
        outside 0x00 b 0x3f (omega arith),
        ne_eqb b 0x40 (omega arith),
        ne_eqb b 0x42 (omega arith),
        ne_eqb b 0x5f (omega arith),
        ne_eqb b 0x7f (omega arith),
        inside 0x80 b 0x9f h k,
      )

  pub set1 : 0xa0 ≤ b → b ≤ 0xbf → Opcode.Set1 ≡ opcode_at f b
  unfolding opcode_at
  set1 h k =
      simp (
        outside 0x00 b 0x3f (omega arith),
        ne_eqb b 0x40 (omega arith),
        ne_eqb b 0x42 (omega arith),
        ne_eqb b 0x5f (omega arith),
        ne_eqb b 0x7f (omega arith),
        outside 0x80 b 0x9f (omega arith),
        inside 0xa0 b 0xbf h k,
      )

  pub set0 : 0xc0 ≤ b → b ≤ 0xdf → Opcode.Set0 ≡ opcode_at f b
  unfolding opcode_at
  set0 h k =
      simp (
        outside 0x00 b 0x3f (omega arith),
        ne_eqb b 0x40 (omega arith),
        ne_eqb b 0x42 (omega arith),
        ne_eqb b 0x5f (omega arith),
        ne_eqb b 0x7f (omega arith),
        outside 0x80 b 0x9f (omega arith),
        outside 0xa0 b 0xbf (omega arith),
        inside 0xc0 b 0xdf h k,
      )

  pub unknown : 0x3f < b → (0x80 ≤ b → b ≤ 0xdf → ⊥) → b ≢ 0x40 → b ≢ 0x42 → b ≢ 0x5f → b ≢ 0x7f → b ≢ 0xe0 → b ≢ 0xe2 → Opcode.Unknown ≡ opcode_at f b
  unfolding opcode_at
  unknown low gap n₁ n₂ n₃ n₄ n₅ n₆ =
      simp (
        outside 0x00 b 0x3f (omega arith),
        ne_eqb b 0x40 n₁,
        ne_eqb b 0x42 n₂,
        ne_eqb b 0x5f n₃,
        ne_eqb b 0x7f n₄,
        outside 0x80 b 0x9f (λ p q. gap p (omega arith)),
        outside 0xa0 b 0xbf (λ p q. gap (omega arith) (omega arith)),
        outside 0xc0 b 0xdf (λ p q. gap (omega arith) q),
        ne_eqb b 0xe0 n₅,
        ne_eqb b 0xe2 n₆,
      )
