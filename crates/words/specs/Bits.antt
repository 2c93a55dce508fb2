-- The bits of a word (004 counts them from 0, the lowest).
use Rattle.std.specs.Prelude.{ℕ, ◌/◌, ◌%◌, ◌^◌}
use Rattle.std.specs.Int.Bits.{bit_and, bit_or, bit_xor}

-- bit n of a word: 0 or 1
abbrev pub bit_of : ℕ → ℕ → ℕ
bit_of word n = word / 2 ^ n % 2

abbrev pub set_bit : ℕ → ℕ → ℕ
set_bit n word = bit_or word (2 ^ n)

abbrev pub clear_bit : ℕ → ℕ → ℕ
clear_bit n word = bit_xor word (bit_and word (2 ^ n))
