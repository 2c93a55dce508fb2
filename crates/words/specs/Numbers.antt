-- Numbers in a row of bytes (01: they are little-endian). What is read past the end counts as 0.
use Rattle.std.specs.Prelude.{ℕ, ◌+◌, ◌*◌, List, get_or}

abbrev pub byte_at : List ℕ → ℕ → ℕ
byte_at bytes i = get_or bytes i 0

-- four bytes
unfoldable pub word_at : List ℕ → ℕ → ℕ
word_at bytes i = byte_at bytes i + 256 * byte_at bytes (i + 1) + 65536 * byte_at bytes (i + 2) + 16777216 * byte_at bytes (i + 3)

-- eight bytes
unfoldable pub long_at : List ℕ → ℕ → ℕ
long_at bytes i = word_at bytes i + 4294967296 * word_at bytes (i + 4)
