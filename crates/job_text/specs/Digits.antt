-- Numbers as text (01, the end of "A job, and one report whole": numbers are decimal; addresses, data and status eight hex
-- digits). A text is the list of its ASCII codes.
use Rattle.std.specs.Prelude.{ℕ, zero, suc, ◌+◌, ◌*◌, ◌/◌, ◌%◌, ◌^◌, ◌-◌, ◌≤◌, ◌<◌, ◌≡◌, cond, List, [], ◌∷◌, ◌++◌, length, ltb}

-- a digit below 10
abbrev pub digit : ℕ → ℕ
digit n = 48 + n

-- a number below 10 is one digit; any other is a tenth of it, then its last digit; at most so many digits
unfoldable pub decimal_in : ℕ → ℕ → List ℕ
decimal_in zero n = []
decimal_in (suc most) n =
    let front = decimal_in most (n / 10) in
    cond (ltb n 10) (digit n ∷ []) (front ++ (digit (n % 10) ∷ []))

-- the decimal digits of n with no leading zero; a number of 64 bits has at most 20
unfoldable pub decimal_text : ℕ → List ℕ
decimal_text n = decimal_in 20 n

-- the last hex digit of n, lower case
abbrev pub hex_digit : ℕ → ℕ
hex_digit n = cond (ltb (n % 16) 10) (digit (n % 16)) (87 + n % 16)

-- the last hex digits of n, so many
unfoldable pub hex_in : ℕ → ℕ → List ℕ
hex_in zero n = []
hex_in (suc width) n = hex_in width (n / 16) ++ (hex_digit n ∷ [])

-- the eight hex digits of a word
unfoldable pub hex_word : ℕ → List ℕ
hex_word n = hex_in 8 n

-- ---- what is promised of them

-- the number that decimal digits are read as, after what stood before them
abbrev pub read_on : ℕ → List ℕ → ℕ
read_on before [] = before
read_on before (c ∷ cs) = read_on (10 * before + (c - 48)) cs

-- the value of a hex digit: 0 to 9, then a to f in lower case
abbrev pub hex_value : ℕ → ℕ
hex_value c = cond (ltb c 58) (c - 48) (c - 87)

-- the number that hex digits are read as, after what stood before them
abbrev pub read_hex_on : ℕ → List ℕ → ℕ
read_hex_on before [] = before
read_hex_on before (c ∷ cs) = read_hex_on (16 * before + hex_value c) cs

pub record DecimalText (n : ℕ) : Type 0 where
  -- read back, the digits give the number
  pub reads_back : n < 10 ^ 20 → read_on 0 (decimal_text n) ≡ n
  -- and there are no more of them than it takes
  pub within : (places : ℕ) → 0 < places → n < 10 ^ places → length (decimal_text n) ≤ places
  pub short : length (decimal_text n) ≤ 20
