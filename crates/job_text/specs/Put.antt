-- A text put into a lent buffer.
use Rattle.std.specs.Prelude.{ℕ, ◌+◌, ◌^◌, ◌≤◌, ◌<◌, ◌≡◌, Bool, cond, List, ◌++◌, length, take, drop, leb}
use Rattle.job_text.specs.Digits.{decimal_text, hex_word, read_hex_on, DecimalText}

-- whether text t has room in buffer d from `at` on
abbrev pub has_room : List ℕ → ℕ → List ℕ → Bool
has_room d at t = leb (at + length t) (length d)

-- d with t stored from `at` on; d itself where t has no room
unfoldable pub put : List ℕ → ℕ → List ℕ → List ℕ
put d at t = cond (has_room d at t) (take at d ++ t ++ drop (at + length t) d) d

-- the place after t; `at` where t has no room
unfoldable pub after : List ℕ → ℕ → List ℕ → ℕ
after d at t = cond (has_room d at t) (at + length t) at

-- where t has room, r is the place after it and e the buffer then
abbrev pub Stored : List ℕ → ℕ → List ℕ → ℕ → List ℕ → Type 0
Stored d at t r e = at + length t ≤ length d → (r ≡ at + length t) × (e ≡ put d at t)

-- t was put into d at `at`: the answer is r, and e is the buffer then
pub record Puts (d : List ℕ) (at : ℕ) (t : List ℕ) (r : ℕ) (e : List ℕ) : Type 0 where
  pub answered : r ≡ after d at t
  pub contents : e ≡ put d at t
  pub stored : Stored d at t r e
  -- another text put right after it makes one text with it, where both have room
  pub joins : (u : List ℕ) → at + length (t ++ u) ≤ length d → put e r u ≡ put d at (t ++ u)
  -- stored or not, a text changes no length
  pub kept : length e ≡ length d
  -- which is the array's: a caller that only hands the buffer on learns it nowhere else
  pub size : length e ≡ 65536

pub record PutsDecimal (d : List ℕ) (at n r : ℕ) (e : List ℕ) : Type 0 where
  pub puts : Puts d at (decimal_text n) r e
  pub digits : DecimalText n

pub record PutsHex (d : List ℕ) (at n r : ℕ) (e : List ℕ) : Type 0 where
  pub puts : Puts d at (hex_word n) r e
  pub eight : length (hex_word n) ≡ 8
  -- read back, the digits give the word
  pub reads_back : n < 2 ^ 32 → read_hex_on 0 (hex_word n) ≡ n
