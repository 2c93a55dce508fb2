-- Laws of decimal digits: how they are made from the last to the first, how many there are, and what they are read as.
use mathlib.Core.Path.{◌≡◌, refl, ap, sym, ◌∙◌, subst}
use mathlib.Core.Bool.{Bool, true, false, cond}
use mathlib.Core.List.{List, [], ◌∷◌, ◌++◌}
use Prim.Native.Nat.{ℕ, zero, suc, ◌+◌, ◌-◌, ◌*◌, ◌/◌, ◌%◌, ◌^◌, ◌≤◌, ◌<◌}
use native.Mathlib.Nat.{pow-suc, div-lt_iff_lt-mul}
use native.Mathlib.Omega.{arith}
use lib.ListN.{length, drop, set, length-append}
use lib.Dec.{ltb, lit<}
use borrow.Author.Tests.{lt-ltb, le-ltb, ltb-true, ltb-false}
use Rattle.job_text.proofs.Backwards.{less, stored}
use Rattle.job_text.proofs.PutLaws.{puts_as}
use Rattle.job_text.specs.Digits.{digit, decimal_in, decimal_text, read_on, DecimalText}
use Rattle.job_text.specs.Put.{Puts, PutsDecimal}

last_digit : (most n : ℕ) → n < 10 → decimal_in (suc most) n ≡ digit n ∷ []
unfolding decimal_in
last_digit most n h = rw (lt-ltb n 10 h)

pub one_digit : (n : ℕ) → n < 10 → digit n ∷ [] ≡ decimal_text n
unfolding decimal_text
one_digit n h = sym (last_digit 19 n h)

more_digits : (most n : ℕ) → 10 ≤ n → decimal_in (suc most) n ≡ decimal_in most (n / 10) ++ (digit (n % 10) ∷ [])
unfolding decimal_in
more_digits most n h = rw (le-ltb n 10 h)

pub two_digits : (n : ℕ) → 10 ≤ n → n < 100 → digit (n / 10) ∷ digit (n % 10) ∷ [] ≡ decimal_text n
unfolding decimal_text
two_digits n h k = sym (more_digits 19 n h ∙ ap (λ (front : List ℕ). front ++ (digit (n % 10) ∷ [])) (last_digit 18 (n / 10) (omega arith)))

-- what holds of one digit, and of more, holds of all
digits_elim : (P : List ℕ → Type 0) (most n : ℕ)
    → (n < 10 → P (digit n ∷ []))
    → (10 ≤ n → P (decimal_in most (n / 10) ++ (digit (n % 10) ∷ [])))
    → P (decimal_in (suc most) n)
unfolding decimal_in
digits_elim P most n one more = pick (ltb n 10) (λ e. one (ltb-true n 10 e)) (λ e. more (ltb-false n 10 e))
  where
    pick : (c : Bool) {a b : List ℕ} → (c ≡ true → P a) → (c ≡ false → P b) → P (cond c a b)
    pick true f g = f refl
    pick false f g = g refl

tenth : (k n : ℕ) → n < 10 ^ suc k → n / 10 < 10 ^ k
tenth k n h = (div-lt_iff_lt-mul (lit< tt)).1 (subst (λ (m : ℕ). n < m) (pow-suc 10 k) h)

-- ---- written from the last digit to the first: what stands in the array from `first` on, behind the digits still to come

pub next_digit : (text : List ℕ) (first rest : ℕ)
    → 0 < first
    → first ≤ length text
    → 10 ≤ rest
    → decimal_in (first - 1) (rest / 10) ++ drop (first - 1) (set text (first - 1) (digit (rest % 10))) ≡ decimal_in first rest ++ drop first text
next_digit text zero rest p h k = absurd (omega arith)
next_digit text (suc j) rest p h k =
    stored text (decimal_in (suc j - 1) (rest / 10)) (suc j) (digit (rest % 10)) p h
    ∙ rw (less j, more_digits j rest k) refl

pub end : (text : List ℕ) (first rest : ℕ)
    → 0 < first
    → first ≤ length text
    → rest < 10
    → drop (first - 1) (set text (first - 1) (digit (rest % 10))) ≡ decimal_in first rest ++ drop first text
end text zero rest p h k = absurd (omega arith)
end text (suc j) rest p h k =
    let same : rest % 10 ≡ rest = omega arith in
    stored text [] (suc j) (digit (rest % 10)) p h ∙ rw (same, last_digit j rest k) refl

-- there is room for the digits still to come
pub fewer_digits : (first rest : ℕ) → rest < 10 ^ first → 10 ≤ rest → (0 < first - 1) × (rest / 10 < 10 ^ (first - 1))
fewer_digits zero rest h k = absurd (omega arith)
fewer_digits (suc zero) rest h k = absurd (omega arith)
fewer_digits (suc (suc j)) rest h k =
    (omega arith, subst (λ (m : ℕ). rest / 10 < 10 ^ m) (sym (less (suc j))) (tenth (suc j) rest h))

-- ---- how many

within_in : (most n places : ℕ) → 0 < places → n < 10 ^ places → length (decimal_in most n) ≤ places
unfolding decimal_in
within_in zero n places p h = omega arith
within_in (suc most) n zero p h = absurd (omega arith)
within_in (suc most) n (suc zero) p h = omega (arith, ap length (last_digit most n h))
within_in (suc most) n (suc (suc k)) p h =
    digits_elim (λ (l : List ℕ). length l ≤ suc (suc k)) most n (λ _. omega arith)
    (λ _. simp length-append (omega (arith, within_in most (n / 10) (suc k) (omega arith) (tenth (suc k) n h))))

pub within : (n places : ℕ) → 0 < places → n < 10 ^ places → length (decimal_text n) ≤ places
unfolding decimal_text
within n places p h = within_in 20 n places p h

short_in : (most n : ℕ) → length (decimal_in most n) ≤ most
unfolding decimal_in
short_in zero n = omega arith
short_in (suc most) n =
    digits_elim (λ (l : List ℕ). length l ≤ suc most) most n (λ _. omega arith)
    (λ _. simp length-append (omega (arith, short_in most (n / 10))))

pub short : (n : ℕ) → length (decimal_text n) ≤ 20
unfolding decimal_text
short n = short_in 20 n

-- ---- what they are read as

read_end : (before : ℕ) (cs : List ℕ) (c : ℕ) → read_on before (cs ++ (c ∷ [])) ≡ 10 * read_on before cs + (c - 48)
read_end before [] c = refl
read_end before (b ∷ cs) c = read_end (10 * before + (b - 48)) cs c

reads_back_in : (most n : ℕ) → n < 10 ^ most → read_on 0 (decimal_in most n) ≡ n
unfolding decimal_in
reads_back_in zero n h = omega arith
reads_back_in (suc most) n h =
    digits_elim (λ (l : List ℕ). read_on 0 l ≡ n) most n (λ _. omega arith)
    (λ _. read_end 0 (decimal_in most (n / 10)) (digit (n % 10)) ∙ omega (arith, reads_back_in most (n / 10) (tenth most n h)))

pub digits_of : (n : ℕ) → DecimalText n
unfolding decimal_text
digits_of n = record { reads_back = reads_back_in 20 n; within = within n; short = short n }

-- a text that is a number's digits, put
pub put_digits : (n : ℕ) {d : List ℕ} {at : ℕ} {t : List ℕ} {r : ℕ} {e : List ℕ} → t ≡ decimal_text n → Puts d at t r e → PutsDecimal d at n r e
put_digits n same put = record { puts = puts_as _ _ _ (decimal_text n) _ _ same put; digits = digits_of n }
