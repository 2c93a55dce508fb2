-- Laws of hex words: what the digits are read as, how they are made from the last to the first, and how many there are.
use mathlib.Core.Path.{◌≡◌, refl, ap, subst, ◌∙◌}
use mathlib.Core.List.{List, [], ◌∷◌, ◌++◌}
use Prim.Native.Nat.{ℕ, zero, suc, ◌+◌, ◌-◌, ◌*◌, ◌/◌, ◌%◌, ◌^◌, ◌≤◌, ◌<◌}
use native.Mathlib.Nat.{pow-suc, div-lt_iff_lt-mul}
use native.Mathlib.Omega.{arith}
use lib.Dec.{ltb, lit<}
use lib.ListN.{length, drop, set, length-append}
use borrow.Author.Tests.{lt-ltb, le-ltb, ltb-true, ltb-false}
use Rattle.families.proofs.Tests.{cond_elim}
use Rattle.job_text.proofs.Backwards.{less, stored}
use Rattle.job_text.specs.Digits.{hex_digit, hex_in, hex_word, hex_value, read_hex_on}

-- ---- what they are read as

figure : (c : ℕ) → c < 58 → hex_value c ≡ c - 48
figure c h = rw (lt-ltb c 58 h)

letter : (c : ℕ) → 58 ≤ c → hex_value c ≡ c - 87
letter c h = rw (le-ltb c 58 h)

-- a digit's value is the one that it was made of
digit_value : (n : ℕ) → hex_value (hex_digit n) ≡ n % 16
digit_value n =
    cond_elim (λ (c : ℕ). hex_value c ≡ n % 16) (ltb (n % 16) 10)
    (λ t. let l = ltb-true (n % 16) 10 t in figure (48 + n % 16) (omega arith) ∙ omega arith)
    (λ t. let l = ltb-false (n % 16) 10 t in letter (87 + n % 16) (omega arith) ∙ omega arith)

read_end : (before : ℕ) (cs : List ℕ) (c : ℕ) → read_hex_on before (cs ++ (c ∷ [])) ≡ 16 * read_hex_on before cs + hex_value c
read_end before [] c = refl
read_end before (b ∷ cs) c = read_end (16 * before + hex_value b) cs c

reads_back_in : (width n : ℕ) → n < 16 ^ width → read_hex_on 0 (hex_in width n) ≡ n
unfolding hex_in
reads_back_in zero n h = omega arith
reads_back_in (suc width) n h =
    let shorter = (div-lt_iff_lt-mul (lit< tt)).1 (subst (λ (m : ℕ). n < m) (pow-suc 16 width) h) in
    read_end 0 (hex_in width (n / 16)) (hex_digit n) ∙ omega (arith, digit_value n, reads_back_in width (n / 16) shorter)

pub reads_back : (n : ℕ) → n < 2 ^ 32 → read_hex_on 0 (hex_word n) ≡ n
unfolding hex_word
reads_back n h = reads_back_in 8 n h

-- ---- how they are made

-- what stands in the array from `first` on, behind the digits still to come
pub next_digit : (text : List ℕ) (first rest : ℕ)
    → 0 < first
    → first ≤ length text
    → hex_in (first - 1) (rest / 16) ++ drop (first - 1) (set text (first - 1) (hex_digit rest)) ≡ hex_in first rest ++ drop first text
unfolding hex_in
next_digit text zero rest p h = absurd (omega arith)
next_digit text (suc j) rest p h =
    stored text (hex_in (suc j - 1) (rest / 16)) (suc j) (hex_digit rest) p h
    ∙ ap (λ (m : ℕ). (hex_in m (rest / 16) ++ (hex_digit rest ∷ [])) ++ drop (suc j) text) (less j)

-- all digits stand in the array
pub end : (text : List ℕ) (first rest : ℕ) → first ≤ 0 → text ≡ hex_in first rest ++ drop first text
unfolding hex_in
end text zero rest h = refl
end text (suc j) rest h = absurd (omega arith)

length_in : (width n : ℕ) → length (hex_in width n) ≡ width
unfolding hex_in
length_in zero n = refl
length_in (suc width) n = length-append (hex_in width (n / 16)) (hex_digit n ∷ []) ∙ omega (arith, length_in width (n / 16))

pub eight : (n : ℕ) → length (hex_word n) ≡ 8
unfolding hex_word
eight n = length_in 8 n
