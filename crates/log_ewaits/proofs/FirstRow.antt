-- An ewait is released at the first row that has the reading. Assumes nothing.
use Rattle.std.proofs.Common.{◌≡◌, ℕ, zero, suc, ◌+◌, ◌-◌, ◌<◌, ◌≤◌, Bool, true, false, length, get_or, sym, refl, ◌∙◌, subst, arith, lt-ltb, eq-eqb}
use native.Mathlib.Decide.{dec_lt}
use Rattle.families.proofs.Tests.{cond_elim}
use Rattle.event_log.specs.Log.{Log}
use Rattle.event_log.specs.declared.place.Place.{Place}
use Rattle.log_ewaits.specs.Ewait.{has_reading, passing, search_in, search_from, in64, ewait_of, ReadsAsked, AtFirst, FirstFrom}
use Rattle.log_ewaits.specs.declared.ewait.Released.{Released}

module _ (log : Log) (event value : ℕ) where
  -- the test finds what is asked for
  tested : (row : ℕ) → ReadsAsked log event value row → has_reading (get_or log.known row 0) (get_or log.values row 0) event value ≡ true
  unfolding has_reading
  tested row (l, k, v) = simp (lt-ltb event 32 l, eq-eqb _ _ k, eq-eqb _ _ v)

  missing : (row : ℕ) → has_reading (get_or log.known row 0) (get_or log.values row 0) event value ≡ false → ReadsAsked log event value row → ⊥
  missing row t h = let z : ◌≡◌ {A = Bool} true false = sym (tested row h) ∙ t in let one : ◌≡◌ {A = ℕ} 0 1 = cc in omega arith

  -- a row without the reading is passed by
  module _ (row used clocks : ℕ) (none : ReadsAsked log event value row → ⊥) where
    nor_later : (p : Place) (n : ℕ) → AtFirst log event value (row + 1) 0 p n
        → (earlier : ℕ) → row ≤ earlier → earlier < p.row → ReadsAsked log event value earlier → ⊥
    nor_later p n k earlier l m h =
        elim (dec_lt row earlier) as (λ _. ⊥) [
          | yes after ↦ k.none_before earlier (omega arith) m h
          | no after ↦ let here : earlier ≡ row = omega arith in none (subst (ReadsAsked log event value) here h)
        ]

    row_start : (p : Place) (n : ℕ) → AtFirst log event value (row + 1) 0 p n → p.used ≡ 0
    row_start p n k =
        elim (dec_lt (row + 1) p.row) as (λ _. p.used ≡ 0) [
          | yes l ↦ k.later l
          | no l ↦ (k.present (omega (arith, k.from))).0
        ]

    onward : (r : Released) → FirstFrom log event value (row + 1) 0 r → FirstFrom log event value row used (passing clocks r)
    onward (Released.At p n) k = record {
      from = omega (arith, k.from);
      inside = k.inside;
      none_before = nor_later p n k;
      later = λ _. row_start p n k;
      present = λ e. absurd (let z : ⊥ = omega (arith, k.from) in z);
    }
    onward (Released.End n) k = λ other l m h.
        elim (dec_lt row other) as (λ _. ⊥) [
          | yes after ↦ k other (omega arith) m h
          | no after ↦ let here : other ≡ row = omega arith in none (subst (ReadsAsked log event value) here h)
        ]

  here : (row used : ℕ) → row < length log.clocks → AtFirst log event value row used (record { row = row; used = used }) 0
  here row used h = record {
    from = omega arith;
    inside = h;
    none_before = λ earlier l m _. omega arith;
    later = λ l. absurd (let z : ⊥ = omega arith in z);
    present = λ _. (refl, refl);
  }

  search_first : (n row used : ℕ) → n ≡ length log.clocks - row → FirstFrom log event value row used (search_in n log event value row used)
  unfolding search_in
  search_first zero row used e = λ other l m _. omega arith
  search_first (suc n) row used e =
      cond_elim (FirstFrom log event value row used) _ (λ _. here row used (omega arith))
      (λ t. onward row used _ (missing row t) (search_in n log event value (row + 1) 0) (search_first n (row + 1) 0 (omega arith)))

  same_first : (row used : ℕ) (r : Released) → FirstFrom log event value row used r → FirstFrom log event value row used (in64 r)
  same_first row used (Released.At p n) k = record {
    from = k.from;
    inside = k.inside;
    none_before = k.none_before;
    later = k.later;
    present = λ e. ((k.present e).0, rw (k.present e).1 refl);
  }
  same_first row used (Released.End n) k = k

  pub ewait_first : (p : Place) → FirstFrom log event value p.row p.used (ewait_of log p event value)
  ewait_first p =
      same_first p.row p.used (search_from log event value p.row p.used) (search_first (length log.clocks - p.row) p.row p.used refl)
