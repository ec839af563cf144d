-- The pass upward through the labels, for any check of a label: what its loop asks, and what its answer says. One law for every row.
-- The loop's invariant is `first_bad check k (n + 1 - k) ≡ first_bad check 1 n`.
use mathlib.Core.Path.{◌≡◌, refl, ap, sym, ◌∙◌}
use mathlib.Core.Logic.{⊎_elim}
use native.Mathlib.Nat.{eq-or-lt_of_le}
use Prim.Native.Nat.{ℕ, zero, suc, ◌+◌, ◌-◌, ◌≤◌, ◌<◌}
use native.Mathlib.Numerals.{add-one}
use native.Mathlib.Omega.{arith}
use Rattle.std.specs.Prelude.{Option, Some, None}
use Rattle.refusals.specs.declared.Row.{Row}
use Rattle.refusals.specs.declared.Refusal.{Refusal}
use Rattle.refusals.specs.Refusal.{Verdict, Fine, Refused, hit, first_bad, FirstFound}

module _ (check : ℕ → Option Row) (n : ℕ) where
  pub first_start : first_bad check 1 (n + 1 - 1) ≡ first_bad check 1 n
  first_start = let q : n + 1 - 1 ≡ n = omega arith in rw q

  pub first_fine : (k : ℕ) → k ≤ n → check k ≡ None → first_bad check k (n + 1 - k) ≡ first_bad check (k + 1) (n + 1 - (k + 1))
  first_fine k h e =
      let q : n + 1 - k ≡ suc (n - k) = omega arith in
      let p : n + 1 - (k + 1) ≡ n - k = omega arith in
      rw (q, p, add-one k, e)

  pub first_bad_lem : (k : ℕ) (r : Row) → k ≤ n → check k ≡ Some r → first_bad check k (n + 1 - k) ≡ Refused r k
  first_bad_lem k r h e =
      let q : n + 1 - k ≡ suc (n - k) = omega arith in
      rw (q, e)

  pub first_end : (k : ℕ) → n < k → first_bad check k (n + 1 - k) ≡ Fine
  first_end k h = let q : n + 1 - k ≡ 0 = omega arith in rw q

-- ---- what the answer says of the labels

hit_fine : (r : Option Row) (k : ℕ) (v : Verdict) → hit r k v ≡ Fine → (r ≡ None) × (v ≡ Fine)
hit_fine None k v e = (refl, e)
hit_fine (Some r) k v e = absurd cc

-- nothing found: the check gives no row at any label
pub first_none : (check : ℕ → Option Row) (m k : ℕ) → first_bad check k m ≡ Fine → (j : ℕ) → k ≤ j → j < k + m → check j ≡ None
first_none check zero k e j h l = absurd (omega arith)
first_none check (suc m) k e j h l =
    let both = hit_fine (check k) k (first_bad check (suc k) m) e in
    ⊎_elim (λ q. ap check (sym q) ∙ both.0) (λ q. first_none check m (suc k) both.1 j q (omega arith)) (eq-or-lt_of_le h)

-- and where the check gives no row at any label, nothing is found
pub none_first : (check : ℕ → Option Row) (m k : ℕ) → ((j : ℕ) → k ≤ j → j < k + m → check j ≡ None) → first_bad check k m ≡ Fine
none_first check zero k h = refl
none_first check (suc m) k h =
    rw (h k (omega arith) (omega arith)) (none_first check m (suc k) (λ j l g. h j (omega arith) (omega arith)))

-- the step of the law below, by what the check gives at k; `rest` is the law for the labels after k
found_step : (check : ℕ → Option Row) (m k : ℕ) (r : Row) (p : ℕ)
    → (first_bad check (suc k) m ≡ Refused r p → FirstFound check (suc k) m r p)
    → (x : Option Row) → check k ≡ x → hit x k (first_bad check (suc k) m) ≡ Refused r p → FirstFound check k (suc m) r p
found_step check m k r p rest None c f =
    let g = rest f in
    record {
      low = omega (arith, g.low);
      high = omega (arith, g.high);
      row = g.row;
      before = λ j l h. ⊎_elim (λ q. ap check (sym q) ∙ c) (λ q. g.before j q h) (eq-or-lt_of_le l);
    }
found_step check m k r p rest (Some x) c f =
    let same : ◌≡◌ {A = Refusal} (record { row = x; place = k }) (record { row = r; place = p }) = cc in
    let q : k ≡ p = ap (λ (e : Refusal). e.place) same in
    let s : x ≡ r = ap (λ (e : Refusal). e.row) same in
    record {
      low = omega arith;
      high = omega arith;
      row = ap check (sym q) ∙ c ∙ ap Some s;
      before = λ j l h. absurd (omega arith);
    }

pub first_found : (check : ℕ → Option Row) (m k : ℕ) (r : Row) (p : ℕ) → first_bad check k m ≡ Refused r p → FirstFound check k m r p
first_found check zero k r p e = absurd cc
first_found check (suc m) k r p e = found_step check m k r p (first_found check m (suc k) r p) (check k) refl e

-- checks that agree at every label find the same
pub first_same : (f g : ℕ → Option Row) (m k : ℕ) → ((j : ℕ) → k ≤ j → j < k + m → f j ≡ g j) → first_bad f k m ≡ first_bad g k m
first_same f g zero k h = refl
first_same f g (suc m) k h =
    rw (h k (omega arith) (omega arith), first_same f g m (suc k) (λ j a b. h j (omega arith) (omega arith)))
