-- What is stored: a value's three cells hold it, every other cell stays, and results stay ready for the next value.
use mathlib.Core.Path.{◌≡◌, refl, sym, ap, ◌∙◌, subst}
use mathlib.Core.Bool.{Bool, true, false}
use mathlib.Core.List.{List, [], ◌∷◌}
use mathlib.Core.Logic.{◌≢◌}
use Prim.Native.Nat.{ℕ, zero, suc, ◌+◌, ◌*◌, ◌≤◌, ◌<◌}
use native.Mathlib.Omega.{arith}
use native.Mathlib.Nat.{add-zero}
use borrow.Author.Tests.{eqb-true, eqb-false, ltb-true, ltb-false}
use lib.Dec.{eqb, ltb}
use lib.IntN.{ℤ, pos, nat_abs}
use lib.ListN.{length, length-replicate}
use lib.Seq.{length-sets}
use Rattle.cells.specs.Cells.{nat_of, int_at, zeros}
use Rattle.cells.specs.Accepted.{Accepted}
use Rattle.cells.proofs.Stores.{int_at_zeros, sets_before, sets_past, sets_in}
use Rattle.cells.specs.Limits.{number_limit}
use Rattle.numbers.specs.declared.Arithmetic.{Arithmetic}
use Rattle.evaluation.specs.States.{has_number, last_state}
use Rattle.evaluation.specs.declared.Value.{Value}
use Rattle.evaluation.specs.Results.{state_at, number_at, stored, store, Recorded}
use Rattle.evaluation.specs.Evaluation.{Outcome, value_outcome, value_of, evaluated}
use Rattle.evaluation.specs.Ready.{Ready, ResultsRoom, Evaluable}
use Rattle.evaluation.proofs.Range.{Good, value_recorded}
use Rattle.evaluation.proofs.Entries.{reached_recorded, value_room}

pub store_length : (r : List ℤ) (l : ℕ) (v : Value) → length (store r l v) ≡ length r
store_length r zero v = refl
store_length r (suc k) v = length-sets r (3 * k) (pos v.state ∷ v.number ∷ pos v.steps ∷ [])

module _ (r : List ℤ) (k : ℕ) (v : Value) where
  cell_other : (m j : ℕ) → suc m ≢ suc k → j < 3 → int_at (store r (suc k) v) (3 * m + j) ≡ int_at r (3 * m + j)
  cell_other m j d h = go (ltb m k) refl
    where
      go : (b : Bool) → ltb m k ≡ b → int_at (store r (suc k) v) (3 * m + j) ≡ int_at r (3 * m + j)
      go true e = sets_before (pos v.state ∷ v.number ∷ pos v.steps ∷ []) r (3 * k) (3 * m + j) (omega (arith, ltb-true m k e))
      go false e = sets_past (pos v.state ∷ v.number ∷ pos v.steps ∷ []) r (3 * k) (3 * m + j) (omega (arith, ltb-false m k e, d))

  cell_own : 3 * suc k ≤ length r → (j : ℕ) → j < 3 → int_at (store r (suc k) v) (3 * k + j) ≡ int_at (pos v.state ∷ v.number ∷ pos v.steps ∷ []) j
  cell_own g j h = sets_in (pos v.state ∷ v.number ∷ pos v.steps ∷ []) r (3 * k) j h (omega arith)

-- the results of every other label stay
pub stored_other : (r : List ℤ) (l : ℕ) (v : Value) (m : ℕ) → m ≢ l → stored (store r l v) m ≡ stored r m
stored_other r zero v m d = refl
stored_other r (suc k) v zero d = refl
stored_other r (suc k) v (suc m) d =
    let a : int_at (store r (suc k) v) (3 * m) ≡ int_at r (3 * m) = rw add-zero at (cell_other r k v m 0 d (omega arith)) in
    let b = cell_other r k v m 1 d (omega arith) in
    let c = cell_other r k v m 2 d (omega arith) in
    λ i. record { number = b i; state = nat_of (a i); steps = nat_of (c i) }

pub stored_own : (r : List ℤ) (l : ℕ) (v : Value) → ResultsRoom r l → stored (store r l v) l ≡ v
stored_own r zero v h = absurd (omega (arith, h.low))
stored_own r (suc k) v h =
    let a : int_at (store r (suc k) v) (3 * k) ≡ pos v.state = rw add-zero at (cell_own r k v h.room 0 (omega arith)) in
    let b = cell_own r k v h.room 1 (omega arith) in
    let c = cell_own r k v h.room 2 (omega arith) in
    λ i. record { number = b i; state = nat_of (a i); steps = nat_of (c i) }

-- ---- results that are ready

-- a stored value as a property of what is read back
recorded_by : {low : ℕ} {r : List ℤ} {l : ℕ} {v : Value} → stored r l ≡ v → low ≤ v.state → v.state ≤ last_state → (v.state ≡ has_number → nat_abs v.number ≤ number_limit)
    → Recorded low r l
recorded_by {low} {r} {l} {v} e a b c = record {
  least = rw (ap (λ (v : Value). v.state) e) a;
  most = rw (ap (λ (v : Value). v.state) e) b;
  ranged = λ h. rw (ap (λ (v : Value). v.number) e) (c (sym (ap (λ (v : Value). v.state) e) ∙ h));
}

pub recorded_own : (low : ℕ) (r : List ℤ) (l : ℕ) (o : Outcome) → ResultsRoom r l → Good low o → Recorded low (store r l (value_of o)) l
recorded_own low r l o h g = recorded_by (stored_own r l (value_of o) h) g.least g.most (λ _. g.ranged)

pub recorded_other : (low : ℕ) (r : List ℤ) (l : ℕ) (v : Value) (m : ℕ) → m ≢ l → Recorded low r m → Recorded low (store r l v) m
recorded_other low r l v m d s = recorded_by (stored_other r l v m d) s.least s.most s.ranged

pub ready_zeros : (t : List ℤ) (n m : ℕ) → Accepted t n → 3 * n ≤ m → Ready t (zeros m)
ready_zeros t n m w h = record {
  count = n;
  accepted = w;
  room = rw (length-replicate {0} {A = ℤ} m (pos 0)) h;
  recorded = blank;
}
  where
    state : (l : ℕ) → state_at (zeros m) l ≡ 0
    state zero = refl
    state (suc l) = ap nat_of (int_at_zeros m (3 * l))

    number : (l : ℕ) → number_at (zeros m) l ≡ pos 0
    number zero = refl
    number (suc l) = int_at_zeros m (3 * l + 1)

    blank : (l : ℕ) → Recorded 0 (zeros m) l
    blank l = record { least = omega arith; most = omega (arith, state l); ranged = λ e. rw (number l) (omega arith) }

-- what `evaluate_into` leaves
module _ (α : Arithmetic) (t r : List ℤ) (v : ℕ) (e : Evaluable t r v) where
  -- v has been evaluated,
  pub evaluated_own : Recorded 1 (store r v (evaluated α t r v)) v
  evaluated_own = recorded_own 1 r v (value_outcome α t r v) (value_room e) (value_recorded α t r e.ready.count e.ready.accepted v e.value (reached_recorded e.ready e.reached))

  -- and what was recorded still is
  pub recorded_still : (low : ℕ) → low ≤ 1 → (l : ℕ) → Recorded low r l → Recorded low (store r v (evaluated α t r v)) l
  recorded_still low h l s = go (eqb l v) refl
    where
      go : (b : Bool) → eqb l v ≡ b → Recorded low (store r v (evaluated α t r v)) l
      go true p =
          let o = evaluated_own in
          subst (λ (x : ℕ). Recorded low (store r v (evaluated α t r v)) x) (sym (eqb-true l v p))
          (record { least = omega (arith, o.least); most = o.most; ranged = o.ranged })
      go false p = recorded_other low r v (evaluated α t r v) l (eqb-false l v p) s

  pub ready_stored : Ready t (store r v (evaluated α t r v))
  ready_stored = record {
    count = e.ready.count;
    accepted = e.ready.accepted;
    room = rw (store_length r v (evaluated α t r v)) e.ready.room;
    recorded = λ l. recorded_still 0 (omega arith) l (e.ready.recorded l);
  }
