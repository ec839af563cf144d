-- Sums over the labels of a sheet, and what becomes of them where the results of one label change.
use mathlib.Core.Path.{◌≡◌, refl, sym, ap, ◌∙◌}
use mathlib.Core.Bool.{Bool, true, false}
use mathlib.Core.List.{List}
use Prim.Native.Nat.{ℕ, zero, suc, ◌+◌, ◌-◌, ◌*◌, ◌≤◌, ◌<◌}
use native.Mathlib.Omega.{arith}
use native.Mathlib.Numerals.{add-one}
use native.Mathlib.Decide.{ℕ_discrete}
use lib.IntN.{ℤ}
use lib.ListN.{length}
use Rattle.order.specs.LabelLists.{one}
use Rattle.numbers.specs.declared.Arithmetic.{Arithmetic}
use Rattle.evaluation.specs.declared.Value.{Value}
use Rattle.evaluation.specs.Results.{steps_at, stored}
use Rattle.evaluation.specs.Evaluation.{step_limit, evaluated}
use Rattle.evaluation.specs.Ready.{ResultsRoom}
use Rattle.evaluation.proofs.Stored.{stored_own, stored_other}
use Rattle.figures.specs.Figures.{evaluate_into}
use Rattle.redoing.specs.Redone.{total, is_failure, failing, step_sum}
use Rattle.redoing.specs.RedoStages.{Tallied}
use Rattle.redoing.specs.declared.Change.{Change}

-- ---- sums

total_same : (f g : ℕ → ℕ) (n : ℕ) → ((l : ℕ) → 1 ≤ l → l ≤ n → f l ≡ g l) → total f n ≡ total g n
total_same f g zero h = refl
total_same f g (suc k) h = omega (arith, total_same f g k (λ l a b. h l a (omega arith)), h (suc k) (omega arith) (omega arith))

total_bound : (f : ℕ → ℕ) (c : ℕ) → ((l : ℕ) → f l ≤ c) → (n : ℕ) → total f n ≤ n * c
total_bound f c h zero = omega arith
total_bound f c h (suc k) = omega (arith, total_bound f c h k, h (suc k))

-- no summand is above the sum, and another summand changes the sum by as much
module _ (f g : ℕ → ℕ) (v : ℕ) (low : 1 ≤ v) (other : (l : ℕ) → (l ≡ v → ⊥) → f l ≡ g l) where
  total_change : (n : ℕ) → v ≤ n → (f v ≤ total f n) × (total f n - f v + g v ≡ total g n)
  total_change zero h = absurd (omega arith)
  total_change (suc k) h = go (ℕ_discrete (suc k) v) (total_change k)
    where
      go : Dec (suc k ≡ v) → (v ≤ k → (f v ≤ total f k) × (total f k - f v + g v ≡ total g k)) → (f v ≤ total f (suc k)) × (total f (suc k) - f v + g v ≡ total g (suc k))
      go (yes e) before =
          let same = total_same f g k (λ l a b. other l (λ q. omega arith)) in
          let a : f (suc k) ≡ f v = ap f e in
          let b : g (suc k) ≡ g v = ap g e in
          (omega arith, omega (arith, same, a, b))
      go (no d) before =
          let r = before (omega arith) in
          let a = other (suc k) d in
          (omega (arith, r.0), omega (arith, r.0, r.1, a))

-- ---- the failing values and the steps

one_few : (b : Bool) → one b ≤ 1
one_few true = omega arith
one_few false = omega arith

module _ (f : ℕ → Value) where
  pub failing_next : (k : ℕ) → failing f (k + 1) ≡ failing f k + one (is_failure (f (k + 1)))
  unfolding failing
  failing_next k = rw add-one refl

  pub steps_next : (k : ℕ) → step_sum f (k + 1) ≡ step_sum f k + (f (k + 1)).steps
  unfolding step_sum
  steps_next k = rw add-one refl

  pub failing_few : (n : ℕ) → failing f n ≤ n
  unfolding failing
  failing_few n = omega (arith, total_bound (λ l. one (is_failure (f l))) 1 (λ l. one_few (is_failure (f l))) n)

  pub steps_few : (n : ℕ) → ((l : ℕ) → (f l).steps ≤ step_limit) → step_sum f n ≤ n * step_limit
  unfolding step_sum
  steps_few n h = total_bound (λ l. (f l).steps) step_limit h n

-- ---- a value evaluated again

module _ (α : Arithmetic) (t r : List ℤ) (v n : ℕ) (room : ResultsRoom r v) (high : v ≤ n) where
  abbrev r' : List ℤ
  r' = evaluate_into α t r v

  same_other : (l : ℕ) → (l ≡ v → ⊥) → stored r l ≡ stored r' l
  same_other l d = sym (stored_other r v (evaluated α t r v) l d)

  -- what it gives to the sums goes, and what it gives now comes
  pub failing_moves : (one (is_failure (stored r v)) ≤ failing (stored r) n)
      × (failing (stored r) n - one (is_failure (stored r v)) + one (is_failure (stored (evaluate_into α t r v) v)) ≡ failing (stored (evaluate_into α t r v)) n)
  unfolding failing
  failing_moves =
      total_change (λ l. one (is_failure (stored r l))) (λ l. one (is_failure (stored r' l))) v room.low
      (λ l d. ap (λ (x : Value). one (is_failure x)) (same_other l d)) n high

  pub steps_move : (steps_at r v ≤ step_sum (stored r) n) × (step_sum (stored r) n - steps_at r v + steps_at (evaluate_into α t r v) v ≡ step_sum (stored (evaluate_into α t r v)) n)
  unfolding step_sum
  steps_move = total_change (λ l. steps_at r l) (λ l. steps_at r' l) v room.low (λ l d. ap (λ (x : Value). x.steps) (same_other l d)) n high

  -- no value takes more than its allowance
  pub steps_short : ((l : ℕ) → steps_at r l ≤ step_limit) → (l : ℕ) → steps_at (evaluate_into α t r v) l ≤ step_limit
  steps_short h l = go (ℕ_discrete l v)
    where
      go : Dec (l ≡ v) → steps_at r' l ≤ step_limit
      go (yes e) = rw e (omega (arith, ap (λ (x : Value). x.steps) (stored_own r v (evaluated α t r v) room)))
      go (no d) = omega (arith, h l, ap (λ (x : Value). x.steps) (same_other l d))

pub room_still : {r r' : List ℤ} {l : ℕ} → ResultsRoom r l → length r' ≡ length r → ResultsRoom r' l
room_still w e = record { low = w.low; room = omega (arith, w.room, e) }

pub took_few : (α : Arithmetic) (t r : List ℤ) (v n : ℕ) → ResultsRoom r v → v ≤ n → ((l : ℕ) → steps_at r l ≤ step_limit) → {r' : List ℤ} {y : ℕ}
    → r' ≡ evaluate_into α t r v
    → y ≡ steps_at r' v → y ≤ step_limit
took_few α t r v n room high h {r'} e q = omega (arith, steps_short α t r v n room high h v, ap (λ (z : List ℤ). steps_at z v) e)

-- the sums of a value evaluated again, as the code carries them
pub redone_tally : (α : Arithmetic) (t r : List ℤ) (v n : ℕ) → ResultsRoom r v → v ≤ n → (c : Change) → Tallied n r c → {r' : List ℤ} {x y x' y' : ℕ}
    → r' ≡ evaluate_into α t r v
    → x ≡ one (is_failure (stored r v)) → y ≡ steps_at r v → x' ≡ one (is_failure (stored r' v)) → y' ≡ steps_at r' v
    → Tallied n r' (record { redone = c.redone + 1; failing = c.failing - x + x'; steps = c.steps - y + y' })
redone_tally α t r v n room high c w {r'} e p q p' q' =
    let f = failing_moves α t r v n room high in
    let s = steps_move α t r v n room high in
    let now : one (is_failure (stored r' v)) ≡ one (is_failure (stored (evaluate_into α t r v) v)) = ap (λ (z : List ℤ). one (is_failure (stored z v))) e in
    let took : steps_at r' v ≡ steps_at (evaluate_into α t r v) v = ap (λ (z : List ℤ). steps_at z v) e in
    record {
      failed = omega (arith, w.failed, p, p', now, f.0, f.1) ∙ ap (λ (z : List ℤ). failing (stored z) n) (sym e);
      taken = omega (arith, w.taken, q, q', took, s.0, s.1) ∙ ap (λ (z : List ℤ). step_sum (stored z) n) (sym e);
      short = rw e (steps_short α t r v n room high w.short);
    }

-- ---- the loop over all labels

pub record Counting (r : List ℤ) (n x y l : ℕ) : Type 0 where
  pub upto : l ≤ n
  pub failed : x ≡ failing (stored r) l
  pub taken : y ≡ step_sum (stored r) l

module _ (r : List ℤ) (n : ℕ) where
  pub counting_none : Counting r n 0 0 0
  unfolding failing step_sum
  counting_none = record { upto = omega arith; failed = refl; taken = refl }

  module _ {x y l : ℕ} (w : Counting r n x y l) where
    pub counting_next : l < n → {x' y' : ℕ} → x' ≡ one (is_failure (stored r (l + 1))) → y' ≡ steps_at r (l + 1) → Counting r n (x + x') (y + y') (l + 1)
    counting_next h p q = record {
      upto = omega arith;
      failed = omega (arith, w.failed, p, failing_next (stored r) l);
      taken = omega (arith, w.taken, q, steps_next (stored r) l);
    }
