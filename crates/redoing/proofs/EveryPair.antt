-- Order 4's claim of each pair of a list, on the table as the pairs before it left it.
use mathlib.Core.Path.{◌≡◌, refl, sym, ap, subst, ◌∙◌, fun_ext}
use mathlib.Core.List.{List}
use Prim.Native.Nat.{ℕ, zero, suc, ◌*◌, ◌≤◌}
use native.Mathlib.Omega.{arith}
use lib.IntN.{ℤ}
use Rattle.cells.specs.Table.{owner}
use Rattle.cells.specs.Accepted.{Accepted}
use Rattle.order.specs.Order.{Proper, SameStructure}
use Rattle.numbers.specs.declared.Arithmetic.{Arithmetic}
use Rattle.redoing.specs.Pairs.{pair_label, pair_number, PairRight, with_pairs}
use Rattle.evaluation.specs.declared.Value.{Value}
use Rattle.evaluation.specs.Results.{stored}
use Rattle.figures.specs.Figures.{figures, result_cells}
use Rattle.figures.proofs.Working.{figures_stored}
use Rattle.redoing.specs.Redone.{failing, step_sum}
use Rattle.redoing.specs.PairRedone.{PairRedone}
use Rattle.redoing.proofs.Numbers.{number_structure, number_accepted}
use Rattle.redoing.proofs.Structure.{structure_then, proper_on}
use Rattle.redoing.proofs.Dependents.{pair_redone}

module _ (ps t : List ℤ) where
  pub pairs_structure : (k : ℕ) → SameStructure t (with_pairs ps k t)
  pairs_structure zero = record { kinds = λ l. refl; owners = λ l. refl; targets = λ l. refl }
  pairs_structure (suc k) = structure_then (pairs_structure k) (number_structure (with_pairs ps k t) (pair_label ps (suc k)) (pair_number ps (suc k)))

  module _ (n : ℕ) (ok : Accepted t n) where
    accepted_after : (k : ℕ) → ((i : ℕ) → 1 ≤ i → i ≤ k → PairRight t ps i) → Accepted (with_pairs ps k t) n
    accepted_after zero right = ok
    accepted_after (suc k) right =
        let p = right (suc k) (omega arith) (omega arith) in
        number_accepted (with_pairs ps k t) n (accepted_after k (λ i a b. right i a (omega arith))) (pair_label ps (suc k)) ((pairs_structure k).kinds (pair_label ps (suc k)) ∙ p.line)
        (pair_number ps (suc k)) p.number

    pub every_pair : (α : Arithmetic) (o : List ℕ) → Proper t o → (q : ℕ) → 3 * n ≤ q → (k : ℕ) → ((i : ℕ) → 1 ≤ i → i ≤ suc k → PairRight t ps i)
        → PairRedone α (with_pairs ps k t) (with_pairs ps (suc k) t) n (owner t (pair_label ps (suc k))) o q
    every_pair α o proper q fit k right =
        let l = pair_label ps (suc k) in
        let same = pairs_structure k in
        let p = right (suc k) (omega arith) (omega arith) in
        subst (λ (d : ℕ). PairRedone α (with_pairs ps k t) (with_pairs ps (suc k) t) n d o q) (same.owners l)
        (pair_redone α (with_pairs ps k t) n (accepted_after k (λ i a b. right i a (omega arith))) o (proper_on same proper) l (same.kinds l ∙ p.line) (pair_number ps (suc k)) p.number q fit)

-- the figures stored for a pair are sums over the results, in whatever buffer they stand
pub sums_over_results : (α : Arithmetic) (t : List ℤ) (n : ℕ) → Accepted t n → (q : ℕ) → 3 * n ≤ q
    → (failing (figures α t n) n ≡ failing (stored (result_cells α t n q)) n) × (step_sum (figures α t n) n ≡ step_sum (stored (result_cells α t n q)) n)
sums_over_results α t n ok q fit =
    let same : stored (result_cells α t n q) ≡ figures α t n = fun_ext (figures_stored α t n ok q fit) in
    (ap (λ (f : ℕ → Value). failing f n) (sym same), ap (λ (f : ℕ → Value). step_sum f n) (sym same))
