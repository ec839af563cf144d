-- The rows of the owners of the pairs' lines, made one after the other.
use mathlib.Core.Path.{◌≡◌, subst}
use mathlib.Core.List.{List}
use Prim.Native.Nat.{ℕ, ◌+◌, ◌≤◌, ◌<◌}
use native.Mathlib.Omega.{arith}
use lib.IntN.{ℤ}
use lib.ListN.{get_or}
use Rattle.cells.specs.Table.{owner}
use Rattle.cells.specs.Accepted.{Accepted, HasBody}
use Rattle.reach.specs.MarkRows.{MarkRow}
use Rattle.reach.specs.declared.RowState.{RowState}
use Rattle.reach.specs.declared.RowState.TheVariants.{New}
use Rattle.reach.proofs.Visits as visits
use Rattle.redoing.specs.Pairs.{pair_count, pair_label, PairsRight}
use Rattle.redoing.specs.RedoStages.{OwnersMarked}
use Rattle.redoing.proofs.Numbers.{number_label, number_owner}

-- after k pairs: the owner of each has been visited
pub record Marking (t : List ℤ) (n j : ℕ) (ps : List ℤ) (state₀ : List RowState) (square₀ : List ℕ) (state : List RowState) (square : List ℕ) (k : ℕ) : Type 0 where
  pub going : visits.Going t n j state₀ square₀ state square
  pub begun : (i : ℕ) → 1 ≤ i → i ≤ k → get_or state (owner t (pair_label ps i)) New ≡ New → ⊥

module _ (t : List ℤ) (n : ℕ) (ps : List ℤ) (ok : Accepted t n) (right : PairsRight t ps) where
  -- the line of pair k + 1, and its owner
  pub pair_line : (k : ℕ) → k < pair_count ps → {l : ℕ} → l ≡ pair_label ps (k + 1) → (1 ≤ l) × (l ≤ n)
  pair_line k h e = rw e (number_label t n ok (pair_label ps (k + 1)) (right (k + 1) (omega arith) (omega arith)).line)

  pub pair_owner : (k : ℕ) → k < pair_count ps → {l d : ℕ} → l ≡ pair_label ps (k + 1) → d ≡ owner t l → HasBody t d
  pair_owner k h e q = rw (q, e) (number_owner t n ok (pair_label ps (k + 1)) (right (k + 1) (omega arith) (omega arith)).line)

  module _ (j : ℕ) (state₀ : List RowState) (square₀ : List ℕ) (news : (d : ℕ) → get_or state₀ d New ≡ New) where
    module _ {state : List RowState} {square : List ℕ} {k : ℕ} (g : Marking t n j ps state₀ square₀ state square k) where
      pub marking_done : j ≡ 6 → pair_count ps ≤ k → OwnersMarked t n ps (pair_count ps) square
      marking_done e h i low high =
          subst (λ (j : ℕ). MarkRow t n j square (owner t (pair_label ps i))) e
          (visits.row_made t n ok j state₀ state square news g.going.since g.going.rows (owner t (pair_label ps i)) (g.begun i low (omega arith)))
