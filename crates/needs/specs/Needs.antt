-- The square of needs: row q has the marks of those that need q.
use Rattle.std.specs.Prelude.{◌≡◌, List, true, false, ℕ, ◌≤◌, ◌<◌, ℤ}
use Rattle.kinds.specs.Kinds.{value_code}
use Rattle.kinds.specs.GivesValues.{gives_values}
use Rattle.cells.specs.Table.{kind, owner}
use Rattle.order.specs.Order.{Within, needs}
use Rattle.marks.specs.Marks.{mark}
use Rattle.reach.specs.Links.{Touches}
use Rattle.reach.specs.MarkRows.{width}

-- what gives values to a plan, by the row of its kind
abbrev pub Holder : List ℤ → ℕ → Type 0
Holder t q = gives_values (kind t q) ≡ true

-- a V that is q or under q is reached from p, or from a V in the Group p
pub record Wanted (t : List ℤ) (q p : ℕ) : Type 0 where
  pub value : ℕ
  pub is : kind t value ≡ value_code
  pub within : Within t q value
  pub touches : Touches t 6 value p

-- the rows of the labels above k have been added to those of their Groups
pub record Lifting (t : List ℤ) (n k : ℕ) (s : List ℕ) : Type 0 where
  pub sound : (q p : ℕ) → Holder t q → mark s (width n) q p ≡ true → Wanted t q p
  pub own : (v p : ℕ) → kind t v ≡ value_code → Touches t 6 v p → mark s (width n) v p ≡ true
  pub up : (m p : ℕ) → k < m → 2 ≤ m → m ≤ n → Holder t m → mark s (width n) m p ≡ true → mark s (width n) (owner t m) p ≡ true

-- nothing needs itself
pub record Cut (n k : ℕ) (s s' : List ℕ) : Type 0 where
  pub gone : (p : ℕ) → 1 ≤ p → p < k → mark s' (width n) p p ≡ false
  pub kept : (q p : ℕ) → (q ≡ p → ⊥) → mark s' (width n) q p ≡ mark s (width n) q p

abbrev pub NeedRows : List ℤ → ℕ → List ℕ → Type 0
NeedRows t n s = (p q : ℕ) → Holder t p → Holder t q → mark s (width n) q p ≡ needs t n p q
