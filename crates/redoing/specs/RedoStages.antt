-- What the functions between a pair and its values promise. The table t has n labels; r are results.
use Rattle.std.specs.Prelude.{◌≡◌, Bool, true, false, ◌||◌, List, ◌++◌, Option, Some, None, IsSome, ℕ, ◌+◌, ◌-◌, ◌*◌, ◌≤◌, ◌<◌, eqb, ℤ}
use Rattle.std.specs.Prelude.{length, get_or, take, drop, slice_range}
use Rattle.std.proofs.lemmas.List.Edits.{sets}
use Rattle.kinds.specs.Kinds.{value_code}
use Rattle.cells.specs.Cells.{nat_at}
use Rattle.cells.specs.Limits.{pair_limit}
use Rattle.cells.specs.Table.{kind, owner, with_number}
use Rattle.cells.specs.Accepted.{Accepted, HasBody}
use Rattle.order.specs.Following.{ProperList}
use Rattle.order.specs.Evaluating.{down}
use Rattle.numbers.specs.declared.Arithmetic.{Arithmetic}
use Rattle.marks.specs.Marks.{mark}
use Rattle.reach.specs.MarkRows.{width, MarkRow}
use Rattle.evaluation.specs.Results.{state_at, steps_at, stored}
use Rattle.evaluation.specs.Evaluation.{step_limit}
use Rattle.evaluation.specs.Ready.{Ready}
use Rattle.figures.specs.Figures.{result_cells, evaluate_into}
use Rattle.redoing.specs.Pairs.{pair_count, pair_label, pair_number, PairsRight, with_pairs}
use Rattle.redoing.specs.Redone.{redone_of, failing, step_sum, change_cells, changes_of}
use Rattle.redoing.specs.declared.Change.{Change}
use Rattle.redoing.specs.declared.Completed.{Completed}
use Rattle.redoing.specs.declared.Window.{Window}

-- the stored figures are sums over the results r
pub record Tallied (n : ℕ) (r : List ℤ) (c : Change) : Type 0 where
  pub failed : c.failing ≡ failing (stored r) n
  pub taken : c.steps ≡ step_sum (stored r) n
  pub short : (l : ℕ) → steps_at r l ≤ step_limit

-- ---- down the plan

-- v is evaluated again, and counted, where the test says so
abbrev pub Turned : Arithmetic → Bool → List ℤ → ℕ → ℕ → List ℤ → Change → List ℤ → Change → Type 0
Turned α true t n v r c r' c' = (r' ≡ evaluate_into α t r v) × (c'.redone ≡ c.redone + 1) × Tallied n r' c'
Turned α false t n v r c r' c' = (r' ≡ r) × (c' ≡ c)

-- row d of the square has what reaches d, and the Groups around that: the test of a value v
abbrev pub turns : List ℕ → ℕ → ℕ → ℕ → Bool
turns square n d v = eqb v d || mark square (width n) d v

-- what going down a part of a plan asks
pub record Redoable (t : List ℤ) (n : ℕ) (r part : List ℤ) (square : List ℕ) (d : ℕ) : Type 0 where
  pub accepted : Accepted t n
  pub results : 3 * n ≤ length r
  pub ready : Ready t r
  -- every value has been evaluated
  pub evaluated : (v : ℕ) → kind t v ≡ value_code → 1 ≤ state_at r v
  pub few : length part ≤ n
  pub values : (i : ℕ) → i < length part → kind t (nat_at part i) ≡ value_code
  pub body : HasBody t d
  pub row : MarkRow t n 6 square d

-- what it leaves, of the labels o that it goes down: those that depend on d evaluated again, in turn, and counted
pub record Redid (α : Arithmetic) (t : List ℤ) (n : ℕ) (r : List ℤ) (o : List ℕ) (d : ℕ) (c : Change) (r' : List ℤ) (c' : Change) : Type 0 where
  pub results : r' ≡ down (evaluate_into α t) (redone_of t n d o) r
  pub redone : c'.redone ≡ c.redone + length (redone_of t n d o)
  pub tallied : Tallied n r' c'

-- ---- where those that depend on d stand in a plan

-- none stands from one position to before another
abbrev pub NoneDepends : List ℕ → ℕ → ℕ → List ℤ → ℕ → ℕ → Type 0
NoneDepends square n d plan from to = (i : ℕ) → from ≤ i → i < to → turns square n d (nat_at plan i) ≡ false

-- w is d's window: none stands outside it
pub record IsWindow (square : List ℕ) (n : ℕ) (plan : List ℤ) (d : ℕ) (w : Window) : Type 0 where
  pub begun : w.from ≤ w.to
  pub ended : w.to ≤ length plan
  pub before : NoneDepends square n d plan 0 w.from
  pub behind : NoneDepends square n d plan w.to (length plan)

-- d's window is known
pub record KnownWindow (square : List ℕ) (n : ℕ) (plan : List ℤ) (windows : List (Option Window)) (d : ℕ) : Type 0 where
  pub window : Window
  pub known : get_or windows d None ≡ Some window
  pub right : IsWindow square n plan d window

-- what is written is a window
abbrev pub Windows : List ℕ → ℕ → List ℤ → List (Option Window) → Type 0
Windows square n plan windows = (e : ℕ) → IsSome (get_or windows e None) → KnownWindow square n plan windows e

-- d's window is known now, and others are known still
pub record FoundWindow (square : List ℕ) (n : ℕ) (plan : List ℤ) (d : ℕ) (w w' : List (Option Window)) : Type 0 where
  pub windows : Windows square n plan w'
  pub here : IsSome (get_or w' d None)
  pub kept : (e : ℕ) → IsSome (get_or w e None) → IsSome (get_or w' e None)

-- the part of the plan in d's window
pub record WindowPart (square : List ℕ) (n : ℕ) (plan : List ℤ) (d : ℕ) (part : List ℤ) : Type 0 where
  pub window : Window
  pub right : IsWindow square n plan d window
  pub cells : part ≡ slice_range plan window.from window.to

-- ---- down the list of pairs

-- the rows of the owners of the first k pairs
abbrev pub OwnersMarked : List ℤ → ℕ → List ℤ → ℕ → List ℕ → Type 0
OwnersMarked t n ps k square = (i : ℕ) → 1 ≤ i → i ≤ k → MarkRow t n 6 square (owner t (pair_label ps i))

-- their windows
abbrev pub OwnersWindows : List ℤ → ℕ → List ℤ → List ℕ → List ℤ → ℕ → List (Option Window) → Type 0
OwnersWindows t n plan square ps j windows = (i : ℕ) → 1 ≤ i → i ≤ j → KnownWindow square n plan windows (owner t (pair_label ps i))

-- a table of n labels whose plan, in the first k cells of a list, and whose results stand
pub record Standing (α : Arithmetic) (t : List ℤ) (n : ℕ) (plan : List ℤ) (k : ℕ) (r : List ℤ) : Type 0 where
  pub accepted : Accepted t n
  pub plans : k ≤ length plan
  pub proper : ProperList t (take k plan)
  pub fit : 3 * n ≤ length r
  pub results : r ≡ result_cells α t n (length r)

-- what pair i, from 1, leaves of table t, results r and changes w: the table u, and its plan is t's
pub record PairApplied (α : Arithmetic) (t : List ℤ) (n : ℕ) (ps : List ℤ) (i : ℕ) (r w u r' w' : List ℤ) (c : Change) : Type 0 where
  pub table : u ≡ with_number (pair_label ps i) (pair_number ps i) t
  pub results : r' ≡ result_cells α u n (length r)
  pub changes : w' ≡ sets w (3 * (i - 1)) (change_cells α u n (owner t (pair_label ps i)))
  pub tallied : Tallied n r' c

-- what the first i pairs leave
pub record PairsApplied (α : Arithmetic) (t : List ℤ) (n : ℕ) (ps : List ℤ) (i : ℕ) (r w u r' w' : List ℤ) : Type 0 where
  pub table : u ≡ with_pairs ps i t
  pub results : r' ≡ result_cells α (with_pairs ps i t) n (length r)
  pub changes : w' ≡ changes_of α t n ps i ++ drop (3 * i) w

-- ---- all of them, of what a Run has completed

-- a sheet that has been run, a list of pairs with nothing wrong in it, and changes w with room for what they bring about
abbrev pub Appliable : Completed → List ℤ → List ℤ → List ℤ → List ℤ → List ℤ → Type 0
Appliable x t plan ps r w =
    Standing x.arithmetic t x.n plan x.count r × PairsRight t ps × (pair_count ps ≤ pair_limit) × (3 * pair_count ps ≤ length w)

abbrev pub AllApplied : Completed → List ℤ → List ℤ → List ℤ → List ℤ → List ℤ → List ℤ → List ℤ → Type 0
AllApplied x t ps r w = PairsApplied x.arithmetic t x.n ps (pair_count ps) r w
