-- Where those that depend on an owner stand in a plan: nothing outside a window is redone, and windows are found one after the other.
use mathlib.Core.Path.{◌≡◌, refl, sym, ap, ◌∙◌}
use mathlib.Core.Bool.{Bool, true, false}
use mathlib.Core.List.{List, [], ◌∷◌, ◌++◌, append-nil}
use Prim.Native.Nat.{ℕ, zero, suc, ◌+◌, ◌-◌, ◌≤◌, ◌<◌}
use native.Mathlib.Omega.{arith}
use lib.IntN.{ℤ, pos}
use lib.ListN.{length, get_or, take, drop, replicate, drop_of_length-le, length-drop}
use lib.Seq.{length-take-le, get_or-take, get_or-drop, take-length}
use Rattle.std.specs.Prelude.{Option, None, IsSome, slice_range}
use Rattle.std.proofs.lemmas.List.{drop-take}
use Rattle.kinds.specs.Kinds.{value_code}
use Rattle.cells.specs.Cells.{nat_of, nat_at}
use Rattle.cells.specs.Table.{kind, owner}
use Rattle.cells.specs.Accepted.{Accepted}
use Rattle.numbers.specs.declared.Arithmetic.{Arithmetic}
use Rattle.order.specs.LabelLists.{filter}
use Rattle.order.specs.Following.{labels_of}
use Rattle.reach.specs.MarkRows.{MarkRow}
use Rattle.order.specs.Evaluating.{down}
use Rattle.figures.specs.Figures.{evaluate_into}
use Rattle.figures.proofs.Loop.{next, labels_cut}
use Rattle.redoing.specs.Pairs.{pair_count, pair_label}
use Rattle.redoing.specs.Redone.{is_redone, redone_of}
use Rattle.redoing.specs.RedoStages.{Redid, KnownWindow, Windows, WindowPart}
use Rattle.redoing.specs.declared.Change.{Change}
use Rattle.redoing.specs.declared.Window.{Window}
use Rattle.redoing.proofs.Redone.{row_redone}

-- ---- nothing outside the window is redone

filter_append : (f : ℕ → Bool) (a b : List ℕ) → filter f (a ++ b) ≡ filter f a ++ filter f b
filter_append f [] b = refl
filter_append f (x ∷ a) b = go (f x) refl (filter_append f a b)
  where
    go : (c : Bool) → f x ≡ c → filter f (a ++ b) ≡ filter f a ++ filter f b → filter f (x ∷ (a ++ b)) ≡ filter f (x ∷ a) ++ filter f b
    go true e h = rw e (ap (λ (l : List ℕ). x ∷ l) h)
    go false e h = rw e h

-- the labels of a plan from one position to before another
abbrev between : List ℤ → ℕ → ℕ → List ℕ
between plan from to = labels_of (drop from (take to plan))

module _ (f : ℕ → Bool) (plan : List ℤ) where
  none_pass : (m i : ℕ) → i + m ≤ length plan → ((j : ℕ) → i ≤ j → j < i + m → f (nat_at plan j) ≡ false) → filter f (between plan i (i + m)) ≡ []
  none_pass zero i h none =
      let e : i + 0 ≡ i = omega arith in
      ap (λ (x : ℕ). filter f (between plan i x)) e
      ∙ ap (λ (l : List ℤ). filter f (labels_of l)) (drop_of_length-le (take i plan) {i = i} (omega (arith, length-take-le i plan (omega arith))))
  none_pass (suc m) i h none =
      let e : i + suc m ≡ i + 1 + m = omega arith in
      ap (filter f) (next plan (i + suc m) i h (omega arith))
      ∙ rw (none i (omega arith) (omega arith)) (ap (λ (x : ℕ). filter f (between plan (i + 1) x)) e)
      ∙ none_pass m (i + 1) (omega arith) (λ j a b. none j (omega arith) (omega arith))

  -- what passes stands in the window
  window_passes : (from to : ℕ) → from ≤ to → to ≤ length plan → ((j : ℕ) → j < from → f (nat_at plan j) ≡ false)
      → ((j : ℕ) → to ≤ j → j < length plan → f (nat_at plan j) ≡ false) → filter f (between plan from to) ≡ filter f (labels_of plan)
  window_passes from to a b before behind =
      let front : 0 + from ≡ from = omega arith in
      let back : to + (length plan - to) ≡ length plan = omega arith in
      let none_before : filter f (labels_of (take from plan)) ≡ [] =
      ap (λ (x : ℕ). filter f (labels_of (take x plan))) (sym front) ∙ none_pass from 0 (omega arith) (λ j _ h. before j (omega arith)) in
      let none-behind : filter f (between plan to (length plan)) ≡ [] =
      ap (λ (x : ℕ). filter f (between plan to x)) (sym back) ∙ none_pass (length plan - to) to (omega arith) (λ j g h. behind j g (omega arith)) in
      sym (
      ap (λ (l : List ℤ). filter f (labels_of l)) (sym (take-length plan))
      ∙ ap (filter f) (labels_cut plan (length plan) to b)
      ∙ filter_append f (labels_of (take to plan)) (between plan to (length plan))
      ∙ ap (λ (l : List ℕ). filter f (labels_of (take to plan)) ++ l) none-behind
      ∙ append-nil (filter f (labels_of (take to plan)))
      ∙ ap (filter f) (labels_cut plan to from a)
      ∙ filter_append f (labels_of (take from plan)) (between plan from to)
      ∙ ap (λ (l : List ℕ). l ++ filter f (between plan from to)) none_before
      )

-- the labels of a part of a plan
part_labels : (plan : List ℤ) (from to : ℕ) → from ≤ to → labels_of (slice_range plan from to) ≡ between plan from to
part_labels plan from to h =
    let e : from + (to - from) ≡ to = omega arith in
    ap labels_of (sym (drop-take from (to - from) plan)) ∙ ap (λ (x : ℕ). between plan from x) e

module _ {square : List ℕ} {n : ℕ} {plan : List ℤ} {d : ℕ} {part : List ℤ} (p : WindowPart square n plan d part) where
  abbrev from : ℕ
  from = p.window.from

  abbrev to : ℕ
  to = p.window.to

  -- no longer than the plan, and its cells are the plan's
  part_long : length part ≡ to - from
  part_long = ap length p.cells ∙ length-take-le (to - from) (drop from plan) (omega (arith, length-drop from plan, p.right.ended))

  pub part_few : length part ≤ length plan
  part_few = omega (arith, part_long, p.right.ended)

  pub part_cell : (i : ℕ) → i < length part → (j : ℕ) × (j < length plan) × (nat_at part i ≡ nat_at plan j)
  part_cell i h = (
    from + i,
    omega (arith, h, part_long, p.right.begun, p.right.ended),
    ap nat_of (ap (λ (l : List ℤ). get_or l i (pos 0)) p.cells ∙ get_or-take (to - from) (drop from plan) i (pos 0) (omega (arith, h, part_long)) ∙ get_or-drop from plan i (pos 0)),
  )

-- d by another name
pub window_named : {square : List ℕ} {n : ℕ} {plan : List ℤ} {windows : List (Option Window)} {d e : ℕ} → e ≡ d
    → KnownWindow square n plan windows d → KnownWindow square n plan windows e
window_named q w = rw q w

pub part_named : {square : List ℕ} {n : ℕ} {plan : List ℤ} {d e : ℕ} {part : List ℤ} → e ≡ d → WindowPart square n plan e part → WindowPart square n plan d part
part_named q p = rw q at p

module _ (t : List ℤ) (n : ℕ) (ok : Accepted t n) (plan : List ℤ) (values : (i : ℕ) → i < length plan → kind t (nat_at plan i) ≡ value_code)
    (square : List ℕ) (d : ℕ) (row : MarkRow t n 6 square d) {part : List ℤ} (p : WindowPart square n plan d part) where
  abbrev w : Window
  w = p.window

  -- so the values in d's window that are redone are those of the whole plan
  part_redone : redone_of t n d (labels_of part) ≡ redone_of t n d (labels_of plan)
  part_redone =
      ap (λ (l : List ℤ). redone_of t n d (labels_of l)) p.cells
      ∙ ap (redone_of t n d) (part_labels plan w.from w.to p.right.begun)
      ∙ window_passes (is_redone t n d) plan w.from w.to p.right.begun p.right.ended
      (λ j a. sym (row_redone t n ok square d row (nat_at plan j) (values j (omega (arith, p.right.begun, p.right.ended)))) ∙ p.right.before j (omega arith) a)
      (λ j a b. sym (row_redone t n ok square d row (nat_at plan j) (values j b)) ∙ p.right.behind j a b)

  -- going down the window is going down the plan
  pub redid_part : {α : Arithmetic} {r : List ℤ} {c c' : Change} {r' : List ℤ} → Redid α t n r (labels_of part) d c r' c' → Redid α t n r (labels_of plan) d c r' c'
  redid_part {α} {r} did = record {
    results = did.results ∙ ap (λ (l : List ℕ). down (evaluate_into α t) l r) part_redone;
    redone = did.redone ∙ omega (arith, ap length part_redone);
    tallied = did.tallied;
  }

-- ---- windows found

-- none is known at first
pub none_at : (k i : ℕ) → get_or (replicate {0} {A = Option Window} k None) i None ≡ None
none_at zero i = refl
none_at (suc k) zero = refl
none_at (suc k) (suc i) = none_at k i

-- ---- of the owners of the pairs' lines, one after the other

pub record Finding (t : List ℤ) (n : ℕ) (plan : List ℤ) (square : List ℕ) (ps : List ℤ) (w₀ w : List (Option Window)) (j : ℕ) : Type 0 where
  pub upto : j ≤ pair_count ps
  pub long : length w ≡ length w₀
  pub windows : Windows square n plan w
  pub known : (i : ℕ) → 1 ≤ i → i ≤ j → IsSome (get_or w (owner t (pair_label ps i)) None)
