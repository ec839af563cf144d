-- The line of a value from its parts, and the lines of a plan one by one.
use mathlib.Core.Path.{◌≡◌, refl, sym, ap, ◌∙◌}
use mathlib.Core.List.{List, [], ◌∷◌, ◌++◌, append_assoc, append-nil}
use Prim.Native.Nat.{ℕ, zero, suc, ◌+◌, ◌*◌, ◌<◌}
use native.Mathlib.Nat.{add-zero}
use native.Mathlib.Numerals.{add-one}
use lib.IntN.{ℤ, pos}
use lib.ListN.{length, take}
use lib.Seq.{take-suc}
use Rattle.cells.specs.Cells.{nat_of, int_at, nat_at}
use Rattle.order.specs.Following.{labels_of}
use Rattle.evaluation.specs.Results.{state_at, number_at, steps_at}
use Rattle.printing.specs.Print.{value_line, value_lines, plan_lines}
use Rattle.printing.specs.Writing.{result_at}

-- ---- the results of a label

pub state_is : (r : List ℤ) (l : ℕ) → state_at r l ≡ nat_of (result_at r l 0)
state_is r zero = refl
state_is r (suc k) = rw (add-zero (3 * k))

pub number_is : (r : List ℤ) (l : ℕ) → number_at r l ≡ result_at r l 1
number_is r zero = refl
number_is r (suc k) = refl

pub steps_is : (r : List ℤ) (l : ℕ) → steps_at r l ≡ nat_of (result_at r l 2)
steps_is r zero = refl
steps_is r (suc k) = refl

-- ---- one line more

module _ (s : List ℕ) (t r : List ℤ) (word : List ℕ) where
  lines_behind : (a : List ℕ) (l : ℕ) → value_lines s t r word (a ++ l ∷ []) ≡ value_lines s t r word a ++ value_line s t r word l
  unfolding value_lines
  lines_behind [] l = append-nil (value_line s t r word l)
  lines_behind (x ∷ a) l =
      ap (λ (y : List ℕ). value_line s t r word x ++ y) (lines_behind a l)
      ∙ sym (append_assoc (value_line s t r word x) (value_lines s t r word a) (value_line s t r word l))

  labels_behind : (p : List ℤ) (z : ℤ) → labels_of (p ++ z ∷ []) ≡ labels_of p ++ nat_of z ∷ []
  labels_behind [] z = refl
  labels_behind (x ∷ p) z = ap (λ (y : List ℕ). nat_of x ∷ y) (labels_behind p z)

  pub lines_none : (p : List ℤ) → plan_lines s t p 0 r word ≡ []
  unfolding value_lines
  lines_none p = refl

  pub one_line_more : (p : List ℤ) (i l : ℕ) → i < length p → l ≡ nat_at p i
      → plan_lines s t p (i + 1) r word ≡ plan_lines s t p i r word ++ value_line s t r word l
  one_line_more p i l h e =
      rw (add-one i, take-suc p i (pos 0) h, labels_behind (take i p) (int_at p i), ← e) (lines_behind (labels_of (take i p)) l)
