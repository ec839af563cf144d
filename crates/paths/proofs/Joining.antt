-- One pass after the other: each leaves a table that is alike but for the targets.
use mathlib.Core.Path.{◌≡◌, refl, ap, sym, ◌∙◌}
use mathlib.Core.Bool.{Bool, true, false, cond, not, ◌&&◌}
use mathlib.Core.List.{List}
use Prim.Native.Nat.{ℕ, ◌*◌, ◌≤◌}
use native.Mathlib.Omega.{arith}
use lib.Dec.{eqb}
use lib.IntN.{ℤ}
use lib.ListN.{length}
use Rattle.std.specs.Prelude.{Option, Some, None}
use Rattle.refusals.specs.declared.Row.{Row}
use Rattle.kinds.specs.Kinds.{wanted_by}
use Rattle.cells.specs.Table.{kind, target, with_column, has_path}
use Rattle.cells.proofs.Columns.{column_own, column_same, column_over, column_length}
use Rattle.refusals.specs.Rows.{target_row}
use Rattle.refusals.specs.Refusal.{first_bad}
use Rattle.refusals.proofs.FirstBad.{first_same}
use Rattle.paths.specs.Paths.{target_of, target_cell, later_bad, target_bad, later_rows}
use Rattle.paths.specs.TargetCells.{head_cell, wrong_target}
use Rattle.paths.proofs.Alike.{Alike, column_alike, path_alike, head_cell_alike, target_alike, target_cell_alike}

-- ---- row 15, once the targets stand in their cells

module _ (s : List ℕ) (t u : List ℤ) (n : ℕ) (e : u ≡ with_column 7 (target_cell s t n) n t) (room : 8 * n ≤ length t) where
  a : Alike t u
  a = rw e (column_alike (target_cell s t n) n t)

  held : (x : ℕ) → 1 ≤ x → x ≤ n → target u x ≡ target_cell s t n x
  held x h g = rw e (column_own 7 (target_cell s t n) (omega arith) n t x h g room)

  wrong_go : (x : ℕ) (h : Bool)
      → ◌≡◌ {A = Option Row} (cond (h && not (eqb (kind t (cond h (target_of s t n x) 0)) (wanted_by (kind t x)))) (Some target_row) None)
      (cond (h && not (eqb (kind t (target_of s t n x)) (wanted_by (kind t x)))) (Some target_row) None)
  wrong_go x true = refl
  wrong_go x false = refl

  wrong_is : (x : ℕ) → 1 ≤ x → x ≤ n → wrong_target u x ≡ target_bad s t n x
  unfolding target_bad
  wrong_is x h g = rw (path_alike s t u a x, held x h g, a.kinds (target_cell s t n x), a.kinds x) (wrong_go x (has_path t x))

  pub targets_checked : first_bad (wrong_target u) 1 n ≡ first_bad (target_bad s t n) 1 n
  targets_checked = first_same (wrong_target u) (target_bad s t n) n 1 (λ x h g. wrong_is x h (omega arith))

-- ---- rows 14 and 15, once the heads stand in the target cells

module _ (s : List ℕ) (t u : List ℤ) (n : ℕ) (e : u ≡ with_column 7 (head_cell s t n) n t) (room : 8 * n ≤ length t) where
  pub heads_alike : Alike t u
  heads_alike = rw e (column_alike (head_cell s t n) n t)

  pub heads_size : length u ≡ length t
  heads_size = ap length e ∙ column_length 7 (head_cell s t n) n t

  pub heads_held : (l : ℕ) → 1 ≤ l → l ≤ n → target u l ≡ head_cell s u n l
  heads_held l h g =
      ap (λ (v : List ℤ). target v l) e ∙ column_own 7 (head_cell s t n) (omega arith) n t l h g room ∙ sym (head_cell_alike s t u heads_alike n l)

  later_is : (x : ℕ) → later_bad s u n x ≡ later_bad s t n x
  unfolding later_bad
  later_is x = rw (path_alike s t u heads_alike x, target_alike s t u heads_alike n x)

  kinds_are : (x : ℕ) → target_bad s u n x ≡ target_bad s t n x
  unfolding target_bad
  kinds_are x = rw (path_alike s t u heads_alike x, target_alike s t u heads_alike n x, heads_alike.kinds (target_of s t n x), heads_alike.kinds x)

  pub heads_rows : later_rows s u n ≡ later_rows s t n
  heads_rows = rw (first_same (later_bad s u n) (later_bad s t n) n 1 (λ x h g. later_is x), first_same (target_bad s u n) (target_bad s t n) n 1 (λ x h g. kinds_are x))

  pub heads_targets : with_column 7 (target_cell s u n) n u ≡ with_column 7 (target_cell s t n) n t
  heads_targets =
      column_same 7 (target_cell s u n) (target_cell s t n) n u (λ l h g. target_cell_alike s t u heads_alike n l)
      ∙ ap (with_column 7 (target_cell s t n) n) e
      ∙ column_over 7 (head_cell s t n) (target_cell s t n) n t (omega arith) room
