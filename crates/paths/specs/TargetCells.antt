-- What the target cells hold while paths are resolved.
use Rattle.std.specs.Prelude.{cond, not, ◌&&◌, List, ℕ, eqb, ℤ, drop, Option, Some, None}
use Rattle.kinds.specs.Kinds.{wanted_by}
use Rattle.cells.specs.Table.{kind, target, has_path}
use Rattle.refusals.specs.declared.Row.{Row}
use Rattle.refusals.specs.Rows.{target_row}
use Rattle.paths.specs.Paths.{descended, names_of, head_of}

-- where the head of an R or C settles: what its cell holds between rows 13 and 14
abbrev pub head_cell : List ℕ → List ℤ → ℕ → ℕ → ℕ
head_cell s t n x = cond (has_path t x) (head_of s t n x) 0

-- its target from that head
abbrev pub target_by : List ℕ → List ℤ → ℕ → ℕ → ℕ → ℕ
target_by s t n x head = cond (has_path t x) (descended s t n head (drop 1 (names_of s t x))) 0

-- row 15 by the target that the cell holds
abbrev pub wrong_target : List ℤ → ℕ → Option Row
wrong_target t x = cond (has_path t x && not (eqb (kind t (target t x)) (wanted_by (kind t x)))) (Some target_row) None
