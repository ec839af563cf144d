-- What one scan finds at a field and at a line of the text s.
use Rattle.std.specs.Prelude.{◌≡◌, List, ℕ, ◌+◌, ℤ, Option, Some, None, Ok}
use Rattle.std.proofs.Math.Seq.{slice}
use Rattle.cells.specs.Characters.{newline, space}
use Rattle.kinds.specs.declared.Form.{Form}
use Rattle.kinds.specs.declared.Fields.{Fields}
use Rattle.text.specs.Scans.{EndsAt}
use Rattle.lines.specs.Fields.{field_of}
use Rattle.lines.specs.LineSteps.{line_read}
use Rattle.lines.specs.declared.Scans.{Scans}
use Rattle.lines.specs.declared.LineCells.{LineCells}

-- a field of this form from `from` on, which the byte `stop` ends at e, and which holds x
pub record Scanned (form : Form) (n : ℕ) (s : List ℕ) (from stop e : ℕ) (x : ℤ) : Type 0 where
  pub at : EndsAt s from stop e
  pub holds : field_of form n (slice from e s) ≡ Some x

-- the fields a, b and c of a line of this kind
pub record ScannedAll (kind : Fields) (n : ℕ) (s : List ℕ) (from : ℕ) (r : Scans) : Type 0 where
  pub first : Scanned kind.a n s from space r.a.end r.a.value
  pub second : Scanned kind.b n s (r.a.end + 1) space r.b.end r.b.value
  pub third : Scanned kind.c n s (r.b.end + 1) newline r.c.end r.c.value

-- the line that begins at `from`, with label k in a sheet of n labels, passes and has these cells; or nothing is said of it
abbrev pub QuickOf : ℕ → ℕ → List ℕ → ℕ → Option LineCells → Type 0
QuickOf n k s from (Some r) = Ok r ≡ line_read n k s from
QuickOf n k s from None = Unit {0}
