-- What the functions between the rows and Read promise.
use Rattle.std.specs.Prelude.{◌≡◌, List, ℕ, ◌≤◌, ℤ}
use Rattle.cells.specs.Limits.{label_limit}
use Rattle.refusals.specs.Refusal.{Verdict, Fine}
use Rattle.lines.specs.Lines.{labels, head_bad}
use Rattle.reading.specs.Read.{resolved_bad, resolved_table, sheet_bad, table_of}

-- a text s that rows 1 to 3 let pass has n labels
pub record Passed (s : List ℕ) (n : ℕ) : Type 0 where
  pub head : head_bad s ≡ Fine
  pub count : n ≡ labels s
  pub few : n ≤ label_limit

-- some rows find v, which has to be `wanted`, and where that is nothing they leave the table `made`; where they refuse, the table is for
-- the caller to clear
pub record Judged (wanted : Verdict) (made : List ℤ) (v : Verdict) (t : List ℤ) : Type 0 where
  pub found : v ≡ wanted
  pub left : v ≡ Fine → t ≡ made

-- rows 8 to 15 of the lines in a table, with owners and targets
abbrev pub Resolves : List ℕ → List ℤ → ℕ → Verdict → List ℤ → Type 0
Resolves s table n = Judged (resolved_bad s table n) (resolved_table s table n)

-- rows 5 to 15, with the sheet's table in m cells
abbrev pub SheetReads : List ℕ → ℕ → Verdict → List ℤ → Type 0
SheetReads s m = Judged (sheet_bad s) (table_of Fine s m)
