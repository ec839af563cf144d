use mathlib.Core.Path.{◌≡◌}
use mathlib.Core.Bool.{true}
use Prim.Native.Nat.{ℕ, ◌+◌, ◌-◌, ◌≤◌}
use lib.ListN.{take}
use Rattle.marks.specs.Marks.{mark}
use Rattle.reach.specs.Links.{Link}
use Rattle.reach.specs.MarkRows.{width}
use Rattle.reach.specs.Turns.{Spread, mark_count}
use Rattle.reach.proofs.LinkChains.fill.Given as goal

abbrev pub invariant-loop-top : goal.invariant-loop-top
invariant-loop-top l =
    (l.top ≤ l.self.sheet.n)
    × Spread l.self.sheet.cells.now l.self.column l.d 0 (mark l.square (width l.self.sheet.n) l.d) (take l.top l.stack)
    × ((z : ℕ) → Link l.self.sheet.cells.now l.self.column l.d z → mark l.square (width l.self.sheet.n) l.d z ≡ true)
    × ((a q : ℕ) → (a ≡ l.d → ⊥) → mark l.square (width l.self.sheet.n) a q ≡ mark l.initial.square (width l.self.sheet.n) a q)

abbrev pub decreases-loop-top : goal.decreases-loop-top
decreases-loop-top l = l.top + (l.self.sheet.n - mark_count l.self.sheet.n (mark l.square (width l.self.sheet.n) l.d))
