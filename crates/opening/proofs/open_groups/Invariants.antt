use mathlib.Core.Path.{◌≡◌}
use lib.ListN.{length}
use Rattle.groups.specs.Opened.{Stopped}
use Rattle.opening.proofs.Stuck.{left}
use Rattle.opening.proofs.open_groups.Given as goal

abbrev pub invariant-loop-stuck : goal.invariant-loop-stuck
invariant-loop-stuck g l =
    (length l.square ≡ length l.initial.square) × (length l.next ≡ length l.initial.next) × (length l.items ≡ length l.initial.items)
    × Stopped l.sheet.cells.now l.sheet.n l.stuck l.next l.square

abbrev pub decreases-loop-stuck : goal.decreases-loop-stuck
decreases-loop-stuck g l = left l.sheet.n l.stuck
