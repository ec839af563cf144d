use mathlib.Core.Path.{◌≡◌}
use lib.ListN.{length}
use Rattle.groups.proofs.Turns.{Going}
use Rattle.groups.proofs.order_groups.Given as goal

abbrev pub invariant-loop-g : goal.invariant-loop-g
invariant-loop-g l =
    (length l.next ≡ length l.initial.next) × (length l.items ≡ length l.initial.items) × (length l.mask ≡ length l.initial.mask) × (length l.unmet ≡ length l.initial.unmet)
    × (length l.ready ≡ length l.initial.ready) × (length l.order ≡ length l.initial.order) × Going l.sheet.cells.now l.sheet.n l.from l.g l.next
