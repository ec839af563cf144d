use mathlib.Core.Path.{◌≡◌}
use lib.ListN.{length, take}
use Rattle.groups.specs.Members.{MaskedBy}
use Rattle.groups.proofs.mask_items.Given as goal

abbrev pub invariant-loop-x : goal.invariant-loop-x
invariant-loop-x l = (length l.mask ≡ length l.initial.mask) × MaskedBy l.sheet.cells.now l.sheet.n l.groups (take l.x-index l.items) l.mask
