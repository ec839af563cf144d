use mathlib.Core.Path.{◌≡◌}
use lib.ListN.{length, take}
use Rattle.splitting.proofs.Opening.{Opening}
use Rattle.splitting.proofs.open_blocks.Given as goal

abbrev pub invariant-loop-item : goal.invariant-loop-item
invariant-loop-item g l =
    (length l.next ≡ length l.initial.next) × (length l.links ≡ length l.initial.links) × (length l.pile ≡ length l.initial.pile)
    × Opening l.sheet.cells.now l.sheet.n l.group l.lead (take l.item-index l.items) l.initial.next l.next l.links
