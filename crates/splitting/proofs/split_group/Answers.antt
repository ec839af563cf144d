use Rattle.std.proofs.Common.{rules}
use native.Mathlib.Omega.{arith}
use lib.ListN.{length}
use Prim.Native.Nat.{◌*◌, ◌<◌}
use Rattle.splitting.proofs.Ordering.{linkable}
use Rattle.splitting.proofs.split_group.Goals as goal

pub link_blocks-requires : goal.link_blocks-requires
link_blocks-requires g c =
    let p = c.requires in
    let s = c.find_leads-m.new.search in
    (c.args.sheet.accepted.few, linkable _ _ c.args.sheet.accepted _ _ _ c.find_leads-m.ensures.1 _ (omega (arith, p.room.0.labels, s.labels.3)) (omega (arith, p.room.1, s.chains)))

pub open_blocks-requires : goal.open_blocks-requires
open_blocks-requires g c =
    let p = c.requires in
    let s = c.find_leads-m.new.search in
    let led = c.find_leads-m.ensures.1 in
    let links : 2 * c.args.sheet.n < length c.link_blocks.new.links = omega (arith, p.room.1, s.chains, c.link_blocks.auto.links) in (
      search rules,
      (
        p.no_cycle,
        (
          (p.n_in_bounds.0, links, omega (arith, p.room.0.labels, s.labels.1)),
          (
            p.room.0,
            (p.n_in_bounds_2, ((led, linkable _ _ c.args.sheet.accepted _ _ _ led _ (omega (arith, p.room.0.labels, s.labels.3)) links), (c.link_blocks.ensures, p.openable))),
          ),
        ),
      ),
    )
