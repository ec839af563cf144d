use mathlib.Core.Path.{◌∙◌}
use Prim.Native.Nat.{◌+◌}
use lib.ListN.{length-set}
use Rattle.paths.proofs.Allotting.{count_start, allotted}
use native.Mathlib.Omega.{arith}
use Rattle.paths.proofs.allot.Goals as goal

pub count_buckets-requires : goal.count_buckets-requires
count_buckets-requires c =
    let a = c.args in
    let p = c.requires in
    (p.n_le_label_limit.0, p.n_le_label_limit.1, count_start a.table.now a.n a.starts.now p.n_in_bounds.0 p.n_in_bounds.1, p.n_le_label_limit.2)

pub add_up-requires : goal.add_up-requires
add_up-requires c =
    let p = c.requires in
    let h = c.count_buckets.ensures in
    (h.long, omega (arith, h.total, p.n_le_label_limit.0))

pub shape_of-starts : goal.shape_of-starts
shape_of-starts c =
    let a = c.args in
    c.add_up.auto.starts ∙ c.count_buckets.auto.starts ∙ length-set a.starts.now 0 (a.n + 1)

pub returns : goal.returns
returns c =
    let p = c.requires in
    allotted p.n_le_label_limit.1 c.count_buckets.ensures c.add_up.auto.starts c.add_up.ensures
