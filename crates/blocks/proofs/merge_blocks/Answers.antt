use mathlib.Core.Path.{◌∙◌}
use native.Mathlib.Omega.{arith}
use Rattle.blocks.proofs.Merging.{mergeable_as, following_of, merged}
use Rattle.blocks.proofs.merge_blocks.Goals as goal

pub clear_marks-requires : goal.clear_marks-requires
clear_marks-requires c = c.requires.w_in_bounds.0

pub join_rows-requires : goal.join_rows-requires
join_rows-requires c =
    let pre = c.requires in record {
      mergeable = pre.mergeable;
      w_in_bounds = (omega (arith, pre.w_in_bounds.0, c.clear_marks.auto.s), c.clear_marks.ensures);
    }

pub close_rows-requires : goal.close_rows-requires
close_rows-requires c =
    let pre = c.requires in record {
      mergeable = mergeable_as _ _ _ _ _ c.join_rows.auto.square pre.mergeable;
      following = (following_of _ _ _ _ _ _ pre.mergeable c.join_rows.ensures, omega (arith, pre.w_in_bounds.0, c.clear_marks.auto.s, c.join_rows.auto.followers), pre.w_in_bounds.1);
    }

pub shape_of-square : goal.shape_of-square
shape_of-square c = c.close_rows.auto.square ∙ c.join_rows.auto.square

pub shape_of-followers : goal.shape_of-followers
shape_of-followers c = c.join_rows.auto.followers ∙ c.clear_marks.auto.s

pub shape_of-list : goal.shape_of-list
shape_of-list c = c.close_rows.auto.list

pub returns : goal.returns
returns c = merged _ _ _ _ _ _ _ c.requires.mergeable c.join_rows.ensures c.close_rows.ensures
