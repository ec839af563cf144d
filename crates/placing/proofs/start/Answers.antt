use mathlib.Core.Path.{◌∙◌}
use native.Mathlib.Omega.{arith}
use Rattle.placing.proofs.Counts.{fits_as}
use Rattle.placing.proofs.Going.{state_none}
use Rattle.placing.proofs.start.Goals as goal

pub clear_cells-requires : goal.clear_cells-requires
clear_cells-requires c = c.requires.fits.counted

pub count_needs-requires : goal.count_needs-requires
count_needs-requires c = record {
  fits = fits_as _ _ _ _ _ _ c.clear_cells.auto.cells c.requires.fits;
  by_index = c.clear_cells.ensures;
}

pub clear_marks-requires : goal.clear_marks-requires
clear_marks-requires c = c.requires.w_in_bounds

pub mark_ready-requires : goal.mark_ready-requires
mark_ready-requires c =
    let f = c.requires.fits in
    let k = c.count_needs.auto.unmet ∙ c.clear_cells.auto.cells in record {
      all_below = (λ p m. omega (arith, k, f.counted p m), f.in_rows.below, omega (arith, c.requires.w_in_bounds, c.clear_marks.auto.s));
      by_index = c.clear_marks.ensures;
    }

pub shape_of-unmet : goal.shape_of-unmet
shape_of-unmet c = c.count_needs.auto.unmet ∙ c.clear_cells.auto.cells

pub shape_of-ready : goal.shape_of-ready
shape_of-ready c = c.mark_ready.auto.ready ∙ c.clear_marks.auto.s

pub returns : goal.returns
returns c = state_none _ _ _ _ _ c.count_needs.ensures c.mark_ready.ensures
