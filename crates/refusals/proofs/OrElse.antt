-- One pass after the other: what a call that stops at the first refusal asks, and what it says of each pass.
use mathlib.Core.Path.{◌≡◌, refl, sym, ◌∙◌}
use Rattle.std.specs.Prelude.{Ok, Err}
use Rattle.refusals.specs.declared.Refusal.{Refusal}
use Rattle.refusals.specs.Refusal.{Verdict, Fine, or_else}

pub both_fine : (v w : Verdict) → or_else v w ≡ Fine → (v ≡ Fine) × (w ≡ Fine)
both_fine (Ok u) w e = (refl, e)
both_fine (Err r) w e = absurd cc

pub refused_first : (v w : Verdict) (r : Refusal) → v ≡ Err r → Err r ≡ or_else v w
refused_first v w r e = rw e

-- a pass found v, which is u by its definition, and the next one, if it was asked, r, which is w
pub or_next : (v u r w : Verdict) → v ≡ u → v ≡ Fine → r ≡ w → r ≡ or_else u w
or_next v u r w e f g = rw (sym e ∙ f) g
