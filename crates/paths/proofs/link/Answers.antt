use mathlib.Core.Path.{◌∙◌, sym}
use Rattle.paths.proofs.Passes.{pass_stop, pass_done, not_fine}
use Rattle.paths.proofs.Linking.{linking_start, linking_turn, linking_done}
use native.Mathlib.Omega.{arith}
use Rattle.paths.proofs.link.Goals as goal

pub overflow_add-label-end : goal.overflow_add-label-end
overflow_add-label-end c = omega (arith, c.requires.0.few)

pub loop-label-init : goal.loop-label-init
loop-label-init c = linking_start c.requires.1

pub link_label-requires : goal.link_label-requires
link_label-requires c =
    let g = c.loop-label.invariant in record { searchable = (c.requires.0, g.linked); le_label = (g.pass.low, omega arith) }

pub returns-in-Some : goal.returns-in-Some
returns-in-Some c = record {
  value = pass_stop c.loop-label.invariant.pass (omega arith) (sym c.in-Some.is ∙ c.link_label.ensures.value) c.at.ensures;
  all_linked = λ z. not_fine z;
}

pub loop-label-preserved : goal.loop-label-preserved
loop-label-preserved c = linking_turn c.loop-label.invariant (omega arith) (sym c.link_label.ensures.value ∙ c.in_default.is) c.link_label.ensures.linked_below c.link_label.auto.links

pub returns : goal.returns
returns c =
    let g = c.loop-label.invariant in record {
      value = pass_done g.pass (omega arith);
      all_linked = λ z. linking_done g (omega arith);
    }
