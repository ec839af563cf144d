-- The three fields in turn.
use mathlib.Core.Path.{◌≡◌, refl}
use mathlib.Core.Bool.{◌&&◌}
use native.Mathlib.Omega.{arith}
use Rattle.std.proofs.lemmas.Grind.{common_steps}
use Rattle.cells.specs.Lists.{all}
use Rattle.cells.specs.Table.{field_a, field_b, field_c}
use Rattle.tree.specs.Tree.{part_right, parts}
use Rattle.tree.specs.TreeSteps.{part_in, part_fits}
use Rattle.tree.proofs.Labels.{parts_fit}
use Rattle.tree.proofs.Writes.{part_a, part_b, part_c}
use Rattle.tree.proofs.parts_right.Goals as goal
use Rattle.tree.proofs.parts_right.Goals.{After-part_at, then-part_right, else-part_right}

module _ (c : After-part_at) where
  fit :
      all (part_right c.args.table.now c.args.label) (parts c.args.table.now c.args.label)
      ≡ (part_fits c.args.table.now c.args.label (part_in c.fields-fields.result.a (field_a c.args.table.now c.args.label))
      && part_fits c.args.table.now c.args.label (part_in c.fields-fields.result.b (field_b c.args.table.now c.args.label))
      && part_fits c.args.table.now c.args.label (part_in c.fields-fields.result.c (field_c c.args.table.now c.args.label)))
  fit =
      let t = c.args.table.now in
      rw (
        part_a t t (λ l j h. refl) c.args.label c.args.kind c.requires.2 c.fields-fields.result c.fields-fields.ensures,
        part_b t t (λ l j h. refl) c.args.label c.args.kind c.requires.2 c.fields-fields.result c.fields-fields.ensures,
        part_c t t (λ l j h. refl) c.args.label c.args.kind c.requires.2 c.fields-fields.result c.fields-fields.ensures,
      )
      (parts_fit t c.args.label)

pub returns-then-part_right-2 : goal.returns-then-part_right-2
returns-then-part_right-2 c =
    let q = fit (goal.at.returns-then-part_right-2 c).After-part_at in
    elim c.if-part_right.branch [ then-part_right w ↦ rw q (grind (arith, common_steps)) | else-part_right w ↦ cc ]

pub returns-else-part_right-2 : goal.returns-else-part_right-2
returns-else-part_right-2 c =
    let q = fit (goal.at.returns-else-part_right-2 c).After-part_at in
    elim c.if-part_right.branch [ then-part_right w ↦ rw q (grind (arith, common_steps)) | else-part_right w ↦ rw q (grind (arith, common_steps)) ]
