use mathlib.Core.Path.{◌∙◌, sym}
use Rattle.paths.proofs.Chains.{link_other}
use Rattle.paths.proofs.Resolving.{duplicate_none, duplicate_some, duplicate_other}
use Rattle.paths.proofs.link_label.Goals as goal

pub link_definition-found-requires : goal.link_definition-found-requires
link_definition-found-requires c =
    let p = c.requires in record { searchable = p.searchable; le_label = (p.le_label.0, p.le_label.1, sym c.is_definition.ensures ∙ c.if-is_definition.true) }

pub returns-then-is_some : goal.returns-then-is_some
returns-then-is_some c =
    let a = c.args in
    let d = sym c.is_definition.ensures ∙ c.if-is_definition.true in
    let linked = c.link_definition-found.ensures in record {
      value = duplicate_some a.text.now a.table.now a.n a.label d linked.value (sym c.is_some.ensures ∙ c.if-is_some.true);
      linked_below = linked.linked_below;
    }

pub returns-else-is_some : goal.returns-else-is_some
returns-else-is_some c =
    let a = c.args in
    let d = sym c.is_definition.ensures ∙ c.if-is_definition.true in
    let linked = c.link_definition-found.ensures in record {
      value = duplicate_none a.text.now a.table.now a.n a.label d linked.value (sym c.is_some.ensures ∙ c.if-is_some.false);
      linked_below = linked.linked_below;
    }

pub returns-else-is_definition : goal.returns-else-is_definition
returns-else-is_definition c =
    let a = c.args in
    let p = c.requires in
    let d = sym c.is_definition.ensures ∙ c.if-is_definition.false in record {
      value = duplicate_other a.text.now a.table.now a.n a.label d;
      linked_below = link_other p.searchable.0 p.searchable.1 p.le_label.0 p.le_label.1 d;
    }
