use mathlib.Core.Path.{◌∙◌}
use Rattle.refusals.proofs.OrElse.{or_next}
use Rattle.paths.proofs.Joining.{heads_alike, heads_size, heads_held, heads_rows, heads_targets}
use Rattle.paths.proofs.Alike.{rows_alike, linked_alike}
use Rattle.paths.proofs.resolve_heads.Goals as goal

pub resolve_later-requires : goal.resolve_later-requires
resolve_later-requires c =
    let a = c.args in
    let s = a.index.text.now in
    let t = a.table.now in
    let p = c.requires in
    let w = c.settle_heads.ensures.table_after c.in_ok-settle_heads.was in
    let al = heads_alike s t c.settle_heads.new.table a.index.n w p.0.room in
    let rows = rows_alike s t c.settle_heads.new.table al a.index.n (heads_size s t c.settle_heads.new.table a.index.n w p.0.room) p.0 in record {
      searchable = (rows, linked_alike s t c.settle_heads.new.table al p.1);
      by_index = heads_held s t c.settle_heads.new.table a.index.n w p.0.room;
    }

pub returns : goal.returns
returns c =
    let a = c.args in
    let s = a.index.text.now in
    let t = a.table.now in
    let fine = c.in_ok-settle_heads.was in
    let w = c.settle_heads.ensures.table_after fine in
    let r = c.resolve_later.ensures in
    let rows = heads_rows s t c.settle_heads.new.table a.index.n w c.requires.0.room in record {
      value = or_next _ _ _ _ c.settle_heads.ensures.value fine (r.value ∙ rows);
      table_after = λ z. r.table_after z ∙ heads_targets s t c.settle_heads.new.table a.index.n w c.requires.0.room;
    }
