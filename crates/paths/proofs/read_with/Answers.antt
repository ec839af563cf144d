use Rattle.paths.proofs.Chains.{link_fresh}
use Rattle.paths.proofs.read_with.Goals as goal

pub allot-requires : goal.allot-requires
allot-requires c =
    let p = c.requires in record {
      n_le_label_limit = (p.0.few, p.0.falls, p.0.room);
      n_in_bounds = (p.1.long, λ i. (p.1.clear i).0);
    }

pub resolve-requires : goal.resolve-requires
resolve-requires c =
    let a = c.args in
    (c.requires.0, link_fresh a.text.now a.table.now c.allot.ensures c.requires.1)
