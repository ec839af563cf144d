-- What is found is the last with the name among those linked before it; then the definition is linked.
use mathlib.Core.Path.{◌∙◌, ap}
use Prim.Native.Nat.{◌+◌, ◌≤◌}
use lib.ListN.{length}
use Rattle.paths.specs.Buckets.{some_label}
use Rattle.paths.proofs.Hashes.{hash_small}
use Rattle.paths.proofs.Chains.{stretch, walkable, Own, own_read, own_group, own_found, own_room, own_linked}
use native.Mathlib.Omega.{arith}
use Rattle.paths.proofs.link_definition.Goals as goal
use Rattle.paths.proofs.link_definition.Goals.{After-label_cell, After-label_cell-group}

-- the name field lies in the text
inside : (c : After-label_cell) → let a = c.args in c.label_cell-from.result + c.label_cell.result ≤ length a.text.now
inside c =
    omega (arith, c.label_cell-from.ensures, c.label_cell.ensures, c.requires.searchable.0.names c.args.label)

-- what is read of the definition
own : (c : After-label_cell-group) → let a = c.args in let f = c.label_cell-from.result in
    Own a.text.now a.table.now a.label f (f + c.label_cell.result) c.hash_name-hash.result c.label_cell-group.result
own c =
    let a = c.args in
    let start = c.label_cell-from.ensures in
    own_read a.text.now a.table.now a.label start c.label_cell.ensures c.hash_name-hash.ensures c.label_cell-group.ensures

pub overflow_add-to : goal.overflow_add-to
overflow_add-to c = omega (arith, inside (goal.at.overflow_add-to c).After-label_cell)

pub hash_name-hash-requires : goal.hash_name-hash-requires
hash_name-hash-requires c = (omega arith, inside (goal.at.hash_name-hash-requires c).After-label_cell)

pub invariant_of-member_in : goal.invariant_of-member_in
invariant_of-member_in c =
    let p = c.requires in record { names = p.searchable.0.names; walks = λ g h. walkable p.searchable.0 p.searchable.1 p.le_label.0 g h }

pub member_in-found-requires : goal.member_in-found-requires
member_in-found-requires c =
    let p = c.requires in
    let o = own (goal.at.member_in-found-requires c).After-label_cell-group in
    let group = own_group p.searchable.0 p.searchable.1 p.le_label.0 p.le_label.1 o in record {
      in_table = (group, rw o.hashed (hash_small _));
      in_text = (omega arith, inside (goal.at.member_in-found-requires c).After-label_cell);
    }

pub bucket-requires : goal.bucket-requires
bucket-requires c =
    let p = c.requires in
    let o = own (goal.at.bucket-requires c).After-label_cell-group in
    let group = own_group p.searchable.0 p.searchable.1 p.le_label.0 p.le_label.1 o in
    (stretch p.searchable.1.allotted c.label_cell-group.result group p.searchable.0.few, rw o.hashed (hash_small _))

pub push-requires : goal.push-requires
push-requires c =
    let p = c.requires in
    let r = p.searchable.0 in
    let h = p.searchable.1 in
    let room = own_room r h p.le_label.0 p.le_label.1 (own (goal.at.push-requires c).After-label_cell-group) p.le_label.2 c.bucket.ensures in
    (room.0, room.1, omega (arith, r.few))

pub returns : goal.returns
returns c =
    let p = c.requires in
    let r = p.searchable.0 in
    let h = p.searchable.1 in
    let linked = own_linked r h p.le_label.0 p.le_label.1 (own (goal.at.returns c).After-label_cell-group) p.le_label.2 c.bucket.ensures c.push.ensures in record {
      value = c.member_in-found.ensures ∙ ap some_label (own_found r h p.le_label.0 p.le_label.1 (own (goal.at.returns c).After-label_cell-group));
      linked_below = linked;
    }
