-- The outer loop keeps what is still to be searched, the inner one what is left of the chain of the Group's bucket.
use mathlib.Core.Path.{◌≡◌, refl, ◌∙◌, sym, ap}
use native.Mathlib.Omega.{arith}
use lib.Seq.{slice}
use Rattle.paths.specs.Names.{member}
use Rattle.paths.specs.Buckets.{some_label, linked_member}
use Rattle.paths.proofs.Hashes.{hash_small}
use Rattle.paths.proofs.SomeLabel.{some_is, label_is, no_label}
use Rattle.paths.proofs.Chains.{linked_walkable, member_is, walking_start, walking_less, walking_some, walking_turn, walking_none}
use Rattle.paths.proofs.Resolving.{head_end, head_found, head_next}
use Rattle.paths.proofs.Directory.search.Goals as goal

pub invariant_of-buckets : goal.invariant_of-buckets
invariant_of-buckets c = let d = c.args.self.now in record { names = d.rows.names; walks = λ g h. linked_walkable d.rows d.all g h }

pub groups-init : goal.groups-init
groups-init c = (omega arith, refl, refl)

pub first_in-m-requires : goal.first_in-m-requires
first_in-m-requires c = (c.groups.invariant.0, rw c.hash_name-hash.ensures (hash_small _))

pub loop-m-init : goal.loop-m-init
loop-m-init c =
    let a = c.args in
    let d = a.self.now in
    let w = slice a.from a.to d.index.text.now in
    (c.groups.invariant.1, walking_start d.index.text.now d.table.now w c.hash_name-hash.result (linked_walkable d.rows d.all c.groups.g c.groups.invariant.0) c.first_in-m.ensures)

pub has_name-requires : goal.has_name-requires
has_name-requires c =
    let p = c.requires in
    let d = c.args.self.now in
    (p.1, p.2, d.rows.names c.loop-m.m, omega arith, (linked_walkable d.rows d.all c.groups.g c.groups.invariant.0).rows c.loop-m.m c.loop-m.invariant.1.inside)

pub offset_bounds-self-m : goal.offset_bounds-self-m
offset_bounds-self-m c = omega (arith, c.loop-m.invariant.1.inside, c.loop-m.invariant.1.room)

pub bounds-self-m : goal.bounds-self-m
bounds-self-m c = omega (arith, c.loop-m.invariant.1.inside, c.loop-m.invariant.1.room)

pub loop-m-smaller : goal.loop-m-smaller
loop-m-smaller c = rw c.from-m.ensures (walking_less c.loop-m.invariant.1 c.loop-m-test.true)

pub loop-m-preserved : goal.loop-m-preserved
loop-m-preserved c = (
  c.loop-m.invariant.0,
  rw c.from-m.ensures (walking_turn c.loop-m.invariant.1 c.loop-m-test.true (sym c.has_name.ensures ∙ c.if-has_name.false)),
)

pub outward-g-requires : goal.outward-g-requires
outward-g-requires c = (omega arith, c.groups.invariant.0, rw c.hash_name-hash.ensures (hash_small _))

pub groups-smaller : goal.groups-smaller
groups-smaller c = c.outward-g.ensures.lower

pub groups-preserved : goal.groups-preserved
groups-preserved c =
    let a = c.args in
    let d = a.self.now in
    let s = d.index.text.now in
    let t = d.table.now in
    let w = slice a.from a.to s in
    let linked = linked_member s t d.index.starts.now d.index.links.now c.groups.g c.hash_name-hash.result w in
    let none : member s t d.index.n c.groups.g w ≡ 0 =
    sym (member_is d.rows d.all c.groups.g c.groups.invariant.0 w c.hash_name-hash.ensures)
    ∙ no_label linked (sym (walking_none c.loop-m.invariant.1 c.loop-m-test.false)) in
    let next = head_next s t d.index.n w d.rows.falls c.groups.g (omega arith) c.groups.invariant.0 none in
    (omega (arith, c.outward-g.ensures.lower, c.groups.invariant.0), c.loop-m.invariant.0, c.outward-g.ensures.heads w c.hash_name-hash.ensures ∙ sym next ∙ c.groups.invariant.2)

pub returns-after-groups : goal.returns-after-groups
returns-after-groups c =
    let a = c.args in
    let d = a.self.now in
    let s = d.index.text.now in
    let t = d.table.now in
    let w = slice a.from a.to s in
    c.groups.invariant.1 ∙ ap some_label (sym (head_end s t d.index.n w d.rows.falls c.groups.g (omega arith)) ∙ c.groups.invariant.2)

pub returns-then-has_name : goal.returns-then-has_name
returns-then-has_name c =
    let a = c.args in
    let d = a.self.now in
    let s = d.index.text.now in
    let t = d.table.now in
    let w = slice a.from a.to s in
    let linked = linked_member s t d.index.starts.now d.index.links.now c.groups.g c.hash_name-hash.result w in
    let f = label_is linked c.loop-m.m (sym (walking_some c.loop-m.invariant.1 c.loop-m-test.true (sym c.has_name.ensures ∙ c.if-has_name.true))) in
    let is = sym (member_is d.rows d.all c.groups.g c.groups.invariant.0 w c.hash_name-hash.ensures) ∙ f.0 in
    some_is c.loop-m.m f.1
    ∙ ap some_label (sym (head_found s t d.index.n w d.rows.falls c.groups.g c.loop-m.m (omega arith) is f.1) ∙ c.groups.invariant.2)
