-- A Group with no member in the bucket of a name's hash has no member with that name, so that the search goes on from the Group around it.
use mathlib.Core.Path.{◌≡◌, refl, sym, ◌∙◌}
use mathlib.Core.List.{List}
use Prim.Native.Nat.{ℕ}
use native.Mathlib.Omega.{arith}
use Rattle.paths.specs.Names.{member}
use Rattle.paths.specs.Buckets.{hash_of, linked_member}
use Rattle.paths.proofs.SomeLabel.{no_label}
use Rattle.paths.proofs.Chains.{linked_walkable, member_is, walking_start, walking_none}
use Rattle.paths.proofs.Resolving.{head_next}
use Rattle.paths.proofs.Directory.outward.Goals as goal

pub natural_cell-g-requires : goal.natural_cell-g-requires
natural_cell-g-requires c =
    let r = c.args.self.now.rows in
    (omega arith, omega (arith, r.room), omega arith, r.owners c.args.group (omega arith) (omega arith))

pub loop-g-init : goal.loop-g-init
loop-g-init c =
    let d = c.args.self.now in
    let f = d.rows.falls c.args.group (omega arith) (omega arith) in
    (omega (arith, c.natural_cell-g.ensures, f), omega (arith, c.natural_cell-g.ensures, f), λ w e. rw c.natural_cell-g.ensures refl)

pub invariant_of-buckets : goal.invariant_of-buckets
invariant_of-buckets c = let d = c.args.self.now in record { names = d.rows.names; walks = λ g h. linked_walkable d.rows d.all g h }

pub first_in-requires : goal.first_in-requires
first_in-requires c = (c.loop-g.invariant.1, c.requires.2)

pub natural_cell-g-requires-in-loop-g : goal.natural_cell-g-requires-in-loop-g
natural_cell-g-requires-in-loop-g c =
    let r = c.args.self.now.rows in
    (omega arith, omega (arith, r.room), omega arith, r.owners c.loop-g.g (omega arith) (omega arith))

pub loop-g-smaller : goal.loop-g-smaller
loop-g-smaller c = omega (arith, c.natural_cell-g-in-loop-g.ensures, c.args.self.now.rows.falls c.loop-g.g (omega arith) (omega arith))

pub loop-g-preserved : goal.loop-g-preserved
loop-g-preserved c =
    let d = c.args.self.now in
    let s = d.index.text.now in
    let t = d.table.now in
    let g = c.loop-g.g in
    let f = d.rows.falls g (omega arith) (omega arith) in
    let none : (w : List ℕ) → c.args.hash ≡ hash_of w → member s t d.index.n g w ≡ 0 = λ w e.
    let linked = linked_member s t d.index.starts.now d.index.links.now g c.args.hash w in
    sym (member_is d.rows d.all g c.loop-g.invariant.1 w e)
    ∙ no_label linked (sym (walking_none (walking_start s t w c.args.hash (linked_walkable d.rows d.all g c.loop-g.invariant.1) c.first_in.ensures) c.if-first_in-eq0.true)) in (
      omega (arith, c.natural_cell-g-in-loop-g.ensures, f),
      omega (arith, c.natural_cell-g-in-loop-g.ensures, f),
      λ w e. rw c.natural_cell-g-in-loop-g.ensures (sym (head_next s t d.index.n w d.rows.falls g (omega arith) c.loop-g.invariant.1 (none w e)) ∙ c.loop-g.invariant.2 w e),
    )
