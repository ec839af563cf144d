-- The fields of the line hold the same while its parts are written.
use mathlib.Core.Path.{◌≡◌, ◌∙◌, refl}
use mathlib.Core.List.{List}
use Prim.Native.Nat.{ℕ}
use lib.IntN.{ℤ}
use Rattle.tree.specs.TreeSteps.{node_at, claimed, HasPart, Inside}
use Rattle.tree.proofs.Parts.{Alike}
use Rattle.tree.proofs.Writes.{part_a, part_b, part_c, placed_kept, claimed_length, claimed_alike}
use Rattle.tree.proofs.claim_parts.Goals as goal
use Rattle.tree.proofs.claim_parts.Goals.{After-part_at-a, After-part_at-b, After-part_at-c}

module _ (t : List ℤ) (l d v : ℕ) where
  abbrev one : List ℤ
  one = claimed (node_at t l).a d v t

  abbrev two : List ℤ
  two = claimed (node_at t l).b d v one

  module _ (i : Inside t (node_at t l)) where
    one_alike : Alike t one
    one_alike = claimed_alike d v t (node_at t l).a i.a

    has_b : HasPart one (node_at t l).b
    has_b = placed_kept t one (claimed_length d v t (node_at t l).a) (node_at t l).b i.b

    two_alike : Alike t two
    two_alike x j h = claimed_alike d v one (node_at t l).b has_b x j h ∙ one_alike x j h

    has_c : HasPart two (node_at t l).c
    has_c = placed_kept t two (claimed_length d v one (node_at t l).b ∙ claimed_length d v t (node_at t l).a) (node_at t l).c i.c

module _ (c : After-part_at-a) where
  a_is : c.part_at-a.result ≡ (node_at c.args.table.now c.args.label).a
  a_is = c.part_at-a.ensures
      ∙ part_a c.args.table.now c.args.table.now (λ l j h. refl) c.args.label c.args.kind c.requires.0.2 c.fields-fields.result c.fields-fields.ensures

module _ (c : After-part_at-b) (a : c.part_at-a.result ≡ (node_at c.args.table.now c.args.label).a) where
  one_is : c.claim.new.table ≡ one c.args.table.now c.args.label c.args.owner c.args.level
  one_is = rw a at c.claim.ensures

  b_is : c.part_at-b.result ≡ (node_at c.args.table.now c.args.label).b
  b_is =
      let same : Alike c.args.table.now c.claim.new.table = rw one_is (one_alike c.args.table.now c.args.label c.args.owner c.args.level c.requires.1) in
      c.part_at-b.ensures ∙ part_b c.args.table.now c.claim.new.table same c.args.label c.args.kind c.requires.0.2 c.fields-fields.result c.fields-fields.ensures

module _ (c : After-part_at-c) (one_is : c.claim.new.table ≡ one c.args.table.now c.args.label c.args.owner c.args.level)
    (b : c.part_at-b.result ≡ (node_at c.args.table.now c.args.label).b) where
  two_is : c.claim-2.new.table ≡ two c.args.table.now c.args.label c.args.owner c.args.level
  two_is = rw (b, one_is) at c.claim-2.ensures

  c_is : c.part_at-c.result ≡ (node_at c.args.table.now c.args.label).c
  c_is =
      let same : Alike c.args.table.now c.claim-2.new.table = rw two_is (two_alike c.args.table.now c.args.label c.args.owner c.args.level c.requires.1) in
      c.part_at-c.ensures ∙ part_c c.args.table.now c.claim-2.new.table same c.args.label c.args.kind c.requires.0.2 c.fields-fields.result c.fields-fields.ensures

pub claim-requires : goal.claim-requires
claim-requires c = rw (a_is (goal.at.claim-requires c).After-part_at-a) (c.requires.1.a, c.requires.2, c.requires.3)

pub claim-requires-2 : goal.claim-requires-2
claim-requires-2 c =
    let s = goal.at.claim-requires-2 c in
    let a = a_is s.After-part_at-a in
    rw (one_is s.After-part_at-b a, b_is s.After-part_at-b a)
    (has_b c.args.table.now c.args.label c.args.owner c.args.level c.requires.1, c.requires.2, c.requires.3)

pub claim-requires-3 : goal.claim-requires-3
claim-requires-3 c =
    let s = goal.at.claim-requires-3 c in
    let a = a_is s.After-part_at-a in
    let w = one_is s.After-part_at-b a in
    let b = b_is s.After-part_at-b a in
    rw (two_is s.After-part_at-c w b, c_is s.After-part_at-c w b)
    (has_c c.args.table.now c.args.label c.args.owner c.args.level c.requires.1, c.requires.2, c.requires.3)

pub returns : goal.returns
returns c =
    let s = goal.at.returns c in
    let a = a_is s.After-part_at-a in
    let w = one_is s.After-part_at-b a in
    let b = b_is s.After-part_at-b a in
    rw (c_is s.After-part_at-c w b, two_is s.After-part_at-c w b) at c.claim-3.ensures
