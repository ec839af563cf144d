-- the bucket lies in the links
use mathlib.Core.Path.{ap, ◌∙◌}
use Prim.Native.Nat.{◌+◌, ◌<◌}
use lib.ListN.{length, get_or}
use borrow.Author.Tests.{eq-eqb, ne_eqb}
use Rattle.paths.specs.Buckets.{start_of, Walkable}
use Rattle.paths.proofs.Chains.{bucket_high}
use native.Mathlib.Omega.{arith}
use Rattle.paths.proofs.Buckets.first_in.Goals as goal
use Rattle.paths.proofs.Buckets.first_in.Goals.{After-bucket, Start}

walks : (c : Start) → let a = c.args in let d = a.self.now in Walkable d.table.now d.index.starts.now d.index.links.now a.group
walks c = c.args.self.now.walks c.args.group c.requires.0

inside : (c : After-bucket) → c.bucket.result < length c.args.self.now.index.links.now
inside c =
    let a = c.args in
    let s = a.self.now.index.starts.now in
    let h = a.self.now.walks a.group c.requires.0 in
    let some : start_of s a.group < start_of s (a.group + 1) = omega (arith, h.stretch.order, c.if-starts-group.false) in
    omega (arith, c.bucket.ensures, h.room, bucket_high s a.group a.hash c.requires.1 some)

pub offset_bounds-starts-group : goal.offset_bounds-starts-group
offset_bounds-starts-group c = omega (arith, (walks (goal.at.offset_bounds-starts-group c).Start).stretch.long)

pub bounds-starts-group : goal.bounds-starts-group
bounds-starts-group c = omega (arith, (walks (goal.at.bounds-starts-group c).Start).stretch.long)

pub overflow_add-group : goal.overflow_add-group
overflow_add-group c = omega (arith, (walks (goal.at.overflow_add-group c).Start).stretch.long)

pub offset_bounds-starts-group-2 : goal.offset_bounds-starts-group-2
offset_bounds-starts-group-2 c = omega (arith, (walks (goal.at.offset_bounds-starts-group-2 c).Start).stretch.long)

pub bounds-starts-group-2 : goal.bounds-starts-group-2
bounds-starts-group-2 c = omega (arith, (walks (goal.at.bounds-starts-group-2 c).Start).stretch.long)

pub returns-then-starts-group : goal.returns-then-starts-group
returns-then-starts-group c = rw (eq-eqb _ _ c.if-starts-group.true)

pub bucket-requires : goal.bucket-requires
bucket-requires c = ((walks (goal.at.bucket-requires c).Start).stretch, c.requires.1)

pub offset_bounds-self-bucket : goal.offset_bounds-self-bucket
offset_bounds-self-bucket c = omega (arith, inside (goal.at.offset_bounds-self-bucket c).After-bucket)

pub bounds-self-bucket : goal.bounds-self-bucket
bounds-self-bucket c = omega (arith, inside (goal.at.bounds-self-bucket c).After-bucket)

pub returns : goal.returns
returns c =
    let a = c.args in
    rw (ne_eqb _ _ c.if-starts-group.false) (c.from.ensures ∙ ap (λ b. get_or a.self.now.index.links.now b 0) c.bucket.ensures)
