use Prim.Native.Nat.{◌-◌, ◌*◌, ◌≤◌}
use Rattle.paths.specs.Buckets.{hashes}
use Rattle.paths.proofs.Chains.{bucket_fits}
use native.Mathlib.Omega.{arith}
use Rattle.paths.proofs.bucket.Goals as goal
use Rattle.paths.proofs.bucket.Goals.{After-from}

-- the product that says so fits
fits : (c : After-from) → c.args.hash * (c.from.result - c.from-start.result) ≤ 4096 * hashes
fits c = rw (c.from.ensures, c.from-start.ensures) (bucket_fits c.requires.0 c.requires.1)

pub offset_bounds-starts-group : goal.offset_bounds-starts-group
offset_bounds-starts-group c = omega (arith, c.requires.0.long)

pub bounds-starts-group : goal.bounds-starts-group
bounds-starts-group c = omega (arith, c.requires.0.long)

pub overflow_add-group : goal.overflow_add-group
overflow_add-group c = omega (arith, c.requires.0.long)

pub offset_bounds-starts-group-2 : goal.offset_bounds-starts-group-2
offset_bounds-starts-group-2 c = omega (arith, c.requires.0.long)

pub bounds-starts-group-2 : goal.bounds-starts-group-2
bounds-starts-group-2 c = omega (arith, c.requires.0.long)

pub overflow_sub-size : goal.overflow_sub-size
overflow_sub-size c = omega (arith, c.requires.0.order, c.from-start.ensures, c.from.ensures)

pub overflow_mul-result : goal.overflow_mul-result
overflow_mul-result c = omega (arith, fits (goal.at.overflow_mul-result c).After-from)

pub overflow_add-result : goal.overflow_add-result
overflow_add-result c =
    let h = c.requires.0 in
    omega (arith, c.from-start.ensures, h.order, h.few, fits (goal.at.overflow_add-result c).After-from)

pub returns : goal.returns
returns c = rw (c.from-start.ensures, c.from.ensures)
