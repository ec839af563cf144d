use mathlib.Core.Path.{refl}
use Prim.Native.Nat.{◌+◌}
use Rattle.paths.proofs.Allotting.{sum_start, sum_next, sum_turn, sum_rises}
use native.Mathlib.Omega.{arith}
use Rattle.paths.proofs.add_up.Goals as goal

pub loop-group-init : goal.loop-group-init
loop-group-init c = (omega arith, sum_start c.args.starts.now)

pub offset_bounds-starts-group : goal.offset_bounds-starts-group
offset_bounds-starts-group c = omega (arith, c.requires.0, c.loop-group.invariant.1.long)

pub bounds-starts-group : goal.bounds-starts-group
bounds-starts-group c =
    let p = c.requires in
    omega (arith, p.0, c.loop-group.invariant.1.long)

pub overflow_add-starts : goal.overflow_add-starts
overflow_add-starts c =
    let p = c.requires in
    omega (arith, p.0, c.loop-group.invariant.1.long)

pub offset_bounds-starts-group-in-loop-group : goal.offset_bounds-starts-group-in-loop-group
offset_bounds-starts-group-in-loop-group c =
    let p = c.requires in
    omega (arith, p.0, c.loop-group.invariant.1.long)

pub bounds-starts-group-in-loop-group : goal.bounds-starts-group-in-loop-group
bounds-starts-group-in-loop-group c =
    let p = c.requires in
    omega (arith, p.0, c.loop-group.invariant.1.long)

pub overflow_add-starts-in-loop-group : goal.overflow_add-starts-in-loop-group
overflow_add-starts-in-loop-group c =
    let a = c.args in
    let p = c.requires in
    let c₀ = a.starts.now in
    omega (arith, p.1, sum_next c₀ c.loop-group.invariant.1, sum_rises c₀ (c.loop-group.group + 1) (a.n + 1) (omega arith))

pub bounds-starts-group-in-loop-group-2 : goal.bounds-starts-group-in-loop-group-2
bounds-starts-group-in-loop-group-2 c =
    let p = c.requires in
    omega (arith, p.0, c.loop-group.invariant.1.long)

pub loop-group-preserved : goal.loop-group-preserved
loop-group-preserved c =
    let a = c.args in
    let p = c.requires in
    (omega arith, sum_turn a.starts.now c.loop-group.invariant.1 (omega (arith, p.0)) refl)

pub shape_of-starts : goal.shape_of-starts
shape_of-starts c = c.loop-group.invariant.1.long

pub returns : goal.returns
returns c = λ g h. c.loop-group.invariant.1.done g (omega arith)

pub overflow_add-group-end : goal.overflow_add-group-end
overflow_add-group-end c = record { fits = omega (arith, c.requires.0) }
