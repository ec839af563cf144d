use native.Mathlib.Omega.{arith}
use Rattle.paths.proofs.Hashes.{gather_start, gather_small, gather_turn, gather_done}
use Rattle.paths.proofs.tail_bits.Goals as goal

pub loop-i-init : goal.loop-i-init
loop-i-init c =
    let a = c.args in
    gather_start a.text.now a.from a.size c.requires.1

pub overflow_add-from : goal.overflow_add-from
overflow_add-from c = omega (arith, c.loop-i.invariant.inside, c.loop-i.invariant.upto)

pub bounds-text-from : goal.bounds-text-from
bounds-text-from c =
    let inv = c.loop-i.invariant in
    omega (arith, inv.inside, inv.upto)

pub overflow_mul-bits : goal.overflow_mul-bits
overflow_mul-bits c = record { fits = omega (arith, gather_small c.loop-i.invariant c.requires.0 (omega arith), c.compared_bits.ensures.1) }

pub overflow_add-bits : goal.overflow_add-bits
overflow_add-bits c = record { fits = omega (arith, gather_small c.loop-i.invariant c.requires.0 (omega arith), c.compared_bits.ensures.1) }

pub loop-i-preserved : goal.loop-i-preserved
loop-i-preserved c = gather_turn c.loop-i.invariant (omega arith) c.compared_bits.ensures.0

pub returns : goal.returns
returns c = gather_done c.loop-i.invariant (omega arith)
