-- What is left of the path.
use native.Mathlib.Omega.{arith}
use Rattle.text.proofs.Scanned.{names_turn, names_done}
use Rattle.text.proofs.scan_path.Goals as goal

pub returns-then-text-end : goal.returns-then-text-end
returns-then-text-end c =
    let a = c.args in
    let n = c.in_ok-end.ensures in (
      record { wide = omega (arith, n.wide, c.loop-name.invariant.low); inside = n.letters.inside; by = c.if-text-end.true },
      names_done a.text.now a.from c.loop-name.at c.loop-name._name c.in_ok-end.end c.loop-name.invariant n c.loop-name-test.true,
    )

pub loop-name-preserved : goal.loop-name-preserved
loop-name-preserved c =
    let a = c.args in
    names_turn a.text.now a.from c.loop-name.at c.loop-name._name c.in_ok-end.end c.loop-name.invariant c.in_ok-end.ensures c.requires.1 c.if-text-end-ne46.false
