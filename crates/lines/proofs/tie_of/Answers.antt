-- The fifth byte tells the two first lines apart.
use mathlib.Core.Bool.{true, false}
use Prim.Native.Char.{code}
use native.Mathlib.Omega.{arith}
use lib.ListN.{get_or}
use borrow.Author.Tests.{eq-eqb, ne_eqb}
use Rattle.lines.proofs.Heads.{headed, first_inside, fifth_tells}
use Rattle.lines.proofs.tie_of.Goals as goal

pub bounds-text-4 : goal.bounds-text-4
bounds-text-4 c =
    let s = c.args.text.now in
    omega (arith, first_inside s (headed s c.requires))

pub returns-then-text-eq50 : goal.returns-then-text-eq50
returns-then-text-eq50 c =
    let s = c.args.text.now in
    fifth_tells s (headed s c.requires) true (eq-eqb (get_or s 4 0) (code "2") c.if-text-eq50.true)

pub returns : goal.returns
returns c =
    let s = c.args.text.now in
    fifth_tells s (headed s c.requires) false (ne_eqb (get_or s 4 0) (code "2") c.if-text-eq50.false)
