-- the arms of sum, difference and product, by one law over the operation
use mathlib.Core.Path.{◌≡◌, refl, ◌∙◌}
use mathlib.Core.Bool.{false}
use native.Mathlib.Omega.{arith}
use mir.Facts.{to_z-of_z}
use mir.Syntax.{w64}
use mir.Val.{to_z, of_z}
use borrow.Author.Rules.{sfits_of}
use Rattle.cells.proofs.Signed.{equal, unequal}
use Rattle.numbers.specs.Arithmetic.{ranged_of, divides_by_zero, result, calculated}
use Rattle.kinds.specs.declared.Operation.{Operation}
use Rattle.kinds.specs.declared.Operation.TheVariants.{Sum, Difference, Product, Quotient}
use Rattle.std.specs.Prelude.{ℤ, Result}
use Rattle.numbers.specs.declared.Failure.{Failure}
use Rattle.numbers.proofs.Operations.{arm_is, calculated_by}
use Rattle.numbers.proofs.calculate.Goals as goal
use Rattle.numbers.proofs.calculate.Goals.{Start}

is : (s : Start) (arm : Operation) → divides_by_zero arm s.args.b ≡ false → {r : Result ℤ Failure} → s.args.op ≡ arm
    → r ≡ ranged_of (to_z w64 (of_z w64 (result s.args.arithmetic arm (to_z w64 (of_z w64 s.args.a)) (to_z w64 (of_z w64 s.args.b)))))
    → r ≡ calculated s.args.arithmetic s.args.op s.args.a s.args.b
is s arm q p e = arm_is s.args.arithmetic arm s.args.a s.args.b s.ranges.a s.ranges.b s.requires.0 s.requires.1 s.args.op p q e

pub returns-in-Sum : goal.returns-in-Sum
unfolding result
returns-in-Sum c = is (goal.at.returns-in-Sum c).Start Sum refl c.in-Sum.is c.ranged.ensures

pub returns-in-Difference : goal.returns-in-Difference
unfolding result
returns-in-Difference c = is (goal.at.returns-in-Difference c).Start Difference refl c.in-Difference.is c.ranged-in-Difference.ensures

pub returns-in-Product : goal.returns-in-Product
unfolding result
returns-in-Product c = is (goal.at.returns-in-Product c).Start Product refl c.in-Product.is c.ranged-in-Product.ensures

pub returns-then-b-eq0 : goal.returns-then-b-eq0
unfolding calculated
returns-then-b-eq0 c = rw (c.in-Quotient.is, equal c.args.b 0 c.ranges.b.sfits (omega arith) c.if-b-eq0.true)

pub returns-else-b-eq0 : goal.returns-else-b-eq0
unfolding result
returns-else-b-eq0 c =
    calculated_by c.args.arithmetic c.args.op Quotient c.args.a c.args.b _
    c.in-Quotient.is
    (unequal c.args.b 0 c.if-b-eq0.false)
    (to_z-of_z {w = w64} (sfits_of c.nearest.type_inv) ∙ (rw (to_z-of_z {w = w64} c.ranges.a, to_z-of_z {w = w64} c.ranges.b, c.tie_rule.ensures) at c.nearest.ensures))
    c.ranged-else-b-eq0.ensures
