use mathlib.Core.Bool.{true, false}
use Rattle.cells.proofs.Signed.{nat_of_negative, test_negative, cast_ok, cast_is}
use Rattle.cells.proofs.nat_of.Goals as goal

pub overflow_cast-result : goal.overflow_cast-result
overflow_cast-result c = cast_ok c.args.x c.ranges.x (test_negative c.args.x false c.ranges.x c.if-x-lt0.false)

pub returns-then-x-lt0 : goal.returns-then-x-lt0
returns-then-x-lt0 c = nat_of_negative c.args.x (test_negative c.args.x true c.ranges.x c.if-x-lt0.true)

pub returns-else-x-lt0 : goal.returns-else-x-lt0
returns-else-x-lt0 c = cast_is c.args.x c.ranges.x (test_negative c.args.x false c.ranges.x c.if-x-lt0.false)
