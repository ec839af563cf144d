use mir.Syntax.{w64}
use mathlib.Core.Path.{◌≡◌, ◌∙◌}
use Prim.Native.Nat.{◌/◌, ◌%◌, ◌+◌, ◌<◌, ◌^◌}
use native.Mathlib.Omega.{arith}
use native.Mathlib.Nat.{div-le_self}
use lib.IntN.{nat_abs}
use mir.Facts.{to_z-of_z}
use borrow.Author.Rules.{sfits_of}
use Rattle.cells.proofs.Signed.{lt_zero}
use Rattle.numbers.proofs.Division.{quot_read, rem_read}
use Rattle.numbers.proofs.Rounding.{up_size, quotient_by}
use Rattle.numbers.proofs.nearest.Goals as goal
use Rattle.numbers.proofs.nearest.Goals.{After-unsigned_abs, After-unsigned_abs-2, After-unsigned_abs-m, After-round_up-up}

-- the sizes of the quotient, the remainder and the divisor
size_q : (c : After-unsigned_abs-m) → c.unsigned_abs-m.result ≡ nat_abs c.args.a / nat_abs c.args.b
size_q c =
    c.unsigned_abs-m.ensures.value ∙ quot_read c.args.a c.args.b c.ranges.a c.ranges.b c.requires.0

size_r : (c : After-unsigned_abs) → c.unsigned_abs.result ≡ nat_abs c.args.a % nat_abs c.args.b
size_r c =
    c.unsigned_abs.ensures.value ∙ rem_read c.args.a c.args.b c.ranges.a c.ranges.b c.requires.0

size_b : (c : After-unsigned_abs-2) →
    c.unsigned_abs-2.result ≡ nat_abs c.args.b
size_b c =
    rw (to_z-of_z {w = w64} c.ranges.b) at c.unsigned_abs-2.ensures.value

small : (c : After-round_up-up) →
    c.unsigned_abs-m.result + c.round_up-up.result < 2 ^ 63
small c =
    let args = c.args in
    let up = up_size args.tie c.unsigned_abs-m.result c.unsigned_abs.result c.unsigned_abs-2.result in
    omega (arith, size_q c.before.before.before, div-le_self (nat_abs args.a) (nat_abs args.b), c.round_up-up.ensures, up)

pub with_sign-requires : goal.with_sign-requires
with_sign-requires c = omega (arith, small (goal.at.with_sign-requires c).After-round_up-up)

pub returns : goal.returns
returns c =
    to_z-of_z {w = w64} (sfits_of c.with_sign.type_inv)
    ∙ quotient_by c.args.tie c.args.a c.args.b (size_q (goal.at.returns c).After-unsigned_abs-m) (size_r (goal.at.returns c).After-unsigned_abs)
    (rw (size_b (goal.at.returns c).After-unsigned_abs-2) at c.round_up-up.ensures)
    (rw (to_z-of_z {w = w64} c.ranges.a, to_z-of_z {w = w64} c.ranges.b, lt_zero c.args.a, lt_zero c.args.b) at c.with_sign.ensures)
