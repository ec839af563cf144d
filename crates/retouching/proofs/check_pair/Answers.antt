use mathlib.Core.Path.{◌≡◌}
use mir.Syntax.{w64}
use mir.Val.{to_z, of_z}
use Rattle.std.proofs.Common.{rules}
use Rattle.retouching.proofs.Rows.{label_bad, number_fine, number_bad}
use Rattle.retouching.proofs.check_pair.Goals as goal

pub returns-then-not-is_number : goal.returns-then-not-is_number
returns-then-not-is_number c = label_bad _ c.args.pairs.now c.args.k c.requires.0 c.pair_at-pair.ensures c.is_number.ensures c.if-not-is_number.true

pub returns-then-in_range : goal.returns-then-in_range
returns-then-in_range c =
    let z = c.pair_at-pair.result.number in
    let whole : to_z w64 (of_z w64 z) ≡ z = search rules in
    number_fine _ c.args.pairs.now c.args.k c.requires.0 c.pair_at-pair.ensures c.is_number.ensures whole c.in_range.ensures c.if-not-is_number.false c.if-in_range.true

pub returns : goal.returns
returns c =
    let z = c.pair_at-pair.result.number in
    let whole : to_z w64 (of_z w64 z) ≡ z = search rules in
    number_bad _ c.args.pairs.now c.args.k c.requires.0 c.pair_at-pair.ensures c.is_number.ensures whole c.in_range.ensures c.if-not-is_number.false c.if-in_range.false
