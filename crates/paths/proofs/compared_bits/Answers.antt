use mathlib.Core.Path.{sym, ◌∙◌}
use native.Mathlib.Omega.{arith}
use Rattle.text.proofs.Lowercase.{low_bits}
use Rattle.paths.proofs.compared_bits.Goals as goal

pub returns : goal.returns
returns c = (c.from.ensures ∙ sym (low_bits c.args.byte), omega (arith, c.from.ensures))
