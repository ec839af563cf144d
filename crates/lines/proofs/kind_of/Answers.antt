use native.Mathlib.Omega.{arith}
use Rattle.lines.proofs.Fields.{no_letter}
use Rattle.lines.proofs.kind_of.Goals as goal

pub returns-in_default : goal.returns-in_default
returns-in_default c = no_letter c.args.field.now (λ e. omega (arith, e, c.in_default.len_below))

pub returns-in_default-2 : goal.returns-in_default-2
returns-in_default-2 c = no_letter c.args.field.now (λ e. omega (arith, e, c.in_default.len_at_least))
