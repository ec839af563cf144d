use mathlib.Core.Path.{ap, ◌∙◌}
use native.Mathlib.Omega.{arith}
use Rattle.order.specs.LabelLists.{count}
use Rattle.marks.proofs.Walking.{word_marks}
use Rattle.marks.proofs.common_marks_in.Goals as goal

pub returns : goal.returns
returns c = λ q. ap (count q) c.new.ensures ∙ word_marks c.args.s.now c.args.mask.now c.args.w c.args.p c.args.j (omega arith) q
