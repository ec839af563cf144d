use mathlib.Core.Path.{ap, ◌∙◌}
use Rattle.evaluation.specs.Results.{store}
use Rattle.evaluation.proofs.Entries.{value_room}
use Rattle.evaluation.proofs.evaluate_into.Goals as goal

pub put_value-requires : goal.put_value-requires
put_value-requires c = value_room c.requires

pub returns : goal.returns
returns c = c.put_value.ensures ∙ ap (λ v. store c.args.results.now c.args.label v) c.evaluate-value.ensures
