use mathlib.Core.Path.{◌≡◌, ap, ◌∙◌}
use Rattle.std.specs.Prelude.{Err}
use Rattle.lines.proofs.Heads.{refusal_is}
use Rattle.refusals.specs.Refusal.{Refused}
use Rattle.refusals.specs.Rows.{pairs_row}
use Rattle.retouching.specs.Retouch.{list_bad}
use Rattle.retouching.proofs.Rows.{list_odd, list_long, list_fine}
use Rattle.retouching.proofs.check_list.Goals.{then-pairs-ne0-via-then-pairs-ne0, then-pairs-ne0-via-else-pairs-ne0+then-pairs-gt-PAIR_LIMIT}
use Rattle.retouching.proofs.check_list.Goals as goal

pub returns-then-pairs-ne0 : goal.returns-then-pairs-ne0
returns-then-pairs-ne0 c = ap Err (refusal_is c.at.result _ 0 c.at.ensures) ∙ bad
  where
    bad : Refused pairs_row 0 ≡ list_bad c.args.pairs.now
    bad = elim c.then-pairs-ne0.branch [
      | then-pairs-ne0-via-then-pairs-ne0 w ↦ list_odd c.args.pairs.now w.if-pairs-ne0.true
      | then-pairs-ne0-via-else-pairs-ne0+then-pairs-gt-PAIR_LIMIT w ↦ list_long c.args.pairs.now w.if-pairs-ne0.false w.if-pairs-gt-PAIR_LIMIT.true
    ]

pub returns : goal.returns
returns c = list_fine _ c.if-pairs-ne0.false c.if-pairs-gt-PAIR_LIMIT.false
