use mathlib.Core.Path.{◌∙◌, sym}
use Rattle.paths.specs.TargetCells.{wrong_target}
use Rattle.paths.proofs.Passes.{pass_start, pass_turn, pass_stop, pass_done}
use native.Mathlib.Omega.{arith}
use Rattle.paths.proofs.check_targets.Goals as goal

pub loop-label-init : goal.loop-label-init
loop-label-init c = pass_start (wrong_target c.args.table.now) c.args.n

pub wrong_target_at-requires : goal.wrong_target_at-requires
wrong_target_at-requires c = (c.loop-label.invariant.low, omega arith)

pub returns-in-Some : goal.returns-in-Some
returns-in-Some c = pass_stop c.loop-label.invariant (omega arith) (sym c.in-Some.is ∙ c.wrong_target_at.ensures) c.at.ensures

pub loop-label-preserved : goal.loop-label-preserved
loop-label-preserved c = pass_turn c.loop-label.invariant (omega arith) (sym c.wrong_target_at.ensures ∙ c.in_default.is)

pub returns : goal.returns
returns c = pass_done c.loop-label.invariant (omega arith)
