-- A line with a path, and what its target must be.
use mathlib.Core.Path.{◌∙◌, sym}
use Rattle.paths.proofs.ByKind.{line_of_none, line_without_path, kept_target, other_target}
use Rattle.paths.proofs.wrong_target_at.Goals as goal

pub returns-in_err-kind_of : goal.returns-in_err-kind_of
returns-in_err-kind_of c = c.from_residual.ensures ∙ line_of_none c.args.table.now c.args.label (sym c.kind_of.ensures ∙ c.in_err-kind_of.was)

pub returns-in_err-wanted : goal.returns-in_err-wanted
returns-in_err-wanted c =
    c.from_residual-in_err-wanted.ensures
    ∙ line_without_path c.args.table.now c.args.label c.in_ok-kind_of.field-0 (sym c.kind_of.ensures ∙ c.in_ok-kind_of.was) (sym c.wants.ensures ∙ c.in_err-wanted.was)

pub returns-then-has_kind : goal.returns-then-has_kind
returns-then-has_kind c =
    kept_target c.args.table.now c.args.label c.in_ok-kind_of.field-0 (sym c.kind_of.ensures ∙ c.in_ok-kind_of.was) c.in_ok-wanted.wanted
    (sym c.wants.ensures ∙ c.in_ok-wanted.was) c.label_cell-target.ensures (sym c.has_kind.ensures ∙ c.if-has_kind.true)

pub returns : goal.returns
returns c =
    other_target c.args.table.now c.args.label c.in_ok-kind_of.field-0 (sym c.kind_of.ensures ∙ c.in_ok-kind_of.was) c.in_ok-wanted.wanted
    (sym c.wants.ensures ∙ c.in_ok-wanted.was) c.label_cell-target.ensures (sym c.has_kind.ensures ∙ c.if-has_kind.false)
