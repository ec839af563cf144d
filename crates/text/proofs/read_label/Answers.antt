use mathlib.Core.Path.{sym, ◌∙◌, ap}
use mathlib.Core.Logic.{inl, inr}
use native.Mathlib.Omega.{arith}
use Rattle.std.specs.Prelude.{ℕ, Some}
use Rattle.text.proofs.Labels.{label_is, label_none}
use Rattle.text.proofs.read_label.Goals as goal

pub returns-in_err-v : goal.returns-in_err-v
returns-in_err-v c = c.from_residual.ensures ∙ sym (label_none c.args.n c.args.field.now (inl (sym c.read_decimal.ensures ∙ c.in_err-v.was)))

pub returns-then-v-eq0 : goal.returns-then-v-eq0
returns-then-v-eq0 c =
    sym (label_none c.args.n c.args.field.now (inr (sym c.read_decimal.ensures ∙ c.in_ok-v.was ∙ ap (λ (v : ℕ). Some v) c.if-v-eq0.true)))

pub returns : goal.returns
returns c = sym (label_is c.args.n c.args.field.now c.in_ok-v.v (sym c.read_decimal.ensures ∙ c.in_ok-v.was) (omega arith))
