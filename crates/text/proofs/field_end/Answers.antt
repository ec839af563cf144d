-- Each answer by the tests that led to it.
use mathlib.Core.Path.{sym, ◌∙◌, ap}
use native.Mathlib.Omega.{arith}
use Rattle.text.proofs.Fields.{end_inside, end_found, end_other}
use Rattle.text.proofs.field_end.Goals as goal
use Rattle.text.proofs.field_end.Goals.{else-from-end-via-then-from-end+else-text-end, else-from-end-via-else-from-end}
use Rattle.std.specs.Prelude.{ℕ, ◌≡◌, ◌<◌, ◌≤◌, Some}
use mathlib.Core.Logic.{◌⊎◌, inl, inr}
use lib.ListN.{get_or}

pub bounds-text-end : goal.bounds-text-end
bounds-text-end c = omega (arith, c.graphic_end-end.ensures, end_inside c.args.text.now c.args.from c.requires.0 c.requires.1)

pub returns-then-text-end : goal.returns-then-text-end
returns-then-text-end c =
    let a = c.args in
    let e = c.graphic_end-end.ensures in
    ap (λ (n : ℕ). Some n) e
    ∙ sym (end_found a.text.now a.from c.requires.0 c.requires.1 a.stop (λ q. omega (arith, e)) (ap (λ (n : ℕ). get_or a.text.now n 0) (sym e) ∙ c.if-text-end.true))

pub returns : goal.returns
returns c =
    let a = c.args in
    let e = c.graphic_end-end.ensures in
    let why : (a.from < c.graphic_end-end.result) × (get_or a.text.now c.graphic_end-end.result 0 ≡ a.stop → ⊥) ⊎ (c.graphic_end-end.result ≤ a.from) =
    elim c.else-from-end.branch [
      | else-from-end-via-then-from-end+else-text-end w ↦ inl (w.if-from-end.true, w.if-text-end.false)
      | else-from-end-via-else-from-end w ↦ inr w.if-from-end.false
    ] in
    sym (end_other a.text.now a.from c.requires.0 c.requires.1 a.stop (rw e at why))
