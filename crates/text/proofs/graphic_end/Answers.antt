-- The last byte, a newline, is not graphic: the run of graphic bytes from `i` on is what is left of that from `from` on.
use mathlib.Core.Path.{◌∙◌, sym, ap, ◌≡◌}
use Prim.Native.Nat.{ℕ, ◌-◌, ◌<◌}
use native.Mathlib.Nat.{le_refl}
use native.Mathlib.Omega.{arith}
use lib.ListN.{get_or, length}
use borrow.Author.Tests.{lt-ltb, le-ltb}
use Rattle.text.proofs.Bytes.{run_more, run_stop}
use Rattle.text.specs.Scans.{is_graphic}
use Rattle.text.proofs.graphic_end.Goals as goal

pub loop-i-preserved : goal.loop-i-preserved
loop-i-preserved c =
    let s = c.args.text.now in
    let i = c.loop-i.i in
    let h : i < length s = omega arith in
    let apart : i ≡ length s - 1 → ⊥ = λ q. omega (arith, ap (λ (n : ℕ). get_or s n 0) q ∙ c.requires.1) in (
      omega arith,
      omega (arith, apart),
      run_more is_graphic s i (length s) h (le_refl (length s)) (lt-ltb _ _ c.loop-i-test.true) ∙ c.loop-i.invariant.2,
    )

pub returns : goal.returns
returns c =
    let s = c.args.text.now in
    let i = c.loop-i.i in
    sym (run_stop is_graphic s i (length s) (omega arith) (le_refl (length s)) (le-ltb _ _ c.loop-i-test.false)) ∙ c.loop-i.invariant.2
