-- The digits are a decimal that does not begin with 0.
use mathlib.Core.Path.{◌≡◌, ap, sym, ◌∙◌}
use Prim.Native.Nat.{◌+◌, ◌≤◌}
use native.Mathlib.Omega.{arith}
use lib.ListN.{length, get_or}
use lib.Seq.{slice}
use Rattle.std.specs.Prelude.{Some}
use Rattle.std.proofs.lemmas.Option.{IfSome_then}
use Rattle.numbers.specs.Decimal.{decimal_of}
use Rattle.numbers.proofs.Decimals.{decimal_plain, decimal_some}
use Rattle.text.proofs.Slices.{slice_at}
use Rattle.text.proofs.Labels.{label_is}
use Rattle.text.proofs.scan_label.Goals as goal

pub returns : goal.returns
returns c =
    let a = c.args in
    let s = a.text.now in
    IfSome_then c.scan_digits.result c.scan_digits.ensures (λ r f.
    let k : r.end ≤ length s = omega (arith, f.1.inside) in
    let d : decimal_of a.n (slice a.from r.end s) ≡ Some r.value = sym (decimal_plain a.from r.end s f.1.wide k a.n c.if-text-from-eq48.false) ∙ f.2 in
    let l = slice_at s a.from r.end f.1.wide k in (
      f.0,
      f.1,
      label_is a.n (slice a.from r.end s) r.value d
          (decimal_some a.n (get_or s a.from 0) (slice (a.from + 1) r.end s) r.value (sym (ap (decimal_of a.n) l) ∙ d) c.if-text-from-eq48.false),
    ))
