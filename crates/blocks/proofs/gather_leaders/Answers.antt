use mathlib.Core.Path.{◌≡◌, refl, ap, ◌∙◌}
use mathlib.Core.Bool.{Bool, true, false}
use Prim.Native.Nat.{ℕ, ◌<◌}
use native.Mathlib.Omega.{arith}
use lib.Dec.{eqb}
use mir.Val.{bool_byte}
use lib.ListN.{length, get_or}
use lib.Seq.{take_all}
use Rattle.order.specs.LabelLists.{one, filter}
use Rattle.order.proofs.Tests.{one_le}
use Rattle.placing.proofs.Lists.{in_at}
use Rattle.blocks.specs.Merged.{heads}
use Rattle.blocks.proofs.Gathering.{heads_leaders, gather_turn}
use Rattle.blocks.proofs.gather_leaders.Goals as goal

as_one : (t : Bool) → bool_byte t ≡ one t
as_one true = refl
as_one false = refl

pub bounds-lead-from : goal.bounds-lead-from
bounds-lead-from c = rw c.from.ensures (c.requires.0 _ (in_at c.args.items.now c.loop-x.x-index c.loop-x-test.true))

pub loop-x-preserved : goal.loop-x-preserved
loop-x-preserved c =
    let items = c.args.items.now in
    let lead = c.args.lead.now in
    let x = get_or items c.loop-x.x-index 0 in
    let r : c.from-m.result ≡ one (heads lead x) = c.from-m.ensures ∙ as_one (eqb (get_or lead c.from.result 0) x) ∙ ap (λ (v : ℕ). one (eqb (get_or lead v 0) x)) c.from.ensures in
    let room : c.loop-x.m < length c.loop-x.out = omega (arith, c.requires.1, c.loop-x.invariant.0) in
    (omega (arith, c.loop-x.invariant.0, r, one_le (heads lead x)), gather_turn _ lead c.loop-x.out c.loop-x.x-index c.loop-x.m x _ c.loop-x-test.true room refl r c.loop-x.invariant.1)

pub returns : goal.returns
returns c =
    let items = c.args.items.now in
    let e = take_all c.loop-x.x-index items (omega arith) in
    record {
      cells = λ R led. c.loop-x.invariant.1 ∙ ap (filter (heads c.args.lead.now)) e ∙ heads_leaders R items c.args.lead.now led;
      within = omega (arith, c.loop-x.invariant.0);
    }
