-- What is left of the path leads where the whole does.
use mathlib.Core.Path.{◌≡◌, ◌∙◌, sym, ap}
use Prim.Native.Nat.{◌+◌}
use lib.Seq.{slice}
use borrow.Author.Tests.{eqb-true, eqb-false}
use Rattle.kinds.specs.Kinds.{group_code}
use Rattle.cells.specs.Table.{kind}
use Rattle.paths.specs.Names.{member}
use Rattle.paths.specs.Buckets.{some_label}
use Rattle.paths.specs.Paths.{descended}
use Rattle.paths.proofs.SomeLabel.{label_is, no_label}
use Rattle.paths.proofs.Resolving.{stop_low, stop_high, names_cut, member_high, later, later_stop, later_on, later_end, down_none}
use native.Mathlib.Omega.{arith}
use Rattle.paths.proofs.Directory.descend.Goals as goal
use Rattle.paths.proofs.Directory.descend.Goals.{After-member}

-- one name more
on : (c : After-member) → let a = c.args in let d = a.self.now in let s = d.index.text.now in let e = c.name_stop-at-in-loop-at.result in
    descended s d.table.now d.index.n (member s d.table.now d.index.n c.loop-at.m (slice (c.loop-at.at + 1) e s)) (later s e a.to)
    ≡ descended s d.table.now d.index.n c.loop-at.m (later s c.loop-at.at a.to)
on c =
    let a = c.args in
    let d = a.self.now in
    let k = eqb-true (kind d.table.now c.loop-at.m) group_code (sym c.has_kind.ensures ∙ c.if-not-has_kind.false) in
    rw c.name_stop-at-in-loop-at.ensures (later_on d.index.text.now d.table.now d.index.n c.loop-at.m c.loop-at.at a.to (omega arith) (omega arith) k)

pub loop-at-init : goal.loop-at-init
loop-at-init c =
    let a = c.args in
    let s = a.self.now.index.text.now in
    let e = c.name_stop-at.ensures in
    let high = stop_high s a.from a.to (omega arith) (omega arith) in
    (omega arith, omega (arith, e), rw (e, names_cut s a.from a.to (omega arith) (omega arith)))

pub returns-then-not-has_kind : goal.returns-then-not-has_kind
returns-then-not-has_kind c =
    let a = c.args in
    let d = a.self.now in
    let other = eqb-false (kind d.table.now c.loop-at.m) group_code (sym c.has_kind.ensures ∙ c.if-not-has_kind.true) in
    let stop = later_stop d.index.text.now d.table.now d.index.n c.loop-at.m c.loop-at.at a.to (omega arith) (omega arith) other in
    ap some_label (sym stop ∙ c.loop-at.invariant.2)

pub hash_name-hash-requires : goal.hash_name-hash-requires
hash_name-hash-requires c =
    let a = c.args in
    let s = a.self.now.index.text.now in
    let low = stop_low s (c.loop-at.at + 1) a.to (omega arith) (omega arith) in
    let high = stop_high s (c.loop-at.at + 1) a.to (omega arith) (omega arith) in
    (omega (arith, c.name_stop-at-in-loop-at.ensures), omega (arith, c.name_stop-at-in-loop-at.ensures))

pub member-requires : goal.member-requires
member-requires c =
    let a = c.args in
    let s = a.self.now.index.text.now in
    let low = stop_low s (c.loop-at.at + 1) a.to (omega arith) (omega arith) in
    let high = stop_high s (c.loop-at.at + 1) a.to (omega arith) (omega arith) in
    let stop = c.name_stop-at-in-loop-at.ensures in record {
      in_table = (c.loop-at.invariant.0, c.hash_name-hash.ensures);
      in_text = (omega arith, omega arith);
    }

pub loop-at-smaller : goal.loop-at-smaller
loop-at-smaller c =
    let a = c.args in
    let low = stop_low a.self.now.index.text.now (c.loop-at.at + 1) a.to (omega arith) (omega arith) in
    omega (arith, c.name_stop-at-in-loop-at.ensures)

pub returns-in_err-m : goal.returns-in_err-m
returns-in_err-m c =
    let a = c.args in
    let s = a.self.now.index.text.now in
    let t = a.self.now.table.now in
    let n = a.self.now.index.n in
    let e = c.name_stop-at-in-loop-at.result in
    let none = no_label (member s t n c.loop-at.m (slice (c.loop-at.at + 1) e s)) (sym c.member.ensures ∙ c.in_err-m.was) in
    c.from_residual.ensures
    ∙ ap some_label (sym (down_none s t n (later s e a.to)) ∙ ap (λ x. descended s t n x (later s e a.to)) (sym none) ∙ on (goal.at.returns-in_err-m c).After-member ∙ c.loop-at.invariant.2)

pub loop-at-preserved : goal.loop-at-preserved
loop-at-preserved c =
    let a = c.args in
    let s = a.self.now.index.text.now in
    let t = a.self.now.table.now in
    let n = a.self.now.index.n in
    let e = c.name_stop-at-in-loop-at.result in
    let high = stop_high s (c.loop-at.at + 1) a.to (omega arith) (omega arith) in
    let w = slice (c.loop-at.at + 1) e s in
    let f = label_is (member s t n c.loop-at.m w) c.in_ok-m.m (sym c.member.ensures ∙ c.in_ok-m.was) in (
      omega (arith, f.0, member_high s t n c.loop-at.m w),
      omega (arith, c.name_stop-at-in-loop-at.ensures),
      ap (λ x. descended s t n x (later s e a.to)) (sym f.0) ∙ on (goal.at.loop-at-preserved c).After-member ∙ c.loop-at.invariant.2,
    )

pub returns : goal.returns
returns c =
    let a = c.args in
    let d = a.self.now in
    c.some_label.ensures
    ∙ ap some_label (sym (later_end d.index.text.now d.table.now d.index.n c.loop-at.m c.loop-at.at a.to (omega arith)) ∙ c.loop-at.invariant.2)
