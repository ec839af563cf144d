use mathlib.Core.Path.{◌∙◌, sym}
use lib.Seq.{slice}
use Rattle.paths.proofs.Chains.{walking_start, walking_less, walking_some, walking_turn, walking_none}
use native.Mathlib.Omega.{arith}
use Rattle.paths.proofs.Buckets.member_in.Goals as goal

pub loop-m-init : goal.loop-m-init
loop-m-init c =
    let a = c.args in
    let d = a.self.now in
    walking_start d.index.text.now d.table.now (slice a.from a.to d.index.text.now) a.hash (d.walks a.group c.requires.in_table.0) c.first_in-m.ensures

pub has_name-requires : goal.has_name-requires
has_name-requires c =
    let p = c.requires in
    let d = c.args.self.now in
    (p.in_text.0, p.in_text.1, d.names c.loop-m.m, omega arith, (d.walks c.args.group p.in_table.0).rows c.loop-m.m c.loop-m.invariant.inside)

pub returns-then-has_name : goal.returns-then-has_name
returns-then-has_name c = walking_some c.loop-m.invariant c.loop-m-test.true (sym c.has_name.ensures ∙ c.if-has_name.true)

pub offset_bounds-self-m : goal.offset_bounds-self-m
offset_bounds-self-m c = omega (arith, c.loop-m.invariant.inside, c.loop-m.invariant.room)

pub bounds-self-m : goal.bounds-self-m
bounds-self-m c = omega (arith, c.loop-m.invariant.inside, c.loop-m.invariant.room)

pub loop-m-smaller : goal.loop-m-smaller
loop-m-smaller c = rw c.from-m.ensures (walking_less c.loop-m.invariant c.loop-m-test.true)

pub loop-m-preserved : goal.loop-m-preserved
loop-m-preserved c = rw c.from-m.ensures (walking_turn c.loop-m.invariant c.loop-m-test.true (sym c.has_name.ensures ∙ c.if-has_name.false))

pub returns : goal.returns
returns c = walking_none c.loop-m.invariant c.loop-m-test.false
