use mathlib.Core.Path.{sym, ◌∙◌}
use mathlib.Core.Logic.{inr}
use Prim.Native.Nat.{◌-◌, ◌≤◌, ◌<◌}
use native.Mathlib.Omega.{arith}
use lib.ListN.{length}
use Rattle.order.specs.LabelLists.{◌∈◌}
use Rattle.blocks.proofs.Rooms.{bounds, top_item, top_needed, top_quiet, starts_in, pushable, leads_in}
use Rattle.blocks.proofs.Steps.{once, push_turn, search_back, found_turn}
use Rattle.blocks.proofs.step.Goals as goal
use Rattle.blocks.proofs.step.Goals.{After-from, After-from-top, Start}

module _ (e : Start) where
  few :
      let args = e.args in
      (args.at.starts ≤ args.at.stack) × (args.at.path ≤ args.at.stack) × (args.at.stack ≤ length args.needs.items.now) × (args.at.stack < 65536)
  few = bounds e.requires.in_rows e.requires.room e.requires.going.0

  some_starts :
      let args = e.args in
      (0 < args.at.starts) × (args.at.starts ≤ length args.starts.now)
  some_starts = starts_in e.requires.in_rows e.requires.room e.requires.going.0 e.requires.p_nonzero

top_within : (c : After-from-top) → c.from-top.result < c.args.at.stack
top_within c =
    let h : c.args.at.path - 1 < c.args.at.path = omega (arith, c.requires.p_nonzero) in
    omega (arith, c.requires.going.0.steps.under (c.args.at.path - 1) h, c.from-top.ensures)

item : (c : After-from) → c.from.result ∈ c.args.needs.items.now
item c = top_item c.requires.in_rows c.requires.room c.requires.going.0 c.requires.p_nonzero c.from-top.ensures c.from.ensures

pub offset_bounds-path-at : goal.offset_bounds-path-at
offset_bounds-path-at c = let f = few (goal.at.offset_bounds-path-at c).Start in omega arith

pub bounds-path-at : goal.bounds-path-at
bounds-path-at c = let f = few (goal.at.bounds-path-at c).Start in omega (arith, c.requires.p_nonzero, c.requires.room.path_room)

pub offset_bounds-stack-top : goal.offset_bounds-stack-top
offset_bounds-stack-top c = let f = few (goal.at.offset_bounds-stack-top c).Start in omega (arith, top_within (goal.at.offset_bounds-stack-top c).After-from-top)

pub bounds-stack-top : goal.bounds-stack-top
bounds-stack-top c = let f = few (goal.at.bounds-stack-top c).Start in omega (arith, top_within (goal.at.bounds-stack-top c).After-from-top, c.requires.room.stack_room)

pub first_common-requires : goal.first_common-requires
first_common-requires c = (c.requires.in_rows.rows _ (item (goal.at.first_common-requires c).After-from), c.requires.room.fresh_room, c.requires.in_rows.narrow)

pub push-requires : goal.push-requires
push-requires c = pushable c.requires.in_rows c.requires.room c.requires.going.0 _ c.in-Some.ensures.1

pub returns-in-Some : goal.returns-in-Some
returns-in-Some c =
    let g = c.requires.going.0 in
    let found = c.in-Some.ensures in
    let deeper = c.push.ensures.deeper in
    let step = top_needed c.requires.in_rows c.requires.room g c.requires.p_nonzero c.from-top.ensures c.from.ensures _ found.0 found.1 in
    let r = push_turn c.requires.in_rows g found.1 (inr step) c.push.ensures.pushed c.args.lead.now c.requires.going.1 in record {
      going_2 = (rw (deeper.0, deeper.1) r.0, r.1);
      nearer = record { kept = r.3; less = omega (arith, r.2, deeper.1) };
    }

pub offset_bounds-starts-at : goal.offset_bounds-starts-at
offset_bounds-starts-at c = let f = few (goal.at.offset_bounds-starts-at c).Start in omega arith

pub bounds-starts-at : goal.bounds-starts-at
bounds-starts-at c = let h = some_starts (goal.at.bounds-starts-at c).Start in omega arith

pub finish-requires : goal.finish-requires
finish-requires c =
    let f = few (goal.at.finish-requires c).Start in record {
      s_lt_n = (top_within (goal.at.finish-requires c).After-from-top, omega (arith, c.requires.room.stack_room), c.requires.room.stacked_room);
      by_index = λ k l h. leads_in c.requires.in_rows c.requires.room c.requires.going.0 k h;
      by_index_2 = once c.requires.in_rows c.requires.going.0;
    }

pub returns-then-top-from : goal.returns-then-top-from
returns-then-top-from c =
    let finish = c.finish.ensures in
    let g = c.requires.going.0 in
    let quiet = top_quiet c.requires.in_rows c.requires.room g c.requires.p_nonzero c.from-top.ensures c.from.ensures c.in_default.ensures in
    let same = c.if-top-from.true ∙ c.from-2.ensures in
    let r = found_turn c.requires.in_rows g c.requires.p_nonzero c.from-top.ensures quiet same finish.smallest finish.left c.requires.going.1 in record {
      going_2 = (r.0, r.1);
      nearer = record { kept = λ x f. f; less = omega (arith, c.requires.p_nonzero) };
    }

pub returns : goal.returns
returns c =
    let g = c.requires.going.0 in
    let quiet = top_quiet c.requires.in_rows c.requires.room g c.requires.p_nonzero c.from-top.ensures c.from.ensures c.in_default.ensures in record {
      going_2 = (search_back c.requires.in_rows g c.requires.p_nonzero c.from-top.ensures quiet (λ z. c.if-top-from.false (z ∙ sym c.from-2.ensures)), c.requires.going.1);
      nearer = record { kept = λ x f. f; less = omega (arith, c.requires.p_nonzero) };
    }
