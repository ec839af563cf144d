-- What the state of the search gives its functions: indices in range, and what the marks at the top of the path say.
use mathlib.Core.Path.{◌≡◌, sym, ap, ◌∙◌, subst}
use mathlib.Core.List.{List}
use mathlib.Core.Bool.{true, false}
use Prim.Native.Nat.{ℕ, ◌-◌, ◌≤◌, ◌<◌}
use native.Mathlib.Omega.{arith}
use lib.ListN.{length, get_or}
use Rattle.order.specs.LabelLists.{◌∈◌}
use Rattle.order.proofs.Tests.{both_ways, not_so}
use Rattle.order.proofs.Lists.{filter_in}
use Rattle.marks.specs.Marks.{mark}
use Rattle.marks.proofs.Squares.{mark_in}
use Rattle.placing.specs.UnmetCounts.{needed, InRows}
use Rattle.blocks.specs.Found.{Room}
use Rattle.blocks.specs.Search.{Search, Pushable}
use Rattle.blocks.proofs.Reaching.{positions_few}
use Rattle.blocks.proofs.Steps.{needed_of, needed_row, stack_item, stacked_item, some_start}

module _ {items square mask fresh stacked stack place starts path lead : List ℕ} {w n b p : ℕ} (rows : InRows items square mask w)
    (space : Room items fresh stacked stack place starts path lead w) (g : Search items square mask fresh stacked stack place starts path w n b p) where
  pub bounds : (b ≤ n) × (p ≤ n) × (n ≤ length items) × (n < 65536)
  bounds = (positions_few starts b n g.cuts, positions_few path p n g.steps, omega (arith, g.room), omega (arith, g.room, space.few))

  -- the top of the path, and what stands there
  module _ {s v : ℕ} (some : 0 < p) (top : s ≡ get_or path (p - 1) 0) (here : v ≡ get_or stack s 0) where
    top_within : s < n
    top_within = omega (arith, g.steps.under (p - 1) (omega arith))

    pub top_item : v ∈ items
    top_item = subst (λ (x : ℕ). x ∈ items) (sym here) (stack_item rows g s top_within)

    pub top_needed : (q : ℕ) → mark square w v q ≡ true → mark fresh w 0 q ≡ true → needed square mask w q (get_or stack (get_or path (p - 1) 0) 0) ≡ true
    top_needed q m f =
        let at : v ≡ get_or stack (get_or path (p - 1) 0) 0 = here ∙ ap (λ (i : ℕ). get_or stack i 0) top in
        needed_of square mask w q (get_or stack (get_or path (p - 1) 0) 0) (g.stack_in (get_or path (p - 1) 0) (omega (arith, top_within)))
        (subst (λ (y : ℕ). mark square w y q ≡ true) at m) (g.fresh_in q f)

    pub top_quiet : ((q : ℕ) → mark fresh w 0 q ≡ true → mark square w v q ≡ false) → (x : ℕ) → mark fresh w 0 x ≡ true → needed square mask w x (get_or stack s 0) ≡ false
    top_quiet none x f = not_so (needed square mask w x (get_or stack s 0)) (λ r.
        both_ways (mark square w v x) (ap (λ (y : ℕ). mark square w y x) here ∙ needed_row square mask w x (get_or stack s 0) r) (none x f))

  pub starts_in : 0 < p → (0 < b) × (b ≤ length starts)
  starts_in some = (
    some_start rows g some,
    omega (arith, bounds.0, bounds.2, space.starts_room),
  )

  pub pushable : (q : ℕ) → mark fresh w 0 q ≡ true → Pushable square fresh stacked stack place starts path w q n b p
  pushable q f =
      let item = rows.masked q (g.fresh_in q f) in
      let more = filter_in (mark fresh w 0) items q item f in
      let below : n < length items = omega (arith, g.room) in
      record {
        narrow = rows.narrow;
        low = mark_in fresh w 0 q f;
        row = rows.rows q item;
        unmet = f;
        fresh_room = space.fresh_room;
        stacked_room = space.stacked_room;
        stack_room = omega (arith, space.stack_room);
        place_room = space.placed q item;
        starts_room = omega (arith, space.starts_room, bounds.0);
        path_room = omega (arith, space.path_room, bounds.1);
        small = bounds.3;
        few_starts = bounds.0;
        few_steps = bounds.1;
        placed = λ x m. space.placed x (stacked_item rows g x m);
      }

  pub leads_in : (k : ℕ) → k < n → (mark stacked w 0 (get_or stack k 0) ≡ true) × (get_or stack k 0 < length lead)
  leads_in k h = (
    (g.on k h).0,
    space.leads_room (get_or stack k 0) (stack_item rows g k h),
  )
