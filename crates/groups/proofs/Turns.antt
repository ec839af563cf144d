-- One Group put in order, and the turns of `order_groups`.
use mathlib.Core.Path.{◌≡◌, sym, ap, ◌∙◌, subst}
use mathlib.Core.List.{List}
use mathlib.Core.Bool.{true, false, not}
use Rattle.std.specs.Prelude.{Option}
use Prim.Native.Nat.{ℕ, ◌+◌, ◌≤◌, ◌<◌}
use native.Mathlib.Omega.{arith}
use native.Mathlib.Decide.{ℕ_discrete}
use lib.IntN.{ℤ}
use lib.ListN.{length, get_or, take}
use lib.Seq.{length-take-le}
use borrow.Author.Tests.{eq-eqb, ne_eqb}
use Rattle.cells.specs.Accepted.{Accepted}
use Rattle.order.specs.LabelLists.{count, ◌∈◌}
use Rattle.order.specs.Placing.{placed}
use Rattle.order.specs.Order.{members, needs, group_tangled}
use Rattle.order.proofs.Untangled.{stuck_tangled, blocks_ordered}
use Rattle.placing.specs.UnmetCounts.{Placed}
use Rattle.groups.specs.Members.{Gathered, NeedRowsFrom}
use Rattle.groups.proofs.Orders.{items_many, items_few, member_items}
use Rattle.groups.specs.Opened.{expanded, Opened, Progress, Stopped, GroupOrder, GroupOrders}
use Rattle.groups.proofs.Expanded.{expanded_plain, expanded_label, expanded_once}
use Rattle.groups.proofs.Progress.{progress_open, skip_plain, progress_skip, progress_turn, plain_cleared}

-- ---- which Group it is

-- ---- the members of a Group

module _ (t : List ℤ) (n : ℕ) (ok : Accepted t n) (g : ℕ) where
  module _ (items : List ℕ) (m : ℕ) (ga : Gathered (members t n g) items m) where
    is : take m items ≡ members t n g
    is = ga.cells

    module _ (order : List ℕ) (room : n < length order) (r : ℕ) (pl : Placed (needs t n) (take m items) order r) where
      order_is : take r order ≡ placed (needs t n) (members t n g)
      order_is = pl.cells ∙ ap (placed (needs t n)) is

      pub order_short : r ≤ n
      order_short = omega (arith, pl.within, items_few t n ok (take m items) (member_items t n ok g items m ga))

      many : r ≡ length (placed (needs t n) (members t n g))
      many = sym (length-take-le r order (omega (arith, order_short))) ∙ ap length order_is

      pub order_stuck : (r ≡ m → ⊥) → group_tangled t n g ≡ true
      order_stuck d =
          sym (stuck_tangled t n ok g)
          ∙ ap not (ne_eqb (length (placed (needs t n) (members t n g))) (length (members t n g)) (λ z. d (many ∙ z ∙ sym (items_many (members t n g) items m ga))))

      module _ (e : r ≡ m) where
        pub order_free : group_tangled t n g ≡ false
        order_free =
            sym (stuck_tangled t n ok g)
            ∙ ap not (eq-eqb (length (placed (needs t n) (members t n g))) (length (members t n g)) (sym many ∙ e ∙ items_many (members t n g) items m ga))

        pub order_expanded : take r order ≡ expanded t n g
        order_expanded = order_is ∙ sym (blocks_ordered t n ok g order_free) ∙ sym (expanded_plain t n ok g order_free)

        pub order_labels : (x : ℕ) → x ∈ take r order → (1 ≤ x) × (x ≤ n)
        order_labels x i = expanded_label t n ok g x (subst (λ (l : List ℕ). x ∈ l) order_expanded i)

        pub order_once : (x : ℕ) → count x (take r order) ≤ 1
        order_once x = omega (arith, ap (count x) order_expanded, expanded_once t n ok g x)

-- ---- the turns of `order_groups`

-- the Groups from `from` up to g are in order; those of them that are not opened have no block of several
pub record Going (t : List ℤ) (n from g : ℕ) (next : List ℕ) : Type 0 where
  pub low : from ≤ g
  pub high : g ≤ n + 1
  pub progress : Progress t n g next
  pub free : (h : ℕ) → from ≤ h → h < g → (Opened t n h h → ⊥) → group_tangled t n h ≡ false

module _ (t : List ℤ) (n : ℕ) (ok : Accepted t n) (from : ℕ) (some : 1 ≤ from) where
  module _ (g : ℕ) (next : List ℕ) (k : Going t n from g next) (l : g ≤ n) where
    more : ((Opened t n g g → ⊥) → group_tangled t n g ≡ false) → (h : ℕ) → from ≤ h → h < g + 1 → (Opened t n h h → ⊥) → group_tangled t n h ≡ false
    more f h a b = go (ℕ_discrete g h)
      where
        go : Dec (g ≡ h) → (Opened t n h h → ⊥) → group_tangled t n h ≡ false
        go (yes e) = subst (λ (z : ℕ). (Opened t n z z → ⊥) → group_tangled t n z ≡ false) e f
        go (no e) = k.free h a (omega arith)

    pub going_skip : get_or next g 0 ≡ 0 → Going t n from (g + 1) next
    going_skip z = record {
      low = omega (arith, k.low);
      high = omega arith;
      progress = progress_skip t n ok g next k.progress (omega (arith, k.low)) l z;
      free = more (skip_plain t n ok g next k.progress (omega (arith, k.low)) l z);
    }

    module _ (z : get_or next g 0 ≡ 0 → ⊥) (next' : List ℕ) where
      pub going_turn : GroupOrder t n g next next' false → Going t n from (g + 1) next'
      going_turn o = record {
        low = omega (arith, k.low);
        high = omega arith;
        progress = progress_turn t n ok g next k.progress (omega (arith, k.low)) l (progress_open t n ok g next k.progress (omega (arith, k.low)) l z) next next'
            (plain_cleared t n ok g next o.1) o.0;
        free = more (λ f. o.1);
      }

-- ---- what it answers

-- what `order_groups` answers, with rows from `from` on
pub stopped : (t : List ℤ) (n : ℕ) → Accepted t n → (from : ℕ) (r : Option ℕ) (next square : List ℕ) → 1 ≤ from → NeedRowsFrom t n from square → GroupOrders t n from next r
    → Stopped t n r next square
stopped t n ok from r next square lo rows o = record {
  all = o.all;
  turn = λ g e.
      let s = o.stuck g e in
      record { low = omega (arith, s.0); high = s.1; progress = s.2; free = progress_open t n ok g next s.2 (omega (arith, s.0)) s.1 s.3 };
  rows = λ g e p q hp hq l. rows p q hp hq (omega (arith, (o.stuck g e).0));
}
