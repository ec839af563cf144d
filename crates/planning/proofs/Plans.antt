-- The three answers of planning, by row 16 and by whether some Group is stuck; and the plan's cells.
use mathlib.Core.Path.{◌≡◌, refl, sym, ap, ◌∙◌, subst}
use mathlib.Core.List.{List, ◌++◌, map}
use mathlib.Core.Bool.{true, false}
use mathlib.Core.Option.{Option, none, some}
use Prim.Native.Nat.{ℕ, zero, suc, ◌*◌, ◌≤◌, ◌<◌}
use native.Mathlib.Omega.{arith}
use lib.IntN.{ℤ, pos}
use lib.ListN.{length, drop, replicate, take-append-drop}
use Rattle.cells.specs.Table.{owner}
use Rattle.cells.specs.Accepted.{Accepted}
use Rattle.cells.proofs.Scratch.{long, zero_at}
use Rattle.order.specs.Order.{first_cycle, sheet_tangled, or_zero, place16, plan_order, whole, mixed, plan}
use Rattle.order.proofs.Planned.{cycle_smallest, cycle_none, order_short}
use Rattle.order.proofs.Tables.{owner_below}
use Rattle.order.proofs.BlockPlan.{order_proper}
use Rattle.std.specs.Prelude.{Ok, Some, None}
use Rattle.std.specs.Prelude as maybe
use Rattle.std.specs.Option as tested
use Rattle.reach.specs.MarkRows.{width}
use Rattle.groups.specs.Members.{Scratch}
use Rattle.reach.specs.Chains.{Empty}
use Rattle.groups.specs.Opened.{Opened}
use Rattle.groups.proofs.Progress.{within_le}
use Rattle.planning.specs.declared.Plan.TheVariants.{Whole, Mixed}
use Rattle.planning.specs.Listing.{list_of, PutAt}
use Rattle.planning.specs.Plans.{PlanIs}
use Rattle.planning.proofs.Listing.{whole_list}

-- ---- whether some Group is stuck

pub is_none : (o : maybe.Option ℕ) → tested.is_some o ≡ false → o ≡ None
is_none None e = refl
is_none (Some g) e = cc

pub is_some : (o : maybe.Option ℕ) → tested.is_some o ≡ true → (g : ℕ) × (o ≡ Some g)
is_some None e = absurd cc
is_some (Some g) e = (g, refl)

-- ---- the plan's cells

put_cells : (l : List ℕ) (plan plan' : List ℤ) (r : ℕ) → PutAt l 0 plan plan' r → plan' ≡ map pos l ++ drop (length l) plan
put_cells l plan plan' r p =
    let e : r ≡ length l = omega (arith, p.end) in
    sym (take-append-drop r plan') ∙ ap (λ (x : List ℤ). x ++ drop r plan') p.cells ∙ ap (λ (x : List ℤ). map pos l ++ x) p.rest ∙ ap (λ (k : ℕ). map pos l ++ drop k plan) e

module _ (t : List ℤ) (n : ℕ) (ok : Accepted t n) where
  -- ---- row 16

  no_cycle : place16 t n ≡ 0 → first_cycle t n ≡ none
  no_cycle z = go (first_cycle t n) refl
    where
      go : (c : Option ℕ) → first_cycle t n ≡ c → first_cycle t n ≡ none
      go none e = e
      go (some zero) e = let c = cycle_smallest t n ok 0 e in absurd (omega (arith, c.value))
      go (some (suc v)) e =
          let y : suc v ≡ 0 = sym (ap or_zero e) ∙ z in
          absurd (omega arith)

  -- ---- whole, or mixed

  pub plan_short_lem : place16 t n ≡ 0 → length (list_of t n 1) ≤ n
  plan_short_lem z = omega (arith, ap length (whole_list t n ok), order_short t n ok (plan_order t n) (order_proper t n ok (cycle_none t n ok (no_cycle z))))

  module _ (p p' : List ℤ) (r : ℕ) (z : place16 t n ≡ 0) (put : PutAt (list_of t n 1) 0 p p' r) where
    as_plan : PutAt (plan_order t n) 0 p p' r
    as_plan = subst (λ (l : List ℕ). PutAt l 0 p p' r) (whole_list t n ok) put

    many : r ≡ length (plan_order t n)
    many = omega (arith, as_plan.end)

    pub plan_whole : sheet_tangled t n ≡ false → PlanIs (plan t n) p p' (Ok (Whole r))
    plan_whole f =
        let e : plan t n ≡ whole (plan_order t n) = rw (no_cycle z, f) in
        rw e (record { reply = ap (λ (k : ℕ). Ok (Whole k)) many; cells = put_cells (plan_order t n) p p' r as_plan })

    pub plan_mixed : sheet_tangled t n ≡ true → PlanIs (plan t n) p p' (Ok (Mixed r))
    plan_mixed f =
        let e : plan t n ≡ mixed (plan_order t n) = rw (no_cycle z, f) in
        rw e (record { reply = ap (λ (k : ℕ). Ok (Mixed k)) many; cells = put_cells (plan_order t n) p p' r as_plan })

  -- the outermost Group is not opened
  pub top_free : (g : ℕ) → Opened t n g 1 → ⊥
  top_free g o = go o.member o.some (within_le t n ok o.member 1 o.inside)
    where
      go : (p : ℕ) → 1 ≤ owner t p → p ≤ 1 → ⊥
      go zero h l = omega arith
      go (suc p) h l = omega (arith, owner_below t n ok (suc p) (omega arith))

-- ---- scratch that is all 0

-- what `link_members` and `order_groups` ask of it, for n labels below k, rows of b words and chains of l cells
module _ (n k b l : ℕ) where
  abbrev pub Fresh : Type 0
  Fresh =
      ((2 * n < length (replicate {0} {A = ℕ} l 0)) × Empty n (replicate l 0))
      × ((n < length (replicate {0} {A = ℕ} k 0)) × Scratch n (replicate b 0) (replicate k 0) (replicate b 0) (replicate k 0))

  pub zero_lists : n < k → width n ≤ b → 2 * n < l → Fresh
  zero_lists h g c = (
    (omega (arith, long l), λ d e. zero_at l d),
    (
      omega (arith, long k),
      record {
        masks = omega (arith, long b);
        counts = omega (arith, long k);
        readies = omega (arith, long b);
        orders = omega (arith, long k);
      },
    ),
  )
