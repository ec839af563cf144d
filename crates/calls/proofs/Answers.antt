-- Row 16 and the plan of an accepted table: reply, table and plan, answer by answer; and what they mean in demand 3's words.
use mathlib.Core.Path.{◌≡◌, refl, sym, ap, ◌∙◌}
use Rattle.std.specs.Prelude.{Result, Ok, Err}
use mathlib.Core.Bool.{Bool, true, false}
use mathlib.Core.List.{List, [], ◌∷◌, ◌++◌, map}
use mathlib.Core.Option.{Option, none, some}
use Prim.Native.Nat.{ℕ, zero, suc, ◌-◌, ◌≤◌}
use native.Mathlib.Omega.{arith}
use lib.IntN.{ℤ, pos}
use lib.ListN.{length, take, drop, length-map, length-drop}
use lib.Seq.{take_at}
use Rattle.cells.specs.Cells.{zeros}
use Rattle.cells.specs.Clearing.{clear_from}
use Rattle.cells.specs.Accepted.{Accepted}
use Rattle.cells.proofs.Clearing.{clear_all}
use Rattle.refusals.specs.Rows.{cycle_row}
use Rattle.refusals.specs.Refusal.{Verdict, Fine, Refused}
use Rattle.order.specs.Order.{Within, first_cycle, sheet_tangled, Answer, cycle, whole, mixed, plan}
use Rattle.order.specs.PlanMeans as demand
use Rattle.order.specs.Rows16to18.{cycle_bad}
use Rattle.order.proofs.Joined.{none_consecutive}
use Rattle.order.proofs.Following.{labels_cells}
use Rattle.order.proofs.Planned.{cycle_smallest, planned, order_short}
use Rattle.planning.specs.PlanLength.{plan_length}
use Rattle.planning.specs.Plans.{PlanIs}
use Rattle.planning.specs.declared.Plan.{Plan}
use Rattle.planning.specs.declared.Cycle.{Cycle}
use Rattle.calls.specs.Plan.{answer_by, listed_by, plan_refusal, length_of, is_answer, PlanReply}
use Rattle.calls.specs.Demand.{PlanKept}
use Rattle.calls.specs.CallStages.{kept_by, cells_to, TablePlans}
use Rattle.planning.specs.declared.Plan.TheVariants as reply

-- ---- cells

clear_behind : (l r : List ℤ) → clear_from (length l) (l ++ r) ≡ l ++ zeros (length r)
clear_behind [] r = clear_all r
clear_behind (x ∷ l) r = ap (λ (y : List ℤ). x ∷ y) (clear_behind l r)

-- an order put into a plan p, and zeros behind it
listed_cells : (o : List ℕ) (p : List ℤ) → clear_from (length o) (map pos o ++ drop (length o) p) ≡ map pos o ++ zeros (length p - length o)
listed_cells o p =
    ap (λ (k : ℕ). clear_from k (map pos o ++ drop (length o) p)) (sym (length-map o pos))
    ∙ clear_behind (map pos o) (drop (length o) p)
    ∙ ap (λ (k : ℕ). map pos o ++ zeros k) (length-drop (length o) p)

taken : (o : List ℕ) (k : ℕ) → take (length o) (map pos o ++ zeros k) ≡ map pos o
taken o k = take_at (map pos o) (zeros k) (length o) (length-map o pos)

-- ---- row 16, told by the plan

abbrev pub cycle_of : Answer → Verdict
cycle_of (cycle v) = Refused cycle_row v
cycle_of (whole o) = Fine
cycle_of (mixed o) = Fine

pub answers_number : (r : PlanReply) → is_answer r ≡ true → plan_refusal r ≡ 0
answers_number (Err z) e = let z : ◌≡◌ {A = ℕ} 0 1 = cc in absurd (omega arith)
answers_number (Ok (reply.Whole k)) e = refl
answers_number (Ok (reply.Mixed k)) e = refl

pub answers_fine : (v : Verdict) (a : Answer) → is_answer (answer_by v a) ≡ true → v ≡ Fine
answers_fine (Ok _) a e = refl
answers_fine (Err r) a e = let z : ◌≡◌ {A = ℕ} 0 1 = cc in absurd (omega arith)

-- what an answer means, in demand 3's words
means : (t : List ℤ) (p : ℕ) (a : Answer) → demand.PlanMeans t a → PlanKept t (answer_by (cycle_of a) a) (listed_by (cycle_of a) a p)
means t p (cycle v) (_, h) = record {
  refuses = (λ _. h, λ _. refl);
  answers = λ o q. absurd (h o q);
  proper = λ e. absurd (omega arith);
  whole = λ o q _. absurd (h o q);
  mixed = λ o q _. absurd (h o q);
  side_by_side = λ g _ _. none_consecutive (Within t g);
}
means t p (whole o) (q, w, c) = record {
  refuses = (λ e. absurd (omega arith), λ h. absurd (h o q));
  answers = λ _ _. refl;
  proper = λ _. record { order = o; same = taken o (p - length o); proper = q };
  whole = λ _ _ _. (refl, rw (taken o, labels_cells o) w);
  mixed = λ _ _ h. absurd (h o q w);
  side_by_side = rw (taken o, labels_cells o) c;
}
means t p (mixed o) (q, h, c) = record {
  refuses = (λ e. absurd (omega arith), λ g. absurd (g o q));
  answers = λ _ _. refl;
  proper = λ _. record { order = o; same = taken o (p - length o); proper = q };
  whole = λ x y w. absurd (h x y w);
  mixed = λ _ _ _. refl;
  side_by_side = rw (taken o, labels_cells o) c;
}

-- ---- what planning made of a plan: the reply, and what is left of a table w and of the plan's cells p'

abbrev pub reply_made : Result Plan Cycle → PlanReply
reply_made (Ok made) = Ok made
reply_made (Err v) = Refused cycle_row v.label

abbrev pub table_made : Result Plan Cycle → List ℤ → List ℤ
table_made (Ok made) w = w
table_made (Err v) w = zeros (length w)

abbrev pub cells_made : Result Plan Cycle → List ℤ → List ℤ
cells_made (Ok made) p' = clear_from (plan_length made) p'
cells_made (Err v) p' = zeros (length p')

-- a plan is an answer, with its length
pub made_answers : (made : Plan) → is_answer (Ok made) ≡ true
made_answers (reply.Whole k) = refl
made_answers (reply.Mixed k) = refl

pub made_length : (made : Plan) → length_of (Ok made) ≡ plan_length made
made_length (reply.Whole k) = refl
made_length (reply.Mixed k) = refl

made_left : (w p p' : List ℤ) (r : Result Plan Cycle) (a : Answer) → PlanIs a p p' r
    → (reply_made r ≡ answer_by (cycle_of a) a) × ((table_made r w ≡ kept_by (cycle_of a) w) × (cells_made r p' ≡ listed_by (cycle_of a) a (length p)))
made_left w p p' r (cycle v) i = rw (i.reply, i.cells) (refl, (refl, refl))
made_left w p p' r (whole o) i = rw (i.reply, i.cells) (refl, (refl, listed_cells o p))
made_left w p p' r (mixed o) i = rw (i.reply, i.cells) (refl, (refl, listed_cells o p))

module _ (t : List ℤ) (n : ℕ) (ok : Accepted t n) where
  pub cycle_of_lem : cycle_bad t n ≡ cycle_of (plan t n)
  unfolding cycle_bad
  cycle_of_lem = go (first_cycle t n) refl (sheet_tangled t n) refl
    where
      go : (c : Option ℕ) → first_cycle t n ≡ c → (b : Bool) → sheet_tangled t n ≡ b → cycle_bad t n ≡ cycle_of (plan t n)
      go none e true f = rw (e, f)
      go none e false f = rw (e, f)
      go (some zero) e b f = let c = cycle_smallest t n ok 0 e in absurd (omega (arith, c.value))
      go (some (suc v)) e b f = rw e

  -- demand 3, as far as it speaks of Plan
  pub plan_kept : (p : ℕ) → PlanKept t (answer_by (cycle_bad t n) (plan t n)) (listed_by (cycle_bad t n) (plan t n) p)
  plan_kept p = rw cycle_of_lem (means t p (plan t n) (planned t n ok))

  -- an answer, and no refusal, is what row 16 lets pass, and its length is no more than n
  pub fine_answers : cycle_bad t n ≡ Fine → is_answer (answer_by (cycle_bad t n) (plan t n)) ≡ true
  fine_answers e = rw e (go (plan t n) (sym cycle_of_lem ∙ e))
    where
      go : (a : Answer) → cycle_of a ≡ Fine → is_answer (answer_by Fine a) ≡ true
      go (cycle v) f = let z : ◌≡◌ {A = ℕ} 0 1 = cc in absurd (omega arith)
      go (whole o) f = refl
      go (mixed o) f = refl

  pub length_few : length_of (answer_by (cycle_bad t n) (plan t n)) ≤ n
  length_few = rw cycle_of_lem (go (plan t n) (planned t n ok))
    where
      go : (a : Answer) → demand.PlanMeans t a → length_of (answer_by (cycle_of a) a) ≤ n
      go (cycle v) h = omega arith
      go (whole o) h = order_short t n ok o h.0
      go (mixed o) h = order_short t n ok o h.0

-- where planning made x of a plan p and left p', in a table w
pub table_plans : (n : ℕ) (w p p' : List ℤ) (r : Result Plan Cycle) → Accepted (cells_to n w) n → PlanIs (plan (cells_to n w) n) p p' r
    → (x : Result Plan Cycle) (u q : List ℤ) → r ≡ x → u ≡ table_made x w → q ≡ cells_made x p' → TablePlans n w (length p) (reply_made x) u q
table_plans n w p p' r ok is x u q e f g =
    let c = cycle_of_lem (cells_to n w) n ok in
    let k = made_left w p p' r (plan (cells_to n w) n) is in
    record { reply = rw (← e, c) k.0; table = rw (f, ← e, c) k.1.0; plan = rw (g, ← e, c) k.1.1 }
