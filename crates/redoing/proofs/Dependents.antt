-- Order 4's claim of one pair: once the values that are the number's owner or reach it have been redone, in the plan's sequence, and no
-- others, the results are those of the table with the number put in.
use mathlib.Core.Path.{◌≡◌, refl, sym, ap, subst, ◌∙◌}
use mathlib.Core.Bool.{Bool, true, false}
use mathlib.Core.List.{List, ◌∷◌, ◌++◌}
use mathlib.Core.Logic.{inl, inr}
use Prim.Native.Nat.{ℕ, ◌*◌, ◌≤◌}
use native.Mathlib.Omega.{arith}
use lib.IntN.{ℤ, nat_abs}
use lib.ListN.{length}
use Rattle.kinds.specs.Kinds.{value_code, number_code, takes}
use Rattle.kinds.proofs.Codes.{other_takes}
use Rattle.cells.specs.Cells.{zeros}
use Rattle.cells.specs.Limits.{number_limit}
use Rattle.cells.specs.Table.{kind, owner, target, with_number}
use Rattle.cells.specs.Accepted.{Accepted}
use Rattle.cells.specs.Reaches.{Reaches}
use Rattle.order.specs.LabelLists.{count, ◌∈◌, filter}
use Rattle.order.specs.Order.{Proper, SameStructure}
use Rattle.order.specs.Evaluating.{Evaluation, down, label_cells}
use Rattle.order.proofs.Tests.{both_ways}
use Rattle.order.proofs.Lists.{count_parts, in_here, in_left, in_right, in_filter, count_filter_le}
use Rattle.order.proofs.Proper.{listed_once, listed_value, proper_no_cycle}
use Rattle.order.proofs.Evaluating.{run_append, run_fits, run_other, run_solves, run_rest}
use Rattle.numbers.specs.declared.Arithmetic.{Arithmetic}
use Rattle.evaluation.specs.declared.Value.{Value}
use Rattle.evaluation.specs.Results.{stored}
use Rattle.evaluation.specs.Evaluation.{value_of, evaluated}
use Rattle.evaluation.proofs.Local.{Concerns, SameAnswer, value_local}
use Rattle.evaluation.proofs.Stored.{store_length}
use Rattle.figures.specs.Figures.{figures, value_cells, result_cells, Evaluated, evaluate_into}
use Rattle.figures.specs.Entered.{EntersRead}
use Rattle.figures.proofs.Rows.{same_stored, buffer_length}
use Rattle.figures.proofs.Working.{store_own, store_other, value_label, value_rows, working, figures_solve, figures_stored, figures_only}
use Rattle.figures.proofs.Early.{entered_read}
use Rattle.redoing.specs.Redone.{Redone, is_redone, redone_of}
use Rattle.redoing.specs.PairRedone.{PairRedone}
use Rattle.redoing.proofs.Numbers.{number_accepted, number_structure, number_line}
use Rattle.redoing.proofs.Structure.{proper_on, redone_on, redone_list_same}
use Rattle.redoing.proofs.Redone.{redone_reaches, redone_test, not_redone, filter_cut, passing, down_filter, redone_exactly, redone_once, redone_many}

-- ---- the number z in N line l

module _ (α : Arithmetic) (t : List ℤ) (n : ℕ) (ok : Accepted t n) (o : List ℕ) (p : Proper t o) (l : ℕ) (line : kind t l ≡ number_code) (z : ℤ) (range : nat_abs z ≤ number_limit) where
  abbrev u : List ℤ
  u = with_number l z t

  abbrev d : ℕ
  d = owner t l

  same : SameStructure t u
  same = number_structure t l z

  ok_after : Accepted u n
  ok_after = number_accepted t n ok l line z range

  proper : Proper u o
  proper = proper_on same p

  value_before : (v : ℕ) → kind u v ≡ value_code → kind t v ≡ value_code
  value_before v k = sym (same.kinds v) ∙ k

  -- the line does not concern a value that is not redone
  apart : (v : ℕ) → kind t v ≡ value_code → (Redone t d v → ⊥) → Concerns t v l → ⊥
  apart v k h (inl (inl e)) = omega (arith, line, ap (kind t) e)
  apart v k h (inl (inr (f, r))) = omega (arith, ap takes line, other_takes number_code (tt, λ e. omega arith))
  apart v k h (inr (inl e)) = h (inl (sym e))
  apart v k h (inr (inr (f, r))) = h (inr r)

  -- which comes to the same in both tables
  unchanged : (r r' : List ℤ) (v : ℕ) → kind t v ≡ value_code → (Redone t d v → ⊥)
      → ((w : ℕ) → kind t w ≡ value_code → Reaches t v w → label_cells 3 r w ≡ label_cells 3 r' w) → evaluated α t r v ≡ evaluated α u r' v
  unchanged r r' v k h rows =
      ap value_of (value_local α t u r r' n ok v (λ x c. number_line t l z x (λ e. apart v k h (subst (Concerns t v) e c))) answers k)
    where
      answers : (w : ℕ) → kind t w ≡ value_code → Reaches t v w → SameAnswer r r' w
      answers w i j = let e = same_stored r r' w (rows w i j) in record { state = ap (λ (x : Value). x.state) e; number = ap (λ (x : Value). x.number) e }

  module _ (q : ℕ) (fit : 3 * n ≤ q) where
    -- the results before
    abbrev old : List ℤ
    old = result_cells α t n q

    abbrev test : ℕ → Bool
    test = is_redone t n d

    old_length : length old ≡ q
    old_length = buffer_length (figures α t n) n q fit

    kept : (v : ℕ) → test v ≡ false → Redone t d v → ⊥
    kept v e h = both_ways (test v) ((redone_test t n ok v d).1 h) e

    kept_reached : (v w : ℕ) → test v ≡ false → Reaches t v w → test w ≡ false
    kept_reached v w e r = not_redone t n ok w d (λ h. kept v e (redone_reaches v w d r h))

    -- results in which what is not redone stands as before
    abbrev Stands : List ℤ → Type 0
    Stands r = (length r ≡ q) × ((w : ℕ) → test w ≡ false → label_cells 3 r w ≡ label_cells 3 old w)

    -- the results once v's turn is over
    abbrev turn : List ℤ → ℕ → List ℤ
    turn = passing test (evaluate_into α u)

    turn_stands : (r : List ℤ) (v : ℕ) → Stands r → (b : Bool) → test v ≡ b → Stands (turn r v)
    turn_stands r v (e, h) true i = rw i (
      store_length r v (evaluated α u r v) ∙ e,
      λ w j. store_other r v (evaluated α u r v) w (λ (x : w ≡ v). both_ways (test v) i (subst (λ (y : ℕ). test y ≡ false) x j)) ∙ h w j,
    )
    turn_stands r v h false i = rw i h

    -- what is passed over holds what it would come to
    turn_own : (r : List ℤ) (v : ℕ) → kind u v ≡ value_code → Stands r → (b : Bool) → test v ≡ b → label_cells 3 (turn r v) v ≡ value_cells (evaluated α u r v)
    turn_own r v k (e, h) true i = let b = value_label u n ok_after v k in rw i (store_own r v (evaluated α u r v) b.0 (omega (arith, b.1)))
    turn_own r v k (e, h) false i =
        rw i (h v i ∙ (figures_solve α t n ok q fit (proper_no_cycle p)).values v (value_before v k)
        ∙ ap value_cells (unchanged old r v (value_before v k) (kept v i) (λ w _ j. sym (h w (kept_reached v w i j)))))

    turn_other : (r : List ℤ) (v w : ℕ) → (w ≡ v → ⊥) → (b : Bool) → test v ≡ b → label_cells 3 (turn r v) w ≡ label_cells 3 r w
    turn_other r v w e true i = rw i (store_other r v (evaluated α u r v) w e)
    turn_other r v w e false i = rw i

    -- so passing over it is an evaluation of the table after, as `order` asks for one
    abbrev redoing : Evaluation u (List ℤ) (List ℤ)
    redoing = record {
      Fits = Stands;
      stored = label_cells 3;
      result = λ r v. value_cells (evaluated α u r v);
      evaluate = turn;
      fits = λ r v k h. turn_stands r v h (test v) refl;
      own = λ r v k h. turn_own r v k h (test v) refl;
      other = λ r v w k h e. turn_other r v w e (test v) refl;
      local = λ r r' v k h h' rows. ap value_cells (value_rows α u n ok_after r r' v k rows);
    }

    -- ---- down the order

    abbrev redone : List ℕ
    redone = redone_of t n d o

    abbrev end : List ℤ
    end = down (evaluate_into α u) redone old

    old_stands : Stands old
    old_stands = (old_length, λ w _. refl)

    ends : down turn o old ≡ end
    ends = down_filter test (evaluate_into α u) o old

    end_stands : Stands end
    end_stands = subst Stands ends (run_fits u redoing o (listed_value proper) old old_stands)

    end_solves : Evaluated α u end
    end_solves = record {
      values = λ v k. subst (λ (r : List ℤ). label_cells 3 r v ≡ value_cells (evaluated α u r v)) ends (run_solves u redoing o proper old old_stands v k);
      others = λ m h.
          ap (λ (r : List ℤ). label_cells 3 r m) (sym ends) ∙ run_rest u redoing o proper old old_stands m h
          ∙ (figures_solve α t n ok q fit (proper_no_cycle p)).others m (λ k. h (same.kinds m ∙ k))
          ∙ ap (λ (i : ℕ). label_cells 3 (zeros i) m) (old_length ∙ sym end_stands.0);
    }

    -- one comes to the results of the table after
    end_figures : end ≡ result_cells α u n q
    end_figures =
        figures_only α u n ok_after (proper_no_cycle proper) end (omega (arith, end_stands.0)) end_solves ∙ ap (result_cells α u n) end_stands.0

    -- what is not redone has the figures that it had
    others : (v : ℕ) → (Redone t d v → ⊥) → figures α u n v ≡ figures α t n v
    others v h =
        sym (figures_stored α u n ok_after q fit v) ∙ ap (λ (r : List ℤ). stored r v) (sym end_figures)
        ∙ same_stored end old v (end_stands.1 v (not_redone t n ok v d h)) ∙ figures_stored α t n ok q fit v

    redone_value : (v : ℕ) → v ∈ redone → kind u v ≡ value_code
    redone_value v m = listed_value proper v (in_filter test v o m).0

    -- at the turn of one that is redone, those that it reaches have been or are not
    module _ (a : List ℕ) (v : ℕ) (b : List ℕ) (e : redone ≡ a ++ v ∷ b) where
      front : (x : ℕ) → x ∈ a → kind u x ≡ value_code
      front x m = redone_value x (rw e (in_left x a (v ∷ b) m))

      back : (x : ℕ) → x ∈ v ∷ b → kind u x ≡ value_code
      back x m = redone_value x (rw e (in_right x a (v ∷ b) m))

      earlier : (w : ℕ) → kind u w ≡ value_code → Reaches u v w → w ∈ v ∷ b → ⊥
      earlier w k r m = go (filter_cut test o a v b e)
        where
          go : (a₁ : List ℕ) × (b₁ : List ℕ) × (o ≡ a₁ ++ v ∷ b₁) × (filter test b₁ ≡ b) → ⊥
          go (a₁, b₁, i, j) =
              omega (arith, proper.after a₁ v b₁ i w k r, listed_once proper w k, count_parts w a₁ (v ∷ b₁) i, count_filter_le test w b₁, ap (count w) j)

      abbrev now : List ℤ
      now = down (evaluate_into α u) a old

      -- every R entered finds its target's figures of the table after
      found : (x : ℕ) → EntersRead α u now v x → stored now (target u x) ≡ figures α u n (target u x)
      found x i =
          let w = entered_read u n ok_after v α now x (back v (in_here v b)) i in
          sym (same_stored (down (evaluate_into α u) (v ∷ b) now) now (target u x)
          (run_other u (working α u n ok_after) (v ∷ b) back (target u x) (earlier (target u x) w.0 w.1) now (run_fits u (working α u n ok_after) a front old (omega (arith, old_length)))))
          ∙ ap (λ (r : List ℤ). stored r (target u x))
          (sym (run_append u (working α u n ok_after) a (v ∷ b) old) ∙ ap (λ (c : List ℕ). down (evaluate_into α u) c old) (sym e) ∙ end_figures)
          ∙ figures_stored α u n ok_after q fit (target u x)

    -- ---- in the words of the table after

    redone_again : redone_of u n d o ≡ redone
    redone_again = redone_list_same same n d o

    pub pair_reached : down (evaluate_into α (with_number l z t)) (redone_of (with_number l z t) n (owner t l) o) (result_cells α t n q) ≡ result_cells α (with_number l z t) n q
    pair_reached = ap (λ (c : List ℕ). down (evaluate_into α u) c old) redone_again ∙ end_figures

    pub pair_redone : PairRedone α t (with_number l z t) n (owner t l) o q
    pair_redone = record {
      exactly = redone_exactly u n ok_after o proper d;
      once = redone_once u n ok_after o proper d;
      many = redone_many u n ok_after o proper d;
      reached = pair_reached;
      others = λ v h. others v (λ r. h (redone_on same d v r));
      found = λ a v b e. found a v b (sym redone_again ∙ e);
    }
