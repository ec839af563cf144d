-- A pair applied to a table whose plan and results stand, and pairs applied in turn.
use mathlib.Core.Path.{◌≡◌, refl, sym, ap, ◌∙◌, fun_ext, subst, transport}
use mathlib.Core.List.{List, [], ◌∷◌, ◌++◌}
use Prim.Native.Nat.{ℕ, zero, suc, ◌+◌, ◌-◌, ◌*◌, ◌^◌, ◌≤◌, ◌<◌}
use native.Mathlib.Omega.{arith}
use native.Mathlib.Decide.{ℕ_discrete}
use lib.IntN.{ℤ, pos, nat_abs}
use lib.ListN.{length, take, drop, length-map, length-append}
use lib.Seq.{sets, length-sets, take-length}
use Rattle.kinds.specs.Kinds.{value_code, number_code}
use Rattle.cells.specs.Cells.{nat_of, nat_at, zeros}
use Rattle.cells.specs.Limits.{number_limit}
use Rattle.cells.specs.Table.{kind, owner, with_number}
use Rattle.cells.specs.Accepted.{Accepted}
use Rattle.cells.proofs.Accepted.{body_label}
use Rattle.cells.proofs.Stores.{sets_next}
use Rattle.order.specs.Order.{NoCycle, Proper, SameStructure}
use Rattle.order.specs.Following.{ProperList, labels_of}
use Rattle.order.specs.Evaluating.{down}
use Rattle.order.proofs.Lists.{filter_le}
use Rattle.order.proofs.Proper.{proper_no_cycle}
use Rattle.order.proofs.Planned.{order_short}
use Rattle.order.proofs.Following.{proper_list}
use Rattle.reach.specs.MarkRows.{MarkRow}
use Rattle.numbers.specs.declared.Arithmetic.{Arithmetic}
use Rattle.evaluation.specs.Results.{steps_at, stored, Recorded}
use Rattle.evaluation.specs.Evaluation.{step_limit}
use Rattle.evaluation.specs.Ready.{Ready}
use Rattle.evaluation.specs.declared.Value.{Value}
use Rattle.figures.specs.Figures.{blank, figures, result_cells, evaluate_into}
use Rattle.figures.proofs.Rows.{same_stored, stored_zeros, buffer_length}
use Rattle.figures.proofs.Working.{value_label, figures_solve, figures_value, figures_stored}
use Rattle.figures.proofs.Early.{figures_recorded}
use Rattle.figures.proofs.Loop.{listed}
use Rattle.redoing.specs.Pairs.{pair_count, pair_label, pair_number, PairRight, PairsRight, with_pairs}
use Rattle.redoing.specs.Redone.{is_redone, redone_of, redone_count, failing, step_sum, change_cells, change_of, changes_of}
use Rattle.redoing.specs.RedoStages.{Tallied, Redoable, Redid, WindowPart, OwnersMarked, Standing, PairApplied, PairsApplied}
use Rattle.redoing.specs.declared.Change.{Change}
use Rattle.redoing.proofs.Numbers.{number_length, number_structure, number_owner, number_accepted}
use Rattle.redoing.proofs.Structure.{structure_then, proper_on, proper_list_on, mark_row_on}
use Rattle.redoing.proofs.Redone.{redone_many}
use Rattle.redoing.proofs.Dependents.{pair_reached}
use Rattle.redoing.proofs.Sums.{failing_few, steps_few}
use Rattle.redoing.proofs.Windows.{part_few, part_cell, redid_part}

-- ---- results that stand

module _ (α : Arithmetic) (t : List ℤ) (n : ℕ) (ok : Accepted t n) (nc : NoCycle t) (m : ℕ) (fit : 3 * n ≤ m) where
  abbrev cells : List ℤ
  cells = result_cells α t n m

  -- what is no value has three zeros
  blank_stored : (l : ℕ) → (kind t l ≡ value_code → ⊥) → stored cells l ≡ blank
  blank_stored l d = same_stored cells (zeros (length cells)) l ((figures_solve α t n ok m fit nc).others l d) ∙ stored_zeros (length cells) l

  recorded : (l : ℕ) → Recorded 0 cells l
  recorded l = go (ℕ_discrete (kind t l) value_code)
    where
      go : Dec (kind t l ≡ value_code) → Recorded 0 cells l
      go (yes k) = let w = figures_recorded α t n ok nc m fit l k in record { least = omega arith; most = w.most; ranged = w.ranged }
      go (no d) =
          let e = blank_stored l d in
          record {
            least = omega arith;
            most = omega (arith, ap (λ (v : Value). v.state) e);
            ranged = λ h. rw (ap (λ (v : Value). v.number) e) (omega arith);
          }

-- ---- a pair

module _ (α : Arithmetic) (t : List ℤ) (n : ℕ) (plan r : List ℤ) (st : Standing α t n plan (length plan) r) where
  abbrev order : List ℕ
  order = labels_of plan

  listed_all : ProperList t plan
  listed_all = rw (take-length plan) at st.proper

  proper : Proper t order
  proper = (proper_list t plan).0 listed_all

  no_cycle : NoCycle t
  no_cycle = proper_no_cycle proper

  order_length : length order ≡ length plan
  order_length = length-map plan nat_of

  pub plan_few : length plan ≤ n
  plan_few = omega (arith, order_length, order_short t n st.accepted order proper)

  plan_value : (i : ℕ) → i < length plan → kind t (nat_at plan i) ≡ value_code
  plan_value = (listed t plan n (length r) st.accepted st.fit listed_all refl).values

  pub plan_labels : (i : ℕ) → i < length plan → nat_at plan i ≤ n
  plan_labels i h =
      (value_label t n st.accepted (nat_at plan i) (plan_value i h)).1

  -- no value has taken more than its allowance
  pub steps_standing : (l : ℕ) → steps_at r l ≤ step_limit
  steps_standing l = rw st.results (go (ℕ_discrete (kind t l) value_code))
    where
      go : Dec (kind t l ≡ value_code) → steps_at (result_cells α t n (length r)) l ≤ step_limit
      go (yes e) =
          let f = figures_stored α t n st.accepted (length r) st.fit l in
          let g = figures_value α t n st.accepted (length r) st.fit no_cycle l e in
          omega (arith, ap (λ (v : Value). v.steps) (f ∙ g))
      go (no d) = omega (arith, ap (λ (v : Value). v.steps) (blank_stored α t n st.accepted no_cycle (length r) st.fit l d))

  module _ (l : ℕ) (z : ℤ) (line : kind t l ≡ number_code) (range : nat_abs z ≤ number_limit) where
    abbrev u : List ℤ
    u = with_number l z t

    abbrev d : ℕ
    d = owner t l

    same : SameStructure t u
    same = number_structure t l z

    ok : Accepted u n
    ok = number_accepted t n st.accepted l line z range

    -- ---- what going down the plan asks

    ready : Ready u r
    ready = record {
      count = n;
      accepted = ok;
      room = st.fit;
      recorded = λ x. rw st.results (recorded α t n st.accepted no_cycle (length r) st.fit x);
    }

    module _ (square : List ℕ) (row : MarkRow t n 6 square (owner t l)) {part : List ℤ} (p : WindowPart square n plan (owner t l) part) where
      row_still : MarkRow u n 6 square d
      row_still = mark_row_on same n square d row

      value_still : (i : ℕ) → i < length plan → kind u (nat_at plan i) ≡ value_code
      value_still i h = same.kinds (nat_at plan i) ∙ plan_value i h

      pub pair_redoable : Redoable (with_number l z t) n r part square (owner t l)
      pair_redoable = record {
        accepted = ok;
        results = st.fit;
        ready = ready;
        evaluated = λ v e. rw st.results (figures_recorded α t n st.accepted no_cycle (length r) st.fit v (sym (same.kinds v) ∙ e)).least;
        few = omega (arith, part_few p, plan_few);
        values = λ i h. let (j, g, e) = part_cell p i h in rw e (value_still j g);
        body = rw (same.kinds d) (number_owner t n st.accepted l line);
        row = row_still;
      }

      -- going down the window is going down the plan
      pub pair_done : {c c' : Change} {r' : List ℤ} → Redid α (with_number l z t) n r (labels_of part) (owner t l) c r' c'
          → Redid α (with_number l z t) n r (labels_of plan) (owner t l) c r' c'
      pair_done = redid_part u n ok plan value_still square d row_still p

    -- ---- what it leaves

    module _ {c : Change} (none : c.redone ≡ 0) {r' : List ℤ} {c' : Change} (did : Redid α (with_number l z t) n r (labels_of plan) (owner t l) c r' c') where
      settled : r' ≡ result_cells α u n (length r)
      settled =
          did.results
          ∙ ap (down (evaluate_into α u) (redone_of u n d order)) st.results
          ∙ pair_reached α t n st.accepted order proper l line z range (length r) st.fit

      stored_is : stored r' ≡ figures α u n
      stored_is = fun_ext (λ x. ap (λ (w : List ℤ). stored w x) settled ∙ figures_stored α u n ok (length r) st.fit x)

      redone_is : c'.redone ≡ redone_count u n d
      redone_is = omega (arith, did.redone, none, redone_many u n ok order (proper_on same proper) d)

      failing_is : c'.failing ≡ failing (figures α u n) n
      failing_is = did.tallied.failed ∙ ap (λ (f : ℕ → Value). failing f n) stored_is

      steps_is : c'.steps ≡ step_sum (figures α u n) n
      steps_is = did.tallied.taken ∙ ap (λ (f : ℕ → Value). step_sum f n) stored_is

      -- its sums fit a cell
      pub change_fits : (c'.redone < 2 ^ 63) × (c'.failing < 2 ^ 63) × (c'.steps < 2 ^ 63)
      change_fits =
          let few = st.accepted.few in (
            omega (arith, did.redone, none, filter_le (is_redone u n d) order, order_length, plan_few, few),
            omega (arith, did.tallied.failed, failing_few (stored r') n, few),
            omega (arith, did.tallied.taken, steps_few (stored r') n did.tallied.short, few),
          )

      pub pair_applied : (ps : List ℤ) (i : ℕ) → l ≡ pair_label ps i → z ≡ pair_number ps i → (w w' : List ℤ)
          → w' ≡ sets w (3 * (i - 1)) (pos c'.redone ∷ pos c'.failing ∷ pos c'.steps ∷ []) → PairApplied α t n ps i r w (with_number l z t) r' w' c'
      pair_applied ps i e f w w' g = record {
        table = λ j. with_number (e j) (f j) t;
        results = settled;
        changes =
            g ∙ (λ j. sets w (3 * (i - 1)) (pos (redone_is j) ∷ pos (failing_is j) ∷ pos (steps_is j) ∷ []))
            ∙ ap (λ (x : ℕ). sets w (3 * (i - 1)) (change_cells α u n (owner t x))) e;
        tallied = did.tallied;
      }

    -- the plan and the results stand again
    pub standing_next : {r' : List ℤ} → r' ≡ result_cells α (with_number l z t) n (length r) → Standing α (with_number l z t) n plan (length plan) r'
    standing_next {r'} e =
        let long : length r' ≡ length r = ap length e ∙ buffer_length (figures α u n) n (length r) st.fit in
        record {
          accepted = ok;
          plans = st.plans;
          proper = proper_list_on same st.proper;
          fit = omega (arith, st.fit, long);
          results = e ∙ ap (result_cells α u n) (sym long);
        }

-- a plan cut to its length stands as the whole list did
pub standing_cut : (α : Arithmetic) (t : List ℤ) (n : ℕ) (plan : List ℤ) (k : ℕ) (r : List ℤ) → Standing α t n plan k r
    → Standing α t n (take k plan) (length (take k plan)) r
standing_cut α t n plan k r st = record {
  accepted = st.accepted;
  plans = omega arith;
  proper = rw (take-length (take k plan)) st.proper;
  fit = st.fit;
  results = st.results;
}

-- ---- the same in the code's words: its label is l, and its table u has the number in it

module _ (t : List ℤ) (n : ℕ) (ps : List ℤ) (i : ℕ) {l : ℕ} {z : ℤ} {u : List ℤ} (named : (l ≡ pair_label ps i) × (z ≡ pair_number ps i)) (put : u ≡ with_number l z t) where
  table_is : u ≡ with_number (pair_label ps i) (pair_number ps i) t
  table_is = put ∙ (λ j. with_number (named.0 j) (named.1 j) t)

  pub owner_is : {d : ℕ} → d ≡ owner u l → d ≡ owner t (pair_label ps i)
  owner_is own = own ∙ ap (λ (w : List ℤ). owner w l) put ∙ (number_structure t l z).owners l ∙ ap (owner t) named.0

  pub owner_few : Accepted t n → PairRight t ps i → {d : ℕ} → d ≡ owner u l → d ≤ n
  owner_few ok right own = rw (owner_is own) (body_label t n ok (owner t (pair_label ps i)) (number_owner t n ok (pair_label ps i) right.line)).1

  module _ {r : List ℤ} {d : ℕ} (own : d ≡ owner u l) where
    pub redoable_still : {part : List ℤ} (square : List ℕ) → Redoable (with_number (pair_label ps i) (pair_number ps i) t) n r part square (owner t (pair_label ps i))
        → Redoable u n r part square d
    redoable_still {part} square w = transport (λ j. Redoable (sym table_is j) n r part square (sym (owner_is own) j)) w

    pub redid_still : {α : Arithmetic} {o : List ℕ} {c c' : Change} {r' : List ℤ} → Redid α u n r o d c r' c'
        → Redid α (with_number (pair_label ps i) (pair_number ps i) t) n r o (owner t (pair_label ps i)) c r' c'
    redid_still {α} {o} {c} {c'} {r'} w = transport (λ j. Redid α (table_is j) n r o (owner_is own j) c r' c') w

    pub applied_still : {α : Arithmetic} {w r' w' : List ℤ} {c : Change} → PairApplied α t n ps i r w (with_number (pair_label ps i) (pair_number ps i) t) r' w' c
        → PairApplied α t n ps i r w u r' w' c
    applied_still {α} {w} {r'} {w'} {c} a = subst (λ (x : List ℤ). PairApplied α t n ps i r w x r' w' c) (sym table_is) a

-- ---- pairs in turn

changes_length : (α : Arithmetic) (t : List ℤ) (n : ℕ) (ps : List ℤ) (k : ℕ) → length (changes_of α t n ps k) ≡ 3 * k
changes_length α t n ps zero = refl
changes_length α t n ps (suc k) = omega (arith, length-append (changes_of α t n ps k) (change_of α t n ps (suc k)), changes_length α t n ps k)

-- after i pairs, from table t, results r and changes w
pub record Applying (α : Arithmetic) (t : List ℤ) (n : ℕ) (plan ps r w u r' w' : List ℤ) (c : Change) (i : ℕ) : Type 0 where
  pub upto : i ≤ pair_count ps
  pub applied : PairsApplied α t n ps i r w u r' w'
  pub standing : Standing α u n plan (length plan) r'
  pub tallied : Tallied n r' c
  pub structure : SameStructure t u
  pub tables : length u ≡ length t
  pub results_long : length r' ≡ length r
  pub changes_long : length w' ≡ length w

module _ (α : Arithmetic) (t : List ℤ) (n : ℕ) (plan ps r w : List ℤ) where
  module _ {u r' w' : List ℤ} {c : Change} {i : ℕ} (g : Applying α t n plan ps r w u r' w' c i) (h : i < pair_count ps) where
    -- the next pair names an N line of the table as it is, and its owner's row is made
    pub next_right : PairsRight t ps → PairRight u ps (i + 1)
    next_right right = let p = right (i + 1) (omega arith) (omega arith) in record { line = g.structure.kinds (pair_label ps (i + 1)) ∙ p.line; number = p.number }

    pub next_row : (square : List ℕ) → OwnersMarked t n ps (pair_count ps) square → MarkRow u n 6 square (owner u (pair_label ps (i + 1)))
    next_row square rows = rw (g.structure.owners (pair_label ps (i + 1))) (mark_row_on g.structure n square (owner t (pair_label ps (i + 1))) (rows (i + 1) (omega arith) (omega arith)))

    module _ (room : 3 * pair_count ps ≤ length w) (right : PairsRight t ps) {u'' r'' w'' : List ℤ} {c' : Change} (a : PairApplied α u n ps (i + 1) r' w' u'' r'' w'' c') where
      abbrev l : ℕ
      l = pair_label ps (i + 1)

      abbrev z : ℤ
      z = pair_number ps (i + 1)

      line : kind u l ≡ number_code
      line = (next_right right).line

      table_next : u'' ≡ with_pairs ps (i + 1) t
      table_next = a.table ∙ ap (with_number l z) g.applied.table ∙ more
        where
          more : with_number l z (with_pairs ps i t) ≡ with_pairs ps (i + 1) t
          more = let e : suc i ≡ i + 1 = omega arith in (λ j. with_number (pair_label ps (sym e j)) (pair_number ps (sym e j)) (with_pairs ps i t)) ∙ ap (λ (x : ℕ). with_pairs ps x t) e

      cells_next : change_cells α u'' n (owner u l) ≡ change_of α t n ps (i + 1)
      cells_next = (λ j. change_cells α (table_next j) n (g.structure.owners l j))

      more_changes : changes_of α t n ps i ++ change_of α t n ps (i + 1) ≡ changes_of α t n ps (i + 1)
      more_changes = let e : suc i ≡ i + 1 = omega arith in ap (λ (x : ℕ). changes_of α t n ps i ++ change_of α t n ps x) (sym e) ∙ ap (changes_of α t n ps) e

      changes_next : w'' ≡ changes_of α t n ps (i + 1) ++ drop (3 * (i + 1)) w
      changes_next =
          let at : 3 * (i + 1 - 1) ≡ 3 * i = omega arith in
          let past : 3 * i + 3 ≡ 3 * (i + 1) = omega arith in
          a.changes
          ∙ (λ j. sets (g.applied.changes j) (at j) (cells_next j))
          ∙ sets_next (changes_of α t n ps i) (change_of α t n ps (i + 1)) w (3 * i) (changes_length α t n ps i) (omega arith)
          ∙ (λ j. more_changes j ++ drop (past j) w)

      long : length r'' ≡ length r'
      long = ap length a.results ∙ buffer_length (figures α u'' n) n (length r') g.standing.fit

      pub applying_next : Applying α t n plan ps r w u'' r'' w'' c' (i + 1)
      applying_next =
          record {
            upto = omega arith;
            applied = record {
              table = table_next;
              results = a.results ∙ (λ j. result_cells α (table_next j) n (g.results_long j));
              changes = changes_next;
            };
            standing = rw a.table (standing_next α u n plan r' g.standing l z line (next_right right).number (rw a.table at a.results));
            tallied = a.tallied;
            structure = rw a.table (structure_then g.structure (number_structure u l z));
            tables = ap length a.table ∙ number_length u l z ∙ g.tables;
            results_long = long ∙ g.results_long;
            changes_long = ap length a.changes ∙ length-sets w' (3 * (i + 1 - 1)) (change_cells α u'' n (owner u l)) ∙ g.changes_long;
          }
