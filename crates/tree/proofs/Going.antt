-- What the pass keeps at the labels that it has passed, and that at the end it gives the rows of the definitions, and the table.
use mathlib.Core.Path.{◌≡◌, refl, ap, sym, ◌∙◌}
use mathlib.Core.Logic.{⊎_elim}
use mathlib.Core.Bool.{Bool, true, false, cond, ◌&&◌}
use mathlib.Core.List.{List}
use Prim.Native.Nat.{ℕ, zero, suc, ◌+◌, ◌-◌, ◌*◌, ◌/◌, ◌%◌, ◌≤◌, ◌<◌}
use native.Mathlib.Omega.{arith}
use native.Mathlib.Nat.{eq-or-lt_of_le}
use borrow.Author.Tests.{ltb-true, ltb-false, lt-ltb, le-leb, eqb-true, eqb-false, eq-eqb, ne_eqb}
use lib.Dec.{ltb, eqb}
use lib.IntN.{ℤ, pos}
use lib.ListN.{length, set}
use lib.Seq.{ext_get_or}
use Rattle.cells.specs.Limits.{label_limit}
use Rattle.cells.specs.Cells.{nat_of, int_at}
use Rattle.cells.specs.Lists.{count}
use Rattle.cells.specs.Table.{cell, kind, is_definition, is_expression, field_a, owner, target, with_column}
use Rattle.cells.proofs.Columns.{column_length, column_keeps, column_has}
use Rattle.cells.proofs.Signed.{clash}
use Rattle.cells.proofs.Table.{cell_other}
use Rattle.kinds.proofs.Laws.{not_definition, either}
use Rattle.kinds.proofs.Tests.{and_left, and_right}
use Rattle.std.specs.Prelude.{Some, None, Ok, Err}
use Rattle.refusals.specs.declared.Refusal.{Refusal}
use Rattle.refusals.specs.Refusal.{Verdict, Fine, Refused, hit, first_bad, or_else}
use Rattle.refusals.specs.Rows.{uses_row}
use Rattle.refusals.proofs.FirstBad.{first_start, first_fine, first_bad_lem, first_end, first_same}
use Rattle.tree.specs.Tree.{parts, structure_right, structure_bad, uses, uses_bad, IsPart, user_of, owner_of, argument_in, argument_bad, above_levels, level_bad, tree_bad}
use Rattle.tree.specs.Treed.{Formed, Plain, Written}
use Rattle.tree.specs.TreeSteps.{HasCells, Node, node_at, Known, twice, owned_once, used_right, assigned, claimed_all, propagated, Propagable}
use Rattle.tree.specs.TreeSteps.{Structured, UsedOnce, Over, turn_of, Propagated}
use Rattle.tree.proofs.Codes.{expression_kind, label_high}
use Rattle.tree.proofs.Parts.{like, right_group, right_part, right_line, structured}
use Rattle.tree.proofs.Users.{uses_still, uses_grow, tree}
use Rattle.tree.proofs.Labels.{known, node_definition, structure_found, propagated_definition, propagated_expression}
use Rattle.tree.proofs.Likes.{right_like, structure_like}
use Rattle.tree.proofs.Owners as own
use Rattle.tree.proofs.Writes.{plain_natural, over_start, over_alike, over_set, assigned_other, over_assigned, Claimed, claimed_once}
use Rattle.tree.proofs.Passes.{over_formed, node_over, inside, parts_over, parts_low, parts_claims, propagate_start, propagate_turn, owner_own, level_own, clear_turn}
use Rattle.tree.proofs.Told.{Told, told_start, told_turn, told_end}

-- what the labels from 1 to k use is claimed
pub record Claims (t : List ℤ) (n k : ℕ) (w : List ℤ) : Type 0 where
  pub over : Over t n w
  pub owners : (x : ℕ) → k < x → x ≤ n → is_expression t x ≡ true → Claimed (uses t k x) (owner w x)
  pub low : (x : ℕ) → k < x → x ≤ n → target w x ≤ k

-- the labels below l pass rows 8 and 9, and what they use is claimed; in a table that passes the two, owners and levels are written, and
-- a and v are what rows 10 and 11 find
pub record Going (t : List ℤ) (n l : ℕ) (w : List ℤ) (a v : Verdict) : Type 0 where
  pub claims : Claims t n (l - 1) w
  pub row8 : first_bad (structure_bad t) l (n + 1 - l) ≡ first_bad (structure_bad t) 1 n
  pub row9 : Structured t n → first_bad (uses_bad t n) l (n + 1 - l) ≡ first_bad (uses_bad t n) 1 n
  pub written : UsedOnce t n → Propagated t n (l - 1) (l - 1) w
  pub row10 : UsedOnce t n → Told (argument_bad t n) n l a
  pub row11 : UsedOnce t n → Told (level_bad t n) n l v

pub going_start : (t : List ℤ) (n : ℕ) → Plain t n → Going t n 1 t Fine Fine
going_start t n p = record {
  claims = record {
    over = over_start t n (plain_natural t n p);
    owners = λ x h g e. rw (blank x 6 h g (omega arith) (omega arith)) (record { none = λ q. refl; once = λ q. absurd (omega arith); more = λ q. absurd (omega arith) });
    low = λ x h g. omega (arith, blank x 7 h g (omega arith) (omega arith));
  };
  row8 = first_start (structure_bad t) n;
  row9 = λ s. first_start (uses_bad t n) n;
  written = λ s. propagate_start t n s (plain_natural t n p);
  row10 = λ s. told_start (argument_bad t n) n;
  row11 = λ s. told_start (level_bad t n) n;
}
  where
    blank : (x j : ℕ) → 1 ≤ x → x ≤ n → 6 ≤ j → j < 8 → cell t x j ≡ 0
    blank zero j h g a b = refl
    blank (suc k) j h g a b = ap nat_of (p.blank k j (omega arith) a b)

uses_step : (t : List ℤ) (l x : ℕ) → 1 ≤ l → uses t l x ≡ uses t (l - 1) x + count x (parts t l)
uses_step t zero x h = absurd (omega arith)
uses_step t (suc k) x h = let e : suc k - 1 ≡ k = omega arith in rw e

-- the uses of a label are final when the pass comes to it
uses_final : (t : List ℤ) (n : ℕ) → Structured t n → (x : ℕ) → 1 ≤ x → x ≤ n → uses t n x ≡ uses t (x - 1) x
uses_final t n s x h g = uses_still t x (x - 1) n (omega arith) (λ l a b. none l (omega arith) (count x (parts t l)) refl)
  where
    none : (l : ℕ) → x ≤ l → (k : ℕ) → count x (parts t l) ≡ k → k ≡ 0
    none l a zero e = refl
    none l a (suc k) e = let i : IsPart t l x = omega arith in absurd (omega (arith, (s.part l x i).0))

once_in : (d : ℕ) → 1 ≤ d → d ≤ label_limit → owned_once d ≡ true
once_in d h g = rw (lt-ltb 0 d h, lt-ltb d twice (omega arith))

pub once_out : (d : ℕ) → owned_once d ≡ true → (1 ≤ d) × (d ≤ label_limit)
once_out d e = (ltb-true 0 d (and_left (ltb 0 d) (ltb d twice) e), omega (arith, ltb-true d twice (and_right (ltb 0 d) (ltb d twice) e)))

module _ (t : List ℤ) (n : ℕ) (p : Formed t n) (w : List ℤ) (l : ℕ) (a v : Verdict) (h : 1 ≤ l) (g : l ≤ n) (r : Going t n l w a v) where
  right_over : structure_right w l ≡ structure_right t l
  right_over = right_like t w (like t w (over_alike t w n r.claims.over)) l

  definition_over : (node_at w l).definition ≡ is_definition t l
  definition_over = ap (λ (q : Node). q.definition) (node_over t n w r.claims.over l) ∙ node_definition t l

  expression_else : is_definition t l ≡ false → is_expression t l ≡ true
  expression_else e = ⊎_elim (λ d. clash (sym d ∙ e)) (λ f. f) (either (kind t l) (p.kinds l h g))

  -- ---- what the step asks

  pub going_ready : Known w l × (structure_right w l ≡ true → Propagable w l)
  going_ready =
      let q = over_formed t n w r.claims.over p in (
        known w n l q h g,
        λ e. record {
          line = known w n l q h g;
          inside = inside w n q l (λ x i. (right_part w l e x i).1) w refl;
          few = omega (arith, p.few);
          group = λ d. group e (sym (node_definition w l) ∙ d) q;
          level = λ d. omega (arith, r.claims.low l (omega arith) g, p.few);
        },
      )
    where
      group : structure_right w l ≡ true → is_definition w l ≡ true → Formed w n → field_a w l ≤ label_limit
      group e d q =
          ⊎_elim (λ z. omega (arith, ap (field_a w) z, q.top)) (λ z. omega (arith, (right_group w l e z d).0, q.few)) (eq-or-lt_of_le h)

  -- ---- a label that fails

  pub going_stop : (structure_right w l && used_right w l) ≡ false → or_else (first_bad (structure_bad w) 1 n) (Refused uses_row l) ≡ tree_bad t n
  unfolding tree_bad
  going_stop e =
      rw (first_same (structure_bad w) (structure_bad t) n 1 (λ x i j. structure_like t w (like t w (over_alike t w n r.claims.over)) x))
      (go (first_bad (structure_bad t) 1 n) refl)
    where
      wrong : structure_right t l ≡ true → (is_definition t l ≡ false) × (owned_once (owner w l) ≡ false)
      wrong f = split (is_definition t l) refl (rw (right_over ∙ f, definition_over) at e)
        where
          split : (b : Bool) → is_definition t l ≡ b → cond b true (owned_once (owner w l)) ≡ false → (is_definition t l ≡ false) × (owned_once (owner w l) ≡ false)
          split true d z = clash z
          split false d z = (d, z)

      not_one : Structured t n → is_expression t l ≡ true → owned_once (owner w l) ≡ false → uses t n l ≡ 1 → ⊥
      not_one s x f q =
          let c = (r.claims.owners l (omega arith) g x).once (sym (uses_final t n s l h g) ∙ q) in
          clash (sym (once_in (owner w l) c.0 c.1) ∙ f)

      row : Structured t n → structure_right t l ≡ true → uses_bad t n l ≡ Some uses_row
      row s f =
          let z = wrong f in
          let x = expression_else z.0 in
          rw (x, ne_eqb (uses t n l) 1 (not_one s x z.1))

      found : Structured t n → structure_right t l ≡ true → first_bad (uses_bad t n) 1 n ≡ Refused uses_row l
      found s f = sym (r.row9 s) ∙ first_bad_lem (uses_bad t n) n l uses_row g (row s f)

      go : (b : Verdict) → first_bad (structure_bad t) 1 n ≡ b
          → or_else b (Refused uses_row l) ≡ or_else b (or_else (first_bad (uses_bad t n) 1 n) (or_else (first_bad (argument_bad t n) 1 n) (first_bad (level_bad t n) 1 n)))
      go (Ok u) q = rw (found (structured t n p q) (right_line t n p q l h g))
      go (Err e) q = refl

  -- ---- a label that passes

  module _ (right : structure_right w l ≡ true) (once : used_right w l ≡ true) where
    right_here : structure_right t l ≡ true
    right_here = sym right_over ∙ right

    expressions : (x : ℕ) → IsPart t l x → is_expression t x ≡ true
    expressions x i = (right_part t l right_here x i).1

    -- whatever comes after: what its uses make of the table
    module _ (d k : ℕ) (i : 1 ≤ d) (j : d ≤ label_limit) (m : k ≤ l) (u : List ℤ) (o : Over t n u)
        (owners : (x : ℕ) → l < x → owner u x ≡ owner w x) (targets : (x : ℕ) → l < x → target u x ≡ target w x) where
      claims_so : Claims t n l (claimed_all (node_at t l) d k u)
      claims_so = record {
        over = parts_over t n p l expressions d k u o;
        owners = λ x b c e.
            let q = r.claims.owners x (omega arith) c e in
            rw (uses_step t l x h) (parts_claims t n p l expressions d k u o x (uses t (l - 1) x) i j (rw (owners x b) q));
        low = λ x b c. parts_low t n p l expressions d k u o x l (omega (arith, targets x b, r.claims.low x (omega arith) c)) m;
      }

    claims_turn : Claims t n l (propagated l w)
    claims_turn = go (is_definition t l) refl
      where
        has : HasCells w l
        has = (h, omega (arith, r.claims.over.size, p.room))

        group_over : field_a w l ≡ field_a t l
        group_over = over_alike t w n r.claims.over l 3 (omega arith)

        other : (j : ℕ) → j < 8 → (x : ℕ) → l < x → cell (assigned l (field_a t l) 0 w) x j ≡ cell w x j
        other j b x c = assigned_other l (field_a t l) 0 w x j b (λ e. omega arith)

        level : target w l + 1 ≤ l
        level = omega (arith, r.claims.low l (omega arith) g)

        go : (b : Bool) → is_definition t l ≡ b → Claims t n l (propagated l w)
        go true d =
            rw (propagated_definition l w (definition_over ∙ d), node_over t n w r.claims.over l, group_over)
            (claims_so l 1 h (omega (arith, p.few)) h (assigned l (field_a t l) 0 w) (over_assigned t w n p.room r.claims.over l (field_a t l) 0 g)
            (other 6 (omega arith)) (other 7 (omega arith)))
        go false d =
            let b = once_out (owner w l) (rw (definition_over ∙ d) at once) in
            rw (propagated_expression l w (definition_over ∙ d), node_over t n w r.claims.over l)
            (claims_so (owner w l) (target w l + 1) b.0 b.1 level w r.claims.over (λ x c. refl) (λ x c. refl))

    claims_clear : Claims t n l (set (propagated l w) (8 * (l - 1) + 7) (pos 0))
    claims_clear = record {
      over = over_set t (propagated l w) n p.room claims_turn.over l 7 0 h g (omega arith) (omega arith);
      owners = λ x b c e. rw (other 6 (omega arith) x b) (claims_turn.owners x b c e);
      low = λ x b c. omega (arith, other 7 (omega arith) x b, claims_turn.low x b c);
    }
      where
        other : (j : ℕ) → j < 8 → (x : ℕ) → l < x → cell (set (propagated l w) (8 * (l - 1) + 7) (pos 0)) x j ≡ cell (propagated l w) x j
        other j b x c = cell_other (propagated l w) l 7 x j (pos 0) h (omega arith) b (λ e f. omega arith)

    -- row 9: the uses are final
    used : Structured t n → uses_bad t n l ≡ None
    used s = go (is_expression t l) refl
      where
        single : is_expression t l ≡ true → uses t n l ≡ 1
        single e =
            let b = once_out (owner w l) (rw (definition_over ∙ not_definition (kind t l) e) at once) in
            uses_final t n s l h g ∙ claimed_once (uses t (l - 1) l) (owner w l) (r.claims.owners l (omega arith) g e) b.0 b.1

        go : (b : Bool) → is_expression t l ≡ b → uses_bad t n l ≡ None
        go true e = rw (e, eq-eqb (uses t n l) 1 (single e))
        go false e = rw e

    module _ (s : UsedOnce t n) where
      -- its parts are not used before, nor twice by it
      fresh : (y : ℕ) → IsPart t l y → (owner w y ≡ 0) × (count y (parts t l) ≡ 1)
      fresh y i =
          let e = own.part_expression t n s l y i in
          let b = (s.structure.part l y i).0 in
          let c = label_high t y n p (expression_kind t y e) in
          let k : uses t (l - 1) y + count y (parts t l) ≤ 1 = omega (arith, s.once y e, uses_grow t y l n g, uses_step t l y h) in
          ((r.claims.owners y (omega arith) c e).none (omega arith), omega arith)

      here : Propagated t n l (l - 1) (propagated l w)
      here = propagate_turn t n s w l h g (r.written s) fresh

      kinds_here : (x : ℕ) → kind (propagated l w) x ≡ kind t x
      kinds_here x = over_alike t (propagated l w) n here.over x 0 (omega arith)

      argument_here : argument_bad t n l ≡ argument_in (kind (propagated l w) l) (kind (propagated l w) (owner (propagated l w) l))
      argument_here = rw (owner_own t n s (propagated l w) l (l - 1) h g here, kinds_here l, kinds_here (owner_of t n l))

      level_here : level_bad t n l ≡ above_levels (target (propagated l w) l)
      level_here = rw (level_own t n s (propagated l w) l (l - 1) h g here (omega arith))

    pub going_turn : Going t n (l + 1) (set (propagated l w) (8 * (l - 1) + 7) (pos 0))
        (or_else a (hit (argument_in (kind (propagated l w) l) (kind (propagated l w) (owner (propagated l w) l))) l Fine))
        (or_else v (hit (above_levels (target (propagated l w) l)) l Fine))
    going_turn =
        let q : l + 1 - 1 ≡ l = omega arith in
        record {
          claims = rw q claims_clear;
          row8 = sym (first_fine (structure_bad t) n l g (structure_found t l true right_here)) ∙ r.row8;
          row9 = λ s. sym (first_fine (uses_bad t n) n l g (used s)) ∙ r.row9 s;
          written = λ s. rw q (clear_turn t n p.room (propagated l w) l h g (here s));
          row10 = λ s. told_turn (argument_bad t n) n l a _ g (argument_here s) (r.row10 s);
          row11 = λ s. told_turn (level_bad t n) n l v _ g (level_here s) (r.row11 s);
        }

-- ---- the table in the end

-- owners written, targets 0, and all else as it was
module _ (t : List ℤ) (n : ℕ) (p : Plain t n) (w : List ℤ) (o : Over t n w)
    (owners : (x : ℕ) → 1 ≤ x → x ≤ n → owner w x ≡ owner_of t n x) (targets : (x : ℕ) → 1 ≤ x → x ≤ n → target w x ≡ 0) where
  abbrev result : List ℤ
  result = with_column 6 (owner_of t n) n t

  kept : (i : ℕ) → int_at w i ≡ int_at t i → ((k : ℕ) → k < n → i ≡ 8 * k + 6 → ⊥) → int_at w i ≡ int_at result i
  kept i e d = e ∙ sym (column_keeps 6 (owner_of t n) (omega arith) n t i d)

  at : (i : ℕ) (a b c : Bool) → ltb i (8 * n) ≡ a → ltb (i % 8) 6 ≡ b → eqb (i % 8) 6 ≡ c → int_at w i ≡ int_at result i
  at i false b c e f g = kept i (o.beyond i (ltb-false i (8 * n) e)) (λ k m q. omega (arith, ltb-false i (8 * n) e))
  at i true true c e f g = kept i (o.fields i (ltb-true (i % 8) 6 f)) (λ k m q. omega (arith, ltb-true (i % 8) 6 f))
  at i true false true e f g =
      let q : i ≡ 8 * (i / 8) + 6 = omega (arith, eqb-true (i % 8) 6 g) in
      let m : i / 8 < n = omega (arith, ltb-true i (8 * n) e) in
      rw q (o.natural (i / 8) 6 m (omega arith) (omega arith) ∙ ap pos (owners (suc (i / 8)) (omega arith) (omega arith))
      ∙ sym (column_has 6 (owner_of t n) (omega arith) n t (i / 8) m p.formed.room))
  at i true false false e f g =
      let d = eqb-false (i % 8) 6 g in
      let q : i ≡ 8 * (i / 8) + 7 = omega (arith, ltb-false (i % 8) 6 f, d) in
      let m : i / 8 < n = omega (arith, ltb-true i (8 * n) e) in
      kept i
      (rw q (o.natural (i / 8) 7 m (omega arith) (omega arith) ∙ ap pos (targets (suc (i / 8)) (omega arith) (omega arith))
      ∙ sym (p.blank (i / 8) 7 m (omega arith) (omega arith))))
      (λ k m q. omega arith)

  pub table_is : w ≡ result
  table_is =
      ext_get_or (pos 0) w result (o.size ∙ sym (column_length 6 (owner_of t n) n t))
      (λ i h. at i (ltb i (8 * n)) (ltb (i % 8) 6) (eqb (i % 8) 6) refl refl refl)

-- ---- every label has passed

module _ (t : List ℤ) (n : ℕ) (p : Plain t n) (w : List ℤ) (l : ℕ) (a v : Verdict) (h : l ≤ n + 1) (g : n < l) (r : Going t n l w a v) where
  fine8 : first_bad (structure_bad t) 1 n ≡ Fine
  fine8 = sym r.row8 ∙ first_end (structure_bad t) n l g

  passed8 : Structured t n
  passed8 = structured t n p.formed fine8

  fine9 : first_bad (uses_bad t n) 1 n ≡ Fine
  fine9 = sym (r.row9 passed8) ∙ first_end (uses_bad t n) n l g

  passed9 : UsedOnce t n
  passed9 = tree t n passed8 fine9

  pub going_done : or_else a v ≡ tree_bad t n
  unfolding tree_bad
  going_done =
      rw (fine8, fine9, sym (told_end (argument_bad t n) n l a g (r.row10 passed9)), sym (told_end (level_bad t n) n l v g (r.row11 passed9)))

  turn_most : (x : ℕ) → x ≤ n → turn_of t n x ≤ n
  turn_most x b = go (is_expression t x) refl
    where
      go : (c : Bool) → is_expression t x ≡ c → cond c (user_of t n x) x ≤ n
      go true e = (own.user t n passed9 x e).high
      go false e = b

  pub going_table : w ≡ with_column 6 (owner_of t n) n t
  going_table =
      let q : l - 1 ≡ n = omega arith in
      let z : Propagated t n n n w = rw q at (r.written passed9) in
      table_is t n p w z.over (λ x b c. z.owners x b c (turn_most x c)) (λ x b c. z.levels x b c (turn_most x c) ∙ rw (le-leb x n c))

pub written : (v : Verdict) (t : List ℤ) (n : ℕ) (w : List ℤ) → w ≡ with_column 6 (owner_of t n) n t → Written v t n w
written (Ok u) t n w e = e
written (Err r) t n w e = ap length e ∙ column_length 6 (owner_of t n) n t

pub not_written : (u v : Verdict) (r : Refusal) (t : List ℤ) (n : ℕ) (w : List ℤ) → v ≡ or_else u (Err r) → length w ≡ length t → Written v t n w
not_written (Ok u) v r t n w e h = rw e h
not_written (Err f) v r t n w e h = rw e h
