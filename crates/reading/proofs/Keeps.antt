-- A sheet is accepted exactly when it keeps the rules.
use mathlib.Core.Path.{◌≡◌, refl, ap, sym, ◌∙◌}
use Rattle.refusals.specs.declared.Row.{Row}
use Rattle.std.specs.Prelude.{Option, Some, None}
use mathlib.Core.Bool.{Bool, true, false, cond, ◌&&◌}
use mathlib.Core.List.{List, [], ◌∷◌}
use Prim.Native.Nat.{ℕ, ◌-◌, ◌*◌, ◌≤◌}
use native.Mathlib.Omega.{arith}
use lib.Dec.{leb, eqb}
use lib.IntN.{ℤ}
use lib.ListN.{length, get_or}
use borrow.Author.Tests.{leb-true, le-leb, lt-ltb, le-ltb, eqb-true, eqb-false, eq-eqb, ne_eqb}
use Rattle.cells.specs.Limits.{label_limit, size_limit, level_limit}
use Rattle.cells.specs.Characters.{newline, space}
use Rattle.kinds.specs.Kinds.{group_code, fields_at, takes, argument_place}
use Rattle.kinds.proofs.Laws.{not_expression}
use Rattle.kinds.proofs.Codes.{other_place}
use Rattle.cells.specs.Lists.{count, all}
use Rattle.cells.specs.Table.{kind, is_definition, is_expression, field_a}
use Rattle.refusals.specs.Rows.{form_row}
use Rattle.refusals.specs.Refusal.{Fine}
use Rattle.refusals.proofs.FirstBad.{first_none, none_first}
use Rattle.text.specs.Bytes.{same}
use Rattle.text.specs.Pieces.{cut}
use Rattle.text.proofs.Bytes.{and_left, and_right}
use Rattle.lines.specs.Fields.{kind_code}
use Rattle.lines.specs.Lines.{is_text, line, labels, head_bad, root_line, field, forms_right, line_bad, line_check, lines_bad}
use Rattle.lines.specs.Lined.{Lined}
use Rattle.lines.proofs.Heads.{headed, named_first}
use Rattle.lines.proofs.Lined.{lined, fine_fields, fine_forms, known, root_is}
use Rattle.tree.specs.Tree.{parts, group_right, part_right, structure_bad, uses_bad, Level, owner_of, level_of, argument_bad, level_bad, tree_bad}
use Rattle.tree.specs.Treed.{Formed, Treed}
use Rattle.tree.specs.TreeSteps.{UsedOnce}
use Rattle.tree.proofs.Codes.{expression_kind, label_low, label_high}
use Rattle.tree.proofs.Owners.{owned, levelled, level_own, owner_group}
use Rattle.tree.proofs.Treed.{treed}
use Rattle.paths.specs.Leads.{PathsKept}
use Rattle.paths.specs.Paths.{paths_bad}
use Rattle.paths.proofs.Leads.{paths_kept, kept_paths}
use Rattle.reading.specs.Read.{owned_table, resolved_bad, sheet_cells, sheet_bad, Reads}
use Rattle.reading.specs.Keeps.{TextKept, LineKept, TreeKept, Keeps}
use Rattle.reading.proofs.Resolved.{formed, accepted}
use Rattle.refusals.proofs.OrElse.{both_fine}
use Rattle.reading.proofs.Padding.{rows_lined}

-- ---- the text

text_kept : (s : List ℕ) → head_bad s ≡ Fine → TextKept s
text_kept s e =
    let h = headed s e in
    record { some = h.some; size = h.size; ends = h.ends; allowed = h.allowed; first = h.first; low = h.low; high = h.high }

kept_text : (s : List ℕ) → TextKept s → head_bad s ≡ Fine
unfolding head_bad is_text
kept_text s k =
    let ends = eq-eqb (get_or s (length s - 1) 0) newline k.ends in
    let first = named_first s k.first in
    rw (le-leb 1 (length s) k.some, le-leb (length s) size_limit k.size, ends, k.allowed, first, le-leb 1 (labels s) k.low, le-leb (labels s) label_limit k.high)

-- ---- the lines

module _ (s : List ℕ) (n l : ℕ) where
  line_kept : line_check s n l ≡ None → LineKept s n l
  line_kept e = record {
    five = (fine_fields n l (line s l) e).0;
    known = known n l (line s l) e;
    root = root_is n l (line s l) e;
    forms = λ h. rw (ne_eqb l 1 (λ q. omega arith)) at (fine_forms n l (line s l) e);
  }

  kept_line : 1 ≤ l → LineKept s n l → line_check s n l ≡ None
  unfolding line_bad root_line
  kept_line low k =
      rw (k.five, ne_eqb (kind_code (field (cut space (line s l)) 0)) 0 (λ z. omega (arith, k.known))) (go (eqb l 1) refl)
    where
      go : (b : Bool) → eqb l 1 ≡ b
          → ◌≡◌ {A = Option Row}
          (cond (cond b (same (line s l) root_line) (forms_right n (fields_at (kind_code (field (cut space (line s l)) 0))) (cut space (line s l)))) None (Some form_row))
          None
      go true e = rw (k.root (eqb-true l 1 e))
      go false e = rw (k.forms (omega (arith, eqb-false l 1 e)))

-- ---- the tree

all_so : (test : ℕ → Bool) (xs : List ℕ) → ((x : ℕ) → 1 ≤ count x xs → test x ≡ true) → all test xs ≡ true
all_so test [] h = refl
all_so test (y ∷ ys) h =
    let own : 1 ≤ count y (y ∷ ys) = rw (eq-eqb y y refl) (omega arith) in
    rw (h y own, all_so test ys (λ x g. h x (omega arith)))

module _ (t : List ℤ) (n : ℕ) (s : Formed t n) where
  module _ (e : tree_bad t n ≡ Fine) where
    is : Treed t n
    is = treed t n s e

    level_expression : (x k : ℕ) → Level t x k → is_expression t x ≡ true
    level_expression x k (Level.body d _ f p) = (is.part d x p).expression
    level_expression x k (Level.operand u _ m v f p) = (is.part u x p).expression

    tree_kept : TreeKept t n
    tree_kept = record {
      group = λ l h g d.
          let q = owner_group t n l (not_expression (kind t l) d) in
          (omega (arith, q, is.falls l (omega arith) g), ap (kind t) (sym q) ∙ is.groups l h g d);
      part = λ l x p. ((is.part l x p).above, (is.part l x p).expression);
      once = is.once;
      argument = λ d x o. rw (is.owned_only d x o) (is.argument x);
      level = λ x k v.
          let h = expression_kind t x (level_expression x k v) in
          omega (arith, is.level_only x k v, is.level x (label_low t x n s h) (label_high t x n s h));
    }

  module _ (k : TreeKept t n) where
    used : UsedOnce t n
    used = record { structure = record { formed = s; group = k.group; part = k.part }; once = k.once }

    kept_structure : (l : ℕ) → l ≤ n → structure_bad t l ≡ None
    unfolding structure_bad
    kept_structure l g = rw (group (leb 2 l && is_definition t l) refl, all_so (part_right t l) (parts t l) part)
      where
        group : (b : Bool) → (leb 2 l && is_definition t l) ≡ b → cond b (group_right t l (field_a t l)) true ≡ true
        group true e =
            let r = k.group l (leb-true 2 l (and_left (leb 2 l) (is_definition t l) e)) g (and_right (leb 2 l) (is_definition t l) e) in
            rw (lt-ltb (field_a t l) l r.0, eq-eqb (kind t (field_a t l)) group_code r.1)
        group false e = refl

        part : (x : ℕ) → 1 ≤ count x (parts t l) → part_right t l x ≡ true
        part x p = rw (lt-ltb l x (k.part l x p).0) (k.part l x p).1

    kept_uses : (x : ℕ) → uses_bad t n x ≡ None
    kept_uses x = go (is_expression t x) refl
      where
        go : (b : Bool) → is_expression t x ≡ b → uses_bad t n x ≡ None
        go true e = rw (e, k.once x e)
        go false e = rw e

    kept_argument : (x : ℕ) → argument_bad t n x ≡ None
    kept_argument x = rw (le-ltb (takes (kind t (owner_of t n x))) (argument_place (kind t x)) (go (is_expression t x) refl))
      where
        go : (b : Bool) → is_expression t x ≡ b → argument_place (kind t x) ≤ takes (kind t (owner_of t n x))
        go true e = k.argument (owner_of t n x) x (owned t n used x e)
        go false e = omega (arith, other_place (kind t x) e)

    kept_level : (x : ℕ) → level_bad t n x ≡ None
    kept_level x = rw (le-ltb level_limit (level_of t n x) (go (is_expression t x) refl))
      where
        go : (b : Bool) → is_expression t x ≡ b → level_of t n x ≤ level_limit
        go true e = k.level x (level_of t n x) (levelled t n used x e)
        go false e = omega (arith, level_own t n x e)

    kept_tree : tree_bad t n ≡ Fine
    unfolding tree_bad
    kept_tree =
        let structure = none_first (structure_bad t) n 1 (λ l h g. kept_structure l (omega arith)) in
        rw (structure, none_first (uses_bad t n) n 1 (λ x h g. kept_uses x), none_first (argument_bad t n) n 1 (λ x h g. kept_argument x))
        (none_first (level_bad t n) n 1 (λ x h g. kept_level x))

-- ---- the tree, and names and paths

module _ (s : List ℕ) (t : List ℤ) (n : ℕ) (is : Lined s t n) where
  resolved_kept : resolved_bad s t n ≡ Fine → TreeKept t n × PathsKept s (owned_table t n) n
  unfolding resolved_bad
  resolved_kept e =
      let a = both_fine (tree_bad t n) (paths_bad s (owned_table t n) n) e in
      (tree_kept t n (formed s t n is) a.0, paths_kept s (owned_table t n) n a.1)

  kept_resolved : TreeKept t n → PathsKept s (owned_table t n) n → resolved_bad s t n ≡ Fine
  unfolding resolved_bad
  kept_resolved k p =
      let e = kept_tree t n (formed s t n is) k in
      rw e (kept_paths s (owned_table t n) n (accepted s t n is e).falls p)

-- ---- the sheet

module _ (s : List ℕ) where
  rows_are : head_bad s ≡ Fine → lines_bad s (labels s) ≡ Fine → Lined s (sheet_cells s) (labels s)
  rows_are h e = rw (rows_lined s) at (lined s (8 * labels s) (headed s h).low (headed s h).high e (omega arith))

  kept_lines : Keeps s → lines_bad s (labels s) ≡ Fine
  unfolding lines_bad
  kept_lines k = none_first (line_check s (labels s)) (labels s) 1 (λ l h g. kept_line s (labels s) l h (k.lines l h (omega arith)))

  lines_kept : lines_bad s (labels s) ≡ Fine → (l : ℕ) → 1 ≤ l → l ≤ labels s → LineKept s (labels s) l
  unfolding lines_bad
  lines_kept e l h g = line_kept s (labels s) l (first_none (line_check s (labels s)) (labels s) 1 e l h (omega arith))

  -- a sheet that keeps the rules reads
  pub keeps_read : Keeps s → Reads s
  unfolding sheet_bad
  keeps_read k =
      let h = kept_text s k.text in
      let e = kept_lines k in
      rw (h, e) (kept_resolved s (sheet_cells s) (labels s) (rows_are h e) k.tree k.paths)

  -- and one that reads keeps them
  pub read_keeps : Reads s → Keeps s
  unfolding sheet_bad
  read_keeps e =
      let a = both_fine (head_bad s) (sheet_bad s) e in
      let b = both_fine (lines_bad s (labels s)) (resolved_bad s (sheet_cells s) (labels s)) a.1 in
      let c = resolved_kept s (sheet_cells s) (labels s) (rows_are a.0 b.0) b.1 in
      record { text = text_kept s a.0; lines = lines_kept b.0; tree = c.0; paths = c.1 }
