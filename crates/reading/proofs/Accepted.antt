-- The table of a sheet in which rows 1 to 15 find nothing has all that planning and evaluation lean on, and its owners and targets are
-- those that the rules define.
use mathlib.Core.Path.{◌≡◌, refl, ap, sym, ◌∙◌}
use Rattle.std.specs.Prelude.{Some, None}
use mathlib.Core.Logic.{⊎_elim}
use mathlib.Core.Bool.{Bool, true, false}
use mathlib.Core.List.{List}
use Prim.Native.Nat.{ℕ, zero, suc, ◌+◌, ◌-◌, ◌*◌, ◌≤◌, ◌<◌}
use native.Mathlib.Omega.{arith}
use native.Mathlib.Nat.{eq-or-lt_of_le}
use lib.Dec.{eqb, leb}
use lib.IntN.{ℤ, pos}
use lib.ListN.{length}
use borrow.Author.Tests.{eqb-true, leb-true, leb-false}
use Rattle.kinds.specs.Kinds.{value_code, number_code, wanted_by}
use Rattle.kinds.specs.Kinds as kinds
use Rattle.kinds.proofs.Laws.{kind_low, definition_kind, expression_kind, not_expression, body_definition, path_expression, path_body}
use Rattle.cells.specs.Limits.{label_limit, name_limit}
use Rattle.cells.specs.Cells.{nat_of, int_at}
use Rattle.cells.specs.Table.{cell, kind, is_definition, is_expression, has_path, name_start, name_length, field_a, field_b, field_c, owner, target, line_number}
use Rattle.cells.specs.Accepted.{Part, Accepted}
use Rattle.cells.proofs.Table.{cell_at}
use Rattle.cells.proofs.Columns.{column_length, column_keeps, column_has, column_own, column_other, column_number}
use Rattle.refusals.specs.Rows.{target_row}
use Rattle.refusals.specs.Refusal.{first_bad, or_else, Fine}
use Rattle.refusals.proofs.OrElse.{both_fine}
use Rattle.refusals.proofs.FirstBad.{first_none}
use Rattle.lines.specs.Lines.{labels, head_bad, lines_bad}
use Rattle.tree.specs.Tree.{Owned, owner_of, tree_bad}
use Rattle.tree.specs.Treed.{Treed}
use Rattle.tree.proofs.Codes.{expression_kind as line_kind, label_low, label_high}
use Rattle.tree.proofs.Parts.{Alike as TreeAlike, alike_expression, alike_definition, alike_parts}
use Rattle.tree.proofs.Owners.{owner_group}
use Rattle.tree.proofs.Treed.{treed}
use Rattle.paths.specs.Paths.{target_of, target_cell, duplicate_bad, path_head_bad, later_bad, target_bad, paths_bad}
use Rattle.paths.specs.Leads.{NamesApart, Leads}
use Rattle.paths.proofs.Leads.{paths_kept, target_leads, leads_unique}
use Rattle.paths.proofs.Alike.{Alike, column_alike, paths_alike, target_alike}
use Rattle.lines.specs.Lined.{Lined}
use Rattle.lines.proofs.Pass.{rows_length}
use Rattle.reading.specs.Read.{table_short, owned_table, resolved_table, resolved_bad, sheet_cells, sheet_bad, sheet_table, Reads, read_bad}
use Rattle.lines.proofs.Heads.{headed}
use Rattle.lines.proofs.Lined.{lined, names_short}
use Rattle.reading.proofs.Resolved.{formed, accepted}
use Rattle.reading.proofs.Padding.{rows_lined}

-- a cell that is some natural number is its own natural number
natural_cell : (w : List ℤ) (i x : ℕ) → int_at w i ≡ pos x → int_at w i ≡ pos (nat_of (int_at w i))
natural_cell w i x e = rw e

-- the tree reads the cells before the owner only
owned_alike : (t w : List ℤ) → TreeAlike t w → (d x : ℕ) → Owned t d x → Owned w d x
owned_alike t w a d x (Owned.body _ _ f p) = Owned.body d x (alike_definition t w a d ∙ f) (rw (alike_parts t w a d) p)
owned_alike t w a d x (Owned.operand _ u _ o f p) = Owned.operand d u x (owned_alike t w a d u o) (alike_expression t w a u ∙ f) (rw (alike_parts t w a u) p)

-- what has a path has a kind, and what it must end at has one
path_low : (k : ℕ) → kinds.has_path k ≡ true → 1 ≤ k
path_low k p = kind_low k (expression_kind k (path_expression k p))

wanted_low : (k : ℕ) → kinds.has_path k ≡ true → 1 ≤ wanted_by k
wanted_low k p = kind_low (wanted_by k) (definition_kind (wanted_by k) (body_definition (wanted_by k) (path_body k p)))

module _ (s : List ℕ) (t : List ℤ) (n : ℕ) (is : Lined s t n) (tree : tree_bad t n ≡ Fine) (paths : paths_bad s (owned_table t n) n ≡ Fine) where
  abbrev u : List ℤ
  u = owned_table t n

  abbrev w : List ℤ
  w = resolved_table s t n

  resolved_length : length w ≡ length t
  unfolding resolved_table owned_table
  resolved_length = column_length 7 (target_cell s u n) n u ∙ column_length 6 (owner_of t n) n t

  owned_length : length u ≡ length t
  unfolding owned_table
  owned_length = column_length 6 (owner_of t n) n t

  -- ---- cells

  keeps : (i : ℕ) → ((k : ℕ) → k < n → i ≡ 8 * k + 7 → ⊥) → int_at w i ≡ int_at u i
  unfolding resolved_table
  keeps i h = column_keeps 7 (target_cell s u n) (omega arith) n u i h

  keeps_lines : (i : ℕ) → ((k : ℕ) → k < n → i ≡ 8 * k + 6 → ⊥) → int_at u i ≡ int_at t i
  unfolding owned_table
  keeps_lines i h = column_keeps 6 (owner_of t n) (omega arith) n t i h

  same : (l j : ℕ) → j < 7 → cell w l j ≡ cell u l j
  unfolding resolved_table
  same l j h = column_other 7 (target_cell s u n) (omega arith) n u l j (omega arith) (λ e. omega arith)

  same_lines : (l j : ℕ) → j < 6 → cell w l j ≡ cell t l j
  unfolding owned_table
  same_lines l j h = same l j (omega arith) ∙ column_other 6 (owner_of t n) (omega arith) n t l j (omega arith) (λ e. omega arith)

  unused : (i : ℕ) → 8 * n ≤ i → int_at w i ≡ pos 0
  unused i h = keeps i (λ k g e. omega arith) ∙ keeps_lines i (λ k g e. omega arith) ∙ is.unused i h

  -- by column: the target, the owner, or what the line wrote
  last_natural : (l j : ℕ) → l ≤ n → 1 ≤ l → j ≡ 7 → (x : ℕ) × (int_at w (8 * (l - 1) + j) ≡ pos x)
  unfolding resolved_table
  last_natural l j g h q = (target_cell s u n (suc (l - 1)), rw q (column_has 7 (target_cell s u n) (omega arith) n u (l - 1) (omega arith) (omega (arith, owned_length, is.room))))

  owner_natural : (l j : ℕ) → l ≤ n → 1 ≤ l → j ≡ 6 → (x : ℕ) × (int_at w (8 * (l - 1) + j) ≡ pos x)
  unfolding owned_table
  owner_natural l j g h q = (
    owner_of t n (suc (l - 1)),
    rw q (keeps (8 * (l - 1) + 6) (λ k a e. omega arith) ∙ column_has 6 (owner_of t n) (omega arith) n t (l - 1) (omega arith) is.room),
  )

  natural : (l j : ℕ) → 1 ≤ l → l ≤ n → j < 8 → (kind w l ≡ number_code → j ≡ 3 → ⊥) → int_at w (8 * (l - 1) + j) ≡ pos (cell w l j)
  natural l j h g m d = natural_cell w (8 * (l - 1) + j) some.0 some.1 ∙ ap pos (sym (cell_at w l j h))
    where
      line : j < 6 → (x : ℕ) × (int_at w (8 * (l - 1) + j) ≡ pos x)
      line q = (
        cell t l j,
        keeps (8 * (l - 1) + j) (λ k a e. omega arith) ∙ keeps_lines (8 * (l - 1) + j) (λ k a e. omega arith) ∙ is.natural l j h g m (λ a. d (same_lines l 0 (omega arith) ∙ a)),
      )

      some : (x : ℕ) × (int_at w (8 * (l - 1) + j) ≡ pos x)
      some =
          let top : j ≤ 7 = omega arith in
          ⊎_elim (last_natural l j g h) (λ p. let next : j ≤ 6 = omega arith in ⊎_elim (owner_natural l j g h) line (eq-or-lt_of_le next)) (eq-or-lt_of_le top)

  -- ---- parts

  part : (l d x : ℕ) → Part u n l d x → Part w n l d x
  part l d x p = record {
    above = p.above;
    label = p.label;
    expression = rw (same x 0 (omega arith)) p.expression;
    owned = same x 6 (omega arith) ∙ p.owned;
  }

  -- ---- owners: an expression's is the definition that owns it, and no other does; a definition's is its Group

  alike_lines : TreeAlike t w
  alike_lines l j h = same_lines l j h

  owner_own : (x : ℕ) → 1 ≤ kind t x → owner w x ≡ owner_of t n x
  unfolding owned_table
  owner_own x k =
      let f = formed s t n is in
      same x 6 (omega arith) ∙ column_own 6 (owner_of t n) (omega arith) n t x (label_low t x n f k) (label_high t x n f k) is.room

  rules : Treed t n
  rules = treed t n (formed s t n is) tree

  pub resolved_owned : (x : ℕ) → is_expression w x ≡ true → Owned w (owner w x) x
  resolved_owned x e =
      let q = sym (alike_expression t w alike_lines x) ∙ e in
      rw (owner_own x (line_kind t x q)) (owned_alike t w alike_lines (owner_of t n x) x (rules.owned x q))

  pub resolved_owned_only : (d x : ℕ) → Owned w d x → d ≡ owner w x
  resolved_owned_only d x o =
      let q = owned_alike w t (λ l j h. sym (same_lines l j h)) d x o in
      rules.owned_only d x q ∙ sym (owner_own x (line_kind t x (go q)))
    where
      go : Owned t d x → is_expression t x ≡ true
      go (Owned.body _ _ f p) = (rules.part d x p).expression
      go (Owned.operand _ y _ v f p) = (rules.part y x p).expression

  pub resolved_group : (d : ℕ) → is_definition w d ≡ true → owner w d ≡ field_a w d
  resolved_group d e =
      let q = sym (alike_definition t w alike_lines d) ∙ e in
      owner_own d (kind_low (kind t d) (definition_kind (kind t d) q)) ∙ owner_group t n d (not_expression (kind t d) q) ∙ sym (same_lines d 3 (omega arith))

  -- ---- targets

  found : (first_bad (target_bad s u n) 1 n ≡ Fine)
  unfolding paths_bad
  found = (both_fine (first_bad (later_bad s u n) 1 n) (first_bad (target_bad s u n) 1 n)
      (both_fine (first_bad (path_head_bad s u n) 1 n) _ (both_fine (first_bad (duplicate_bad s u) 1 n) _ paths).1).1).1

  aimed : (l : ℕ) → 1 ≤ l → l ≤ n → has_path u l ≡ true → kind u (target_of s u n l) ≡ wanted_by (kind u l)
  unfolding target_bad
  aimed l h g e = go (eqb (kind u (target_of s u n l)) (wanted_by (kind u l))) refl (first_none (target_bad s u n) n 1 found l h (omega arith))
    where
      go : (b : Bool) → eqb (kind u (target_of s u n l)) (wanted_by (kind u l)) ≡ b → target_bad s u n l ≡ None → kind u (target_of s u n l) ≡ wanted_by (kind u l)
      go true q z = eqb-true (kind u (target_of s u n l)) (wanted_by (kind u l)) q
      go false q z = let y : Some target_row ≡ None = rw (e, q) at z in absurd cc

  target_own : (l : ℕ) → 1 ≤ l → l ≤ n → target w l ≡ target_cell s u n l
  unfolding resolved_table
  target_own l h g = column_own 7 (target_cell s u n) (omega arith) n u l h g (omega (arith, owned_length, is.room))

  target_at : (l : ℕ) → has_path w l ≡ true → 1 ≤ kind w l → (target w l ≡ target_of s u n l) × (kind w (target w l) ≡ wanted_by (kind w l))
  target_at l p low =
      let q = same l 0 (omega arith) in
      let has : has_path u l ≡ true = rw q at p in
      let h = label_low t l n (formed s t n is) (omega (arith, same_lines l 0 (omega arith))) in
      let g = label_high t l n (formed s t n is) (omega (arith, same_lines l 0 (omega arith))) in
      let at : target w l ≡ target_of s u n l = target_own l h g ∙ rw has in
      (at, rw at (same (target_of s u n l) 0 (omega arith) ∙ aimed l h g has ∙ ap wanted_by (sym q)))

  target_of_lem : (x : ℕ) → has_path w x ≡ true → (target w x ≡ target_of s u n x) × (target w x ≡ 0 → ⊥)
  target_of_lem x p =
      let a = target_at x p (path_low (kind w x) p) in
      (a.0, λ z. omega (arith, a.1, wanted_low (kind w x) p, ap (kind w) z))

  -- the target of an R or C is where its path leads, and no other label is
  alike : Alike u w
  unfolding resolved_table
  alike = column_alike (target_cell s u n) n u

  names_apart : NamesApart s w n
  names_apart = (paths_kept s w n (paths_alike s u w alike n ∙ paths)).apart

  pub resolved_leads : (x : ℕ) → has_path w x ≡ true → Leads s w n x (target w x)
  resolved_leads x e = target_leads s w n x (target w x) (target_alike s u w alike n x ∙ sym (target_of_lem x e).0) (target_of_lem x e).1

  pub resolved_leads_only : (x m : ℕ) → has_path w x ≡ true → Leads s w n x m → m ≡ target w x
  resolved_leads_only x m e p = leads_unique s w n names_apart x m (target w x) p (resolved_leads x e)

  no_target : (l : ℕ) → has_path w l ≡ false → target w l ≡ 0
  no_target l p = go l (leb l n) refl p
    where
      go : (l : ℕ) (c : Bool) → leb l n ≡ c → has_path w l ≡ false → target w l ≡ 0
      go zero c q e = refl
      go (suc k) true q e =
          let none : has_path u (suc k) ≡ false = rw (same (suc k) 0 (omega arith)) at e in
          target_own (suc k) (omega arith) (leb-true (suc k) n q) ∙ rw none
      go (suc k) false q e = ap nat_of (unused (8 * k + 7) (omega (arith, leb-false (suc k) n q)))

  number_same : (l : ℕ) → line_number w l ≡ line_number t l
  unfolding resolved_table owned_table
  number_same l = column_number 7 (target_cell s u n) (omega arith) n u l (λ e. omega arith) ∙ column_number 6 (owner_of t n) (omega arith) n t l (λ e. omega arith)

  pub resolved_accepted : Accepted w n
  resolved_accepted =
      let a = accepted s t n is tree in
      record {
        some = is.some;
        few = is.few;
        room = omega (arith, resolved_length, is.room);
        unused = unused;
        natural = natural;
        kinds = λ l h g. rw (same_lines l 0 (omega arith)) (is.kinds l h g);
        root = same_lines 1 0 (omega arith) ∙ is.root;
        top = same 1 6 (omega arith) ∙ omega (arith, a.falls 1 (omega arith) is.some);
        falls = λ l h g. rw (same l 6 (omega arith)) (a.falls l h g);
        group = λ l h g k. rw (same l 6 (omega arith), same (owner u l) 0 (omega arith)) (a.group l h g (rw (same l 0 (omega arith)) at k));
        owners = λ l k. rw (same l 6 (omega arith), same (owner u l) 0 (omega arith)) (a.owners l (rw (same l 0 (omega arith)) at k));
        argument = λ l. rw (same l 6 (omega arith), same (owner u l) 0 (omega arith), same l 0 (omega arith)) (a.argument l);
        body = λ l h. rw (same l 4 (omega arith)) (part l l (field_b u l) (a.body l (rw (same l 0 (omega arith)) at h)));
        first = λ l h. rw (same l 3 (omega arith), same l 6 (omega arith)) (part l (owner u l) (field_a u l) (a.first l (rw (same l 0 (omega arith)) at h)));
        second = λ l h. rw (same l 4 (omega arith), same l 6 (omega arith)) (part l (owner u l) (field_b u l) (a.second l (rw (same l 0 (omega arith)) at h)));
        third = λ l h. rw (same l 5 (omega arith), same l 6 (omega arith)) (part l (owner u l) (field_c u l) (a.third l (rw (same l 0 (omega arith)) at h)));
        leads = λ l p. (target_at l p (path_low (kind w l) p)).1;
        others = no_target;
        number = λ l e. rw (number_same l) (is.number l (sym (same_lines l 0 (omega arith)) ∙ e));
      }

  pub resolved_names : (l : ℕ) → name_start w l + name_length w l ≤ length s
  resolved_names l = omega (arith, same_lines l 1 (omega arith), same_lines l 2 (omega arith), is.names l)

-- ---- the table of a sheet that reads

-- what rows 1 to 15 find, row 4 aside
pub reads : (s : List ℕ) → head_bad s ≡ Fine → sheet_bad s ≡ Fine → Reads s
reads s h e = rw (h, e)

pub read_fine : (s : List ℕ) (m : ℕ) → read_bad s m ≡ Fine → Reads s
unfolding read_bad
read_fine s m e =
    let h = both_fine (head_bad s) (or_else (table_short s m) (sheet_bad s)) e in
    reads s h.0 (both_fine (table_short s m) (sheet_bad s) h.1).1

-- rows 5 to 15 find nothing in a sheet of 1 to 1,024 labels, of whatever length
module _ (s : List ℕ) (low : 1 ≤ labels s) (high : labels s ≤ label_limit) (e : sheet_bad s ≡ Fine) where
  abbrev n : ℕ
  n = labels s

  abbrev rows : List ℤ
  rows = sheet_cells s

  lines_fine : (lines_bad s n ≡ Fine) × (resolved_bad s rows n ≡ Fine)
  unfolding sheet_bad
  lines_fine = both_fine (lines_bad s n) (resolved_bad s rows n) e

  tree_fine : (tree_bad rows n ≡ Fine) × (paths_bad s (owned_table rows n) n ≡ Fine)
  unfolding resolved_bad
  tree_fine = both_fine (tree_bad rows n) (paths_bad s (owned_table rows n) n) lines_fine.1

  is_lined : Lined s rows n
  is_lined = rw (rows_lined s) at (lined s (8 * n) low high lines_fine.0 (omega arith))

  pub any_accepted : Accepted (sheet_table s) (labels s)
  unfolding sheet_table
  any_accepted = resolved_accepted s rows n is_lined tree_fine.0 tree_fine.1

  pub any_names : (l : ℕ) → name_start (sheet_table s) l + name_length (sheet_table s) l ≤ length s
  unfolding sheet_table
  any_names = resolved_names s rows n is_lined tree_fine.0 tree_fine.1

  -- a value's name has at most 16 bytes
  pub any_short : (v : ℕ) → kind (sheet_table s) v ≡ value_code → name_length (sheet_table s) v ≤ name_limit
  unfolding sheet_table
  any_short v k =
      let same = same_lines s rows n is_lined tree_fine.0 tree_fine.1 v in
      let short : (kind rows v ≡ value_code → name_length rows v ≤ name_limit) = rw (rows_lined s) at (names_short s (8 * n) low high lines_fine.0 v) in
      rw (same 2 (omega arith)) (short (sym (same 0 (omega arith)) ∙ k))

  pub any_length : length (sheet_table s) ≡ 8 * labels s
  unfolding sheet_table sheet_cells
  any_length = resolved_length s rows n is_lined tree_fine.0 tree_fine.1 ∙ rows_length s n n

  -- the target of an R or C is where its path leads by "Paths", and that is one definition
  pub any_targets : (x : ℕ) → has_path (sheet_table s) x ≡ true → Leads s (sheet_table s) (labels s) x (target (sheet_table s) x)
  unfolding sheet_table
  any_targets = resolved_leads s rows n is_lined tree_fine.0 tree_fine.1

  pub any_targets_only : (x m : ℕ) → has_path (sheet_table s) x ≡ true → Leads s (sheet_table s) (labels s) x m → m ≡ target (sheet_table s) x
  unfolding sheet_table
  any_targets_only = resolved_leads_only s rows n is_lined tree_fine.0 tree_fine.1

  -- "owner (a definition's Group, an expression's definition)"; an expression is owned by one definition
  pub any_owners : (x : ℕ) → is_expression (sheet_table s) x ≡ true → Owned (sheet_table s) (owner (sheet_table s) x) x
  unfolding sheet_table
  any_owners = resolved_owned s rows n is_lined tree_fine.0 tree_fine.1

  pub any_owners_only : (d x : ℕ) → Owned (sheet_table s) d x → d ≡ owner (sheet_table s) x
  unfolding sheet_table
  any_owners_only = resolved_owned_only s rows n is_lined tree_fine.0 tree_fine.1

  pub any_groups : (d : ℕ) → is_definition (sheet_table s) d ≡ true → owner (sheet_table s) d ≡ field_a (sheet_table s) d
  unfolding sheet_table
  any_groups = resolved_group s rows n is_lined tree_fine.0 tree_fine.1

-- ---- the same of a sheet that reads

module _ (s : List ℕ) (e : Reads s) where
  both : (head_bad s ≡ Fine) × (sheet_bad s ≡ Fine)
  both = both_fine (head_bad s) (sheet_bad s) e

  least : 1 ≤ labels s
  least = (headed s both.0).low

  most : labels s ≤ label_limit
  most = (headed s both.0).high

  pub read_accepted : Accepted (sheet_table s) (labels s)
  read_accepted = any_accepted s least most both.1

  pub read_names : (l : ℕ) → name_start (sheet_table s) l + name_length (sheet_table s) l ≤ length s
  read_names = any_names s least most both.1

  pub read_short : (v : ℕ) → kind (sheet_table s) v ≡ value_code → name_length (sheet_table s) v ≤ name_limit
  read_short = any_short s least most both.1

  pub read_length : length (sheet_table s) ≡ 8 * labels s
  read_length = any_length s least most both.1

  pub read_targets : (x : ℕ) → has_path (sheet_table s) x ≡ true → Leads s (sheet_table s) (labels s) x (target (sheet_table s) x)
  read_targets = any_targets s least most both.1

  pub read_targets_only : (x m : ℕ) → has_path (sheet_table s) x ≡ true → Leads s (sheet_table s) (labels s) x m → m ≡ target (sheet_table s) x
  read_targets_only = any_targets_only s least most both.1

  pub read_owners : (x : ℕ) → is_expression (sheet_table s) x ≡ true → Owned (sheet_table s) (owner (sheet_table s) x) x
  read_owners = any_owners s least most both.1

  pub read_owners_only : (d x : ℕ) → Owned (sheet_table s) d x → d ≡ owner (sheet_table s) x
  read_owners_only = any_owners_only s least most both.1

  pub read_groups : (d : ℕ) → is_definition (sheet_table s) d ≡ true → owner (sheet_table s) d ≡ field_a (sheet_table s) d
  read_groups = any_groups s least most both.1
