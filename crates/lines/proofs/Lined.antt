-- What rows 1 to 7 give of the table that they leave.
use mathlib.Core.Path.{◌≡◌, refl, ap, sym, ◌∙◌}
use mathlib.Core.Bool.{Bool, true, false, cond, ◌&&◌}
use mathlib.Core.List.{List, ◌++◌}
use Prim.Native.Nat.{ℕ, zero, suc, ◌+◌, ◌-◌, ◌*◌, ◌≤◌, ◌<◌}
use native.Mathlib.Nat.{not-suc-le-zero}
use native.Mathlib.Omega.{arith}
use borrow.Author.Tests.{eqb-true, eqb-false, eq-eqb, ne_eqb, leb-true, ltb-true, ltb-false}
use lib.Dec.{eqb, leb, ltb}
use lib.IntN.{ℤ, pos, nat_abs}
use lib.ListN.{length, get_or, length-append, length-replicate, get_or-append}
use lib.Seq.{get_or-append-add}
use Rattle.cells.specs.Limits.{label_limit, number_limit, name_limit}
use Rattle.cells.specs.Characters.{newline, space}
use Rattle.kinds.specs.declared.Fields.{Fields}
use Rattle.kinds.specs.declared.Form.{Form}
use Rattle.kinds.specs.declared.Form.TheVariants as form
use Rattle.kinds.specs.Kinds.{kinds, kind_at, fields_at, code_of, is_kind, group_code, value_code, number_code}
use Rattle.kinds.proofs.Codes.{is_number, number_a, number_b, number_c, number_form}
use Rattle.cells.specs.Cells.{nat_of, int_at, zeros}
use Rattle.cells.specs.Table.{cell, kind, name_start, name_length, field_a}
use Rattle.cells.specs.Table as table
use Rattle.cells.proofs.Stores.{int_at_zeros}
use Rattle.numbers.specs.Decimal.{number_of}
use Rattle.numbers.proofs.Decimals.{number_size}
use Rattle.refusals.specs.Rows.{fields_row, kind_row, form_row}
use Rattle.refusals.specs.Refusal.{Fine}
use Rattle.refusals.specs.declared.Row.{Row}
use Rattle.std.specs.Prelude.{Option, Some, None}
use Rattle.refusals.proofs.FirstBad.{first_none}
use Rattle.text.specs.Bytes.{all, same, is_letter, is_alphanumeric}
use Rattle.text.specs.Pieces.{cut, piece_start, fields_are}
use Rattle.text.specs.Forms.{is_name, is_path, label_of}
use Rattle.text.proofs.Bytes.{true_false, and_left, and_right, same_eq}
use Rattle.text.proofs.Cuts.{pieces, piece_inside, fields_count}
use Rattle.text.proofs.Labels.{label_least}
use Rattle.lines.specs.Fields.{dash, blank_if, from_label, field_of, is_right, held, kind_code}
use Rattle.lines.specs.Lines.{line, labels, root_line, field, forms_right, line_bad, line_check, lines_bad, root_cells, field_cells, line_cells, lines_cells}
use Rattle.lines.specs.Lined.{lined_table, Lined}
use Rattle.lines.proofs.Fields.{kind_known}
use Rattle.lines.proofs.Pass.{rows_length}

-- ---- what a field holds, by its form

abbrev Natural : ℤ → Type 0
Natural z = z ≡ pos (nat_of z)

blank_natural : (b : Bool) → Natural (held (blank_if b))
blank_natural true = refl
blank_natural false = refl

pub is_blank : (b : Bool) → is_right (blank_if b) ≡ true → b ≡ true
is_blank true e = refl
is_blank false e = absurd (true_false (sym e))

name_size_lem : (f : List ℕ) → is_name f ≡ true → length f ≤ name_limit
unfolding is_name
name_size_lem f e =
    let a = leb 1 (length f) in
    let b = leb (length f) name_limit in
    let c = is_letter (get_or f 0 0) in
    leb-true (length f) name_limit (and_right a b (and_left (a && b) c (and_left (a && b && c) (all is_alphanumeric f) e)))

label_natural : (d : Option ℕ) → Natural (held (from_label d))
label_natural (Some v) = refl
label_natural None = refl

held_natural : (f : Form) (n : ℕ) (w : List ℕ) → is_number f ≡ false → Natural (held (field_of f n w))
unfolding field_of
held_natural form.Missing n w e = blank_natural (same w dash)
held_natural form.Name n w e = blank_natural (is_name w)
held_natural form.Path n w e = blank_natural (is_path w)
held_natural form.Group n w e = label_natural (label_of n w)
held_natural form.Operand n w e = label_natural (label_of n w)
held_natural form.Number n w e = absurd (true_false e)

held_number : (n : ℕ) (w : List ℕ) → nat_abs (held (field_of form.Number n w)) ≤ number_limit
unfolding field_of
held_number n w = go (number_of w) refl
  where
    go : (x : Option ℤ) → number_of w ≡ x → nat_abs (held x) ≤ number_limit
    go (Some z) e = number_size w z e
    go None e = omega arith

held_label : (n : ℕ) (w : List ℕ) → is_right (field_of form.Operand n w) ≡ true → 1 ≤ nat_of (held (field_of form.Operand n w))
unfolding field_of
held_label n w r = go (label_of n w) refl r
  where
    go : (d : Option ℕ) → label_of n w ≡ d → is_right (from_label d) ≡ true → 1 ≤ nat_of (held (from_label d))
    go (Some v) e f = label_least n w v e
    go None e f = absurd (true_false (sym f))

-- ---- a line that rows 5 to 7 let pass

-- an operand field, where the kind wants one, holds a label
abbrev Right : Form → ℕ → List ℕ → Type 0
Right f n w = f ≡ form.Operand → is_right (field_of f n w) ≡ true

record Formed (n : ℕ) (k : Fields) (fs : List (List ℕ)) : Type 0 where
  first : Right k.a n (field fs 2)
  second : Right k.b n (field fs 3)
  third : Right k.c n (field fs 4)

group_differs : form.Group ≡ form.Operand → ⊥
group_differs e = let z : ◌≡◌ {A = ℕ} 0 1 = cc in omega arith

missing_differs : form.Missing ≡ form.Operand → ⊥
missing_differs e = let z : ◌≡◌ {A = ℕ} 0 1 = cc in omega arith

none_then : (b : Bool) (x : Option Row) (r : Row) → cond b x (Some r) ≡ None → (b ≡ true) × (x ≡ None)
none_then true x r e = (refl, e)
none_then false x r e = absurd cc

none_else : (b : Bool) (x : Option Row) (r : Row) → cond b (Some r) x ≡ None → (b ≡ false) × (x ≡ None)
none_else true x r e = absurd cc
none_else false x r e = (refl, e)

root_code : kind_code (field (cut space root_line) 0) ≡ group_code
unfolding root_line code_of kinds
root_code = refl

module _ (n k : ℕ) (l : List ℕ) (e : line_bad n k l ≡ None) where
  abbrev fs : List (List ℕ)
  fs = cut space l

  abbrev code : ℕ
  code = kind_code (field fs 0)

  abbrev formed : Bool
  formed = cond (eqb k 1) (same l root_line) (forms_right n (fields_at code) fs)

  -- what row 7 finds, and rows 6 and 7
  abbrev form_bad : Option Row
  form_bad = cond formed None (Some form_row)

  abbrev kind_bad : Option Row
  kind_bad = cond (eqb code 0) (Some kind_row) form_bad

  pub fine_fields : (fields_are 5 fs ≡ true) × (kind_bad ≡ None)
  unfolding line_bad
  fine_fields = none_then (fields_are 5 fs) kind_bad fields_row e

  fine_kind : (eqb code 0 ≡ false) × (form_bad ≡ None)
  fine_kind = none_else (eqb code 0) form_bad kind_row fine_fields.1

  pub fine_forms : formed ≡ true
  fine_forms = (none_then formed None form_row fine_kind.1).0

  five : length fs ≡ 5
  five = fields_count 5 fs fine_fields.0

  pub known : 1 ≤ code
  known = let d = eqb-false code 0 fine_kind.0 in omega (arith, d)

  pub root_is : k ≡ 1 → l ≡ root_line
  root_is q = let r : formed ≡ true = fine_forms in same_eq l root_line (rw (eq-eqb k 1 q) at r)

  -- label 1 is a Group, which has no operands
  root_formed : k ≡ 1 → Formed n (fields_at code) fs
  unfolding kind_at kinds
  root_formed q =
      let c : code ≡ group_code = ap (λ (x : List ℕ). kind_code (field (cut space x) 0)) (root_is q) ∙ root_code in
      record {
        first = λ f. absurd (group_differs (sym (ap (λ (x : ℕ). (fields_at x).a) c) ∙ f));
        second = λ f. absurd (missing_differs (sym (ap (λ (x : ℕ). (fields_at x).b) c) ∙ f));
        third = λ f. absurd (missing_differs (sym (ap (λ (x : ℕ). (fields_at x).c) c) ∙ f));
      }

  row_formed : forms_right n (fields_at code) fs ≡ true → Formed n (fields_at code) fs
  row_formed r =
      let name = is_right (field_of (fields_at code).name n (field fs 1)) in
      let a = is_right (field_of (fields_at code).a n (field fs 2)) in
      let b = is_right (field_of (fields_at code).b n (field fs 3)) in
      let c = is_right (field_of (fields_at code).c n (field fs 4)) in
      let ab : (name && a && b) ≡ true = and_left (name && a && b) c r in
      record {
        first = λ f. and_right name a (and_left (name && a) b ab);
        second = λ f. and_right (name && a) b ab;
        third = λ f. and_right (name && a && b) c r;
      }

  all_formed : Formed n (fields_at code) fs
  all_formed = go (eqb k 1) refl fine_forms
    where
      go : (b : Bool) → eqb k 1 ≡ b → cond b (same l root_line) (forms_right n (fields_at code) fs) ≡ true → Formed n (fields_at code) fs
      go true q r = root_formed (eqb-true k 1 q)
      go false q r = row_formed r

-- ---- the eight cells of a line

-- the cells of label k: those of label 1, and those of the others
by_label : (n k p : ℕ) (fs : List (List ℕ)) (P : List ℤ → Type 0) → (k ≡ 1 → P root_cells) → ((k ≡ 1 → ⊥) → P (field_cells n p fs)) → P (line_cells n k p fs)
by_label n k p fs P root other = go (eqb k 1) refl
  where
    go : (b : Bool) → eqb k 1 ≡ b → P (cond b root_cells (field_cells n p fs))
    go true q = root (eqb-true k 1 q)
    go false q = other (eqb-false k 1 q)

blank_root : (j : ℕ) → 1 ≤ j → int_at root_cells j ≡ pos 0
blank_root zero h = absurd (omega arith)
blank_root (suc j) h = int_at_zeros 7 j

natural_root : (j : ℕ) → Natural (int_at root_cells j)
natural_root zero = refl
natural_root (suc j) = rw (int_at_zeros 7 j)

module _ (n p : ℕ) (fs : List (List ℕ)) where
  blank_line : (j : ℕ) → 6 ≤ j → int_at (field_cells n p fs) j ≡ pos 0
  unfolding field_cells
  blank_line j h = let q : j ≡ suc (suc (suc (suc (suc (suc (j - 6)))))) = omega arith in rw q (int_at_zeros 2 (j - 6))

  natural_line : (j : ℕ) → (kind_code (field fs 0) ≡ number_code → j ≡ 3 → ⊥) → Natural (int_at (field_cells n p fs) j)
  unfolding field_cells
  natural_line zero d = refl
  natural_line (suc zero) d = refl
  natural_line (suc (suc zero)) d = refl
  natural_line (suc (suc (suc zero))) d = held_natural (fields_at (kind_code (field fs 0))).a n (field fs 2) (number_a (kind_code (field fs 0)) (λ q. d q refl))
  natural_line (suc (suc (suc (suc zero)))) d = held_natural (fields_at (kind_code (field fs 0))).b n (field fs 3) (number_b (kind_code (field fs 0)))
  natural_line (suc (suc (suc (suc (suc zero))))) d = held_natural (fields_at (kind_code (field fs 0))).c n (field fs 4) (number_c (kind_code (field fs 0)))
  natural_line (suc (suc (suc (suc (suc (suc j)))))) d = rw (int_at_zeros 2 j)

  pub blank_row : (k j : ℕ) → 6 ≤ j → int_at (line_cells n k p fs) j ≡ pos 0
  blank_row k j h = by_label n k p fs (λ (r : List ℤ). int_at r j ≡ pos 0) (λ q. blank_root j (omega arith)) (λ q. blank_line j h)

  natural_row : (k j : ℕ) → (kind_code (field fs 0) ≡ number_code → j ≡ 3 → ⊥) → Natural (int_at (line_cells n k p fs) j)
  natural_row k j d = by_label n k p fs (λ (r : List ℤ). Natural (int_at r j)) (λ q. natural_root j) (λ q. natural_line j d)

-- ---- the cells of all lines

pub row_at : (s : List ℕ) (n i k j : ℕ) → k < i → j < 8
    → int_at (lines_cells s n i) (8 * k + j) ≡ int_at (line_cells n (suc k) (piece_start (cut newline s) (suc k)) (cut space (line s (suc k)))) j
row_at s n zero k j h g = absurd (not-suc-le-zero h)
row_at s n (suc i) k j h g = go (ltb k i) refl (λ m. row_at s n i k j m g)
  where
    own : ℕ → List ℤ
    own x = line_cells n (suc x) (piece_start (cut newline s) (suc x)) (cut space (line s (suc x)))

    go : (b : Bool) → ltb k i ≡ b → (k < i → int_at (lines_cells s n i) (8 * k + j) ≡ int_at (own k) j) → int_at (lines_cells s n i ++ own i) (8 * k + j) ≡ int_at (own k) j
    go true q older =
        let m : k < i = ltb-true k i q in
        get_or-append (lines_cells s n i) (own i) (pos 0) (8 * k + j) (omega (arith, rows_length s n i)) ∙ older m
    go false q older =
        let m : k ≡ i = omega (arith, ltb-false k i q) in
        let x : 8 * k + j ≡ length (lines_cells s n i) + j = omega (arith, rows_length s n i) in
        ap (int_at (lines_cells s n i ++ own i)) x ∙ get_or-append-add (lines_cells s n i) (own i) j (pos 0) ∙ ap (λ (y : ℕ). int_at (own y) j) (sym m)

pub lined_length : (s : List ℕ) (m : ℕ) → 8 * labels s ≤ m → length (lined_table s m) ≡ m
unfolding lined_table
lined_length s m h =
    let n = labels s in
    omega (arith, length-append (lines_cells s n n) (zeros (m - 8 * n)), rows_length s n n, length-replicate (m - 8 * n) (pos 0))

module _ (s : List ℕ) (m : ℕ) (low : 1 ≤ labels s) (high : labels s ≤ label_limit) (fine : lines_bad s (labels s) ≡ Fine) where
  abbrev n : ℕ
  n = labels s

  abbrev t : List ℤ
  t = lined_table s m

  -- of label k + 1
  abbrev start : ℕ → ℕ
  start k = piece_start (cut newline s) (suc k)

  abbrev fields : ℕ → List (List ℕ)
  fields k = cut space (line s (suc k))

  abbrev kind_of : ℕ → Fields
  kind_of k = fields_at (kind_code (field (fields k) 0))

  cells_at : (k j : ℕ) → k < n → j < 8 → int_at t (8 * k + j) ≡ int_at (line_cells n (suc k) (start k) (fields k)) j
  unfolding lined_table
  cells_at k j h g =
      get_or-append (lines_cells s n n) (zeros (m - 8 * n)) (pos 0) (8 * k + j) (omega (arith, rows_length s n n)) ∙ row_at s n n k j h g

  unused_at : (i : ℕ) → 8 * n ≤ i → int_at t i ≡ pos 0
  unfolding lined_table
  unused_at i h =
      let q : i ≡ length (lines_cells s n n) + (i - 8 * n) = omega (arith, rows_length s n n) in
      ap (int_at (lines_cells s n n ++ zeros (m - 8 * n))) q ∙ get_or-append-add (lines_cells s n n) (zeros (m - 8 * n)) (i - 8 * n) (pos 0) ∙ int_at_zeros (m - 8 * n) (i - 8 * n)

  past : (k j : ℕ) → n ≤ k → cell t (suc k) j ≡ 0
  past k j h = ap nat_of (unused_at (8 * k + j) (omega arith))

  line_fine : (k : ℕ) → k < n → line_bad n (suc k) (line s (suc k)) ≡ None
  unfolding lines_bad
  line_fine k h = first_none (line_check s n) n 1 fine (suc k) (omega arith) (omega arith)

  line_formed : (k : ℕ) → k < n → Formed n (kind_of k) (fields k)
  line_formed k h = all_formed n (suc k) (line s (suc k)) (line_fine k h)

  kind_at_lem : (k : ℕ) → k < n → kind t (suc k) ≡ kind_code (field (fields k) 0)
  unfolding field_cells
  kind_at_lem k h =
      ap nat_of (cells_at k 0 h (omega arith))
      ∙ by_label n (suc k) (start k) (fields k) (λ (r : List ℤ). nat_of (int_at r 0) ≡ kind_code (field (fields k) 0))
      (λ q. sym (ap (λ (x : List ℕ). kind_code (field (cut space x) 0)) (root_is n (suc k) (line s (suc k)) (line_fine k h) q) ∙ root_code)) (λ q. refl)

  -- label 1
  root_line_lem : line s 1 ≡ root_line
  root_line_lem = root_is n 1 (line s 1) (line_fine 0 low) refl

  root_kind : kind t 1 ≡ group_code
  root_kind = kind_at_lem 0 low ∙ ap (λ (x : List ℕ). kind_code (field (cut space x) 0)) root_line_lem ∙ root_code

  root_top : field_a t 1 ≡ 0
  root_top = ap nat_of (cells_at 0 3 low (omega arith))

  naturals : (l j : ℕ) → 1 ≤ l → l ≤ n → j < 8 → (kind t l ≡ number_code → j ≡ 3 → ⊥) → int_at t (8 * (l - 1) + j) ≡ pos (cell t l j)
  naturals zero j h g a d = absurd (not-suc-le-zero h)
  naturals (suc k) j h g a d =
      let q : 8 * (suc k - 1) + j ≡ 8 * k + j = omega arith in
      rw (q, cells_at k j (omega arith) a) (natural_row n (start k) (fields k) (suc k) j (λ c. d (kind_at_lem k (omega arith) ∙ c)))

  codes : (l : ℕ) → 1 ≤ l → l ≤ n → is_kind (kind t l) ≡ true
  codes zero h g = absurd (not-suc-le-zero h)
  codes (suc k) h g = rw (kind_at_lem k (omega arith)) (kind_known (field (fields k) 0) (known n (suc k) (line s (suc k)) (line_fine k (omega arith))))

  -- a line lies in the text, and a name field in its line
  line_inside : (k : ℕ) → k < n → start k + length (line s (suc k)) ≤ length s
  unfolding line labels
  line_inside k h = piece_inside newline s (suc k) (omega (arith, pieces s))

  name_inside : (k : ℕ) → k < n → name_start t (suc k) + name_length t (suc k) ≤ length s
  unfolding field_cells
  name_inside k h =
      rw (cells_at k 1 h (omega arith), cells_at k 2 h (omega arith))
      (by_label n (suc k) (start k) (fields k) (λ (r : List ℤ). nat_of (int_at r 1) + nat_of (int_at r 2) ≤ length s)
      (λ q. omega arith) (λ q. go (same (field (fields k) 1) dash)))
    where
      in_line : piece_start (fields k) 1 + length (field (fields k) 1) ≤ length (line s (suc k))
      in_line = piece_inside space (line s (suc k)) 1 (omega (arith, five n (suc k) (line s (suc k)) (line_fine k h)))

      go : (b : Bool) → cond b 0 (start k + piece_start (fields k) 1) + cond b 0 (length (field (fields k) 1)) ≤ length s
      go true = omega arith
      go false = omega (arith, in_line, line_inside k h)

  names_inside : (l : ℕ) → name_start t l + name_length t l ≤ length s
  names_inside zero = omega arith
  names_inside (suc k) = go (ltb k n) refl
    where
      go : (b : Bool) → ltb k n ≡ b → name_start t (suc k) + name_length t (suc k) ≤ length s
      go true e = name_inside k (ltb-true k n e)
      go false e = let h = ltb-false k n e in omega (arith, past k 1 h, past k 2 h)

  -- a value's name has no more bytes than a name may have
  value_forms : (k : ℕ) → k < n → kind t (suc k) ≡ value_code → forms_right n (kind_of k) (fields k) ≡ true
  value_forms k h e =
      let d : suc k ≡ 1 → ⊥ = λ q. omega (arith, ap (kind t) q, root_kind) in
      rw (ne_eqb (suc k) 1 d) at (fine_forms n (suc k) (line s (suc k)) (line_fine k h))

  value_name : (k : ℕ) → k < n → kind t (suc k) ≡ value_code → is_name (field (fields k) 1) ≡ true
  unfolding kind_at kinds field_of
  value_name k h e =
      let c : kind_code (field (fields k) 0) ≡ value_code = sym (kind_at_lem k h) ∙ e in
      is_blank (is_name (field (fields k) 1)) (and_left _ _ (and_left _ _ (and_left _ _ (rw c at (value_forms k h e)))))

  name_short : (k : ℕ) → k < n → kind t (suc k) ≡ value_code → name_length t (suc k) ≤ name_limit
  unfolding field_cells
  name_short k h e =
      rw (cells_at k 2 h (omega arith))
      (by_label n (suc k) (start k) (fields k) (λ (r : List ℤ). nat_of (int_at r 2) ≤ name_limit) (λ q. omega arith) (λ q. go (same (field (fields k) 1) dash)))
    where
      go : (b : Bool) → cond b 0 (length (field (fields k) 1)) ≤ name_limit
      go true = omega arith
      go false = name_size_lem (field (fields k) 1) (value_name k h e)

  pub names_short : (l : ℕ) → kind t l ≡ value_code → name_length t l ≤ name_limit
  names_short zero e = omega arith
  names_short (suc k) e = go (ltb k n) refl
    where
      go : (b : Bool) → ltb k n ≡ b → name_length t (suc k) ≤ name_limit
      go true q = name_short k (ltb-true k n q) e
      go false q = omega (arith, past k 2 (ltb-false k n q))

  -- cell j of a line but label 1's holds its field i, of the form that `wanted` says of its kind; a Group has no operand
  operand_at : (wanted : Fields → Form) (i j : ℕ) → j < 8 → (wanted (fields_at group_code) ≡ form.Operand → ⊥)
      → ((k : ℕ) → int_at (field_cells n (start k) (fields k)) j ≡ held (field_of (wanted (kind_of k)) n (field (fields k) i)))
      → ((k : ℕ) → k < n → Right (wanted (kind_of k)) n (field (fields k) i))
      → (l : ℕ) → 1 ≤ l → l ≤ n → wanted (fields_at (kind t l)) ≡ form.Operand → 1 ≤ cell t l j
  operand_at wanted i j small none holds right zero h g e = absurd (not-suc-le-zero h)
  operand_at wanted i j small none holds right (suc k) h g e =
      let b : k < n = omega arith in
      let f : wanted (kind_of k) ≡ form.Operand = sym (ap (λ (c : ℕ). wanted (fields_at c)) (kind_at_lem k b)) ∙ e in
      let r : is_right (field_of form.Operand n (field (fields k) i)) ≡ true = sym (ap (λ (x : Form). is_right (field_of x n (field (fields k) i))) f) ∙ right k b f in
      rw (cells_at k j b small)
      (by_label n (suc k) (start k) (fields k) (λ (x : List ℤ). 1 ≤ nat_of (int_at x j))
      (λ q. absurd (none (sym (ap (λ (x : ℕ). wanted (fields_at (kind t x))) q ∙ ap (λ (c : ℕ). wanted (fields_at c)) root_kind) ∙ e)))
      (λ q. rw (holds k, f) (held_label n (field (fields k) i) r)))

  number_at_lem : (k : ℕ) → k < n → kind t (suc k) ≡ number_code → nat_abs (table.line_number t (suc k)) ≤ number_limit
  unfolding field_cells
  number_at_lem k h e =
      let f : (kind_of k).a ≡ form.Number = ap (λ (c : ℕ). (fields_at c).a) (sym (kind_at_lem k h) ∙ e) ∙ number_form in
      rw (cells_at k 3 h (omega arith))
      (by_label n (suc k) (start k) (fields k) (λ (r : List ℤ). nat_abs (int_at r 3) ≤ number_limit) (λ q. omega arith) (λ q. rw f (held_number n (field (fields k) 2))))

  number_in_range : (l : ℕ) → kind t l ≡ number_code → nat_abs (table.line_number t l) ≤ number_limit
  number_in_range zero e = absurd (omega arith)
  number_in_range (suc k) e = go (ltb k n) refl
    where
      go : (b : Bool) → ltb k n ≡ b → nat_abs (table.line_number t (suc k)) ≤ number_limit
      go true q = number_at_lem k (ltb-true k n q) e
      go false q = absurd (omega (arith, past k 0 (ltb-false k n q)))

  pub lined : 8 * labels s ≤ m → Lined s (lined_table s m) (labels s)
  unfolding field_cells kind_at kinds
  lined room = record {
    some = low;
    few = high;
    room = omega (arith, lined_length s m room);
    unused = unused_at;
    natural = naturals;
    kinds = codes;
    root = root_kind;
    top = root_top;
    names = names_inside;
    a = operand_at (λ (k : Fields). k.a) 2 3 (omega arith) group_differs (λ k. refl) (λ k h. (line_formed k h).first);
    b = operand_at (λ (k : Fields). k.b) 3 4 (omega arith) missing_differs (λ k. refl) (λ k h. (line_formed k h).second);
    c = operand_at (λ (k : Fields). k.c) 4 5 (omega arith) missing_differs (λ k. refl) (λ k h. (line_formed k h).third);
    blank = λ k j h low high. cells_at k j h high ∙ blank_row n (start k) (fields k) (suc k) j low;
    number = number_in_range;
  }
