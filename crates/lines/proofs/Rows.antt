-- One line, case by case: its cells by the places of its fields, and the row that refuses it.
use mathlib.Core.Path.{◌≡◌, refl, ap, ◌∙◌}
use mathlib.Core.Bool.{Bool, true, false, cond, ◌&&◌}
use mathlib.Core.List.{List, []}
use Prim.Native.Nat.{ℕ, ◌+◌, ◌-◌, ◌≤◌}
use native.Mathlib.Omega.{arith}
use lib.Dec.{eqb}
use lib.IntN.{ℤ, pos}
use lib.ListN.{length}
use lib.Seq.{slice, length-slice}
use borrow.Author.Tests.{eq-eqb, ne_eqb}
use Rattle.refusals.specs.Rows.{fields_row, kind_row, form_row}
use Rattle.text.specs.Bytes.{same}
use Rattle.text.specs.Pieces.{first_of, fields_are}
use Rattle.text.specs.Scans.{fields_from}
use Rattle.text.proofs.Bytes.{and-false}
use Rattle.lines.proofs.Splits.{full}
use Rattle.kinds.specs.declared.Fields.{Fields}
use Rattle.kinds.specs.Kinds.{group_code, fields_at}
use Rattle.lines.specs.Fields.{field_of, is_right, held, kind_code}
use Rattle.lines.specs.Lines.{root_line, line_bad, forms_right, field}
use Rattle.lines.specs.LineSteps.{line_from, FiveAt, operands_of, operands_at, cells_by_ends, cells_by_fields, root_at, root_read, other_read, decide, line_read}
use Rattle.lines.specs.declared.Ends.{Ends}
use Rattle.lines.specs.declared.LineCells.{LineCells}
use Rattle.lines.specs.declared.Operands.{Operands}
use Rattle.refusals.specs.declared.Row.{Row}
use Rattle.std.specs.Prelude.{Option, Some, None, Result, Ok, Err}

-- ---- what the operands' fields hold

pub wrong_operands : (r : Bool) (x y z : Option ℤ) → operands_of x y z ≡ None → (r && is_right x && is_right y && is_right z) ≡ false
wrong_operands r (Some a) (Some b) (Some c) e = absurd cc
wrong_operands r (Some a) (Some b) None e = and-false (r && true && true) false refl
wrong_operands r (Some a) None z e = rw (and-false (r && true) false refl)
wrong_operands r None y z e = rw (and-false r false refl)

pub record Held (x y z : Option ℤ) (o : Operands) : Type 0 where
  pub first : x ≡ Some o.a
  pub second : y ≡ Some o.b
  pub third : z ≡ Some o.c

pub hold_operands : (x y z : Option ℤ) (o : Operands) → operands_of x y z ≡ Some o → Held x y z o
hold_operands (Some u) (Some v) (Some w) o e =
    let q : ◌≡◌ {A = Operands} (record { a = u; b = v; c = w }) o = cc in
    record { first = ap (λ (r : Operands). Some r.a) q; second = ap (λ (r : Operands). Some r.b) q; third = ap (λ (r : Operands). Some r.c) q }
hold_operands (Some u) (Some v) None o e = absurd cc
hold_operands (Some u) None z o e = absurd cc
hold_operands None y z o e = absurd cc

by_test : (b : Bool) (r : LineCells) → ◌≡◌ {A = Result LineCells Row} (cond b (Ok r) (Err form_row)) (decide (cond b None (Some form_row)) r)
by_test true r = refl
by_test false r = refl

-- ---- by the places of the fields

module _ (s : List ℕ) (from : ℕ) (e : Ends) (f : FiveAt s from e) where
  end_inside : e.c ≤ length s
  end_inside = omega (arith, f.ending.inside)

  line_is : line_from s from ≡ slice from e.c s
  line_is = ap first_of f.ending.line

  end_is : from + length (line_from s from) ≡ e.c
  end_is = omega (arith, ap length line_is, length-slice from e.c s end_inside, f.wide0, f.wide1, f.wide2, f.wide3, f.wide4)

  -- label 1
  pub root_right : same (slice from e.c s) root_line ≡ true
      → Ok (record { code = pos group_code; start = pos 0; length = pos 0; a = pos 0; b = pos 0; c = pos 0; end = e.c }) ≡ root_read s from
  root_right g = rw (end_is, line_is, g)

  pub root_wrong : same (slice from e.c s) root_line ≡ false → Err form_row ≡ root_read s from
  root_wrong g = rw (line_is, g)

module _ (n : ℕ) (s : List ℕ) (from : ℕ) (e : Ends) (f : FiveAt s from e) where
  abbrev code : ℕ
  code = kind_code (slice from e.kind s)

  pub kind_is : kind_code (field (fields_from s from) 0) ≡ code
  kind_is = rw f.are

  row_is : cells_by_fields n s from (fields_from s from)
      ≡ cells_by_ends s e code
      (held (field_of (fields_at code).a n (slice (e.name + 1) e.a s)))
      (held (field_of (fields_at code).b n (slice (e.a + 1) e.b s)))
      (held (field_of (fields_at code).c n (slice (e.b + 1) e.c s)))
  row_is =
      let l : length (slice from e.kind s) ≡ e.kind - from = length-slice from e.kind s (omega (arith, end_inside s from e f, f.wide1, f.wide2, f.wide3, f.wide4)) in
      let m : length (slice (e.kind + 1) e.name s) ≡ e.name - (e.kind + 1) = length-slice (e.kind + 1) e.name s (omega (arith, end_inside s from e f, f.wide2, f.wide3, f.wide4)) in
      let p : from + (length (slice from e.kind s) + 1 + 0) ≡ e.kind + 1 = omega (arith, f.wide0) in
      rw (end_is s from e f, f.are, p, m)

  -- another label: its forms, its cells
  forms_are : forms_right n (fields_at code) (fields_from s from)
      ≡ (is_right (field_of (fields_at code).name n (slice (e.kind + 1) e.name s))
      && is_right (field_of (fields_at code).a n (slice (e.name + 1) e.a s))
      && is_right (field_of (fields_at code).b n (slice (e.a + 1) e.b s))
      && is_right (field_of (fields_at code).c n (slice (e.b + 1) e.c s)))
  forms_are = rw f.are

  name_wrong : field_of (fields_at code).name n (slice (e.kind + 1) e.name s) ≡ None → Err form_row ≡ other_read n s from
  name_wrong g = rw (kind_is, forms_are, g)

  operands_wrong : operands_at s e (fields_at code) n ≡ None → Err form_row ≡ other_read n s from
  operands_wrong g =
      rw (
        kind_is,
        forms_are,
        wrong_operands
            (is_right (field_of (fields_at code).name n (slice (e.kind + 1) e.name s)))
            (field_of (fields_at code).a n (slice (e.name + 1) e.a s))
            (field_of (fields_at code).b n (slice (e.a + 1) e.b s))
            (field_of (fields_at code).c n (slice (e.b + 1) e.c s)) g,
      )

  row_right : (x : ℤ) (o : Operands) → field_of (fields_at code).name n (slice (e.kind + 1) e.name s) ≡ Some x → operands_at s e (fields_at code) n ≡ Some o
      → Ok (cells_by_ends s e code o.a o.b o.c) ≡ other_read n s from
  row_right x o g h =
      let w = hold_operands (field_of (fields_at code).a n (slice (e.name + 1) e.a s)) (field_of (fields_at code).b n (slice (e.a + 1) e.b s))
      (field_of (fields_at code).c n (slice (e.b + 1) e.c s)) o h in
      rw (row_is, kind_is, forms_are, g, w.first, w.second, w.third)

  -- the same for what the code holds: the code and the kind that it looked up, and the row that it made
  module _ (found : ℕ) (k : Fields) (p : found ≡ code) (q : k ≡ fields_at found) where
    by_kind : k ≡ fields_at code
    by_kind = q ∙ ap fields_at p

    pub read_name_wrong : field_of k.name n (slice (e.kind + 1) e.name s) ≡ None → Err form_row ≡ other_read n s from
    read_name_wrong g = name_wrong (rw by_kind at g)

    pub read_operands_wrong : operands_at s e k n ≡ None → Err form_row ≡ other_read n s from
    read_operands_wrong g = operands_wrong (rw by_kind at g)

    pub read_right : (x : ℤ) (o : Operands) (r : LineCells) → field_of k.name n (slice (e.kind + 1) e.name s) ≡ Some x → operands_at s e k n ≡ Some o
        → r ≡ cells_by_ends s e found o.a o.b o.c → Ok r ≡ other_read n s from
    read_right x o r g h m =
        ap Ok (m ∙ ap (λ (y : ℕ). cells_by_ends s e y o.a o.b o.c) p) ∙ row_right x o (rw by_kind at g) (rw by_kind at h)

  -- ---- rows 5 to 7 at a line with five fields

  fields_right : fields_are 5 (fields_from s from) ≡ true
  fields_right =
      let h = end_inside s from e f in
      rw (
        f.are,
        full s 4 from e.kind _ f.wide0 (omega (arith, h, f.wide1, f.wide2, f.wide3, f.wide4)),
        full s 3 (e.kind + 1) e.name _ f.wide1 (omega (arith, h, f.wide2, f.wide3, f.wide4)),
        full s 2 (e.name + 1) e.a _ f.wide2 (omega (arith, h, f.wide3, f.wide4)),
        full s 1 (e.a + 1) e.b _ f.wide3 (omega (arith, h, f.wide4)),
        full s 0 (e.b + 1) e.c [] f.wide4 h,
      )

  module _ (k : ℕ) where
    pub line_kind : code ≡ 0 → Err kind_row ≡ line_read n k s from
    unfolding line_read line_bad
    line_kind g = rw (fields_right, kind_is, eq-eqb code 0 g)

    pub line_root : (code ≡ 0 → ⊥) → k ≡ 1 → root_read s from ≡ line_read n k s from
    unfolding line_read line_bad
    line_root g q = rw (fields_right, ap (λ (m : ℕ). eqb m 0) kind_is ∙ ne_eqb code 0 g, eq-eqb k 1 q) (by_test (same (line_from s from) root_line) (root_at s from))

    pub line_row : (code ≡ 0 → ⊥) → (k ≡ 1 → ⊥) → other_read n s from ≡ line_read n k s from
    unfolding line_read line_bad
    line_row g q =
        rw (fields_right, ap (λ (m : ℕ). eqb m 0) kind_is ∙ ne_eqb code 0 g, ne_eqb k 1 q)
        (by_test (forms_right n (fields_at (kind_code (field (fields_from s from) 0))) (fields_from s from)) (cells_by_fields n s from (fields_from s from)))

pub line_fields : (n k : ℕ) (s : List ℕ) (from : ℕ) → fields_are 5 (fields_from s from) ≡ false → Err fields_row ≡ line_read n k s from
unfolding line_read line_bad
line_fields n k s from g = rw g
