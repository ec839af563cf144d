-- A line read in one scan: its fields are those that a space or the newline ends.
use mathlib.Core.Path.{◌≡◌, refl, ap, sym, ◌∙◌}
use mathlib.Core.Bool.{Bool, true, false}
use mathlib.Core.List.{List, [], ◌∷◌}
use Prim.Native.Nat.{ℕ, ◌+◌, ◌<◌}
use native.Mathlib.Omega.{arith}
use lib.IntN.{ℤ, pos}
use lib.ListN.{length, get_or}
use lib.Seq.{slice}
use Rattle.cells.specs.Characters.{newline, space}
use Rattle.kinds.specs.declared.Form.{Form}
use Rattle.kinds.specs.declared.Form.TheVariants as form
use Rattle.kinds.specs.declared.Fields.{Fields}
use Rattle.kinds.specs.Kinds.{code_of, fields_at}
use Rattle.text.specs.Bytes.{all, is_allowed, ends_lines, same}
use Rattle.text.specs.Forms.{is_name, is_path, label_of}
use Rattle.text.specs.Scans.{EndsAt}
use Rattle.text.proofs.Bytes.{same_eq, true_false}
use Rattle.text.proofs.Printed.{is_printed, name_printed, path_printed, number_printed}
use Rattle.text.proofs.Labels.{label_printed}
use Rattle.text.proofs.Scanned.{inside_next, field_found}
use Rattle.text.proofs.Fields.{Spaced, Last}
use Rattle.lines.specs.Fields.{dash, blank_if, from_label, field_of, kind_code}
use Rattle.lines.specs.LineSteps.{FiveAt, cells_by_ends, line_read}
use Rattle.lines.specs.Scanned.{Scanned, ScannedAll}
use Rattle.lines.specs.declared.Ends.{Ends}
use Rattle.lines.specs.declared.Scans.{Scans}
use Rattle.lines.specs.declared.LineCells.{LineCells}
use Rattle.std.specs.Prelude.{Option, Some, None, IfSome, Ok}
use Rattle.lines.specs.declared.Scan.{Scan}
use Rattle.lines.proofs.Fields.{one_byte}
use Rattle.lines.proofs.Letters.{kind_printed}
use Rattle.lines.proofs.Splits.{spaced_at, last_at, five}
use Rattle.lines.proofs.Rows.{read_right, line_row}

-- ---- what a scan of some form says, as a field of a line

pub cell_scanned : (f : Form) (n : ℕ) (s : List ℕ) (from stop : ℕ) (holds : List ℕ → Option ℤ) (r : Option Scan) → ((w : List ℕ) → field_of f n w ≡ holds w)
    → IfSome r (λ x. EndsAt s from stop x.end × (holds (slice from x.end s) ≡ Some x.value)) → IfSome r (λ x. Scanned f n s from stop x.end x.value)
cell_scanned f n s from stop holds (Some x) q w = record { at = w.0; holds = q (slice from x.end s) ∙ w.1 }
cell_scanned f n s from stop holds None q w = tt

pub name_scanned : (f : Form) (s : List ℕ) (from stop : ℕ) (right : List ℕ → Bool) (r : Option ℕ) → ((n : ℕ) (w : List ℕ) → field_of f n w ≡ blank_if (right w))
    → IfSome r (λ e. EndsAt s from stop e × (right (slice from e s) ≡ true)) → IfSome r (λ e. (n : ℕ) → Scanned f n s from stop e (pos 0))
name_scanned f s from stop right (Some e) q w = λ n. record { at = w.0; holds = q n (slice from e s) ∙ ap blank_if w.1 }
name_scanned f s from stop right None q w = tt

-- ---- a field that holds something is printed

blank_right : (b : Bool) (x : ℤ) → blank_if b ≡ Some x → b ≡ true
blank_right true x e = refl
blank_right false x e = absurd cc

label_field_printed : (n : ℕ) (w : List ℕ) (x : ℤ) → from_label (label_of n w) ≡ Some x → all is_printed w ≡ true
label_field_printed n w x = go (label_of n w) refl
  where
    go : (d : Option ℕ) → label_of n w ≡ d → from_label d ≡ Some x → all is_printed w ≡ true
    go (Some v) q e = label_printed n w v q
    go None q e = absurd cc

field_printed : (f : Form) (n : ℕ) (w : List ℕ) (x : ℤ) → field_of f n w ≡ Some x → all is_printed w ≡ true
unfolding field_of
field_printed form.Missing n w x e = rw (same_eq w dash (blank_right (same w dash) x e))
field_printed form.Name n w x e = name_printed w (blank_right (is_name w) x e)
field_printed form.Path n w x e = path_printed w (blank_right (is_path w) x e)
field_printed form.Group n w x e = label_field_printed n w x e
field_printed form.Operand n w x e = label_field_printed n w x e
field_printed form.Number n w x e = number_printed w x e

-- ---- so it is the field that its end byte ends

module _ (s : List ℕ) (ends : ends_lines s) (allowed : all is_allowed s ≡ true) (from e : ℕ) where
  spaced : EndsAt s from space e → all is_printed (slice from e s) ≡ true → Spaced s from e
  spaced a p =
      spaced_at s ends allowed from from e (omega (arith, a.wide, a.inside)) (field_found s from space e ends a p refl)

  last : EndsAt s from newline e → all is_printed (slice from e s) ≡ true → Last s from e
  last a p =
      last_at s ends allowed from from e (omega (arith, a.wide, a.inside)) (field_found s from newline e ends a p refl)

  module _ (f : Form) (n : ℕ) (x : ℤ) where
    scanned_spaced : Scanned f n s from space e x → Spaced s from e
    scanned_spaced r = spaced r.at (field_printed f n (slice from e s) x r.holds)

    scanned_last : Scanned f n s from newline e x → Last s from e
    scanned_last r = last r.at (field_printed f n (slice from e s) x r.holds)

-- ---- the line

-- the byte that names a kind does not end the text, nor does the space after it
module _ (s : List ℕ) (ends : ends_lines s) (from : ℕ) (f : code_of (get_or s from 0) ≡ 0 → ⊥) where
  pub after_letter : from < length s → from + 1 < length s
  after_letter h = inside_next s from h ends (λ q. true_false (sym (kind_printed (get_or s from 0) f) ∙ ap is_printed q))

  pub after_kind : from < length s → get_or s (from + 1) 0 ≡ space → from + 1 + 1 < length s
  after_kind h g = inside_next s (from + 1) (after_letter h) ends (λ q. omega (arith, sym g ∙ q))

module _ (s : List ℕ) (ends : ends_lines s) (allowed : all is_allowed s ≡ true) (from : ℕ) (h : from + 1 < length s)
    (f : code_of (get_or s from 0) ≡ 0 → ⊥) (g : get_or s (from + 1) 0 ≡ space)
    (kind : Fields) (n name : ℕ) (r : Scans) where
  abbrev placed : Ends
  placed = record { kind = from + 1; name = name; a = r.a.end; b = r.b.end; c = r.c.end }

  letter_is : slice from (from + 1) s ≡ get_or s from 0 ∷ []
  letter_is = one_byte s from (from + 1) refl (omega arith)

  kind_spaced : Spaced s from (from + 1)
  kind_spaced =
      spaced s ends allowed from (from + 1) (record { wide = omega arith; inside = h; by = g }) (rw (letter_is, kind_printed (get_or s from 0) f))

  module _ (m : Scanned kind.name n s (from + 1 + 1) space name (pos 0)) (o : ScannedAll kind n s (name + 1) r) where
    fields_five : FiveAt s from placed
    fields_five =
        five s from placed kind_spaced
        (scanned_spaced s ends allowed (from + 1 + 1) name kind.name n (pos 0) m)
        (scanned_spaced s ends allowed (name + 1) r.a.end kind.a n r.a.value o.first)
        (scanned_spaced s ends allowed (r.a.end + 1) r.b.end kind.b n r.b.value o.second)
        (scanned_last s ends allowed (r.b.end + 1) r.c.end kind.c n r.c.value o.third)

    pub line_right : (k code : ℕ) (row : LineCells) → (k ≡ 1 → ⊥) → code ≡ code_of (get_or s from 0) → kind ≡ fields_at code
        → row ≡ cells_by_ends s placed code r.a.value r.b.value r.c.value → Ok row ≡ line_read n k s from
    line_right k code row q p t e =
        let l : code_of (get_or s from 0) ≡ kind_code (slice from (from + 1) s) = sym (ap kind_code letter_is) in
        read_right n s from placed fields_five code kind (p ∙ l) t (pos 0) (record { a = r.a.value; b = r.b.value; c = r.c.value }) row m.holds
        (rw (o.first.holds, o.second.holds, o.third.holds)) e
        ∙ line_row n s from placed fields_five k (λ z. f (l ∙ z)) q
