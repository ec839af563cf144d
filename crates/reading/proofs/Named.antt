-- Name's part, by what Read answered.
use mathlib.Core.Path.{◌≡◌, ap, sym, ◌∙◌}
use Rattle.std.specs.Prelude.{Ok, Err}
use Rattle.refusals.specs.declared.Refusal.{Refusal}
use mathlib.Core.List.{List, [], ◌∷◌}
use Prim.Native.Nat.{ℕ, zero, suc, ◌+◌, ◌-◌, ◌*◌, ◌≤◌, ◌<◌}
use native.Mathlib.Nat.{suc-add}
use native.Mathlib.Omega.{arith}
use lib.IntN.{ℤ}
use lib.ListN.{take, drop}
use lib.Seq.{slice, take-nil}
use borrow.Author.Tests.{le-leb, lt-leb}
use Rattle.cells.specs.Cells.{nat_of}
use Rattle.cells.specs.Table.{cell}
use Rattle.refusals.specs.Refusal.{Verdict, Fine}
use Rattle.lines.specs.Lines.{labels}
use Rattle.reading.specs.Read.{sheet_table, read_bad, read_reply, read_table, table_of, ReadLeaves}
use Rattle.reading.specs.Name.{label_in, name_begin, name_size, name_part, PartLeaves, NameLeaves}
use Rattle.reading.specs.declared.TextPart.{TextPart}
use Rattle.reading.proofs.Padding.{cell_padded}
use Rattle.reading.proofs.Accepted.{read_fine, read_names}
use Rattle.reading.proofs.Stage.{answered, refused}

-- a part by its length is the part between its ends
pub drop_take : (x y : ℕ) (l : List ℕ) → take y (drop x l) ≡ slice x (x + y) l
drop_take zero y l = let e : 0 + y ≡ y = omega arith in rw e
drop_take (suc x) y [] = rw (suc-add x y) (take-nil y)
drop_take (suc x) y (a ∷ l) = rw (suc-add x y) (drop_take x y l)

module _ (n : ℕ) (z : ℤ) (r : ℕ) (e : r ≡ nat_of z) where
  pub label_inside : r ≤ n → r ≡ label_in n z
  label_inside h = rw (← e, le-leb r n h)

  pub label_outside : n < r → 0 ≡ label_in n z
  label_outside h = rw (← e, lt-leb r n h)

module _ (s : List ℕ) (m : ℕ) (z : ℤ) where
  -- of a sheet that Read accepted, by the cells of the label l in the table w
  pub part_answered : (n l : ℕ) (p : TextPart) (w : List ℤ) → ReadLeaves s m (Ok n) w → l ≡ label_in n z → p.start ≡ cell w l 1 → p.length ≡ cell w l 2
      → PartLeaves s m z p w
  unfolding read_reply read_table name_begin name_size
  part_answered n l p w k q a b =
      let f = answered (read_bad s m) (labels s) n (sym k.reply) in
      let table : w ≡ table_of Fine s m = k.table ∙ ap (λ (v : Verdict). table_of v s m) f.0 in
      let label : l ≡ label_in (labels s) z = q ∙ ap (λ (k : ℕ). label_in k z) f.1 in
      let at = label_in (labels s) z in
      let first : p.start ≡ cell (sheet_table s) at 1 = a ∙ rw (table, label) (cell_padded (sheet_table s) (m - 8 * labels s) at 1) in
      let second : p.length ≡ cell (sheet_table s) at 2 = b ∙ rw (table, label) (cell_padded (sheet_table s) (m - 8 * labels s) at 2) in
      record {
        begins = first ∙ rw f.0;
        size = second ∙ rw f.0;
        inside = omega (arith, first, second, read_names s (read_fine s m f.0) at);
        table = k.table;
      }

  pub part_refused : (r : Refusal) (p : TextPart) (w : List ℤ) → ReadLeaves s m (Err r) w → p.start ≡ 0 → p.length ≡ 0 → PartLeaves s m z p w
  unfolding read_reply name_begin name_size
  part_refused r p w k a b =
      let f = refused (read_bad s m) (labels s) r (sym k.reply) in
      record { begins = rw (f) a; size = rw (f) b; inside = omega arith; table = k.table }

  -- the part from its start to its end, of the text at `text`
  pub part_handed : (p : TextPart) (w : List ℤ) (text : ℕ × ℕ) → PartLeaves s m z p w
      → NameLeaves s m z text (take (p.start + p.length - p.start) (drop p.start s)) (text.0, p.start + text.1) w
  unfolding name_part
  part_handed p w text k =
      let e : p.start + p.length - p.start ≡ p.length = omega arith in
      record {
        part = rw (e, ← k.begins, ← k.size) (drop_take p.start p.length s);
        very = ap (λ (b : ℕ). (text.0, b + text.1)) k.begins;
        table = k.table;
      }
