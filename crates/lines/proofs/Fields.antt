-- A field of one byte, and the kind that it names.
use mathlib.Core.Path.{◌≡◌, refl, ap, sym, ◌∙◌}
use mathlib.Core.Bool.{Bool, true, false}
use lib.Dec.{eqb}
use borrow.Author.Tests.{eqb-true, eqb-false}
use Rattle.std.specs.Prelude.{None, is_some}
use Rattle.cells.specs.Characters.{hyphen}
use Rattle.text.specs.Bytes.{same}
use Rattle.text.proofs.Bytes.{and-false, true_false, same_is}
use Rattle.std.specs.Cmp.Lexicographic.{pointwise}
use Rattle.std.specs.Prelude.{nat_eq}
use Rattle.std.specs.Bool.{then_some}
use lib.IntN.{pos}
use mathlib.Core.Logic.{◌⊎◌, inl, inr}
use Rattle.text.specs.Forms.{label_of}
use Rattle.kinds.specs.declared.Form.{Form}
use Rattle.kinds.specs.declared.Form.TheVariants.{Group, Operand}
use mathlib.Core.List.{List, [], ◌∷◌}
use Prim.Native.Nat.{ℕ, ◌+◌, ◌≤◌}
use native.Mathlib.Omega.{arith}
use lib.ListN.{length, get_or}
use lib.Seq.{slice}
use Rattle.std.specs.List.{between}
use Rattle.std.proofs.lemmas.Slice.{between_is}
use Rattle.kinds.specs.Kinds.{is_kind}
use Rattle.kinds.specs.Coded.{kind_with}
use Rattle.kinds.proofs.Codes.{code_kind}
use Rattle.kinds.proofs.Enumerated.{with_some}
use Rattle.lines.specs.Fields.{dash, blank_if, from_label, field_of, kind_code}
use Rattle.text.proofs.Slices.{slice_at, slice_none}

pub one_byte : (s : List ℕ) (from to : ℕ) → to ≡ from + 1 → to ≤ length s → slice from to s ≡ get_or s from 0 ∷ []
one_byte s from to e h = slice_at s from to (omega arith) h ∙ ap (λ (l : List ℕ). get_or s from 0 ∷ l) (slice_none s (from + 1) to e)

pub dash_long : (f : List ℕ) → 2 ≤ length f → false ≡ same f dash
dash_long [] h = absurd (omega arith)
dash_long (x ∷ []) h = absurd (omega arith)
dash_long (x ∷ y ∷ f) h = sym (and-false (eqb x hyphen) false refl)

-- a field of no byte, or of more than one, names no kind
pub no_letter : (f : List ℕ) → (length f ≡ 1 → ⊥) → None ≡ kind_with (kind_code f)
unfolding kind_with
no_letter [] h = refl
no_letter (x ∷ []) h = absurd (h refl)
no_letter (x ∷ y ∷ f) h = refl

-- a part of the text, as the code lends it
pub code_at : (s : List ℕ) (from to : ℕ) → kind_code (between from to s) ≡ kind_code (slice from to s)
code_at s from to = ap kind_code (between_is s from to)

pub line_at : (s : List ℕ) (from to : ℕ) (l : List ℕ) → pointwise nat_eq (between from to s) l ≡ same (slice from to s) l
line_at s from to l = same_is (between from to s) l ∙ ap (λ (f : List ℕ). same f l) (between_is s from to)

pub field_at : (f : Form) (n : ℕ) (s : List ℕ) (from to : ℕ) → field_of f n (between from to s) ≡ field_of f n (slice from to s)
field_at f n s from to = ap (field_of f n) (between_is s from to)

-- the two forms of a label
pub label_form : (f : Form) (n : ℕ) (w : List ℕ) → (f ≡ Group) ⊎ (f ≡ Operand) → field_of f n w ≡ from_label (label_of n w)
unfolding field_of
label_form f n w (inl e) = rw e
label_form f n w (inr e) = rw e

pub then_blank : (b : Bool) → then_some b (pos 0) ≡ blank_if b
then_blank true = refl
then_blank false = refl

pub dash_at : (s : List ℕ) (from to : ℕ) → same (between from to s) dash ≡ same (slice from to s) dash
dash_at s from to = ap (λ (f : List ℕ). same f dash) (between_is s from to)

-- a field that names a kind
pub kind_known : (f : List ℕ) → 1 ≤ kind_code f → is_kind (kind_code f) ≡ true
kind_known [] h = absurd (omega arith)
kind_known (x ∷ []) h = code_kind x (λ e. omega arith)
kind_known (x ∷ y ∷ f) h = absurd (omega arith)

-- the kind of a field's code, and a field that names none
pub none_named : (f : List ℕ) → None ≡ kind_with (kind_code f) → kind_code f ≡ 0
none_named f e = go (eqb (kind_code f) 0) refl
  where
    go : (b : Bool) → eqb (kind_code f) 0 ≡ b → kind_code f ≡ 0
    go true q = eqb-true (kind_code f) 0 q
    go false q =
        let d = eqb-false (kind_code f) 0 q in
        absurd (true_false (sym (kind_known f (omega (arith, d))) ∙ sym (with_some (kind_code f)) ∙ ap is_some (sym e)))
