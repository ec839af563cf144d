-- Bytes written after bytes.
use mathlib.Core.Path.{◌≡◌, refl, sym, ap, ◌∙◌}
use mathlib.Core.Bool.{Bool, true, false}
use mathlib.Core.List.{List, [], ◌∷◌, ◌++◌, append_assoc}
use Prim.Native.Nat.{ℕ, suc, ◌+◌, ◌-◌, ◌*◌, ◌≤◌, ◌<◌, min}
use native.Mathlib.Nat.{add-zero, add-suc, suc-add}
use native.Mathlib.Omega.{arith}
use borrow.Author.Tests.{leb-true, leb-false}
use lib.Dec.{leb}
use lib.ListN.{length, set, take, length-append}
use lib.Seq.{sets, length-sets, set_out, take-nil}
use Rattle.cells.specs.Limits.{label_limit}
use Rattle.printing.specs.Print.{print_with, print_reply, print_of, zero_bytes, PrintLeaves}
use Rattle.printing.specs.Writing.{last_index, Wrote, Puts, PrintWritten}
use Rattle.printing.specs.declared.Printed.{Printed}
use Rattle.printing.specs.declared.Writer.{Writer}

sets_append : (o : List ℕ) (a : ℕ) (x y : List ℕ) → sets o a (x ++ y) ≡ sets (sets o a x) (a + length x) y
sets_append o a [] y = rw (add-zero a)
sets_append o a (v ∷ x) y = rw (add-suc a (length x), ← suc-add a (length x)) (sets_append (set o a v) (suc a) x y)

-- what has no room changes nothing
sets_past : (o : List ℕ) (a : ℕ) (x : List ℕ) → length o ≤ a → sets o a x ≡ o
sets_past o a [] h = refl
sets_past o a (v ∷ x) h = rw (set_out o a v h) (sets_past o (suc a) x (omega arith))

-- so an index that stops at k, where the buffer has ended, will do
sets_stopped : (o : List ℕ) (a k : ℕ) (x : List ℕ) → length o ≤ k → sets o (min a k) x ≡ sets o a x
sets_stopped o a k x h = go (leb a k) refl
  where
    go : (b : Bool) → leb a k ≡ b → sets o (min a k) x ≡ sets o a x
    go true e =
        let g : a ≤ k = leb-true a k e in
        let f : min a k ≡ a = omega arith in
        rw f
    go false e =
        let g : k < a = leb-false a k e in
        let f : min a k ≡ k = omega arith in
        rw f (sets_past o k x h ∙ sym (sets_past o a x (omega arith)))

pub nothing : (o : List ℕ) (a : ℕ) → a ≤ last_index → length o ≤ last_index → Wrote o a [] o a
nothing o a h g = record { bytes = refl; behind = omega arith; room = g }

module _ (o : List ℕ) (a : ℕ) (x p : List ℕ) (b : ℕ) (w : Wrote o a x p b) where
  pub same_size : length p ≡ length o
  same_size = ap length w.bytes ∙ length-sets o a x

  pub then : (y q : List ℕ) (c : ℕ) → Wrote p b y q c → Wrote o a (x ++ y) q c
  then y q c v = record {
    bytes = v.bytes ∙ stopped ∙ sym (sets_append o a x y);
    behind = omega (arith, v.behind, w.behind, length-append x y);
    room = w.room;
  }
    where
      stopped : sets p b y ≡ sets (sets o a x) (a + length x) y
      stopped = rw (w.behind, sets_stopped p (a + length x) last_index y (omega (arith, same_size, w.room)), w.bytes)

-- ---- the same of a writer

pub puts_nothing : (w : Writer) → w.at ≤ last_index → length w.out.now ≤ last_index → Puts w [] w
puts_nothing w h g = record { same = refl; wrote = nothing w.out.now w.at h g }

pub puts_then : {w m v : Writer} {x y : List ℕ} → Puts w x m → Puts m y v → Puts w (x ++ y) v
puts_then h k = record { same = k.same ∙ h.same; wrote = then _ _ _ _ _ h.wrote _ _ _ k.wrote }

-- a field with the byte that ends it, and what stands behind
pub field_then : {w m v : Writer} (x : List ℕ) (k : ℕ) {y : List ℕ} → Puts w (x ++ k ∷ []) m → Puts m y v → Puts w (x ++ k ∷ y) v
field_then x k h g = rw append_assoc at (puts_then h g)

-- ---- from the start on

sets_next : (o : List ℕ) (v a : ℕ) (x : List ℕ) → sets (v ∷ o) (suc a) x ≡ v ∷ sets o a x
sets_next o v a [] = refl
sets_next o v a (w ∷ x) = sets_next (set o a w) v (suc a) x

-- what stands before index `length x`
written : (o x : List ℕ) → take (length x) (sets o 0 x) ≡ take (length o) x
written [] x = ap (take (length x)) (sets_past [] 0 x (omega arith)) ∙ take-nil (length x)
written (v ∷ o) [] = refl
written (v ∷ o) (w ∷ x) = ap (take (suc (length x))) (sets_next o w 0 x) ∙ ap (λ (y : List ℕ). w ∷ y) (written o x)

-- ---- the print

-- what a buffer holds, once it is given back
pub left_as : (s : List ℕ) (m p q : ℕ) (o : List ℕ) (a : Printed) (w : List ℕ) → PrintWritten s m p q o a w → (x : List ℕ) → x ≡ w → PrintWritten s m p q o a x
left_as s m p q o a w h x e = rw e h

-- zeros from the end of the print on, in the buffer that was lent
pub zeros_left : (s o : List ℕ) (a : Printed) (p : List ℕ) → PrintWritten s (8 * label_limit) label_limit (3 * label_limit) o a p
    → (q : List ℕ) → q ≡ take a.length p ++ zero_bytes (length p - a.length) → PrintLeaves s (length o) a q
unfolding print_reply print_of
zeros_left s o a p w q e =
    let x = print_with s (8 * label_limit) label_limit (3 * label_limit) in
    let n : a.length ≡ length x = omega (arith, w.wrote.behind, w.short) in
    record {
      refusal = w.refusal;
      place = w.place;
      whole = n;
      short = w.short;
      bytes = rw (n, same_size o 0 x p a.length w.wrote, w.wrote.bytes, written o x) at e;
    }
