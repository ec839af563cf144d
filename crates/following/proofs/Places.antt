-- The places of rows 17 and 18 by what is left of the values; and the rows in turn.
use mathlib.Core.Path.{◌≡◌, refl, sym, ap, ◌∙◌}
use mathlib.Core.Logic.{inl, inr}
use mathlib.Core.List.{List, []}
use mathlib.Core.Bool.{Bool, true, false, not, ◌&&◌}
use Prim.Native.Nat.{ℕ, zero, suc, ◌+◌, ◌*◌, ◌≤◌}
use native.Mathlib.Omega.{arith}
use native.Mathlib.Decide.{ℕ_discrete}
use native.Mathlib.Numerals.{add-one}
use lib.IntN.{ℤ}
use lib.ListN.{length}
use Rattle.kinds.proofs.Codes.{value_body}
use Rattle.kinds.specs.Kinds.{value_code}
use Rattle.cells.specs.Table.{kind}
use Rattle.cells.specs.Accepted.{Accepted}
use Rattle.refusals.specs.declared.Row.{Row}
use Rattle.refusals.specs.Refusal.{or_else, found_at}
use Rattle.refusals.specs.Rows.{cycle_row, listed_row, early_row}
use Rattle.order.specs.LabelLists.{◌∈◌, mem, up_from, any}
use Rattle.order.specs.Order.{is_v, values, reaches, place16}
use Rattle.cells.specs.Lists.{or_if_zero}
use Rattle.order.specs.Following.{labels_of, first_position, not_new, missing, early, place17, place18}
use Rattle.order.specs.Rows16to18.{cycle_bad, order_bad}
use Rattle.order.proofs.Tests.{both_ways, not_so, and_left, and_right, and_intro}
use Rattle.order.proofs.Alike.{same_test}
use Rattle.order.proofs.Lists.{split, any_true, any_intro, any_refute, count_up_from}
use Rattle.order.proofs.Tables.{v_kind, kind_label, in_values, value_of, reaches_exact}
use Rattle.order.proofs.Following.{place17_exactly}
use Rattle.marks.specs.Marks.{mark, First}
use Rattle.marks.proofs.Squares.{mark_in}
use Rattle.reach.specs.MarkRows.{width, AllMarkRows}
use Rattle.reach.proofs.Links.{touch_body, touch_around, forth_exact}
use Rattle.reach.proofs.Reading.{row_room}
use Rattle.following.specs.Left.{Values, Left, lacks, awaits}
use Rattle.reach.specs.FoundPlace.{found_place}
use Rattle.following.specs.Told.{told_at}
use Rattle.std.specs.Prelude.{Option, Some, None}
use Rattle.following.proofs.Steps.{same_position}

place_first : (a b p : ℕ) → found_place a ≡ Some p → found_place (or_if_zero a b) ≡ Some p
place_first zero b p e = absurd cc
place_first (suc a) b p e = e

place_zero : (a : ℕ) → found_place a ≡ None → a ≡ 0
place_zero zero e = refl
place_zero (suc a) e = absurd cc

place_none : (a b : ℕ) → or_if_zero a b ≡ 0 → a ≡ 0
place_none zero b e = refl
place_none (suc a) b e = e

module _ (t : List ℤ) (n : ℕ) (ok : Accepted t n) (row : List ℕ) (is : Values t n row) where
  -- a value has a row
  pub row_fits : (size : ℕ) → (n + 1) * width n ≤ size → (q : ℕ) → mark row (width n) 0 q ≡ true → q * width n + width n ≤ size
  row_fits size h q m = row_room n (width n) q size (kind_label t n ok q (omega (arith, v_kind t q (sym (is q) ∙ m)))).1 h

module _ (t : List ℤ) (n : ℕ) (ok : Accepted t n) (row : List ℕ) (is : Values t n row) (cells : List ℤ) where
  wrong_is : first_position (lacks row (width n)) [] 1 (labels_of cells) ≡ first_position (not_new t) [] 1 (labels_of cells)
  unfolding lacks
  wrong_is = same_position (lacks row (width n)) (not_new t) (labels_of cells) [] 1 (λ a v m. rw (is v))

  -- ---- row 17

  module _ (o : Option ℕ) (e : o ≡ found_place (first_position (lacks row (width n)) [] 1 (labels_of cells))) where
    found_is : o ≡ found_place (first_position (not_new t) [] 1 (labels_of cells))
    found_is = e ∙ ap found_place wrong_is

    pub place_wrong : (p : ℕ) → o ≡ Some p → Some p ≡ found_place (place17 t n cells)
    place_wrong p z = sym (place_first (first_position (not_new t) [] 1 (labels_of cells)) _ p (sym found_is ∙ z))

    module _ (z : o ≡ None) (left : List ℕ) (rest : Left row (width n) (labels_of cells) left) where
      pub place_past : (r : ℕ) → First left (width n) r → Some (length cells + 1) ≡ found_place (place17 t n cells)
      place_past r f =
          let m : (is_v t r && not (mem r (labels_of cells))) ≡ true = ap (λ (b : Bool). b && not (mem r (labels_of cells))) (sym (is r)) ∙ sym (rest r) ∙ f.here in
          let x : missing t n (labels_of cells) ≡ true =
          any_intro (λ v. not (mem v (labels_of cells))) (values t n) r (in_values t n ok r (and_left (is_v t r) (not (mem r (labels_of cells))) m))
          (and_right (is_v t r) (not (mem r (labels_of cells))) m) in
          sym (rw (place_zero _ (sym found_is ∙ z), x, add-one))

      pub place_full : ((q : ℕ) → mark left (width n) 0 q ≡ false) → None ≡ found_place (place17 t n cells)
      place_full h =
          let x : missing t n (labels_of cells) ≡ false = any_refute (λ v. not (mem v (labels_of cells))) (values t n) none in
          sym (rw (place_zero _ (sym found_is ∙ z), x))
        where
          none : (v : ℕ) → v ∈ values t n → not (mem v (labels_of cells)) ≡ false
          none v i = not_so (not (mem v (labels_of cells))) (λ m.
              let a : mark left (width n) 0 v ≡ true = rest v ∙ and_intro (mark row (width n) 0 v) (not (mem v (labels_of cells))) (is v ∙ value_of t n ok v i) m in
              both_ways (mark left (width n) 0 v) a (h v))

  -- ---- row 18

  module _ (z : place17 t n cells ≡ 0) where
    pub none_wrong : first_position (lacks row (width n)) [] 1 (labels_of cells) ≡ 0
    none_wrong = wrong_is ∙ place_none (first_position (not_new t) [] 1 (labels_of cells)) _ z

    listed_kind : (v : ℕ) → v ∈ labels_of cells → kind t v ≡ value_code
    listed_kind v m = go (ℕ_discrete (kind t v) value_code)
      where
        go : Dec (kind t v ≡ value_code) → kind t v ≡ value_code
        go (yes k) = k
        go (no k) = let s = split v (labels_of cells) m in absurd (((place17_exactly t n ok cells 0).0 z).0 s.0 v s.1 s.2 (inl k))

    module _ (square : List ℕ) (rows : AllMarkRows t n 7 square) where
      awaits_early : (a : List ℕ) (v : ℕ) → kind t v ≡ value_code → awaits square row (width n) a v ≡ early t n a v
      unfolding awaits
      awaits_early a v k = same_test (any marked (up_from 0 (64 * width n))) (any reached (values t n)) there back
        where
          marked : ℕ → Bool
          marked = λ q. mark square (width n) v q && (mark row (width n) 0 q && not (mem q a))

          reached : ℕ → Bool
          reached = λ w. reaches t n v w && not (mem w a)

          there : any marked (up_from 0 (64 * width n)) ≡ true → any reached (values t n) ≡ true
          there e =
              let x = any_true marked (up_from 0 (64 * width n)) e in
              let q = x.0 in
              let m = and_left (mark square (width n) v q) (mark row (width n) 0 q && not (mem q a)) x.2 in
              let b = and_right (mark square (width n) v q) (mark row (width n) 0 q && not (mem q a)) x.2 in
              let i : is_v t q ≡ true = sym (is q) ∙ and_left (mark row (width n) 0 q) (not (mem q a)) b in
              any_intro reached (values t n) q (in_values t n ok q i)
              (and_intro (reaches t n v q) (not (mem q a))
              ((reaches_exact t n ok v q).1 ((forth_exact v q).0 (touch_body t n ok 7 (inr refl) ((rows.values v k q).0 m) (rw (v_kind t q i) value_body))))
              (and_right (mark row (width n) 0 q) (not (mem q a)) b))

          back : any reached (values t n) ≡ true → any marked (up_from 0 (64 * width n)) ≡ true
          back e =
              let x = any_true reached (values t n) e in
              let q = x.0 in
              let l = (forth_exact v q).1 ((reaches_exact t n ok v q).0 (and_left (reaches t n v q) (not (mem q a)) x.2)) in
              let m = (rows.values v k q).1 (touch_around t n ok 7 (inr refl) l (inl refl)) in
              any_intro marked (up_from 0 (64 * width n)) q (omega (arith, count_up_from q 0 (64 * width n) (omega arith) (omega (arith, mark_in square (width n) v q m))))
              (and_intro (mark square (width n) v q) (mark row (width n) 0 q && not (mem q a)) m
              (and_intro (mark row (width n) 0 q) (not (mem q a)) (is q ∙ value_of t n ok q x.1) (and_right (reaches t n v q) (not (mem q a)) x.2)))

      pub place_early : first_position (awaits square row (width n)) [] 1 (labels_of cells) ≡ place18 t n cells
      place_early = same_position (awaits square row (width n)) (early t n) (labels_of cells) [] 1 (λ a v m. awaits_early a v (listed_kind v m))

-- ---- the rows in turn

told_is : (r : Row) (p : ℕ) → told_at r (found_place p) ≡ found_at r p
told_is r zero = refl
told_is r (suc p) = refl

module _ (t : List ℤ) (n : ℕ) where
  pub cycle_told : cycle_bad t n ≡ told_at cycle_row (found_place (place16 t n))
  unfolding cycle_bad
  cycle_told = sym (told_is cycle_row (place16 t n))

  pub order_told : (cells : List ℤ) → order_bad t n cells ≡ or_else (told_at listed_row (found_place (place17 t n cells))) (told_at early_row (found_place (place18 t n cells)))
  unfolding order_bad
  order_told cells = rw (told_is listed_row (place17 t n cells), told_is early_row (place18 t n cells))
