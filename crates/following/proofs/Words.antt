-- Marks that a row of the square and the first row have in common, word by word; and the marks of values.
use mathlib.Core.Path.{◌≡◌, sym, ap, ◌∙◌}
use mathlib.Core.Logic.{◌⊎◌, inl, inr}
use mathlib.Core.List.{List}
use mathlib.Core.Bool.{true, false, ◌&&◌}
use Prim.Native.Nat.{ℕ, ◌+◌, ◌*◌, ◌/◌, ◌%◌, ◌^◌, ◌<◌}
use native.Mathlib.Omega.{arith}
use native.Mathlib.Decide.{ℕ_discrete, dec_lt}
use lib.Bits.{bit_and}
use lib.Count.{count_trailing_zeros}
use lib.Dec.{ltb}
use lib.IntN.{ℤ}
use lib.ListN.{get_or}
use borrow.Author.Tests.{lt-ltb, le-ltb, ne_eqb}
use Rattle.kinds.specs.Kinds.{value_code}
use Rattle.cells.specs.Table.{kind}
use Rattle.cells.specs.Accepted.{Accepted}
use Rattle.order.specs.Order.{is_v}
use Rattle.order.proofs.Tests.{both_ways, so_or_not, not_so, and_left, and_right, and_intro}
use Rattle.order.proofs.Tables.{v_kind, kind_v, kind_label}
use Rattle.marks.specs.Marks.{bit, mark, Added}
use Rattle.marks.proofs.Bits.{bit_and_lem, bit_none, lowest_is}
use Rattle.marks.proofs.Squares.{inside, mark_in}
use Rattle.reach.specs.MarkRows.{width}
use Rattle.following.specs.Left.{Values, Meets}

-- ---- marks in common

module _ (square left : List ℕ) (w v : ℕ) where
  both : (q : ℕ) → q < 64 * w → bit (bit_and (get_or square (v * w + q / 64) 0) (get_or left (q / 64) 0)) (q % 64) ≡ (mark square w v q && mark left w 0 q)
  both q h =
      let e : 0 * w + q / 64 ≡ q / 64 = omega arith in
      bit_and_lem (get_or square (v * w + q / 64) 0) (get_or left (q / 64) 0) (q % 64) ∙ sym (rw (inside square w v q h, inside left w 0 q h, e))

  module _ (j : ℕ) (here : j < w) where
    -- words with no bit in common
    pub apart_turn : ((q : ℕ) → q < 64 * j → mark square w v q ≡ true → mark left w 0 q ≡ true → ⊥) → bit_and (get_or square (v * w + j) 0) (get_or left j 0) ≡ 0
        → (q : ℕ) → q < 64 * (j + 1) → mark square w v q ≡ true → mark left w 0 q ≡ true → ⊥
    apart_turn old e q h a b = go (dec_lt q (64 * j))
      where
        go : Dec (q < 64 * j) → ⊥
        go (yes g) = old q g a b
        go (no g) =
            let i : q / 64 ≡ j = omega arith in
            let z : bit_and (get_or square (v * w + q / 64) 0) (get_or left (q / 64) 0) ≡ 0 = rw i e in
            both_ways (mark square w v q && mark left w 0 q) (and_intro (mark square w v q) (mark left w 0 q) a b)
            (sym (both q (omega arith)) ∙ ap (λ (x : ℕ). bit x (q % 64)) z ∙ bit_none (q % 64))

    -- words with one
    pub meets_here : (x : ℕ) → x ≡ bit_and (get_or square (v * w + j) 0) (get_or left j 0) → 0 < x → x < 2 ^ 64 → Meets square left w v
    meets_here x e p f =
        let t = lowest_is 64 x p f in
        let q : ℕ = 64 * j + count_trailing_zeros 64 x in
        let a : q / 64 ≡ j = omega (arith, t.0) in
        let b : q % 64 ≡ count_trailing_zeros 64 x = omega (arith, t.0) in
        let m : (mark square w v q && mark left w 0 q) ≡ true = sym (both q (omega (arith, t.0))) ∙ rw (a, b, ← e) t.1 in
        record { at = q; here = and_left (mark square w v q) (mark left w 0 q) m; there = and_right (mark square w v q) (mark left w 0 q) m }

  pub meets_none : ((q : ℕ) → q < 64 * w → mark square w v q ≡ true → mark left w 0 q ≡ true → ⊥) → Meets square left w v → ⊥
  meets_none h m = h m.at (mark_in left w 0 m.at m.there) m.here m.there

-- ---- the marks of values

below_same : (q v : ℕ) → (q ≡ v → ⊥) → ltb q (v + 1) ≡ ltb q v
below_same q v z = go (dec_lt q v)
  where
    go : Dec (q < v) → ltb q (v + 1) ≡ ltb q v
    go (yes h) = lt-ltb q (v + 1) (omega arith) ∙ sym (lt-ltb q v h)
    go (no h) = le-ltb q (v + 1) (omega arith) ∙ sym (le-ltb q v (omega arith))

-- where those below v are marked, and v is past the last label, all are
module _ (t : List ℤ) (n : ℕ) (ok : Accepted t n) (row : List ℕ) where
  pub values_end : (v : ℕ) → n < v → ((q : ℕ) → mark row (width n) 0 q ≡ (ltb q v && is_v t q)) → Values t n row
  values_end v h old q = old q ∙ go (so_or_not (is_v t q))
    where
      go : (is_v t q ≡ true) ⊎ (is_v t q ≡ false) → (ltb q v && is_v t q) ≡ is_v t q
      go (inl e) = rw (lt-ltb q v (omega (arith, (kind_label t n ok q (omega (arith, v_kind t q e))).1)))
      go (inr e) = not_so (ltb q v && is_v t q) (λ m. both_ways (is_v t q) (and_right (ltb q v) (is_v t q) m) e) ∙ sym e

module _ (t : List ℤ) (row : List ℕ) (w v : ℕ) (old : (q : ℕ) → mark row w 0 q ≡ (ltb q v && is_v t q)) where
  own : (q : ℕ) → q ≡ v → is_v t v ≡ (ltb q (v + 1) && is_v t q)
  own q z = rw (z, lt-ltb v (v + 1) (omega arith))

  pub values_skip : (kind t v ≡ value_code → ⊥) → (q : ℕ) → mark row w 0 q ≡ (ltb q (v + 1) && is_v t q)
  values_skip d q = go (ℕ_discrete q v)
    where
      go : Dec (q ≡ v) → mark row w 0 q ≡ (ltb q (v + 1) && is_v t q)
      go (yes z) = old q ∙ rw (le-ltb q v (omega arith)) (sym (ne_eqb (kind t v) value_code d)) ∙ own q z
      go (no z) = old q ∙ rw (below_same q v z)

  pub values_put : (row' : List ℕ) → v < 64 * w → kind t v ≡ value_code → Added (λ (b : ℕ). b ≡ v) row row' w 0 → (q : ℕ) → mark row' w 0 q ≡ (ltb q (v + 1) && is_v t q)
  values_put row' h k add q = go (ℕ_discrete q v)
    where
      same : (q ≡ v → ⊥) → (mark row w 0 q ≡ true) ⊎ (mark row w 0 q ≡ false) → mark row' w 0 q ≡ mark row w 0 q
      same z (inl m) = add.kept q m ∙ sym m
      same z (inr m) = not_so (mark row' w 0 q) (λ e. only (add.only q e)) ∙ sym m
        where
          only : (mark row w 0 q ≡ true) ⊎ (q ≡ v) → ⊥
          only (inl i) = both_ways (mark row w 0 q) i m
          only (inr i) = z i

      go : Dec (q ≡ v) → mark row' w 0 q ≡ (ltb q (v + 1) && is_v t q)
      go (yes z) = add.new q (omega arith) z ∙ sym (kind_v t v k) ∙ own q z
      go (no z) = same z (so_or_not (mark row w 0 q)) ∙ old q ∙ rw (below_same q v z)
