-- Results in a buffer of w cells a label: the laws of a label's cells, and (f) cell for cell.
use mathlib.Core.Path.{◌≡◌, refl, sym, ap, ◌∙◌}
use mathlib.Core.List.{List, [], ◌∷◌, ◌++◌, append_assoc}
use Prim.Native.Nat.{ℕ, zero, suc, ◌+◌, ◌-◌, ◌*◌, ◌≤◌, ◌<◌}
use native.Mathlib.Omega.{arith}
use native.Mathlib.Decide.{ℕ_discrete, dec_lt}
use native.Mathlib.Nat.{mul-suc, mul-le-mul_left}
use lib.IntN.{ℤ, pos}
use lib.ListN.{length, take, drop, get_or, length-take, length-drop, take-append-drop}
use lib.Seq.{sets, sets-eq, length-sets, take_at, drop_at, drop-drop, ext_get_or, get_or-take, get_or-drop, length-take-le}
use Rattle.kinds.specs.Kinds.{value_code}
use Rattle.cells.specs.Table.{kind}
use Rattle.cells.proofs.Stores.{sets_before, sets_past}
use Rattle.order.specs.Order.{Proper}
use Rattle.order.specs.Evaluating.{Evaluation, down, Solves, label_cells}
use Rattle.order.proofs.Evaluating.{order_free, run_solution, run_rest}

-- ---- cells after a store of label k + 1's

pub row_own : (w k : ℕ) (r vs : List ℤ) → length vs ≡ w → w * suc k ≤ length r → label_cells w (sets r (w * k) vs) (suc k) ≡ vs
row_own w k r vs e h =
    let room : w * k + length vs ≤ length r = omega (arith, mul-suc w k) in
    ap (λ (x : List ℤ). take w (drop (w * k) x)) (sets-eq vs r (w * k) room ∙ append_assoc (take (w * k) r) vs (drop (w * k + length vs) r))
    ∙ ap (take w) (drop_at (take (w * k) r) (vs ++ drop (w * k + length vs) r) (w * k) (length-take-le (w * k) r (omega arith)))
    ∙ take_at vs (drop (w * k + length vs) r) w e

pub row_other : (w k l : ℕ) (r vs : List ℤ) → length vs ≡ w → (l ≡ suc k → ⊥) → label_cells w (sets r (w * k) vs) l ≡ label_cells w r l
row_other w k zero r vs e d = refl
row_other w k (suc j) r vs e d = ext_get_or (pos 0) (take w (drop (w * j) (sets r (w * k) vs))) (take w (drop (w * j) r)) long each
  where
    size : (x : List ℤ) → length (take w (drop (w * j) x)) ≤ w
    size x = omega (arith, length-take w (drop (w * j) x))

    long : length (take w (drop (w * j) (sets r (w * k) vs))) ≡ length (take w (drop (w * j) r))
    long = simp (length-take, length-drop, length-sets)

    at : (x : List ℤ) (i : ℕ) → i < w → get_or (take w (drop (w * j) x)) i (pos 0) ≡ get_or x (w * j + i) (pos 0)
    at x i h = get_or-take w (drop (w * j) x) i (pos 0) h ∙ get_or-drop (w * j) x i (pos 0)

    side : (i : ℕ) → i < w → Dec (j < k) → get_or (sets r (w * k) vs) (w * j + i) (pos 0) ≡ get_or r (w * j + i) (pos 0)
    side i h (yes l) = let m : w * suc j ≤ w * k = mul-le-mul_left w l in sets_before vs r (w * k) (w * j + i) (omega (arith, mul-suc w j))
    side i h (no l) =
        let q : ¬ (j ≡ k) = λ (q : j ≡ k). d (ap suc q) in
        let g : suc k ≤ j = omega arith in
        let m : w * suc k ≤ w * j = mul-le-mul_left w g in
        sets_past vs r (w * k) (w * j + i) (omega (arith, mul-suc w k))

    each : (i : ℕ) → i < length (take w (drop (w * j) (sets r (w * k) vs))) → get_or (take w (drop (w * j) (sets r (w * k) vs))) i (pos 0) ≡ get_or (take w (drop (w * j) r)) i (pos 0)
    each i h =
        let m : i < w = omega (arith, size (sets r (w * k) vs)) in
        at (sets r (w * k) vs) i m ∙ side i m (dec_lt j k) ∙ sym (at r i m)

-- ---- two buffers of one length are one list if they agree in each label's cells

cells_same : (w : ℕ) → 0 < w → (k : ℕ) (a b : List ℤ) → length a ≤ k → length a ≡ length b
    → ((j : ℕ) → take w (drop (w * j) a) ≡ take w (drop (w * j) b)) → a ≡ b
cells_same w h zero [] [] l e f = refl
cells_same w h zero [] (y ∷ b) l e f = absurd (omega arith)
cells_same w h zero (x ∷ a) b l e f = absurd (omega arith)
cells_same w h (suc k) a b l e f =
    sym (take-append-drop w a) ∙ ap (λ (x : List ℤ). x ++ drop w a) head
    ∙ ap (λ (x : List ℤ). take w b ++ x) (cells_same w h k (drop w a) (drop w b) (omega (arith, length-drop w a)) (length-drop w a ∙ ap (λ (i : ℕ). i - w) e ∙ sym (length-drop w b)) tail)
    ∙ take-append-drop w b
  where
    head : take w a ≡ take w b
    head = let z : w * 0 ≡ 0 = omega arith in rw z at (f 0)

    next : (c : List ℤ) (j : ℕ) → drop (w * suc j) c ≡ drop (w * j) (drop w c)
    next c j = let q : w * suc j ≡ w + w * j = omega (arith, mul-suc w j) in ap (λ (i : ℕ). drop i c) q ∙ sym (drop-drop (w * j) w c)

    tail : (j : ℕ) → take w (drop (w * j) (drop w a)) ≡ take w (drop (w * j) (drop w b))
    tail j = ap (take w) (sym (next a j)) ∙ f (suc j) ∙ ap (take w) (next b j)

pub buffers_same : (w : ℕ) → 0 < w → (a b : List ℤ) → length a ≡ length b → ((l : ℕ) → label_cells w a l ≡ label_cells w b l) → a ≡ b
buffers_same w h a b e f = cells_same w h (length a) a b (omega arith) e (λ j. f (suc j))

-- ---- (f), where a label's result is its cells and evaluation keeps the buffer's length

module _ (t : List ℤ) (w : ℕ) (some : 0 < w) (E : Evaluation t (List ℤ) (List ℤ)) (stores : (r : List ℤ) (l : ℕ) → E.stored r l ≡ label_cells w r l)
    (kept : (r : List ℤ) (v : ℕ) → length (E.evaluate r v) ≡ length r) where
  run_length : (o : List ℕ) (r : List ℤ) → length (down E.evaluate o r) ≡ length r
  run_length [] r = refl
  run_length (v ∷ o) r = run_length o (E.evaluate r v) ∙ kept r v

  -- two proper orders, worked down from one buffer, leave the same cells
  pub same_cells : (o₁ o₂ : List ℕ) → Proper t o₁ → Proper t o₂ → (r : List ℤ) → E.Fits r → down E.evaluate o₁ r ≡ down E.evaluate o₂ r
  same_cells o₁ o₂ p₁ p₂ r fit =
      buffers_same w some (down E.evaluate o₁ r) (down E.evaluate o₂ r) (run_length o₁ r ∙ sym (run_length o₂ r))
      (λ l. sym (stores (down E.evaluate o₁ r) l) ∙ order_free t E o₁ o₂ p₁ p₂ r fit l ∙ stores (down E.evaluate o₂ r) l)

  -- and they are those of the one buffer that satisfies the evaluation at every value and is as it was at the other labels
  pub only_cells : (o : List ℕ) → Proper t o → (r s : List ℤ) → E.Fits r → E.Fits s → length s ≡ length r → Solves t E s
      → ((l : ℕ) → (kind t l ≡ value_code → ⊥) → label_cells w s l ≡ label_cells w r l) → down E.evaluate o r ≡ s
  only_cells o p r s f g e h rest = buffers_same w some (down E.evaluate o r) s (run_length o r ∙ sym e) (λ l. go l (ℕ_discrete (kind t l) value_code))
    where
      go : (l : ℕ) → Dec (kind t l ≡ value_code) → label_cells w (down E.evaluate o r) l ≡ label_cells w s l
      go l (yes k) = sym (stores (down E.evaluate o r) l) ∙ run_solution t E o p r s f g h l k ∙ stores s l
      go l (no k) = sym (stores (down E.evaluate o r) l) ∙ run_rest t E o p r f l k ∙ stores r l ∙ sym (rest l k)
