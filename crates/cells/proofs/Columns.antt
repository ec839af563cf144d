-- A column of a table: cell j of each label from 1 to n.
use mathlib.Core.Path.{◌≡◌, refl, ap, sym, ◌∙◌}
use mathlib.Core.Bool.{Bool, true, false}
use mathlib.Core.List.{List}
use Prim.Native.Nat.{ℕ, zero, suc, ◌+◌, ◌*◌, ◌/◌, ◌%◌, ◌<◌, ◌≤◌}
use native.Mathlib.Omega.{arith}
use native.Mathlib.Nat.{not-suc-le-zero}
use borrow.Author.Tests.{ltb-true, ltb-false, eqb-true, eqb-false}
use lib.Dec.{eqb, ltb}
use lib.IntN.{ℤ, pos}
use lib.ListN.{length, set, length-set}
use lib.Seq.{ext_get_or}
use Rattle.cells.specs.Cells.{nat_of, int_at}
use Rattle.cells.specs.Table.{cell, entry, line_number, with_column}
use Rattle.cells.proofs.Stores.{int_at_put, int_at_other}

pub column_length : (j : ℕ) (f : ℕ → ℕ) (n : ℕ) (t : List ℤ) → length (with_column j f n t) ≡ length t
column_length j f zero t = refl
column_length j f (suc k) t = length-set (with_column j f k t) (8 * k + j) (pos (f (suc k))) ∙ column_length j f k t

-- ---- reads

module _ (j : ℕ) (f : ℕ → ℕ) (small : j < 8) where
  -- what is no cell of the column stays
  pub column_keeps : (n : ℕ) (t : List ℤ) (i : ℕ) → ((k : ℕ) → k < n → i ≡ 8 * k + j → ⊥) → int_at (with_column j f n t) i ≡ int_at t i
  column_keeps zero t i h = refl
  column_keeps (suc n) t i h =
      int_at_other (with_column j f n t) (8 * n + j) i (pos (f (suc n))) (h n (omega arith)) ∙ column_keeps n t i (λ k l. h k (omega arith))

  has_go : (n : ℕ) (t : List ℤ) (k : ℕ) → k < suc n → 8 * suc n ≤ length t → (k < n → int_at (with_column j f n t) (8 * k + j) ≡ pos (f (suc k)))
      → (b : Bool) → eqb k n ≡ b → int_at (with_column j f (suc n) t) (8 * k + j) ≡ pos (f (suc k))
  has_go n t k l g older true e =
      rw (eqb-true k n e) (int_at_put (with_column j f n t) (8 * n + j) (pos (f (suc n))) (omega (arith, column_length j f n t)))
  has_go n t k l g older false e =
      let d = eqb-false k n e in
      int_at_other (with_column j f n t) (8 * n + j) (8 * k + j) (pos (f (suc n))) (λ q. d (omega arith)) ∙ older (omega (arith, d))

  pub column_has : (n : ℕ) (t : List ℤ) (k : ℕ) → k < n → 8 * n ≤ length t → int_at (with_column j f n t) (8 * k + j) ≡ pos (f (suc k))
  column_has zero t k l g = absurd (not-suc-le-zero l)
  column_has (suc n) t k l g = has_go n t k l g (λ m. column_has n t k m (omega arith)) (eqb k n) refl

  pub column_own : (n : ℕ) (t : List ℤ) (l : ℕ) → 1 ≤ l → l ≤ n → 8 * n ≤ length t → cell (with_column j f n t) l j ≡ f l
  column_own n t zero h m g = absurd (not-suc-le-zero h)
  column_own n t (suc k) h m g = ap nat_of (column_has n t k (omega arith) g)

  pub column_other : (n : ℕ) (t : List ℤ) (l i : ℕ) → i < 8 → (i ≡ j → ⊥) → cell (with_column j f n t) l i ≡ cell t l i
  column_other n t zero i a d = refl
  column_other n t (suc l) i a d = ap nat_of (column_keeps n t (8 * l + i) (λ k m q. d (omega arith)))

  pub column_number : (n : ℕ) (t : List ℤ) (l : ℕ) → (3 ≡ j → ⊥) → line_number (with_column j f n t) l ≡ line_number t l
  column_number n t zero d = refl
  column_number n t (suc l) d = column_keeps n t (8 * l + 3) (λ k m q. d (omega arith))

-- ---- equal columns, and one written over another

pub column_same : (j : ℕ) (f g : ℕ → ℕ) (n : ℕ) (t : List ℤ) → ((l : ℕ) → 1 ≤ l → l ≤ n → f l ≡ g l) → with_column j f n t ≡ with_column j g n t
column_same j f g zero t h = refl
column_same j f g (suc k) t h =
    let e : f (suc k) ≡ g (suc k) = h (suc k) (omega arith) (omega arith) in
    let r = column_same j f g k t (λ l a b. h l a (omega arith)) in
    ap (λ (w : List ℤ). set w (8 * k + j) (pos (f (suc k)))) r ∙ ap (λ (v : ℕ). set (with_column j g k t) (8 * k + j) (pos v)) e

-- a column written over a column
pub column_over : (j : ℕ) (f g : ℕ → ℕ) (n : ℕ) (t : List ℤ) → j < 8 → 8 * n ≤ length t → with_column j g n (with_column j f n t) ≡ with_column j g n t
column_over j f g n t a room =
    ext_get_or (pos 0) (with_column j g n (with_column j f n t)) (with_column j g n t)
    (column_length j g n (with_column j f n t) ∙ column_length j f n t ∙ sym (column_length j g n t))
    (λ i h. at i (eqb (i % 8) j) (ltb (i / 8) n) refl refl)
  where
    long : 8 * n ≤ length (with_column j f n t)
    long = omega (arith, column_length j f n t)

    outside : (i : ℕ) → ((k : ℕ) → k < n → i ≡ 8 * k + j → ⊥) → int_at (with_column j g n (with_column j f n t)) i ≡ int_at (with_column j g n t) i
    outside i d = column_keeps j g a n (with_column j f n t) i d ∙ column_keeps j f a n t i d ∙ sym (column_keeps j g a n t i d)

    at : (i : ℕ) (x y : Bool) → eqb (i % 8) j ≡ x → ltb (i / 8) n ≡ y → int_at (with_column j g n (with_column j f n t)) i ≡ int_at (with_column j g n t) i
    at i true true e l =
        let q : i ≡ 8 * (i / 8) + j = omega (arith, eqb-true (i % 8) j e) in
        let m : i / 8 < n = ltb-true (i / 8) n l in
        ap (int_at (with_column j g n (with_column j f n t))) q ∙ column_has j g a n (with_column j f n t) (i / 8) m long
        ∙ sym (ap (int_at (with_column j g n t)) q ∙ column_has j g a n t (i / 8) m room)
    at i true false e l = outside i (λ k m q. omega (arith, ltb-false (i / 8) n l))
    at i false y e l = outside i (λ k m q. eqb-false (i % 8) j e (omega arith))

-- ---- cells as they stand

pub cell_entry : (t : List ℤ) (l j : ℕ) → cell t l j ≡ nat_of (entry t l j)
cell_entry t zero j = refl
cell_entry t (suc k) j = refl

pub cell_by : (t u : List ℤ) (l j : ℕ) → entry u l j ≡ entry t l j → cell u l j ≡ cell t l j
cell_by t u l j e = cell_entry u l j ∙ ap nat_of e ∙ sym (cell_entry t l j)

-- a column that is written, and another one
pub entry_other : (j : ℕ) (f : ℕ → ℕ) (n : ℕ) (t : List ℤ) (l i : ℕ) → j < 8 → i < 8 → (i ≡ j → ⊥) → entry (with_column j f n t) l i ≡ entry t l i
entry_other j f n t zero i h g d = refl
entry_other j f n t (suc k) i h g d = column_keeps j f h n t (8 * k + i) (λ m a q. d (omega arith))

pub entry_has : (j : ℕ) (f : ℕ → ℕ) (n : ℕ) (t : List ℤ) (k : ℕ) → j < 8 → 8 * n ≤ length t → k < n → entry (with_column j f n t) (suc k) j ≡ pos (f (suc k))
entry_has j f n t k h room g = column_has j f h n t k g room

entry_past : (j : ℕ) (f : ℕ → ℕ) (n : ℕ) (t : List ℤ) (k : ℕ) → j < 8 → n ≤ k → entry (with_column j f n t) (suc k) j ≡ entry t (suc k) j
entry_past j f n t k h g = column_keeps j f h n t (8 * k + j) (λ m a q. omega arith)

-- equal columns over tables that agree
pub entry_column : (j : ℕ) (f g : ℕ → ℕ) (n : ℕ) (t u : List ℤ) (l : ℕ) → j < 8 → 8 * n ≤ length t → 8 * n ≤ length u
    → ((x : ℕ) → g x ≡ f x) → entry u l j ≡ entry t l j → entry (with_column j g n u) l j ≡ entry (with_column j f n t) l j
entry_column j f g n t u zero h a b same e = refl
entry_column j f g n t u (suc k) h a b same e = go (ltb k n) refl
  where
    go : (c : Bool) → ltb k n ≡ c → entry (with_column j g n u) (suc k) j ≡ entry (with_column j f n t) (suc k) j
    go true q =
        let m = ltb-true k n q in
        entry_has j g n u k h b m ∙ ap pos (same (suc k)) ∙ sym (entry_has j f n t k h a m)
    go false q =
        let m = ltb-false k n q in
        entry_past j g n u k h m ∙ e ∙ sym (entry_past j f n t k h m)

-- a column written in both
pub entry_both : (j : ℕ) (f g : ℕ → ℕ) (n : ℕ) (t u : List ℤ) → j < 8 → 8 * n ≤ length t → 8 * n ≤ length u → ((x : ℕ) → g x ≡ f x)
    → (l i : ℕ) → i < 8 → entry u l i ≡ entry t l i → entry (with_column j g n u) l i ≡ entry (with_column j f n t) l i
entry_both j f g n t u h a b same l i k e = go (eqb i j) refl
  where
    go : (c : Bool) → eqb i j ≡ c → entry (with_column j g n u) l i ≡ entry (with_column j f n t) l i
    go true q = let m = eqb-true i j q in rw m (entry_column j f g n t u l h a b same (rw m at e))
    go false q =
        let d = eqb-false i j q in
        entry_other j g n u l i h k d ∙ e ∙ sym (entry_other j f n t l i h k d)
