-- Results in cells: those of a label, what is read back from them, and a buffer that a function of labels fills.
use mathlib.Core.Path.{◌≡◌, refl, sym, ap, ◌∙◌}
use mathlib.Core.List.{List, ◌++◌, append_assoc}
use Prim.Native.Nat.{ℕ, zero, suc, ◌+◌, ◌-◌, ◌*◌, ◌≤◌, ◌<◌}
use native.Mathlib.Omega.{arith}
use native.Mathlib.Decide.{ℕ_discrete, dec_le}
use native.Mathlib.Nat.{add-zero}
use lib.IntN.{ℤ, pos}
use lib.ListN.{length, take, drop, length-append, length-replicate}
use lib.Seq.{drop_at, drop-drop, get_or-take, get_or-drop}
use Rattle.cells.specs.Cells.{nat_of, int_at, nat_at, zeros}
use Rattle.cells.proofs.Stores.{int_at_zeros}
use Rattle.order.specs.Evaluating.{label_cells}
use Rattle.evaluation.specs.declared.Value.{Value}
use Rattle.evaluation.specs.Results.{stored}
use Rattle.figures.specs.Figures.{blank, value_cells, results_of, buffer_of}

-- ---- what is read back from a label's cells

abbrev value_in : List ℤ → Value
value_in cells = record { number = int_at cells 1; state = nat_at cells 0; steps = nat_at cells 2 }

row_at : (r : List ℤ) (k j : ℕ) → j < 3 → int_at r (3 * k + j) ≡ int_at (label_cells 3 r (suc k)) j
row_at r k j h = sym (get_or-take 3 (drop (3 * k) r) j (pos 0) h ∙ get_or-drop (3 * k) r j (pos 0))

row_read : (r : List ℤ) (l : ℕ) → stored r l ≡ value_in (label_cells 3 r l)
row_read r zero = refl
row_read r (suc k) =
    let a : int_at r (3 * k) ≡ int_at (label_cells 3 r (suc k)) 0 = rw add-zero at (row_at r k 0 (omega arith)) in
    let b = row_at r k 1 (omega arith) in
    let c = row_at r k 2 (omega arith) in
    λ i. record { number = b i; state = nat_of (a i); steps = nat_of (c i) }

pub same_stored : (r r' : List ℤ) (l : ℕ) → label_cells 3 r l ≡ label_cells 3 r' l → stored r l ≡ stored r' l
same_stored r r' l e = row_read r l ∙ ap value_in e ∙ sym (row_read r' l)

pub stored_row : (r : List ℤ) (l : ℕ) (v : Value) → label_cells 3 r l ≡ value_cells v → stored r l ≡ v
stored_row r l v e = row_read r l ∙ ap value_in e

-- ---- the rows of a buffer

rows_length : (f : ℕ → Value) (n : ℕ) → length (results_of f n) ≡ 3 * n
rows_length f zero = refl
rows_length f (suc k) = length-append (results_of f k) (value_cells (f (suc k))) ∙ omega (arith, rows_length f k)

pub row_of : (f : ℕ → Value) (n : ℕ) (rest : List ℤ) (l : ℕ) → 1 ≤ l → l ≤ n → label_cells 3 (results_of f n ++ rest) l ≡ value_cells (f l)
row_of f n rest zero h k = absurd (omega arith)
row_of f zero rest (suc l) h k = absurd (omega arith)
row_of f (suc n) rest (suc l) h k =
    ap (λ (c : List ℤ). label_cells 3 c (suc l)) (append_assoc (results_of f n) (value_cells (f (suc n))) rest)
    ∙ go (ℕ_discrete l n) (λ i. row_of f n (value_cells (f (suc n)) ++ rest) (suc l) h i)
  where
    go : Dec (l ≡ n) → (suc l ≤ n → label_cells 3 (results_of f n ++ (value_cells (f (suc n)) ++ rest)) (suc l) ≡ value_cells (f (suc l)))
        → label_cells 3 (results_of f n ++ (value_cells (f (suc n)) ++ rest)) (suc l) ≡ value_cells (f (suc l))
    go (yes e) older =
        rw e (ap (take 3) (drop_at (results_of f n) (value_cells (f (suc n)) ++ rest) (3 * n) (rows_length f n)))
    go (no d) older = older (omega arith)

-- past the last label there are the same cells, whatever the labels have
row_past : (f : ℕ → Value) (n : ℕ) (rest : List ℤ) (k : ℕ) → n ≤ k → label_cells 3 (results_of f n ++ rest) (suc k) ≡ take 3 (drop (3 * (k - n)) rest)
row_past f n rest k h =
    let e : 3 * k ≡ 3 * n + 3 * (k - n) = omega arith in
    ap (take 3) (ap (λ (i : ℕ). drop i (results_of f n ++ rest)) e ∙ sym (drop-drop (3 * (k - n)) (3 * n) (results_of f n ++ rest))
    ∙ ap (drop (3 * (k - n))) (drop_at (results_of f n) rest (3 * n) (rows_length f n)))

pub rows_same : (f g : ℕ → Value) (n : ℕ) (rest : List ℤ) (l : ℕ) → (1 ≤ l → l ≤ n → f l ≡ g l)
    → label_cells 3 (results_of f n ++ rest) l ≡ label_cells 3 (results_of g n ++ rest) l
rows_same f g n rest zero h = refl
rows_same f g n rest (suc k) h = go (dec_le (suc k) n)
  where
    go : Dec (suc k ≤ n) → label_cells 3 (results_of f n ++ rest) (suc k) ≡ label_cells 3 (results_of g n ++ rest) (suc k)
    go (yes m) =
        row_of f n rest (suc k) (omega arith) m ∙ ap value_cells (h (omega arith) m) ∙ sym (row_of g n rest (suc k) (omega arith) m)
    go (no m) = row_past f n rest k (omega arith) ∙ sym (row_past g n rest k (omega arith))

-- ---- zeros

blank_rows : (n : ℕ) (j : ℕ) → results_of (λ _. blank) n ++ zeros j ≡ zeros (3 * n + j)
blank_rows zero j = ap zeros (let e : j ≡ 3 * 0 + j = omega arith in e)
blank_rows (suc k) j =
    let e : 3 * k + suc (suc (suc j)) ≡ 3 * suc k + j = omega arith in
    append_assoc (results_of (λ _. blank) k) (value_cells blank) (zeros j) ∙ blank_rows k (suc (suc (suc j))) ∙ ap zeros e

pub zeros_buffer : (n m : ℕ) → 3 * n ≤ m → zeros m ≡ buffer_of (λ _. blank) n m
zeros_buffer n m h =
    let e : m ≡ 3 * n + (m - 3 * n) = omega arith in
    ap zeros e ∙ sym (blank_rows n (m - 3 * n))

pub stored_zeros : (m l : ℕ) → stored (zeros m) l ≡ blank
stored_zeros m zero = refl
stored_zeros m (suc k) =
    λ i. record { number = int_at_zeros m (3 * k + 1) i; state = nat_of (int_at_zeros m (3 * k) i); steps = nat_of (int_at_zeros m (3 * k + 2) i) }

pub length_zeros : (m : ℕ) → length (zeros m) ≡ m
length_zeros m = length-replicate {0} {A = ℤ} m (pos 0)

pub buffer_length : (f : ℕ → Value) (n m : ℕ) → 3 * n ≤ m → length (buffer_of f n m) ≡ m
buffer_length f n m h =
    length-append (results_of f n) (zeros (m - 3 * n)) ∙ omega (arith, rows_length f n, length_zeros (m - 3 * n))
