-- Working down an order, whatever the evaluation of one value is.
use Rattle.std.specs.Prelude.{◌≡◌, List, [], ◌∷◌, ℕ, zero, suc, ◌*◌, ℤ, take, drop}
use Rattle.kinds.specs.Kinds.{value_code}
use Rattle.cells.specs.Table.{kind}
use Rattle.cells.specs.Reaches.{Reaches}

-- An evaluation of values with stores S, in which each label has a result R.
pub record Evaluation (t : List ℤ) (S R : Type 0) : Type 1 where
  -- what a store has to be: long enough, say
  pub Fits : S → Type 0
  -- label l's stored result
  pub stored : S → ℕ → R
  -- what value v comes to, from what is stored
  pub result : S → ℕ → R
  -- the store once value v is evaluated: its result is stored, and nothing else changes
  pub evaluate : S → ℕ → S
  pub fits : (s : S) (v : ℕ) → kind t v ≡ value_code → Fits s → Fits (evaluate s v)
  pub own : (s : S) (v : ℕ) → kind t v ≡ value_code → Fits s → stored (evaluate s v) v ≡ result s v
  pub other : (s : S) (v w : ℕ) → kind t v ≡ value_code → Fits s → (w ≡ v → ⊥) → stored (evaluate s v) w ≡ stored s w
  -- a value's result depends on the stored results of the values that it reaches, and on nothing else that is stored
  pub local : (s₁ s₂ : S) (v : ℕ) → kind t v ≡ value_code → Fits s₁ → Fits s₂
      → ((w : ℕ) → kind t w ≡ value_code → Reaches t v w → stored s₁ w ≡ stored s₂ w) → result s₁ v ≡ result s₂ v

-- the values of an order, in turn
abbrev pub down : {S : Type 0} → (S → ℕ → S) → List ℕ → S → S
down evaluate [] s = s
down evaluate (v ∷ o) s = down evaluate o (evaluate s v)

-- every value's stored result is what it comes to, from what is stored
abbrev pub Solves : {S R : Type 0} (t : List ℤ) → Evaluation t S R → S → Type 0
Solves t E s = (v : ℕ) → kind t v ≡ value_code → E.stored s v ≡ E.result s v

-- label l's cells in a buffer of w cells a label; none of label 0
abbrev pub label_cells : ℕ → List ℤ → ℕ → List ℤ
label_cells w r zero = []
label_cells w r (suc k) = take w (drop (w * k) r)
