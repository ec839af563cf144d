-- Which values are redone: the tests are the relation, and those of a proper order are these values, each once.
use mathlib.Core.Path.{◌≡◌, refl, sym, ap, subst, ◌∙◌}
use mathlib.Core.Bool.{Bool, true, false, cond, ◌||◌}
use mathlib.Core.List.{List, [], ◌∷◌, ◌++◌}
use mathlib.Core.Logic.{◌⊎◌, inl, inr, ◌↔◌}
use Prim.Native.Nat.{ℕ, ◌≤◌}
use native.Mathlib.Omega.{arith}
use lib.Dec.{eqb}
use lib.IntN.{ℤ}
use lib.ListN.{length}
use borrow.Author.Tests.{eqb-true, eq-eqb}
use Rattle.kinds.specs.Kinds.{value_code}
use Rattle.kinds.proofs.Codes.{value_body}
use Rattle.cells.specs.Table.{kind}
use Rattle.cells.specs.Accepted.{Accepted}
use Rattle.cells.specs.Reaches.{Reaches}
use Rattle.cells.proofs.Accepted.{reaches_trans}
use Rattle.order.specs.LabelLists.{count, ◌∈◌, filter}
use Rattle.order.specs.Order.{is_v, values, reaches, Proper}
use Rattle.order.specs.Evaluating.{down}
use Rattle.order.proofs.Tests.{or_cases, or_left, or_right, not_so, so_or_not, one_le}
use Rattle.order.proofs.Lists.{in_filter, in_filter_of, count_filter_pass, count_filter_fail, count_filter_le, length_mono}
use Rattle.order.proofs.Alike.{same_test}
use Rattle.order.proofs.Tables.{count_values, reaches_exact}
use Rattle.order.proofs.Proper.{listed_once, listed_value}
use Rattle.marks.specs.Marks.{mark}
use Rattle.reach.specs.MarkRows.{width, MarkRow}
use Rattle.reach.proofs.Links.{touch_body, touch_around, back_exact}
use Rattle.redoing.specs.Redone.{Redone, is_redone, redone_of, redone_count}
use Rattle.redoing.specs.RedoStages.{turns}

-- what reaches one that is redone is redone
pub redone_reaches : {t : List ℤ} (v w d : ℕ) → Reaches t v w → Redone t d w → Redone t d v
redone_reaches {t} v w d r (inl e) = inr (subst (Reaches t v) e r)
redone_reaches v w d r (inr q) = inr (reaches_trans r q)

-- ---- the tests of what is redone

module _ (t : List ℤ) (n : ℕ) (ok : Accepted t n) where
  pub redone_test : (v d : ℕ) → (is_redone t n d v ≡ true) ↔ Redone t d v
  redone_test v d = (λ e. sound (or_cases (eqb v d) (reaches t n v d) e), complete)
    where
      sound : (eqb v d ≡ true) ⊎ (reaches t n v d ≡ true) → Redone t d v
      sound (inl e) = inl (eqb-true v d e)
      sound (inr e) = inr ((reaches_exact t n ok v d).0 e)

      complete : Redone t d v → is_redone t n d v ≡ true
      complete (inl e) = or_left (eqb v d) (reaches t n v d) (eq-eqb v d e)
      complete (inr r) = or_right (eqb v d) (reaches t n v d) ((reaches_exact t n ok v d).1 r)

  pub not_redone : (v d : ℕ) → (Redone t d v → ⊥) → is_redone t n d v ≡ false
  not_redone v d h = not_so (is_redone t n d v) (λ e. h ((redone_test v d).0 e))

  -- row d of marks, followed back, has what reaches d
  pub row_redone : (square : List ℕ) (d : ℕ) → MarkRow t n 6 square d → (v : ℕ) → kind t v ≡ value_code → turns square n d v ≡ is_redone t n d v
  row_redone square d row v k = ap (λ (b : Bool). eqb v d || b) (same_test (mark square (width n) d v) (reaches t n v d) marked reached)
    where
      marked : mark square (width n) d v ≡ true → reaches t n v d ≡ true
      marked e = (reaches_exact t n ok v d).1 ((back_exact v d).0 (touch_body t n ok 6 (inl refl) ((row v).0 e) (rw k value_body)))

      reached : reaches t n v d ≡ true → mark square (width n) d v ≡ true
      reached e = (row v).1 (touch_around t n ok 6 (inl refl) ((back_exact v d).1 ((reaches_exact t n ok v d).0 e)) (inl refl))

-- ---- those of a list that pass a test

module _ (f : ℕ → Bool) where
  -- where the list of them is cut, the whole list is cut
  pub filter_cut : (o a : List ℕ) (v : ℕ) (b : List ℕ) → filter f o ≡ a ++ v ∷ b → (a₁ : List ℕ) × (b₁ : List ℕ) × (o ≡ a₁ ++ v ∷ b₁) × (filter f b₁ ≡ b)
  filter_cut [] [] v b e = absurd (let z : ◌≡◌ {A = ℕ} 0 1 = cc in omega arith)
  filter_cut [] (y ∷ a) v b e = absurd (let z : ◌≡◌ {A = ℕ} 0 1 = cc in omega arith)
  filter_cut (x ∷ o) a v b e = go (f x) refl (filter_cut o)
    where
      go : (c : Bool) → f x ≡ c
          → ((a : List ℕ) (v : ℕ) (b : List ℕ) → filter f o ≡ a ++ v ∷ b → (a₁ : List ℕ) × (b₁ : List ℕ) × (o ≡ a₁ ++ v ∷ b₁) × (filter f b₁ ≡ b))
          → (a₁ : List ℕ) × (b₁ : List ℕ) × (x ∷ o ≡ a₁ ++ v ∷ b₁) × (filter f b₁ ≡ b)
      go true h rest = cut a (rw h at e)
        where
          cut : (a : List ℕ) → x ∷ filter f o ≡ a ++ v ∷ b → (a₁ : List ℕ) × (b₁ : List ℕ) × (x ∷ o ≡ a₁ ++ v ∷ b₁) × (filter f b₁ ≡ b)
          cut [] q =
              let i : x ≡ v = cc in
              let j : filter f o ≡ b = cc in
              ([], o, ap (λ (y : ℕ). y ∷ o) i, j)
          cut (y ∷ a) q =
              let j : filter f o ≡ a ++ v ∷ b = cc in
              let s = rest a v b j in
              (x ∷ s.0, s.1, ap (λ (l : List ℕ). x ∷ l) s.2, s.3)
      go false h rest = let s = rest a v b (rw h at e) in (x ∷ s.0, s.1, ap (λ (l : List ℕ). x ∷ l) s.2, s.3)

  -- as many of two lists that hold the same
  filter_counts : (a b : List ℕ) → ((x : ℕ) → count x a ≡ count x b) → (x : ℕ) → count x (filter f a) ≡ count x (filter f b)
  filter_counts a b h x = go (so_or_not (f x))
    where
      go : (f x ≡ true) ⊎ (f x ≡ false) → count x (filter f a) ≡ count x (filter f b)
      go (inl e) = count_filter_pass f x a e ∙ h x ∙ sym (count_filter_pass f x b e)
      go (inr e) = count_filter_fail f x a e ∙ sym (count_filter_fail f x b e)

  filter_lengths : (a b : List ℕ) → ((x : ℕ) → count x a ≡ count x b) → length (filter f a) ≡ length (filter f b)
  filter_lengths a b h =
      let c = length_mono (filter f a) (filter f b) (λ x. omega (arith, filter_counts a b h x)) in
      let e = length_mono (filter f b) (filter f a) (λ x. omega (arith, filter_counts a b h x)) in
      omega arith

  -- working down the whole list, those that fail the test passed over
  abbrev pub passing : {S : Type 0} → (S → ℕ → S) → S → ℕ → S
  passing step s v = cond (f v) (step s v) s

  pub down_filter : {S : Type 0} (step : S → ℕ → S) (o : List ℕ) (s : S) → down (passing step) o s ≡ down step (filter f o) s
  down_filter step [] s = refl
  down_filter {S} step (x ∷ o) s = go (f x) refl (down_filter step o)
    where
      go : (c : Bool) → f x ≡ c → ((s : S) → down (passing step) o s ≡ down step (filter f o) s) → down (passing step) (x ∷ o) s ≡ down step (filter f (x ∷ o)) s
      go true e rest = rw e (rest (step s x))
      go false e rest = rw e (rest s)

-- ---- those of a proper order that are redone

module _ (t : List ℤ) (n : ℕ) (ok : Accepted t n) (o : List ℕ) (p : Proper t o) (d : ℕ) where
  -- they are the values that are d or reach it,
  pub redone_exactly : (v : ℕ) → (v ∈ redone_of t n d o) ↔ ((kind t v ≡ value_code) × Redone t d v)
  redone_exactly v = (
    λ m. let w = in_filter (is_redone t n d) v o m in (listed_value p v w.0, (redone_test t n ok v d).0 w.1),
    λ h. in_filter_of (is_redone t n d) v o (omega (arith, listed_once p v h.0)) ((redone_test t n ok v d).1 h.1),
  )

  -- each once,
  pub redone_once : (v : ℕ) → count v (redone_of t n d o) ≤ 1
  redone_once v = omega (arith, count_filter_le (is_redone t n d) v o, p.once v, one_le (is_v t v))

  -- as many as of any order
  pub redone_many : length (redone_of t n d o) ≡ redone_count t n d
  redone_many = filter_lengths (is_redone t n d) o (values t n) (λ x. p.once x ∙ sym (count_values t n ok x))
