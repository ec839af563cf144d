-- (f) Whichever proper order is worked down, the results are the same, and they are the only ones that satisfy the evaluation at every value.
use mathlib.Core.Path.{◌≡◌, refl, sym, ap, ◌∙◌, subst}
use mathlib.Core.Logic.{◌⊎◌, inl, inr}
use mathlib.Core.List.{List, [], ◌∷◌, ◌++◌, append_assoc}
use Prim.Native.Nat.{ℕ}
use native.Mathlib.Omega.{arith}
use native.Mathlib.Decide.{ℕ_discrete}
use lib.IntN.{ℤ}
use Rattle.kinds.specs.Kinds.{value_code}
use Rattle.cells.specs.Table.{kind}
use Rattle.order.specs.LabelLists.{◌∈◌}
use Rattle.order.specs.Order.{Proper}
use Rattle.order.specs.Evaluating.{Evaluation, down, Solves}
use Rattle.order.proofs.Lists.{count_parts, count_here, split, in_here, in_there, in_left, in_right, in_cons, in_single, in_append}
use Rattle.order.proofs.Proper.{listed_once, listed_value}

module _ {S R : Type 0} (t : List ℤ) (E : Evaluation t S R) where
  abbrev run : List ℕ → S → S
  run = down E.evaluate

  -- all of a are values
  abbrev pub Values : List ℕ → Type 0
  Values a = (x : ℕ) → x ∈ a → kind t x ≡ value_code

  values_tail : (x : ℕ) (a : List ℕ) → Values (x ∷ a) → Values a
  values_tail x a h y m = h y (in_there y x a m)

  pub run_append : (a b : List ℕ) (s : S) → run (a ++ b) s ≡ run b (run a s)
  run_append [] b s = refl
  run_append (x ∷ a) b s = run_append a b (E.evaluate s x)

  pub run_fits : (a : List ℕ) → Values a → (s : S) → E.Fits s → E.Fits (run a s)
  run_fits [] h s fit = fit
  run_fits (x ∷ a) h s fit = run_fits a (values_tail x a h) (E.evaluate s x) (E.fits s x (h x (in_here x a)) fit)

  -- what is not listed stays
  pub run_other : (a : List ℕ) → Values a → (w : ℕ) → (w ∈ a → ⊥) → (s : S) → E.Fits s → E.stored (run a s) w ≡ E.stored s w
  run_other [] h w i s fit = refl
  run_other (x ∷ a) h w i s fit =
      run_other a (values_tail x a h) w (λ m. i (in_there w x a m)) (E.evaluate s x) (E.fits s x (h x (in_here x a)) fit)
      ∙ E.other s x w (h x (in_here x a)) fit (λ (e : w ≡ x). i (subst (λ (z : ℕ). w ∈ z ∷ a) e (in_here w a)))

  -- the results of a proper order satisfy the evaluation at every value
  pub run_solves : (o : List ℕ) → Proper t o → (s : S) → E.Fits s → Solves t E (down E.evaluate o s)
  run_solves o p s fit v k = at (split v o (omega (arith, listed_once p v k)))
    where
      at : (a : List ℕ) × (b : List ℕ) × (o ≡ a ++ v ∷ b) → E.stored (run o s) v ≡ E.result (run o s) v
      at (a, b, e) = rw ends (got ∙ sym kept)
        where
          front : Values a
          front x m = listed_value p x (rw e (in_left x a (v ∷ b) m))

          back : Values (v ∷ b)
          back x m = listed_value p x (rw e (in_right x a (v ∷ b) m))

          mid_fits : E.Fits (run a s)
          mid_fits = run_fits a front s fit

          ends : run o s ≡ run (v ∷ b) (run a s)
          ends = ap (λ (l : List ℕ). run l s) e ∙ run_append a (v ∷ b) s

          late : v ∈ b → ⊥
          late m = omega (arith, listed_once p v k, count_parts v a (v ∷ b) e, count_here v b)

          behind : (w : ℕ) → kind t w ≡ value_code → w ∈ a → w ∈ v ∷ b → ⊥
          behind w i m₁ m₂ = omega (arith, listed_once p w i, count_parts w a (v ∷ b) e)

          got : E.stored (run (v ∷ b) (run a s)) v ≡ E.result (run a s) v
          got = run_other b (values_tail v b back) v late (E.evaluate (run a s) v) (E.fits (run a s) v k mid_fits) ∙ E.own (run a s) v k mid_fits

          kept : E.result (run (v ∷ b) (run a s)) v ≡ E.result (run a s) v
          kept = E.local (run (v ∷ b) (run a s)) (run a s) v k (run_fits (v ∷ b) back (run a s) mid_fits) mid_fits
              (λ w i r. run_other (v ∷ b) back w (behind w i (p.after a v b e w i r)) (run a s) mid_fits)

  -- where some order is proper, stores that satisfy it hold the same results
  pub solved_once : (o : List ℕ) → Proper t o → (s₁ s₂ : S) → E.Fits s₁ → E.Fits s₂ → Solves t E s₁ → Solves t E s₂
      → (v : ℕ) → kind t v ≡ value_code → E.stored s₁ v ≡ E.stored s₂ v
  solved_once o p s₁ s₂ f₁ f₂ h₁ h₂ v k = along [] o refl (λ w m. absurd (omega arith)) v (omega (arith, listed_once p v k))
    where
      -- those of a agree, and so do those of b
      along : (a b : List ℕ) → o ≡ a ++ b → ((w : ℕ) → w ∈ a → E.stored s₁ w ≡ E.stored s₂ w) → (v : ℕ) → v ∈ b → E.stored s₁ v ≡ E.stored s₂ v
      along a [] e agree v m = absurd (omega arith)
      along a (x ∷ b) e agree v m = pick (in_cons v x b m) (along (a ++ x ∷ []) b (e ∙ sym (append_assoc a (x ∷ []) b)))
        where
          value : kind t x ≡ value_code
          value = listed_value p x (omega (arith, count_parts x a (x ∷ b) e, count_here x b))

          next : E.stored s₁ x ≡ E.stored s₂ x
          next = h₁ x value ∙ E.local s₁ s₂ x value f₁ f₂ (λ w i r. agree w (p.after a x b e w i r)) ∙ sym (h₂ x value)

          agree_next : (w : ℕ) → (w ∈ a) ⊎ (w ∈ x ∷ []) → E.stored s₁ w ≡ E.stored s₂ w
          agree_next w (inl i) = agree w i
          agree_next w (inr i) = rw (in_single w x i) next

          pick : (v ≡ x) ⊎ (v ∈ b)
              → (((w : ℕ) → w ∈ a ++ x ∷ [] → E.stored s₁ w ≡ E.stored s₂ w) → (v : ℕ) → v ∈ b → E.stored s₁ v ≡ E.stored s₂ v)
              → E.stored s₁ v ≡ E.stored s₂ v
          pick (inl q) r = rw q next
          pick (inr i) r = r (λ w j. agree_next w (in_append w a (x ∷ []) j)) v i

  -- so the results of a proper order are those of any store that satisfies the evaluation,
  pub run_solution : (o : List ℕ) → Proper t o → (s r : S) → E.Fits s → E.Fits r → Solves t E r → (v : ℕ) → kind t v ≡ value_code → E.stored (run o s) v ≡ E.stored r v
  run_solution o p s r f g h v k = solved_once o p (run o s) r (run_fits o (listed_value p) s f) g (run_solves o p s f) h v k

  -- what is no value keeps what was stored,
  pub run_rest : (o : List ℕ) → Proper t o → (s : S) → E.Fits s → (l : ℕ) → (kind t l ≡ value_code → ⊥) → E.stored (run o s) l ≡ E.stored s l
  run_rest o p s fit l k = run_other o (listed_value p) l (λ m. k (listed_value p l m)) s fit

  -- and two proper orders, worked down from one store, leave the same result at every label
  pub order_free : (o₁ o₂ : List ℕ) → Proper t o₁ → Proper t o₂ → (s : S) → E.Fits s → (l : ℕ)
      → E.stored (down E.evaluate o₁ s) l ≡ E.stored (down E.evaluate o₂ s) l
  order_free o₁ o₂ p₁ p₂ s fit l = go (ℕ_discrete (kind t l) value_code)
    where
      go : Dec (kind t l ≡ value_code) → E.stored (run o₁ s) l ≡ E.stored (run o₂ s) l
      go (yes k) = run_solution o₁ p₁ s (run o₂ s) fit (run_fits o₂ (listed_value p₂) s fit) (run_solves o₂ p₂ s fit) l k
      go (no k) = run_rest o₁ p₁ s fit l k ∙ sym (run_rest o₂ p₂ s fit l k)
