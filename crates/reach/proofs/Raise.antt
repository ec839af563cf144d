-- Marking what is around a definition.
use mathlib.Core.Path.{◌≡◌, refl, sym, ap, ◌∙◌, subst}
use mathlib.Core.Logic.{◌⊎◌, inl, inr}
use mathlib.Core.List.{List}
use mathlib.Core.Bool.{true}
use Prim.Native.Nat.{ℕ, zero, suc, ◌*◌, ◌≤◌, ◌<◌}
use native.Mathlib.Omega.{arith}
use native.Mathlib.Decide.{ℕ_discrete}
use lib.IntN.{ℤ}
use Rattle.kinds.specs.Kinds.{group_code, value_code}
use Rattle.kinds.proofs.Codes.{group_definition, value_definition}
use Rattle.cells.specs.Table.{kind, is_definition, owner}
use Rattle.cells.specs.Accepted.{Accepted}
use Rattle.order.specs.Order.{up, Within}
use Rattle.order.proofs.Tree.{within_owner}
use Rattle.marks.specs.Marks.{mark, Added}
use Rattle.marks.proofs.Squares.{mark_in}
use Rattle.reach.specs.Links.{Around}
use Rattle.reach.specs.Turns.{Raised}

-- above nothing there is nothing
up_zero : (t : List ℤ) (i : ℕ) → up t i 0 ≡ 0
up_zero t zero = refl
up_zero t (suc i) = up_zero t i

-- g is what is to be marked next of what is around v
pub record Climb (t : List ℤ) (n : ℕ) (s₀ s : List ℕ) (w d v g : ℕ) : Type 0 where
  pub low : g ≤ n
  pub group : (g ≡ 0 → ⊥) → (kind t g ≡ group_code) × Within t g (owner t v)
  pub others : (a q : ℕ) → (a ≡ d → ⊥) → mark s w a q ≡ mark s₀ w a q
  pub kept : (q : ℕ) → mark s₀ w d q ≡ true → mark s w d q ≡ true
  pub only : (q : ℕ) → mark s w d q ≡ true → (mark s₀ w d q ≡ true) ⊎ ((1 ≤ q) × Within t q (owner t v))
  pub new : (q : ℕ) → 1 ≤ q → Within t q (owner t v) → (mark s w d q ≡ true) ⊎ Within t q g
  pub raised : (x : ℕ) → kind t x ≡ group_code → mark s w d x ≡ true → 1 ≤ owner t x → (mark s w d (owner t x) ≡ true) ⊎ (owner t x ≡ g)

module _ (t : List ℤ) (n : ℕ) (ok : Accepted t n) where
  -- a label other than 1 has a Group
  has_group : (l : ℕ) → 1 ≤ l → l ≤ n → is_definition t l ≡ true → (owner t l ≡ 0 → ⊥) → kind t (owner t l) ≡ group_code
  has_group l a b k z = ok.group l (at l a z) b k
    where
      at : (l : ℕ) → 1 ≤ l → (owner t l ≡ 0 → ⊥) → 2 ≤ l
      at zero h z = absurd (omega arith)
      at (suc zero) h z = absurd (z ok.top)
      at (suc (suc l)) h z = omega arith

  module _ (w d v : ℕ) (s₀ : List ℕ) where
    pub climb_start : 1 ≤ v → v ≤ n → kind t v ≡ value_code → Raised t (mark s₀ w d) → Climb t n s₀ s₀ w d v (owner t v)
    climb_start a b k r = record {
      low = omega (arith, ok.falls v a b);
      group = λ z. (has_group v a b (rw k value_definition) z, (0, refl));
      others = λ x q e. refl;
      kept = λ q e. e;
      only = λ q e. inl e;
      new = λ q h u. inr u;
      raised = λ x e m h. inl (r x e m h);
    }

    module _ (s : List ℕ) (g : ℕ) (c : Climb t n s₀ s w d v g) where
      pub climb_turn : (g ≡ 0 → ⊥) → g < 64 * w → (s' : List ℕ) → Added (λ (q : ℕ). q ≡ g) s s' w d → Climb t n s₀ s' w d v (owner t g)
      climb_turn z room s' add = record {
        low = omega (arith, ok.falls g some c.low, c.low);
        group = λ y. (has_group g some c.low (rw (c.group z).0 group_definition) y, within_owner t n ok g (owner t v) (c.group z).1);
        others = λ a q e. add.others a q e ∙ c.others a q e;
        kept = λ q e. add.kept q (c.kept q e);
        only = λ q e. only q (add.only q e);
        new = λ q h u. new q h (c.new q h u);
        raised = λ x k e h. raised x k h (add.only x e);
      }
        where
          some : 1 ≤ g
          some = omega arith

          only : (q : ℕ) → (mark s w d q ≡ true) ⊎ (q ≡ g) → (mark s₀ w d q ≡ true) ⊎ ((1 ≤ q) × Within t q (owner t v))
          only q (inl e) = c.only q e
          only q (inr e) = inr (rw e (some, (c.group z).1))

          new : (q : ℕ) → 1 ≤ q → (mark s w d q ≡ true) ⊎ Within t q g → (mark s' w d q ≡ true) ⊎ Within t q (owner t g)
          new q h (inl e) = inl (add.kept q e)
          new q h (inr (zero, u)) = inl (add.new q (omega arith) (sym u))
          new q h (inr (suc i, u)) = inr (i, u)

          raised : (x : ℕ) → kind t x ≡ group_code → 1 ≤ owner t x → (mark s w d x ≡ true) ⊎ (x ≡ g) → (mark s' w d (owner t x) ≡ true) ⊎ (owner t x ≡ owner t g)
          raised x k h (inr e) = inr (ap (owner t) e)
          raised x k h (inl e) = go (c.raised x k e h)
            where
              go : (mark s w d (owner t x) ≡ true) ⊎ (owner t x ≡ g) → (mark s' w d (owner t x) ≡ true) ⊎ (owner t x ≡ owner t g)
              go (inl m) = inl (add.kept (owner t x) m)
              go (inr m) = inl (add.new (owner t x) (omega arith) m)

      pub climb_end : g ≡ 0 → Added (λ (q : ℕ). (1 ≤ q) × Within t q (owner t v)) s₀ s w d
      climb_end z = record { others = c.others; kept = c.kept; new = λ q b p. new q p (c.new q p.0 p.1); only = c.only }
        where
          new : (q : ℕ) → (1 ≤ q) × Within t q (owner t v) → (mark s w d q ≡ true) ⊎ Within t q g → mark s w d q ≡ true
          new q p (inl e) = e
          new q p (inr (i, u)) =
              let e : up t i 0 ≡ q = subst (λ (x : ℕ). up t i x ≡ q) z u in
              absurd (omega (arith, p.0, up_zero t i))

      -- where g is marked, all above it is
      pub climb_found : (g ≡ 0 → ⊥) → mark s w d g ≡ true → Added (λ (q : ℕ). (1 ≤ q) × Within t q (owner t v)) s₀ s w d
      climb_found z m = record { others = c.others; kept = c.kept; new = λ q b p. new q p (c.new q p.0 p.1); only = c.only }
        where
          full : (x : ℕ) → kind t x ≡ group_code → mark s w d x ≡ true → 1 ≤ owner t x → mark s w d (owner t x) ≡ true
          full x k e h = go (c.raised x k e h)
            where
              go : (mark s w d (owner t x) ≡ true) ⊎ (owner t x ≡ g) → mark s w d (owner t x) ≡ true
              go (inl y) = y
              go (inr y) = rw y m

          climb : (i x : ℕ) → 1 ≤ x → x ≤ n → kind t x ≡ group_code → mark s w d x ≡ true → 1 ≤ up t i x → mark s w d (up t i x) ≡ true
          climb zero x a b k e h = e
          climb (suc i) x a b k e h = go (ℕ_discrete (owner t x) 0) (climb i (owner t x))
            where
              go : Dec (owner t x ≡ 0)
                  → (1 ≤ owner t x → owner t x ≤ n → kind t (owner t x) ≡ group_code → mark s w d (owner t x) ≡ true → 1 ≤ up t i (owner t x)
                  → mark s w d (up t i (owner t x)) ≡ true)
                  → mark s w d (up t (suc i) x) ≡ true
              go (yes y) r =
                  let y₁ : up t i (owner t x) ≡ 0 = ap (up t i) y ∙ up_zero t i in
                  absurd (omega arith)
              go (no y) r = r (omega arith) (omega (arith, ok.falls x a b)) (has_group x a b (rw k group_definition) y) (full x k e (omega arith)) h

          new : (q : ℕ) → (1 ≤ q) × Within t q (owner t v) → (mark s w d q ≡ true) ⊎ Within t q g → mark s w d q ≡ true
          new q p (inl e) = e
          new q p (inr (i, u)) = subst (λ (x : ℕ). mark s w d x ≡ true) u (climb i g (omega arith) c.low (c.group z).0 m (subst (λ (x : ℕ). 1 ≤ x) (sym u) p.0))

  -- ---- e and what is around it

  module _ (w d e : ℕ) (s s₁ : List ℕ) (put : Added (λ (q : ℕ). q ≡ e) s s₁ w d) where
    pub around_value : kind t e ≡ value_code → (s₂ : List ℕ) → Added (λ (q : ℕ). (1 ≤ q) × Within t q (owner t e)) s₁ s₂ w d → Added (λ (q : ℕ). Around t e q) s s₂ w d
    around_value k s₂ more = record {
      others = λ a q y. more.others a q y ∙ put.others a q y;
      kept = λ q y. more.kept q (put.kept q y);
      new = new;
      only = λ q y. only q (more.only q y);
    }
      where
        new : (q : ℕ) → q < 64 * w → Around t e q → mark s₂ w d q ≡ true
        new q h (inl y) = more.kept q (put.new q h y)
        new q h (inr (_, p, (zero, u))) = more.kept q (put.new q h (sym u))
        new q h (inr (_, p, (suc i, u))) = more.new q h (p, (i, u))

        first : (q : ℕ) → (mark s w d q ≡ true) ⊎ (q ≡ e) → (mark s w d q ≡ true) ⊎ Around t e q
        first q (inl y) = inl y
        first q (inr y) = inr (inl y)

        only : (q : ℕ) → (mark s₁ w d q ≡ true) ⊎ ((1 ≤ q) × Within t q (owner t e)) → (mark s w d q ≡ true) ⊎ Around t e q
        only q (inl y) = first q (put.only q y)
        only q (inr (p, (i, u))) = inr (inr (k, p, (suc i, u)))

-- something added, and something more
pub added_then : (P Q : ℕ → Type 0) (s s₁ s₂ : List ℕ) (w d : ℕ) → Added P s s₁ w d → Added Q s₁ s₂ w d → Added (λ (q : ℕ). Q q ⊎ P q) s s₂ w d
added_then P Q s s₁ s₂ w d a b = record {
  others = λ x q y. b.others x q y ∙ a.others x q y;
  kept = λ q y. b.kept q (a.kept q y);
  new = new;
  only = λ q y. only q (b.only q y);
}
  where
    new : (q : ℕ) → q < 64 * w → Q q ⊎ P q → mark s₂ w d q ≡ true
    new q h (inl y) = b.new q h y
    new q h (inr y) = b.kept q (a.new q h y)

    first : (q : ℕ) → (mark s w d q ≡ true) ⊎ P q → (mark s w d q ≡ true) ⊎ (Q q ⊎ P q)
    first q (inl y) = inl y
    first q (inr y) = inr (inr y)

    only : (q : ℕ) → (mark s₁ w d q ≡ true) ⊎ Q q → (mark s w d q ≡ true) ⊎ (Q q ⊎ P q)
    only q (inl y) = first q (a.only q y)
    only q (inr y) = inr (inl y)

-- a row with all that is above it, added to another
pub row_raised : (t : List ℤ) (s s₁ : List ℕ) (w d f : ℕ) → Raised t (mark s w d) → Raised t (mark s w f) → Added (λ (q : ℕ). mark s w f q ≡ true) s s₁ w d
    → Raised t (mark s₁ w d)
row_raised t s s₁ w d f r r' a g k m h = go (a.only g m)
  where
    go : (mark s w d g ≡ true) ⊎ (mark s w f g ≡ true) → mark s₁ w d (owner t g) ≡ true
    go (inl y) = a.kept (owner t g) (r g k y h)
    go (inr y) = let z = r' g k y h in a.new (owner t g) (mark_in s w f (owner t g) z) z
