-- Lists joined one after the other: what they hold, and where something stands first.
use mathlib.Core.Path.{◌≡◌, refl, sym, ap, ◌∙◌, subst}
use mathlib.Core.Logic.{◌⊎◌, inl, inr}
use mathlib.Core.List.{List, [], ◌∷◌, ◌++◌, append_assoc}
use mathlib.Core.Bool.{Bool, true, false, cond}
use Prim.Native.Nat.{ℕ, suc, ◌+◌, ◌≤◌, ◌<◌}
use native.Mathlib.Omega.{arith}
use native.Mathlib.Decide.{ℕ_discrete}
use lib.ListN.{length}
use Rattle.order.specs.LabelLists.{count, ◌∈◌, joined}
use Rattle.order.specs.Order.{Consecutive}
use Rattle.order.proofs.Tests.{so_or_not, not_so, both_ways}
use Rattle.order.proofs.Lists.{count_append, count_here, count_there, in_here, in_there, in_left, in_right, in_cons, in_append, count_parts, split}
use Rattle.order.proofs.Placing.{Late, late_append}

pub joined_same : (f g : ℕ → List ℕ) (l : List ℕ) → ((p : ℕ) → p ∈ l → f p ≡ g p) → joined f l ≡ joined g l
joined_same f g [] h = refl
joined_same f g (x ∷ l) h = ap (λ (a : List ℕ). a ++ joined f l) (h x (in_here x l)) ∙ ap (λ (b : List ℕ). g x ++ b) (joined_same f g l (λ p m. h p (in_there p x l m)))

module _ (f : ℕ → List ℕ) where
  pub joined_append : (a b : List ℕ) → joined f (a ++ b) ≡ joined f a ++ joined f b
  joined_append [] b = refl
  joined_append (x ∷ a) b = rw (joined_append a b) (sym (append_assoc (f x) (joined f a) (joined f b)))

  pub in_joined : (y : ℕ) (l : List ℕ) → y ∈ joined f l → (q : ℕ) × (q ∈ l) × (y ∈ f q)
  in_joined y [] m = absurd (omega arith)
  in_joined y (x ∷ l) m = go (in_append y (f x) (joined f l) m) (in_joined y l)
    where
      go : (y ∈ f x) ⊎ (y ∈ joined f l) → (y ∈ joined f l → (q : ℕ) × (q ∈ l) × (y ∈ f q)) → (q : ℕ) × (q ∈ x ∷ l) × (y ∈ f q)
      go (inl h) r = (x, in_here x l, h)
      go (inr h) r = let w = r h in (w.0, in_there w.0 x l w.1, w.2)

  pub joined_none : (v : ℕ) (l : List ℕ) → ((p : ℕ) → p ∈ l → count v (f p) ≡ 0) → count v (joined f l) ≡ 0
  joined_none v [] h = refl
  joined_none v (x ∷ l) h =
      let i = joined_none v l (λ p m. h p (in_there p x l m)) in
      omega (arith, count_append v (f x) (joined f l), h x (in_here x l))

  pub joined_one : (v p₀ : ℕ) (l : List ℕ) → count p₀ l ≡ 1 → ((p : ℕ) → p ∈ l → (p ≡ p₀ → ⊥) → count v (f p) ≡ 0)
      → count v (joined f l) ≡ count v (f p₀)
  joined_one v p₀ [] c h = absurd (omega arith)
  joined_one v p₀ (x ∷ l) c h = go (ℕ_discrete p₀ x) (λ k. joined_one v p₀ l k (λ p m. h p (in_there p x l m)))
    where
      go : Dec (p₀ ≡ x) → (count p₀ l ≡ 1 → count v (joined f l) ≡ count v (f p₀)) → count v (joined f (x ∷ l)) ≡ count v (f p₀)
      go (yes e) r =
          let c₁ : count p₀ (p₀ ∷ l) ≡ 1 = subst (λ (z : ℕ). count p₀ (z ∷ l) ≡ 1) (sym e) c in
          let i = joined_none v l (λ p m. h p (in_there p x l m) (λ (q : p ≡ p₀). let m₁ : p₀ ∈ l = rw q at m in omega (arith, count_here p₀ l))) in
          let e₁ : count v (f p₀) ≡ count v (f x) = ap (λ (z : ℕ). count v (f z)) e in
          omega (arith, count_append v (f x) (joined f l))
      go (no e) r =
          let i = r (omega (arith, count_there p₀ x l e)) in
          omega (arith, count_append v (f x) (joined f l), h x (in_here x l) (λ (q : x ≡ p₀). e (sym q)))

-- of no labels all that are so are consecutive
pub none_consecutive : (So : ℕ → Type 0) → Consecutive So []
none_consecutive So = record {
  front = [];
  block = [];
  back = [];
  parts = refl;
  inside = λ v m. absurd (omega arith);
  before = λ v m. absurd (omega arith);
  behind = λ v m. absurd (omega arith);
}

-- what is consecutive in the list of one of them, p, is so in all, if the lists of the others hold none of it
pub joined_block : (f : ℕ → List ℕ) (So : ℕ → Type 0) (l : List ℕ) (p : ℕ) → count p l ≡ 1
    → ((q v : ℕ) → q ∈ l → (q ≡ p → ⊥) → v ∈ f q → So v → ⊥) → Consecutive So (f p) → Consecutive So (joined f l)
joined_block f So l p c others b = at (split p l (omega arith))
  where
    at : (l₁ : List ℕ) × (l₂ : List ℕ) × (l ≡ l₁ ++ p ∷ l₂) → Consecutive So (joined f l)
    at (l₁, l₂, e) = record {
      front = joined f l₁ ++ b.front;
      block = b.block;
      back = b.back ++ joined f l₂;
      parts =
          ap (joined f) e ∙ joined_append f l₁ (p ∷ l₂) ∙ ap (λ (z : List ℕ). joined f l₁ ++ (z ++ joined f l₂)) b.parts ∙ simp append_assoc;
      inside = b.inside;
      before = λ v m. front_case v (in_append v (joined f l₁) b.front m);
      behind = λ v m. back_case v (in_append v b.back (joined f l₂) m);
    }
      where
        once : count p l₁ + (1 + count p l₂) ≡ 1
        once = omega (arith, count_parts p l₁ (p ∷ l₂) e, count_here p l₂)

        front_case : (v : ℕ) → (v ∈ joined f l₁) ⊎ (v ∈ b.front) → So v → ⊥
        front_case v (inl m) =
            let w = in_joined f v l₁ m in
            others w.0 v (rw e (in_left w.0 l₁ (p ∷ l₂) w.1))
            (λ (z : w.0 ≡ p). let m₁ : p ∈ l₁ = subst (λ (x : ℕ). x ∈ l₁) z w.1 in omega (arith, once)) w.2
        front_case v (inr m) = b.before v m

        back_case : (v : ℕ) → (v ∈ b.back) ⊎ (v ∈ joined f l₂) → So v → ⊥
        back_case v (inl m) = b.behind v m
        back_case v (inr m) =
            let w = in_joined f v l₂ m in
            others w.0 v (rw e (in_right w.0 l₁ (p ∷ l₂) (in_there w.0 p l₂ w.1)))
            (λ (z : w.0 ≡ p). let m₁ : p ∈ l₂ = subst (λ (x : ℕ). x ∈ l₂) z w.1 in omega (arith, once)) w.2

-- how many stand before the first that passes the test
abbrev pub ahead : (ℕ → Bool) → List ℕ → ℕ
ahead f [] = 0
ahead f (x ∷ l) = cond (f x) 0 (suc (ahead f l))

module _ (f : ℕ → Bool) where
  pub ahead_past : (a b : List ℕ) → ((v : ℕ) → v ∈ a → f v ≡ false) → length a ≤ ahead f (a ++ b)
  ahead_past [] b h = omega arith
  ahead_past (x ∷ a) b h =
      let i = ahead_past a b (λ v m. h v (in_there v x a m)) in
      rw (h x (in_here x a)) (omega arith)

  pub ahead_in : (a b : List ℕ) (y : ℕ) → y ∈ a → f y ≡ true → ahead f (a ++ b) < length a
  ahead_in [] b y m t = absurd (omega arith)
  ahead_in (x ∷ a) b y m t = go (so_or_not (f x)) (in_cons y x a m) (λ k. ahead_in a b y k t)
    where
      go : (f x ≡ true) ⊎ (f x ≡ false) → (y ≡ x) ⊎ (y ∈ a) → (y ∈ a → ahead f (a ++ b) < length a) → ahead f ((x ∷ a) ++ b) < length (x ∷ a)
      go (inl e) _ r = rw e (omega arith)
      go (inr e) (inl q) r = both_ways (f x) (rw q at t) e
      go (inr e) (inr k) r = let i = r k in rw e (omega arith)

-- joined lists are in order, if each is, and if what reaches from one into another makes the one need the other
pub joined_late : (R N : ℕ → ℕ → Bool) (f : ℕ → List ℕ) (l : List ℕ) → Late N l → ((p : ℕ) → count p l ≤ 1) → ((p : ℕ) → p ∈ l → Late R (f p))
    → ((p q x y : ℕ) → p ∈ l → q ∈ l → (p ≡ q → ⊥) → x ∈ f p → y ∈ f q → R x y ≡ true → N p q ≡ true) → Late R (joined f l)
joined_late R N f [] nl once late cross = tt
joined_late R N f (p ∷ l) nl once late cross =
    late_append R (f p) (joined f l) (late p (in_here p l))
    (joined_late R N f l nl.1 (λ q. omega (arith, once q)) (λ q m. late q (in_there q p l m)) (λ a b x y ma mb. cross a b x y (in_there a p l ma) (in_there b p l mb)))
    (λ x y mx my. go x y mx (in_joined f y l my))
  where
    go : (x y : ℕ) → x ∈ f p → (q : ℕ) × (q ∈ l) × (y ∈ f q) → R x y ≡ false
    go x y mx (q, mq, my) = not_so (R x y) (λ r.
        let d : p ≡ q → ⊥ = λ (e : p ≡ q). let m : p ∈ l = rw (← e) at mq in omega (arith, once p, count_here p l) in
        both_ways (N p q) (cross p q x y (in_here p l) (in_there q p l mq) d mx my r) (nl.0 q (in_there q p l mq)))
