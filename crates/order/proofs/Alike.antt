-- Where two tests, two needs or two lists agree on the items in question, what is made of them agrees.
use mathlib.Core.Path.{◌≡◌, refl, sym, ap}
use mathlib.Core.List.{List, [], ◌∷◌, ◌++◌}
use mathlib.Core.Bool.{Bool, true, false, not, ◌&&◌}
use mathlib.Core.Option.{Option, none, some}
use Prim.Native.Nat.{ℕ, zero, suc}
use lib.ListN.{length}
use Rattle.order.specs.LabelLists.{◌∈◌, mem, filter, any, first}
use Rattle.order.specs.Placing.{waits, next, place_next, rounds, placed}
use Rattle.order.proofs.Lists.{in_here, in_there}

pub same_test : (a b : Bool) → (a ≡ true → b ≡ true) → (b ≡ true → a ≡ true) → a ≡ b
same_test true b f g = sym (f refl)
same_test false true f g = g refl
same_test false false f g = refl

module _ (f g : ℕ → Bool) where
  pub filter_same : (l : List ℕ) → ((x : ℕ) → x ∈ l → f x ≡ g x) → filter f l ≡ filter g l
  filter_same [] h = refl
  filter_same (x ∷ l) h = rw (h x (in_here x l), filter_same l (λ y m. h y (in_there y x l m)))

  pub any_same : (l : List ℕ) → ((x : ℕ) → x ∈ l → f x ≡ g x) → any f l ≡ any g l
  any_same [] h = refl
  any_same (x ∷ l) h = rw (h x (in_here x l), any_same l (λ y m. h y (in_there y x l m)))

  pub first_same : (l : List ℕ) → ((x : ℕ) → x ∈ l → f x ≡ g x) → first f l ≡ first g l
  first_same [] h = refl
  first_same (x ∷ l) h = rw (h x (in_here x l), first_same l (λ y m. h y (in_there y x l m)))

-- a test that all pass leaves all
pub filter_all : (f : ℕ → Bool) (l : List ℕ) → ((x : ℕ) → x ∈ l → f x ≡ true) → filter f l ≡ l
filter_all f [] h = refl
filter_all f (x ∷ l) h = rw (h x (in_here x l), filter_all f l (λ y m. h y (in_there y x l m)))

-- ---- the rule of placing

module _ (R S : ℕ → ℕ → Bool) (items : List ℕ) (h : (p q : ℕ) → p ∈ items → q ∈ items → R p q ≡ S p q) where
  next_same : (done : List ℕ) → next R items done ≡ next S items done
  next_same done =
      first_same (λ p. not (mem p done) && not (waits R items done p)) (λ p. not (mem p done) && not (waits S items done p)) items
      (λ p mp. ap (λ (b : Bool). not (mem p done) && not b)
      (any_same (λ q. R p q && not (mem q done)) (λ q. S p q && not (mem q done)) items (λ q mq. ap (λ (b : Bool). b && not (mem q done)) (h p q mp mq))))

  rounds_same : (k : ℕ) (done : List ℕ) → rounds R items k done ≡ rounds S items k done
  rounds_same zero done = refl
  rounds_same (suc k) done = go (next S items done) (next_same done) (λ p. rounds_same k (done ++ p ∷ []))
    where
      go : (o : Option ℕ) → next R items done ≡ o → ((p : ℕ) → rounds R items k (done ++ p ∷ []) ≡ rounds S items k (done ++ p ∷ []))
          → rounds R items (suc k) done ≡ place_next o done (λ p. rounds S items k (done ++ p ∷ []))
      go none e r = rw e
      go (some p) e r = rw e (r p)

  pub placed_same : placed R items ≡ placed S items
  placed_same = rounds_same (length items) []
