-- Building the chains of lines.
use mathlib.Core.Path.{◌≡◌, sym, ap, ◌∙◌, subst}
use mathlib.Core.List.{List}
use Prim.Native.Nat.{ℕ, ◌+◌, ◌-◌, ◌*◌, ◌<◌, ◌≤◌}
use native.Mathlib.Omega.{arith}
use native.Mathlib.Decide.{ℕ_discrete}
use lib.IntN.{ℤ}
use lib.ListN.{length, get_or, set, length-set}
use lib.Seq.{get_or-set_same, get_or-set_other}
use Rattle.reach.specs.Chains.{Hangs, Last, ChainedTo, Empty}

one_place : (t : List ℤ) (j l d o : ℕ) → Hangs t j d l → Hangs t j o l → d ≡ o
one_place t j l d o p q = sym p.from ∙ q.from

last_more : (t : List ℤ) (j d k x : ℕ) → Last t j d k x → (Hangs t j d (k + 1) → ⊥) → Last t j d (k + 1) x
last_more t j d k x h f = record { within = omega (arith, h.within); hangs = h.hangs; none = λ l a b p. go l a b p (ℕ_discrete l (k + 1)) }
  where
    go : (l : ℕ) → x < l → l ≤ k + 1 → Hangs t j d l → Dec (l ≡ k + 1) → ⊥
    go l a b p (yes e) = f (subst (Hangs t j d) e p)
    go l a b p (no e) = h.none l a (omega arith) p

module _ (t : List ℤ) (n j : ℕ) where
  pub linked_none : (chains : List ℕ) → Empty n chains → ((l : ℕ) → l ≤ 0 → (d : ℕ) → Hangs t j d l → ⊥) → ChainedTo t n j 0 chains
  linked_none chains z low = record {
    heads = λ d h. record { within = omega (arith, z d h); hangs = λ e. absurd (e (z d h)); none = λ l a b. absurd (omega arith) };
    links = λ l d h p. absurd (low l h d p);
  }

  module _ (k : ℕ) (chains : List ℕ) (h : ChainedTo t n j k chains) where
    pub linked_skip : ((d : ℕ) → Hangs t j d (k + 1) → ⊥) → ChainedTo t n j (k + 1) chains
    linked_skip f = record {
      heads = λ d b. last_more t j d k (get_or chains d 0) (h.heads d b) (f d);
      links = λ l d b p. go l d b p (ℕ_discrete l (k + 1));
    }
      where
        go : (l d : ℕ) → l ≤ k + 1 → Hangs t j d l → Dec (l ≡ k + 1) → Last t j d (l - 1) (get_or chains (n + l) 0)
        go l d b p (yes e) = absurd (f d (subst (Hangs t j d) e p))
        go l d b p (no e) = h.links l d (omega arith) p

    -- line k + 1 hangs at o: it becomes the last of o's chain
    module _ (o : ℕ) (own : Hangs t j o (k + 1)) (low : o ≤ n) (high : k + 1 ≤ n) (room : 2 * n < length chains) where
      head : (d : ℕ) → d ≤ n → Dec (d ≡ o) → Last t j d (k + 1) (get_or (set (set chains (n + (k + 1)) (get_or chains o 0)) o (k + 1)) d 0)
      head d b (yes e) =
          subst (Last t j d (k + 1)) (sym (ap (λ (y : ℕ). get_or (set (set chains (n + (k + 1)) (get_or chains o 0)) o (k + 1)) y 0) e
          ∙ get_or-set_same (set chains (n + (k + 1)) (get_or chains o 0)) o (k + 1) 0 long)) (record {
            within = omega arith;
            hangs = λ _. subst (λ (y : ℕ). Hangs t j y (k + 1)) (sym e) own;
            none = λ l x y. absurd (omega arith);
          })
        where
          long : o < length (set chains (n + (k + 1)) (get_or chains o 0))
          long = omega (arith, length-set chains (n + (k + 1)) (get_or chains o 0))
      head d b (no e) = subst (Last t j d (k + 1))
          (sym (get_or-set_other (set chains (n + (k + 1)) (get_or chains o 0)) o d (k + 1) 0 e ∙ get_or-set_other chains (n + (k + 1)) d (get_or chains o 0) 0 (λ z. omega arith)))
          (last_more t j d k (get_or chains d 0) (h.heads d b) (λ p. e (one_place t j (k + 1) d o p own)))

      link : (l d : ℕ) → l ≤ k + 1 → Hangs t j d l → (o ≡ n + l → ⊥) → Dec (l ≡ k + 1)
          → Last t j d (l - 1) (get_or (set (set chains (n + (k + 1)) (get_or chains o 0)) o (k + 1)) (n + l) 0)
      link l d b p z (yes e) =
          subst (Last t j d (l - 1)) (sym (get_or-set_other (set chains (n + (k + 1)) (get_or chains o 0)) o (n + l) (k + 1) 0 (λ y. z (sym y))
          ∙ ap (λ (y : ℕ). get_or (set chains (n + (k + 1)) (get_or chains o 0)) (n + y) 0) e ∙ get_or-set_same chains (n + (k + 1)) (get_or chains o 0) 0 (omega arith)))
          (subst (λ (y : ℕ). Last t j d y (get_or chains o 0)) back
          (subst (λ (y : ℕ). Last t j y k (get_or chains o 0)) (one_place t j (k + 1) o d own (subst (Hangs t j d) e p)) (h.heads o low)))
        where
          back : k ≡ l - 1
          back = omega arith
      link l d b p z (no e) =
          subst (Last t j d (l - 1)) (sym (get_or-set_other (set chains (n + (k + 1)) (get_or chains o 0)) o (n + l) (k + 1) 0 (λ y. z (sym y))
          ∙ get_or-set_other chains (n + (k + 1)) (n + l) (get_or chains o 0) 0 (λ y. e (omega arith))))
          (h.links l d (omega arith) p)

      pub linked_push : ((l d : ℕ) → Hangs t j d l → 1 ≤ l) → ChainedTo t n j (k + 1) (set (set chains (n + (k + 1)) (get_or chains o 0)) o (k + 1))
      linked_push some = record {
        heads = λ d b. head d b (ℕ_discrete d o);
        links = λ l d b p. link l d b p (λ z. omega (arith, some l d p)) (ℕ_discrete l (k + 1));
      }
