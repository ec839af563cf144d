-- How a block is known when it is found: by looking only at what stands in its way backward. Among the items let A be some that are
-- done, and C some that are all in one block. If whoever needs one of A is of A, and whoever needs one of C is of A or C, then C is the
-- whole block.
use mathlib.Core.Path.{◌≡◌, subst}
use mathlib.Core.Logic.{◌⊎◌, inl, inr}
use mathlib.Core.List.{List}
use mathlib.Core.Bool.{Bool, true}
use Prim.Native.Nat.{ℕ}
use Rattle.order.specs.LabelLists.{◌∈◌}
use Rattle.order.proofs.Closure.{step, then}
use Rattle.order.proofs.Blocks.{Onto, onto_needs, onto_member, onto_item, Tog}

module _ (R : ℕ → ℕ → Bool) (items : List ℕ) where
  -- a set that holds whoever needs one of it holds whoever needs one of it through others
  back_closed : (So : ℕ → Type 0) → ((x c : ℕ) → x ∈ items → c ∈ items → R x c ≡ true → So c → So x)
      → {x c : ℕ} → x ∈ items → Onto R items x c → So c → So x
  back_closed So closed {x} {c} m (step s) h = closed x c m (onto_member R items x c s) (onto_needs R items x c s) h
  back_closed So closed {x} {c} m (then {c = b} r s) h =
      back_closed So closed m r (closed b c (onto_item R items r) (onto_member R items b c s) (onto_needs R items b c s) h)

  module _ (A C : ℕ → Type 0)
      (done : (x a : ℕ) → x ∈ items → a ∈ items → R x a ≡ true → A a → A x)
      (closed : (x c : ℕ) → x ∈ items → c ∈ items → R x c ≡ true → C c → A x ⊎ C x)
      (apart : (x : ℕ) → A x → C x → ⊥) where
    -- all that are in one block with one of C are of C
    pub block_found : (c x : ℕ) → c ∈ items → x ∈ items → C c → Tog R items c x → C x
    block_found c x mc mx h (inl e) = subst C e h
    block_found c x mc mx h (inr r) = go (back_closed (λ y. A y ⊎ C y) both mx r.1 (inr h))
      where
        both : (x c : ℕ) → x ∈ items → c ∈ items → R x c ≡ true → A c ⊎ C c → A x ⊎ C x
        both x c mx mc s (inl a) = inl (done x c mx mc s a)
        both x c mx mc s (inr b) = closed x c mx mc s b

        go : A x ⊎ C x → C x
        go (inl a) = absurd (apart c (back_closed A done mc r.0 a) h)
        go (inr b) = b
