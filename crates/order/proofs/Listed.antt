-- What one member of a Group lists, given what its Groups list.
use mathlib.Core.Path.{◌≡◌, sym, ◌∙◌, subst}
use mathlib.Core.Logic.{◌⊎◌, inl, inr}
use mathlib.Core.List.{List, [], ◌∷◌}
use mathlib.Core.Bool.{true, false}
use Prim.Native.Nat.{ℕ}
use native.Mathlib.Decide.{ℕ_discrete}
use lib.IntN.{ℤ}
use Rattle.cells.specs.Table.{is_definition}
use Rattle.cells.specs.Accepted.{Accepted}
use Rattle.order.specs.LabelLists.{one, count}
use Rattle.order.specs.Order.{is_g, is_v, reaches, NoCycle, listed}
use Rattle.order.proofs.Tests.{both_ways, so_or_not, not_so, one_true, one_false}
use Rattle.order.proofs.Lists.{count_here, count_there, in_single}
use Rattle.order.proofs.Placing.{Late}
use Rattle.order.proofs.Tables.{v_not_g, pos_of}
use Rattle.order.proofs.Proper.{no_cycle}
use Rattle.order.proofs.Needs.{holds, holds_intro, holds_v, only_itself}

module _ (t : List ℤ) (n : ℕ) (ok : Accepted t n) (group : ℕ → List ℕ) (p : ℕ) where
  -- each value that is p or under it once, and nothing else, if a Group does
  pub listed_count : (v : ℕ) → is_definition t p ≡ true → (is_g t p ≡ true → count v (group p) ≡ one (holds t p v))
      → count v (listed t group p) ≡ one (holds t p v)
  listed_count v d ih = go (so_or_not (is_v t p)) (so_or_not (is_g t p))
    where
      go : (is_v t p ≡ true) ⊎ (is_v t p ≡ false) → (is_g t p ≡ true) ⊎ (is_g t p ≡ false) → count v (listed t group p) ≡ one (holds t p v)
      go (inl e) _ = rw e (self (ℕ_discrete v p))
        where
          self : Dec (v ≡ p) → count v (p ∷ []) ≡ one (holds t p v)
          self (yes z) =
              let c : count v (p ∷ []) ≡ 1 = subst (λ (x : ℕ). count v (x ∷ []) ≡ 1) z (count_here v []) in
              c ∙ sym (one_true (holds t p v) (holds_intro t n ok p v (pos_of t n ok p d) (rw z e) (0, z)))
          self (no z) = count_there v p [] z ∙ sym (one_false (holds t p v) (λ h. z (only_itself t n ok p v d (v_not_g t p e) h)))
      go (inr e) (inl g) = rw (e, g) (ih g)
      go (inr e) (inr g) =
          rw (e, g) (sym (one_false (holds t p v) (λ h. both_ways (is_v t p) (rw (only_itself t n ok p v d g h) at (holds_v t n ok p v h)) e)))

  -- none reaches itself or a later one, if a Group's list is so
  pub listed_late : NoCycle t → (is_g t p ≡ true → Late (reaches t n) (group p)) → Late (reaches t n) (listed t group p)
  listed_late nc ih = go (so_or_not (is_v t p)) (so_or_not (is_g t p))
    where
      go : (is_v t p ≡ true) ⊎ (is_v t p ≡ false) → (is_g t p ≡ true) ⊎ (is_g t p ≡ false) → Late (reaches t n) (listed t group p)
      go (inl e) _ = rw e (λ q m. rw (in_single q p m) (no_cycle t n ok nc p e), tt)
      go (inr e) (inl g) = rw (e, g) (ih g)
      go (inr e) (inr g) = rw (e, g) tt

  pub listed_group : is_g t p ≡ true → listed t group p ≡ group p
  listed_group g = rw (not_so (is_v t p) (λ e. both_ways (is_g t p) g (v_not_g t p e)), g)
