-- The leaders, known by their leads.
use mathlib.Core.Path.{◌≡◌, refl, sym, ap, ◌∙◌, subst}
use mathlib.Core.List.{List, [], ◌∷◌, ◌++◌}
use mathlib.Core.Bool.{Bool, true, false}
use Prim.Native.Nat.{ℕ, ◌+◌, ◌<◌}
use native.Mathlib.Omega.{arith}
use native.Mathlib.Numerals.{add-one}
use lib.ListN.{length, get_or, set, take}
use lib.Seq.{take-suc, take-suc-set, take-set-le}
use borrow.Author.Tests.{eqb-true, eq-eqb}
use Rattle.order.specs.LabelLists.{one, ◌∈◌, filter}
use Rattle.order.specs.Blocks.{is_leader, leaders}
use Rattle.order.proofs.Alike.{same_test, filter_same}
use Rattle.order.proofs.Blocks.{tog_refl}
use Rattle.blocks.specs.Found.{Led}
use Rattle.blocks.specs.Merged.{heads}
use Rattle.blocks.proofs.Merging.{led_is}

-- a leader is its own lead, and nothing else is
pub heads_leaders : (R : ℕ → ℕ → Bool) (items lead : List ℕ) → Led R items lead → filter (heads lead) items ≡ leaders R items
heads_leaders R items lead led = filter_same (heads lead) (is_leader R items) items (λ x m. same_test (heads lead x) (is_leader R items x) (there x m) (back x m))
  where
    there : (x : ℕ) → x ∈ items → heads lead x ≡ true → is_leader R items x ≡ true
    there x m e = subst (λ (v : ℕ). is_leader R items v ≡ true) (eqb-true (get_or lead x 0) x e) (led x m).1

    back : (x : ℕ) → x ∈ items → is_leader R items x ≡ true → heads lead x ≡ true
    back x m l = eq-eqb (get_or lead x 0) x (led_is R items lead led x x m l m (tog_refl R items x))

filter_more : (f : ℕ → Bool) (l : List ℕ) (x : ℕ) → filter f (l ++ x ∷ []) ≡ filter f l ++ filter f (x ∷ [])
filter_more f [] x = refl
filter_more f (y ∷ l) x = go (f y) refl (filter_more f l x)
  where
    go : (t : Bool) → f y ≡ t → filter f (l ++ x ∷ []) ≡ filter f l ++ filter f (x ∷ []) → filter f (y ∷ (l ++ x ∷ [])) ≡ filter f (y ∷ l) ++ filter f (x ∷ [])
    go true e r = rw (e, r)
    go false e r = rw (e, r)

-- each item is stored, and the next one over it where it does not lead
pub gather_turn : (items lead out : List ℕ) (i m x r : ℕ) → i < length items → m < length out → x ≡ get_or items i 0 → r ≡ one (heads lead x)
    → take m out ≡ filter (heads lead) (take i items) → take (m + r) (set out m x) ≡ filter (heads lead) (take (i + 1) items)
gather_turn items lead out i m x r hi hm z hr old =
    ap (λ (k : ℕ). take (m + k) (set out m x)) hr ∙ go (heads lead x) refl
    ∙ sym (ap (filter (heads lead)) last ∙ filter_more (heads lead) (take i items) x)
  where
    last : take (i + 1) items ≡ take i items ++ x ∷ []
    last = rw (z, add-one) (take-suc items i 0 hi)

    go : (t : Bool) → heads lead x ≡ t → take (m + one t) (set out m x) ≡ filter (heads lead) (take i items) ++ filter (heads lead) (x ∷ [])
    go true e = rw (e, ← old) (rw add-one (take-suc-set out m x hm))
    go false e = rw (e, ← old) (none ∙ sym (append_none (take m out)))
      where
        none : take (m + 0) (set out m x) ≡ take m out
        none = let k : m + 0 ≡ m = omega arith in rw k (take-set-le m out m x (omega arith))

        append_none : (l : List ℕ) → l ++ [] ≡ l
        append_none [] = refl
        append_none (y ∷ l) = ap (λ (k : List ℕ). y ∷ k) (append_none l)
