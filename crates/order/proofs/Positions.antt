-- The first position of a list that is bad after what stands before it: found by `first_position`, and one.
use mathlib.Core.Path.{◌≡◌, refl, sym, ap, ◌∙◌}
use mathlib.Core.Logic.{◌⊎◌, inl, inr, ◌↔◌}
use mathlib.Core.List.{List, [], ◌∷◌, ◌++◌, append_assoc, append-nil}
use mathlib.Core.Bool.{Bool, true, false}
use Prim.Native.Nat.{ℕ, zero, suc, ◌+◌, ◌<◌}
use native.Mathlib.Omega.{arith}
use native.Mathlib.Decide.{dec_lt}
use lib.ListN.{length}
use Rattle.order.specs.Following.{first_position, NoneBad, FirstPosition, Found}
use Rattle.order.proofs.Tests.{both_ways, so_or_not}

-- ---- the first that is bad, as a relation

none_nil : (Bad : List ℕ → ℕ → Type 0) → NoneBad Bad []
none_nil Bad [] v b e i = let z : ◌≡◌ {A = ℕ} 0 1 = cc in omega arith
none_nil Bad (x ∷ a) v b e i = let z : ◌≡◌ {A = ℕ} 0 1 = cc in omega arith

module _ (bad : List ℕ → ℕ → Bool) where
  -- the test after `seen`
  abbrev After : List ℕ → List ℕ → ℕ → Type 0
  After seen a v = bad (seen ++ a) v ≡ true

  -- what `first_position` finds after `seen`, counting from k + 1
  abbrev FoundFrom : List ℕ → ℕ → List ℕ → ℕ → Type 0
  FoundFrom seen k l zero = NoneBad (After seen) l
  FoundFrom seen k l (suc j) = (i : ℕ) × (suc j ≡ k + i) × FirstPosition (After seen) l i

  -- one label more in front, which is not bad
  none_cons : (seen : List ℕ) (y : ℕ) (l : List ℕ) → bad seen y ≡ false → NoneBad (After (seen ++ y ∷ [])) l → NoneBad (After seen) (y ∷ l)
  none_cons seen y l e h [] v b q i =
      let z : y ≡ v = cc in
      let i₁ : bad seen v ≡ true = rw append-nil at i in
      both_ways (bad seen y) (rw z i₁) e
  none_cons seen y l e h (x ∷ a) v b q i =
      let z : y ≡ x = cc in
      let z₁ : l ≡ a ++ v ∷ b = cc in
      h a v b z₁ (rw (append_assoc, z) i)

  found_from : (seen : List ℕ) (k : ℕ) (l : List ℕ) → FoundFrom seen k l (first_position bad seen (suc k) l)
  found_from seen k [] = none_nil (After seen)
  found_from seen k (y ∷ l) = go (so_or_not (bad seen y)) (first_position bad (seen ++ y ∷ []) (suc (suc k)) l) refl (found_from (seen ++ y ∷ []) (suc k) l)
    where
      go : (bad seen y ≡ true) ⊎ (bad seen y ≡ false) → (r : ℕ) → first_position bad (seen ++ y ∷ []) (suc (suc k)) l ≡ r → FoundFrom (seen ++ y ∷ []) (suc k) l r
          → FoundFrom seen k (y ∷ l) (first_position bad seen (suc k) (y ∷ l))
      go (inl e) r q f = rw e (
        1,
        omega arith,
        record {
          before = [];
          label = y;
          behind = l;
          parts = refl;
          position = refl;
          bad = rw append-nil e;
          fine = none_nil (After seen);
        },
      )
      go (inr e) zero q f = rw (e, q) (none_cons seen y l e f)
      go (inr e) (suc j) q (i, m, f) = rw (e, q) (
        suc i,
        omega arith,
        record {
          before = y ∷ f.before;
          label = f.label;
          behind = f.behind;
          parts = ap (λ (x : List ℕ). y ∷ x) f.parts;
          position = ap suc f.position;
          bad = rw append_assoc at f.bad;
          fine = none_cons seen y f.before e f.fine;
        },
      )

  -- where the test is a relation's, `first_position` finds what the relation says
  pub found : (Bad : List ℕ → ℕ → Type 0) → ((a : List ℕ) (v : ℕ) → (bad a v ≡ true) ↔ Bad a v) → (l : List ℕ) → Found Bad l (first_position bad [] 1 l)
  found Bad same l = go (first_position bad [] 1 l) (found_from [] 0 l)
    where
      go : (r : ℕ) → FoundFrom [] 0 l r → Found Bad l r
      go zero f = λ a v b e i. f a v b e ((same a v).1 i)
      go (suc k) (i, m, f) = record {
        before = f.before;
        label = f.label;
        behind = f.behind;
        parts = f.parts;
        position = omega (arith, f.position);
        bad = (same f.before f.label).0 f.bad;
        fine = λ a v b e i. f.fine a v b e ((same a v).1 i);
      }

-- ---- and the position is one

-- of two cuts of a list, the later has the earlier in its front
cut_in : (a b : List ℕ) (x y : ℕ) (r s : List ℕ) → a ++ x ∷ r ≡ b ++ y ∷ s → length a < length b → (c : List ℕ) × (b ≡ a ++ x ∷ c)
cut_in [] [] x y r s e h = absurd (omega arith)
cut_in [] (z ∷ b) x y r s e h = let q : x ≡ z = cc in (b, rw q)
cut_in (z ∷ a) [] x y r s e h = absurd (omega arith)
cut_in (z ∷ a) (u ∷ b) x y r s e h =
    let q : z ≡ u = cc in
    let k : a ++ x ∷ r ≡ b ++ y ∷ s = cc in
    let i = cut_in a b x y r s k (omega arith) in
    (i.0, rw (q, ← i.1))

module _ (Bad : List ℕ → ℕ → Type 0) (l : List ℕ) where
  first_low : (i j : ℕ) → FirstPosition Bad l i → FirstPosition Bad l j → i < j → ⊥
  first_low i j p q h =
      let c = cut_in p.before q.before p.label q.label p.behind q.behind (sym p.parts ∙ q.parts) (omega (arith, p.position, q.position)) in
      q.fine p.before p.label c.0 c.1 p.bad

  pub first_one : (i j : ℕ) → FirstPosition Bad l i → FirstPosition Bad l j → i ≡ j
  first_one i j p q = go (dec_lt i j) (dec_lt j i)
    where
      go : Dec (i < j) → Dec (j < i) → i ≡ j
      go (yes h) _ = absurd (first_low i j p q h)
      go (no h) (yes k) = absurd (first_low j i q p k)
      go (no h) (no k) = omega arith

  pub first_none : (i : ℕ) → FirstPosition Bad l i → NoneBad Bad l → ⊥
  first_none i p h = h p.before p.label p.behind p.parts p.bad

  pub found_one : (i j : ℕ) → Found Bad l i → Found Bad l j → i ≡ j
  found_one zero zero p q = refl
  found_one zero (suc j) p q = absurd (first_none (suc j) q p)
  found_one (suc i) zero p q = absurd (first_none (suc i) p q)
  found_one (suc i) (suc j) p q = first_one (suc i) (suc j) p q
