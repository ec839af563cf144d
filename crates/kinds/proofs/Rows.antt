-- A rule of the table of kinds: a test that is computed over its rows, and one law that turns the test into the rule at each code.
use mathlib.Core.Path.{◌≡◌, sym}
use mathlib.Core.Bool.{Bool, true, false, not, ◌&&◌}
use mathlib.Core.List.{List, [], ◌∷◌}
use Prim.Native.Nat.{ℕ, zero, suc, ◌+◌}
use native.Mathlib.Omega.{arith}
use borrow.Author.Tests.{not-true}
use lib.ListN.{get_or}
use Rattle.kinds.specs.Kinds.{KindColumns, kinds, no_kind, kind_at}
use Rattle.kinds.proofs.Tests.{clash, and_left, and_right}

-- each of the rows passes a test of its code and itself; the first has code c
abbrev pub every : (ℕ → KindColumns → Bool) → ℕ → List KindColumns → Bool
every test c [] = true
every test c (k ∷ ks) = test c k && every test (suc c) ks

-- so does what no code has, whatever the code: then the row of every code does
module _ (test : ℕ → KindColumns → Bool) (none : (c : ℕ) → test c no_kind ≡ true) where
  in_rows : (ks : List KindColumns) (c i : ℕ) → every test c ks ≡ true → test (c + i) (get_or ks i no_kind) ≡ true
  in_rows [] c i e = none (c + i)
  in_rows (k ∷ ks) c zero e =
      let z : c + 0 ≡ c = omega arith in
      rw z (and_left (test c k) (every test (suc c) ks) e)
  in_rows (k ∷ ks) c (suc i) e =
      let z : c + suc i ≡ suc c + i = omega arith in
      rw z (in_rows ks (suc c) i (and_right (test c k) (every test (suc c) ks) e))

  pub each : every test 1 kinds ≡ true → (c : ℕ) → test c (kind_at c) ≡ true
  unfolding kind_at
  each e zero = none 0
  each e (suc c) = let z : suc c ≡ 1 + c = omega arith in rw z (in_rows kinds 1 c e)

-- ---- where a row passes p, it passes q with its code; no kind passes p

abbrev pub implies : Bool → Bool → Bool
implies true b = b
implies false b = true

pub implied : (a b : Bool) → implies a b ≡ true → a ≡ true → b ≡ true
implied true b e h = e
implied false b e h = clash (sym h)

pub by_rule : (p : KindColumns → Bool) (q : ℕ → KindColumns → Bool) → p no_kind ≡ false → every (λ c k. implies (p k) (q c k)) 1 kinds ≡ true
    → (c : ℕ) → p (kind_at c) ≡ true → q c (kind_at c) ≡ true
by_rule p q none e c h = implied (p (kind_at c)) (q c (kind_at c)) (each (λ i k. implies (p k) (q i k)) (λ i. rw none) e c) h

-- ---- p and q agree on every row

abbrev pub same : Bool → Bool → Bool
same true b = b
same false b = not b

agreed : (a b : Bool) → same a b ≡ true → a ≡ b
agreed true b e = sym e
agreed false b e = sym (not-true b e)

pub by_rows : (p q : KindColumns → Bool) → same (p no_kind) (q no_kind) ≡ true → every (λ c k. same (p k) (q k)) 1 kinds ≡ true
    → (c : ℕ) → p (kind_at c) ≡ q (kind_at c)
by_rows p q none e c = agreed (p (kind_at c)) (q (kind_at c)) (each (λ i k. same (p k) (q k)) (λ i. none) e c)
