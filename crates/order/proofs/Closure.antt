-- The closure of a relation holds exactly what a chain of one or more steps leads to.
use mathlib.Core.Path.{◌≡◌, refl, ap, ◌∙◌}
use mathlib.Core.Logic.{◌⊎◌, inl, inr, ◌↔◌}
use mathlib.Core.List.{List, [], ◌∷◌}
use mathlib.Core.Bool.{Bool, true, false, not, ◌&&◌, ◌||◌}
use Prim.Native.Nat.{ℕ, zero, suc, ◌+◌, ◌<◌}
use native.Mathlib.Omega.{arith}
use lib.ListN.{length}
use borrow.Author.Tests.{not-true}
use Rattle.order.specs.LabelLists.{◌∈◌, mem, any, filter}
use Rattle.order.specs.Closure.{grow, spread, closure}
use Rattle.order.proofs.Tests.{and_left, and_right, or_cases, or_left, or_right, not_and}
use Rattle.order.proofs.Alike.{filter_same, any_same}
use Rattle.order.proofs.Lists.{mem_of, of_mem, in_here, any_true, any_none, any_intro, in_filter, in_filter_of, filter_le, filter_in, tally_lt}

pub data Chain (m : ℕ → ℕ → Bool) (d : ℕ) : ℕ → Type 0 where
  step : {e : ℕ} → m d e ≡ true → Chain m d e
  then : {c e : ℕ} → Chain m d c → m c e ≡ true → Chain m d e

module _ (m : ℕ → ℕ → Bool) (all : List ℕ) where
  abbrev Of : List ℕ → Type 0
  Of S = (x : ℕ) → x ∈ S → x ∈ all

  abbrev Closed : List ℕ → Type 0
  Closed S = (d e : ℕ) → d ∈ S → m d e ≡ true → e ∈ S

  grow_of : (S : List ℕ) → Of (grow m all S)
  grow_of S x h = (in_filter (λ e. mem e S || any (λ d. m d e) S) x all h).0

  grow_keeps : (S : List ℕ) → Of S → (x : ℕ) → x ∈ S → x ∈ grow m all S
  grow_keeps S of x h = in_filter_of (λ e. mem e S || any (λ d. m d e) S) x all (of x h) (or_left (mem x S) (any (λ d. m d x) S) (mem_of x S h))

  spread_keeps : (k : ℕ) (S : List ℕ) → Of S → (x : ℕ) → x ∈ S → x ∈ spread m all k S
  spread_keeps zero S of x h = h
  spread_keeps (suc k) S of x h = spread_keeps k (grow m all S) (grow_of S) x (grow_keeps S of x h)

  spread_sound : (d k : ℕ) (S : List ℕ) → ((x : ℕ) → x ∈ S → Chain m d x) → (e : ℕ) → e ∈ spread m all k S → Chain m d e
  spread_sound d zero S h e i = h e i
  spread_sound d (suc k) S h e i = spread_sound d k (grow m all S) next e i
    where
      next : (x : ℕ) → x ∈ grow m all S → Chain m d x
      next x j = go (or_cases (mem x S) (any (λ d. m d x) S) (in_filter (λ e. mem e S || any (λ d. m d e) S) x all j).1)
        where
          go : (mem x S ≡ true) ⊎ (any (λ d. m d x) S ≡ true) → Chain m d x
          go (inl t) = h x (of_mem x S t)
          go (inr t) = let w = any_true (λ d. m d x) S t in then (h w.0 w.1) w.2

  module _ (target : (d e : ℕ) → m d e ≡ true → e ∈ all) where
    grow_closed : (S : List ℕ) → Of S → Closed S → Closed (grow m all S)
    grow_closed S of cl d e i t = grow_keeps S of e (cl d e (back (or_cases (mem d S) (any (λ c. m c d) S) (in_filter (λ e. mem e S || any (λ d. m d e) S) d all i).1)) t)
      where
        back : (mem d S ≡ true) ⊎ (any (λ c. m c d) S ≡ true) → d ∈ S
        back (inl q) = of_mem d S q
        back (inr q) = let w = any_true (λ c. m c d) S q in cl w.0 d w.1 w.2

    spread_stays : (k : ℕ) (S : List ℕ) → Of S → Closed S → Closed (spread m all k S)
    spread_stays zero S of cl = cl
    spread_stays (suc k) S of cl = spread_stays k (grow m all S) (grow_of S) (grow_closed S of cl)

    -- each round that does not close adds one, and there are no more than `all`
    spread_closed : (k : ℕ) (S : List ℕ) → Of S → length all < length (filter (λ e. mem e S) all) + k → Closed (spread m all k S)
    spread_closed zero S of h = absurd (omega (arith, filter_le (λ e. mem e S) all))
    spread_closed (suc k) S of h = go (any (λ e. not (mem e S) && any (λ d. m d e) S) all) refl (spread_closed k (grow m all S) (grow_of S))
      where
        go : (t : Bool) → any (λ e. not (mem e S) && any (λ d. m d e) S) all ≡ t
            → (length all < length (filter (λ e. mem e (grow m all S)) all) + k → Closed (spread m all k (grow m all S))) → Closed (spread m all (suc k) S)
        go true e r =
            let w = any_true (λ e. not (mem e S) && any (λ d. m d e) S) all e in
            let out = not-true (mem w.0 S) (and_left (not (mem w.0 S)) (any (λ d. m d w.0) S) w.2) in
            let hit = and_right (not (mem w.0 S)) (any (λ d. m d w.0) S) w.2 in
            let more = tally_lt (λ e. mem e S) (λ e. mem e (grow m all S)) all
            (λ x i t. mem_of x (grow m all S) (grow_keeps S of x (of_mem x S t)))
            w.0 w.1 out
            (mem_of w.0 (grow m all S) (in_filter_of (λ e. mem e S || any (λ d. m d e) S) w.0 all w.1 (or_right (mem w.0 S) (any (λ d. m d w.0) S) hit))) in
            r (omega arith)
        go false e r = spread_stays (suc k) S of closed
          where
            closed : Closed S
            closed c x i t = of_mem x S (not_and (mem x S) (any (λ d. m d x) S)
                (any_none (λ e. not (mem e S) && any (λ d. m d e) S) all e x (target c x t)) (any_intro (λ d. m d x) S c i t))

    pub closure_exact : (d e : ℕ) → (e ∈ closure m all d) ↔ Chain m d e
    closure_exact d e = (sound, complete)
      where
        of_start : Of (filter (m d) all)
        of_start x i = (in_filter (m d) x all i).0

        sound : e ∈ closure m all d → Chain m d e
        sound i = spread_sound d (length all) (filter (m d) all) (λ x j. step (in_filter (m d) x all j).1) e i

        closed : Closed (closure m all d)
        closed = go (filter (m d) all) refl
          where
            go : (S : List ℕ) → filter (m d) all ≡ S → Closed (closure m all d)
            go [] q = rw q (spread_stays (length all) [] (λ x i. absurd (omega arith)) (λ x y i. absurd (omega arith)))
            go (x ∷ S) q = spread_closed (length all) (filter (m d) all) of_start
                (omega (arith, filter_in (λ e. mem e (filter (m d) all)) all x (of_start x there) (mem_of x (filter (m d) all) there)))
              where
                there : x ∈ filter (m d) all
                there = rw q (in_here x S)

        chain_in : {x : ℕ} → Chain m d x → x ∈ closure m all d
        chain_in {x} (step t) = spread_keeps (length all) (filter (m d) all) of_start x (in_filter_of (m d) x all (target d x t) t)
        chain_in {x} (then {c = c} r t) = closed c x (chain_in r) t

        complete : Chain m d e → e ∈ closure m all d
        complete r = chain_in r

-- ---- the closure looks only at the first steps and at those from labels of `all`, and only where they lead to labels of `all`

module _ (m w : ℕ → ℕ → Bool) (all : List ℕ) (same : (d e : ℕ) → d ∈ all → e ∈ all → m d e ≡ w d e) where
  spread_same : (k : ℕ) (S : List ℕ) → Of m all S → spread m all k S ≡ spread w all k S
  spread_same zero S of = refl
  spread_same (suc k) S of = spread_same k (grow m all S) (grow_of m all S) ∙ ap (spread w all k) step
    where
      step : grow m all S ≡ grow w all S
      step = filter_same (λ e. mem e S || any (λ d. m d e) S) (λ e. mem e S || any (λ d. w d e) S) all
          (λ e i. ap (λ (b : Bool). mem e S || b) (any_same (λ d. m d e) (λ d. w d e) S (λ d j. same d e (of d j) i)))

  pub closure_same : (d : ℕ) → ((e : ℕ) → e ∈ all → m d e ≡ w d e) → closure m all d ≡ closure w all d
  closure_same d first =
      spread_same (length all) (filter (m d) all) (λ x i. (in_filter (m d) x all i).0) ∙ ap (spread w all (length all)) (filter_same (m d) (w d) all first)

abbrev pub onto : (ℕ → ℕ → Bool) → List ℕ → ℕ → ℕ → Bool
onto m all d e = m d e && mem e all

module _ (m : ℕ → ℕ → Bool) (all : List ℕ) where
  onto_same : (d e : ℕ) → e ∈ all → m d e ≡ onto m all d e
  onto_same d e i = rw (mem_of e all i) (keep (m d e))
    where
      keep : (b : Bool) → b ≡ (b && true)
      keep true = refl
      keep false = refl

  pub closure_onto : (d : ℕ) → closure m all d ≡ closure (onto m all) all d
  closure_onto d = closure_same m (onto m all) all (λ c e _. onto_same c e) d (onto_same d)
