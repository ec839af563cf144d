-- Proper orders: what they list; with a cycle there is none; and what makes an order proper.
use mathlib.Core.Path.{◌≡◌, ap, ◌∙◌}
use mathlib.Core.Logic.{◌⊎◌, inl, inr}
use mathlib.Core.List.{List, ◌∷◌, ◌++◌}
use mathlib.Core.Bool.{Bool, true, false}
use Prim.Native.Nat.{ℕ, ◌<◌}
use native.Mathlib.Omega.{arith}
use lib.IntN.{ℤ}
use lib.ListN.{length}
use Rattle.kinds.specs.Kinds.{value_code}
use Rattle.cells.specs.Table.{kind}
use Rattle.cells.specs.Accepted.{Accepted}
use Rattle.cells.specs.Reaches.{Reaches}
use Rattle.order.specs.LabelLists.{one, count, ◌∈◌, filter}
use Rattle.order.specs.Placing.{stuck}
use Rattle.order.specs.Order.{is_v, values, reaches, NoCycle, Proper}
use Rattle.order.proofs.Tests.{both_ways, not_so, one_true, one_in}
use Rattle.order.proofs.Lists.{count_parts, count_here, split, in_append, in_filter, count_filter_le, tally_lt}
use Rattle.order.proofs.Placing.{Late, late_tail, not_stuck}
use Rattle.order.proofs.Tables.{v_kind, kind_v, value_of, values_once, reaches_exact, reaches_chain}

-- ---- what a proper order lists

pub listed_once : {t : List ℤ} {o : List ℕ} → Proper t o → (v : ℕ) → kind t v ≡ value_code → count v o ≡ 1
listed_once {t} p v e = p.once v ∙ one_true (is_v t v) (kind_v t v e)

pub listed_value : {t : List ℤ} {o : List ℕ} → Proper t o → (v : ℕ) → v ∈ o → kind t v ≡ value_code
listed_value {t} p v m = v_kind t v (one_in (is_v t v) (omega (arith, p.once v)))

-- (b) where a value reaches itself no order is proper
pub cycle_improper : (t : List ℤ) (v : ℕ) → kind t v ≡ value_code → Reaches t v v → (o : List ℕ) → Proper t o → ⊥
cycle_improper t v k r o p =
    let c = listed_once p v k in
    let w = split v o (omega arith) in
    let m = p.after w.0 v w.1 w.2 v k r in
    omega (arith, count_parts v w.0 (v ∷ w.1) w.2, count_here v w.1)

pub proper_no_cycle : {t : List ℤ} {o : List ℕ} → Proper t o → NoCycle t
proper_no_cycle {t} {o} p v k r = cycle_improper t v k r o p

module _ (t : List ℤ) (n : ℕ) (ok : Accepted t n) where
  -- a list of every value once, of which none reaches itself or a later one, is proper
  pub late_proper : (o : List ℕ) → ((v : ℕ) → count v o ≡ one (is_v t v)) → Late (reaches t n) o → Proper t o
  late_proper o all late = record { once = all; after = after }
    where
      after : (a : List ℕ) (v : ℕ) (b : List ℕ) → o ≡ a ++ v ∷ b → (w : ℕ) → kind t w ≡ value_code → Reaches t v w → w ∈ a
      after a v b e w k r = go (in_append w a (v ∷ b) there)
        where
          there : w ∈ a ++ v ∷ b
          there = let c : count w o ≡ 1 = all w ∙ one_true (is_v t w) (kind_v t w k) in omega (arith, ap (count w) e)

          go : (w ∈ a) ⊎ (w ∈ v ∷ b) → w ∈ a
          go (inl m) = m
          go (inr m) =
              let l : Late (reaches t n) (a ++ v ∷ b) = rw e at late in
              both_ways (reaches t n v w) ((reaches_exact t n ok v w).1 r) ((late_tail (reaches t n) a (v ∷ b) l).0 w m)

  pub no_cycle : NoCycle t → (v : ℕ) → is_v t v ≡ true → reaches t n v v ≡ false
  no_cycle nc v e = not_so (reaches t n v v) (λ r. nc v (v_kind t v e) ((reaches_exact t n ok v v).0 r))

  -- with no cycle the values that pass a test are all placed by what they reach: a value that another reaches reaches fewer
  pub values_free : NoCycle t → (f : ℕ → Bool) → stuck (reaches t n) (filter f (values t n)) ≡ false
  values_free nc f =
      not_stuck (reaches t n) (filter f (values t n)) (λ x. omega (arith, count_filter_le f x (values t n), values_once t n ok x))
      (λ v. length (filter (reaches t n v) (values t n))) lower
    where
      lower : (p q : ℕ) → p ∈ filter f (values t n) → q ∈ filter f (values t n) → reaches t n p q ≡ true
          → length (filter (reaches t n q) (values t n)) < length (filter (reaches t n p) (values t n))
      lower p q mp mq r =
          let v = (in_filter f q (values t n) mq).0 in
          tally_lt (reaches t n q) (reaches t n p) (values t n) (λ x m h. reaches_chain t n ok p q x r h) q v (no_cycle nc q (value_of t n ok q v)) r
