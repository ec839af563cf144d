-- Rows 19 to 21, of a list of pairs ps and a table t: where they find nothing, every pair is right.
use mathlib.Core.Path.{◌≡◌, refl, sym, ap, ◌∙◌, subst}
use mathlib.Core.Bool.{Bool, true, false, cond, ◌&&◌}
use mathlib.Core.Logic.{◌⊎◌, inl, inr}
use mathlib.Core.List.{List}
use denote.Enum.Bare.{sameb, same_true}
use Rattle.std.specs.Prelude.{Option, Some, None, Err}
use Rattle.std.proofs.Common.{rules}
use Rattle.refusals.specs.declared.Refusal.{Refusal}
use Prim.Native.Nat.{ℕ, ◌+◌, ◌-◌, ◌%◌, ◌≤◌, ◌<◌}
use native.Mathlib.Omega.{arith}
use lib.Dec.{eqb, leb}
use lib.IntN.{ℤ, nat_abs}
use lib.ListN.{length}
use borrow.Author.Tests.{eqb-true, leb-true, eq-eqb, ne_eqb, le-leb, lt-leb}
use Rattle.kinds.specs.contracts.Kind.{the_type}
use Rattle.kinds.specs.declared.Kind.{Kind}
use Rattle.kinds.specs.declared.Kind.TheVariants as kind_of
use Rattle.kinds.specs.Kinds.{number_code}
use Rattle.kinds.specs.Coded.{own_code, kind_with}
use Rattle.kinds.proofs.Enumerated.{one_kind, decoded, with_code}
use Rattle.order.proofs.Tests.{both_ways, so_or_not}
use Rattle.cells.specs.Limits.{number_limit, pair_limit}
use Rattle.cells.specs.Table.{kind}
use Rattle.numbers.specs.Range.{in_range}
use Rattle.refusals.specs.Rows.{pairs_row, pair_label_row, pair_number_row}
use Rattle.refusals.specs.Refusal.{first_bad, Verdict, Fine, Refused}
use Rattle.refusals.proofs.OrElse.{both_fine, refused_first, or_next}
use Rattle.refusals.proofs.FirstBad.{first_none, none_first}
use Rattle.redoing.specs.Pairs.{pair_count, pair_label, pair_number, PairRight, PairsRight}
use Rattle.retouching.specs.Retouch.{list_bad, pair_bad, pairs_bad}

-- ---- row 19

module _ (ps : List ℤ) where
  pub list_odd : (length ps % 2 ≡ 0 → ⊥) → Refused pairs_row 0 ≡ list_bad ps
  unfolding list_bad
  list_odd d = rw (ne_eqb (length ps % 2) 0 d) refl

  pub list_long : length ps % 2 ≡ 0 → pair_limit < pair_count ps → Refused pairs_row 0 ≡ list_bad ps
  unfolding list_bad
  list_long e h = rw (eq-eqb (length ps % 2) 0 e, lt-leb (pair_count ps) pair_limit h) refl

  pub list_fine : length ps % 2 ≡ 0 → pair_count ps ≤ pair_limit → Fine ≡ list_bad ps
  unfolding list_bad
  list_fine e h = rw (eq-eqb (length ps % 2) 0 e, le-leb (pair_count ps) pair_limit h) refl

  list_few : list_bad ps ≡ Fine → pair_count ps ≤ pair_limit
  unfolding list_bad
  list_few = go (eqb (length ps % 2) 0) (leb (pair_count ps) pair_limit) refl
    where
      go : (a b : Bool) → leb (pair_count ps) pair_limit ≡ b → cond (a && b) Fine (Refused pairs_row 0) ≡ Fine → pair_count ps ≤ pair_limit
      go true true q z = leb-true (pair_count ps) pair_limit q
      go true false q z = let x : ◌≡◌ {A = ℕ} 0 1 = cc in absurd (omega arith)
      go false b q z = let x : ◌≡◌ {A = ℕ} 0 1 = cc in absurd (omega arith)

-- ---- rows 20 and 21, of pair k

-- whether a code is that of an N line
module _ (c : ℕ) where
  pub number_none : kind_with c ≡ None → eqb c number_code ≡ false
  number_none e = ne_eqb c number_code (λ q. let z : ◌≡◌ {A = Option Kind} (Some kind_of.Number) None = sym (decoded kind_of.Number) ∙ ap kind_with (sym q) ∙ e in cc)

  pub number_some : (k : Kind) → kind_with c ≡ Some k → sameb the_type k kind_of.Number ≡ eqb c number_code
  number_some k e = go (so_or_not (sameb the_type k kind_of.Number))
    where
      go : (sameb the_type k kind_of.Number ≡ true) ⊎ (sameb the_type k kind_of.Number ≡ false) → sameb the_type k kind_of.Number ≡ eqb c number_code
      go (inl h) = h ∙ sym (eq-eqb c number_code (sym (with_code c k e) ∙ ap own_code (same_true the_type (search rules) k kind_of.Number h)))
      go (inr h) = h ∙ sym (ne_eqb c number_code (λ z. both_ways (sameb the_type k kind_of.Number)
          (subst (λ (m : Kind). sameb the_type m kind_of.Number ≡ true) (sym (one_kind k kind_of.Number (with_code c k e ∙ z))) refl) h))

-- as the code finds them: its label is l, whether that is an N line's is a, and its number z
module _ (t ps : List ℤ) (k : ℕ) (low : 1 ≤ k) where
  counted : k - 1 + 1 ≡ k
  counted = omega arith

  module _ {l : ℕ} {z : ℤ} (pair : (l ≡ pair_label ps (k - 1 + 1)) × (z ≡ pair_number ps (k - 1 + 1))) {a : Bool} (is : a ≡ eqb (kind t l) number_code) where
    line_is : eqb (kind t (pair_label ps k)) number_code ≡ a
    line_is = ap (λ (x : ℕ). eqb (kind t x) number_code) (sym (pair.0 ∙ ap (pair_label ps) counted)) ∙ sym is

    pub label_bad : a ≡ false → Some pair_label_row ≡ pair_bad t ps k
    unfolding pair_bad
    label_bad e = rw (line_is ∙ e) refl

    module _ {x : ℤ} {b : Bool} (given : x ≡ z) (tested : b ≡ in_range x) (line : a ≡ true) where
      ranged : in_range (pair_number ps k) ≡ b
      ranged = sym (tested ∙ ap in_range (given ∙ pair.1 ∙ ap (pair_number ps) counted))

      found : (b : Bool) → in_range (pair_number ps k) ≡ b → cond b None (Some pair_number_row) ≡ pair_bad t ps k
      unfolding pair_bad
      found b q = rw (line_is ∙ line, q) refl

      pub number_fine : b ≡ true → None ≡ pair_bad t ps k
      number_fine e = found true (ranged ∙ e)

      pub number_bad : b ≡ false → Some pair_number_row ≡ pair_bad t ps k
      number_bad e = found false (ranged ∙ e)

pub pair_right : (t ps : List ℤ) (k : ℕ) → pair_bad t ps k ≡ None → PairRight t ps k
unfolding pair_bad
pair_right t ps k e = go (eqb (kind t (pair_label ps k)) number_code) (in_range (pair_number ps k)) refl refl e
  where
    go : (b c : Bool) → eqb (kind t (pair_label ps k)) number_code ≡ b → in_range (pair_number ps k) ≡ c
        → cond b (cond c None (Some pair_number_row)) (Some pair_label_row) ≡ None → PairRight t ps k
    go true true p q z = record {
      line = eqb-true (kind t (pair_label ps k)) number_code p;
      number = leb-true (nat_abs (pair_number ps k)) number_limit q;
    }
    go true false p q z = absurd cc
    go false c p q z = absurd cc

pub right_pair : (t ps : List ℤ) (k : ℕ) → PairRight t ps k → pair_bad t ps k ≡ None
unfolding pair_bad
right_pair t ps k r =
    rw (eq-eqb (kind t (pair_label ps k)) number_code r.line, le-leb (nat_abs (pair_number ps k)) number_limit r.number)

-- ---- of all pairs

module _ (t ps : List ℤ) {v : Verdict} (e : v ≡ list_bad ps) where
  pub pairs_next : {r : Verdict} → v ≡ Fine → r ≡ first_bad (pair_bad t ps) 1 (pair_count ps) → r ≡ pairs_bad t ps
  unfolding pairs_bad
  pairs_next {r} f g = or_next v (list_bad ps) r (first_bad (pair_bad t ps) 1 (pair_count ps)) e f g

  pub pairs_stop : {i : Refusal} → v ≡ Err i → Err i ≡ pairs_bad t ps
  unfolding pairs_bad
  pairs_stop {i} f = refused_first (list_bad ps) (first_bad (pair_bad t ps) 1 (pair_count ps)) i (sym e ∙ f)

pub pairs_few : (t ps : List ℤ) → pairs_bad t ps ≡ Fine → pair_count ps ≤ pair_limit
unfolding pairs_bad
pairs_few t ps e = list_few ps (both_fine (list_bad ps) (first_bad (pair_bad t ps) 1 (pair_count ps)) e).0

pub pairs_right : (t ps : List ℤ) → pairs_bad t ps ≡ Fine → PairsRight t ps
unfolding pairs_bad
pairs_right t ps e k h g =
    let found = (both_fine (list_bad ps) (first_bad (pair_bad t ps) 1 (pair_count ps)) e).1 in
    pair_right t ps k (first_none (pair_bad t ps) (pair_count ps) 1 found k h (omega arith))

pub right_pairs : (t ps : List ℤ) → list_bad ps ≡ Fine → PairsRight t ps → pairs_bad t ps ≡ Fine
unfolding pairs_bad
right_pairs t ps e r = rw e (none_first (pair_bad t ps) (pair_count ps) 1 (λ k h g. right_pair t ps k (r k h (omega arith))))
