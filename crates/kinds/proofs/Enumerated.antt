-- Each kind of the code and its code: the code is one of the table, and gives the kind back.
use mathlib.Core.Path.{◌≡◌, refl, sym, ap, ◌∙◌}
use mathlib.Core.Bool.{true, not}
use mathlib.Core.List.{List, [], ◌∷◌}
use Prim.Native.Nat.{ℕ, zero, suc, ◌+◌, ◌≤◌}
use native.Mathlib.Omega.{arith}
use borrow.Author.Tests.{le-leb}
use lib.Dec.{leb, leb-suc-zero, leb-suc-suc}
use lib.ListN.{length}
use Rattle.std.specs.Prelude.{Some, is_some, slice_get}
use Rattle.kinds.specs.declared.Kind.{Kind}
use Rattle.kinds.specs.declared.Kind.TheVariants as kind
use Rattle.kinds.specs.Kinds.{kinds, kind_at, is_kind, is_definition, is_expression, has_path, wanted_by}
use Rattle.kinds.specs.Coded.{own_code, kind_with, every_kind}
use Rattle.kinds.proofs.Laws.{kinds_length, kind_low, kind_high}

-- a kind has a code of the table,
pub coded : (k : Kind) → is_kind (own_code k) ≡ true
unfolding is_kind kinds
coded k = elim k as (λ k. is_kind (own_code k) ≡ true) [
  | kind.Group ↦ refl
  | kind.Value ↦ refl
  | kind.Function ↦ refl
  | kind.Number ↦ refl
  | kind.Argument ↦ refl
  | kind.Read ↦ refl
  | kind.Call ↦ refl
  | kind.Sum ↦ refl
  | kind.Difference ↦ refl
  | kind.Product ↦ refl
  | kind.Quotient ↦ refl
  | kind.Choice ↦ refl
]

-- which gives it back
pub decoded : (k : Kind) → kind_with (own_code k) ≡ Some k
unfolding kind_with every_kind
decoded k = elim k as (λ k. kind_with (own_code k) ≡ Some k) [
  | kind.Group ↦ refl
  | kind.Value ↦ refl
  | kind.Function ↦ refl
  | kind.Number ↦ refl
  | kind.Argument ↦ refl
  | kind.Read ↦ refl
  | kind.Call ↦ refl
  | kind.Sum ↦ refl
  | kind.Difference ↦ refl
  | kind.Product ↦ refl
  | kind.Quotient ↦ refl
  | kind.Choice ↦ refl
]

pub own_code_low : (k : Kind) → 1 ≤ own_code k
own_code_low k = kind_low (own_code k) (coded k)

pub own_code_high : (k : Kind) → own_code k ≤ 12
own_code_high k = omega (arith, kind_high (own_code k) (coded k), kinds_length)

pub expression_not : (k : Kind) → is_expression (own_code k) ≡ not (is_definition (own_code k))
unfolding is_expression
expression_not k = rw (coded k)

pub path_wants : (k : Kind) → is_some (kind_with (wanted_by (own_code k))) ≡ has_path (own_code k)
unfolding kind_with every_kind wanted_by has_path kind_at kinds
path_wants k = elim k as (λ k. is_some (kind_with (wanted_by (own_code k))) ≡ has_path (own_code k)) [
  | kind.Group ↦ refl
  | kind.Value ↦ refl
  | kind.Function ↦ refl
  | kind.Number ↦ refl
  | kind.Argument ↦ refl
  | kind.Read ↦ refl
  | kind.Call ↦ refl
  | kind.Sum ↦ refl
  | kind.Difference ↦ refl
  | kind.Product ↦ refl
  | kind.Quotient ↦ refl
  | kind.Choice ↦ refl
]

-- two kinds with one code are one
pub one_kind : (k m : Kind) → own_code k ≡ own_code m → k ≡ m
one_kind k m e = let s : Some k ≡ Some m = sym (decoded k) ∙ ap kind_with e ∙ decoded m in cc

-- ---- the kind that a code gives has that code

-- the kinds of a list have their places as codes; the first has code c
abbrev InPlace : List Kind → ℕ → Type 0
InPlace [] c = Unit {0}
InPlace (k ∷ ks) c = (own_code k ≡ c) × InPlace ks (suc c)

in_place : (ks : List Kind) (c i : ℕ) (k : Kind) → InPlace ks c → slice_get ks i ≡ Some k → own_code k ≡ c + i
in_place [] c i k h e = absurd cc
in_place (x ∷ ks) c zero k h e = let q : x ≡ k = cc in ap own_code (sym q) ∙ h.0 ∙ omega arith
in_place (x ∷ ks) c (suc i) k h e = in_place ks (suc c) i k h.1 e ∙ omega arith

pub with_code : (c : ℕ) (k : Kind) → kind_with c ≡ Some k → own_code k ≡ c
unfolding kind_with every_kind
with_code zero k e = absurd cc
with_code (suc c) k e =
    in_place every_kind 1 c k (refl, (refl, (refl, (refl, (refl, (refl, (refl, (refl, (refl, (refl, (refl, (refl, tt)))))))))))) e ∙ omega arith

-- a code of the table has a kind, and no other code has one
pub with_some : (c : ℕ) → is_some (kind_with c) ≡ is_kind c
unfolding kind_with every_kind is_kind kinds
with_some zero = refl
with_some (suc c) = some_at every_kind c ∙ sym (rw (le-leb 1 (suc c) (omega arith)))
  where
    some_at : (ks : List Kind) (i : ℕ) → is_some (slice_get ks i) ≡ leb (suc i) (length ks)
    some_at [] i = sym (leb-suc-zero i)
    some_at (k ∷ ks) zero = sym (le-leb 1 (suc (length ks)) (omega arith))
    some_at (k ∷ ks) (suc i) = some_at ks i ∙ sym (leb-suc-suc (suc i) (length ks))
