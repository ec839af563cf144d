-- What has no kind, by its code; and what has one.
use mathlib.Core.Path.{◌≡◌, ap, sym, ◌∙◌}
use mathlib.Core.Bool.{false}
use mathlib.Core.Path.{refl}
use Prim.Native.Nat.{ℕ}
use borrow.Author.Tests.{ne_eqb}
use denote.Enum.Bare.{sameb}
use lib.Dec.{eqb}
use Rattle.std.specs.Prelude.{Option, Some}
use Rattle.kinds.specs.contracts.Kind.{the_type}
use Rattle.kinds.specs.declared.Kind.{Kind}
use Rattle.kinds.specs.declared.Kind.TheVariants as kind
use Rattle.kinds.specs.Kinds.{group_code}
use Rattle.kinds.specs.Coded.{own_code}
use Rattle.kinds.proofs.Enumerated.{decoded, with_code}
use Rattle.std.specs.Prelude.{None, is_some}
use Rattle.kinds.specs.Kinds.{KindColumns, is_kind, is_expression, clause_of, place_in, takes, argument_place}
use Rattle.kinds.specs.Coded.{kind_with}
use Rattle.kinds.proofs.Laws.{no_kind_lem}
use Rattle.kinds.proofs.Enumerated.{with_some}

module _ (c : ℕ) (e : kind_with c ≡ None) where
  uncoded : is_kind c ≡ false
  uncoded = sym (with_some c) ∙ ap is_some e

  pub expression_none : is_expression c ≡ false
  unfolding is_expression
  expression_none = rw uncoded

  pub place_none : argument_place c ≡ 0
  unfolding clause_of
  place_none = ap (λ (k : KindColumns). place_in k.clause) (no_kind_lem c uncoded)

  pub takes_none : takes c ≡ 0
  unfolding takes
  takes_none = ap (λ (k : KindColumns). k.takes) (no_kind_lem c uncoded)

  pub group_none : eqb c group_code ≡ false
  group_none = ne_eqb c group_code (λ q. let z : ◌≡◌ {A = Option Kind} (Some kind.Group) None = sym (decoded kind.Group) ∙ ap kind_with (sym q) ∙ e in cc)

own_group : (k : Kind) → sameb the_type k kind.Group ≡ eqb (own_code k) group_code
own_group k = elim k as (λ k. sameb the_type k kind.Group ≡ eqb (own_code k) group_code) [
  | kind.Group ↦ refl
  | kind.Value ↦ refl
  | kind.Function ↦ refl
  | kind.Number ↦ refl
  | kind.Argument ↦ refl
  | kind.Read ↦ refl
  | kind.Call ↦ refl
  | kind.Sum ↦ refl
  | kind.Difference ↦ refl
  | kind.Product ↦ refl
  | kind.Quotient ↦ refl
  | kind.Choice ↦ refl
]

module _ (c : ℕ) (k : Kind) (e : kind_with c ≡ Some k) where
  pub group_some : sameb the_type k kind.Group ≡ eqb c group_code
  group_some = own_group k ∙ ap (λ (x : ℕ). eqb x group_code) (with_code c k e)

  pub expression_some : is_expression (own_code k) ≡ is_expression c
  expression_some = ap is_expression (with_code c k e)

  pub place_some : argument_place (own_code k) ≡ argument_place c
  place_some = ap argument_place (with_code c k e)

  pub takes_some : takes (own_code k) ≡ takes c
  takes_some = ap takes (with_code c k e)
