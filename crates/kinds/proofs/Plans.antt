-- Groups and values: definitions that give values to a plan.
use mathlib.Core.Path.{◌≡◌, refl}
use mathlib.Core.Logic.{◌⊎◌, inl, inr}
use mathlib.Core.Bool.{Bool, true, false, ◌&&◌, ◌||◌}
use Prim.Native.Nat.{ℕ}
use borrow.Author.Tests.{eqb-true}
use lib.Dec.{eqb}
use Rattle.kinds.specs.Kinds.{group_code, value_code, number_code, KindColumns, kinds, kind_at, is_definition, operand_a, takes, clause_of}
use Rattle.kinds.specs.GivesValues.{gives_values}
use Rattle.kinds.proofs.Tests.{and_left, or_cases}
use Rattle.kinds.proofs.Rows.{by_rule}
use Rattle.kinds.proofs.Laws.{defines}
use Rattle.kinds.proofs.Clauses.{a_uses}

pub group_gives : gives_values group_code ≡ true
unfolding gives_values takes is_definition kind_at kinds
group_gives = refl

pub value_gives : gives_values value_code ≡ true
unfolding gives_values takes is_definition kind_at kinds
value_gives = refl

-- a definition that takes no argument
abbrev gives : KindColumns → Bool
gives k = defines k && eqb k.takes 0

-- only a Group or a value does
pub gives_cases : (c : ℕ) → gives_values c ≡ true → (c ≡ group_code) ⊎ (c ≡ value_code)
unfolding gives_values takes is_definition kinds
gives_cases c e = go (or_cases (eqb c group_code) (eqb c value_code) (by_rule gives (λ i k. eqb i group_code || eqb i value_code) refl refl c e))
  where
    go : (eqb c group_code ≡ true) ⊎ (eqb c value_code ≡ true) → (c ≡ group_code) ⊎ (c ≡ value_code)
    go (inl h) = inl (eqb-true c group_code h)
    go (inr h) = inr (eqb-true c value_code h)

pub gives_definition : (c : ℕ) → gives_values c ≡ true → is_definition c ≡ true
unfolding gives_values
gives_definition c e = and_left (is_definition c) (eqb (takes c) 0) e

-- an N line has no operands
pub number_plain : operand_a number_code ≡ false
unfolding clause_of kinds kind_at
number_plain = a_uses number_code
