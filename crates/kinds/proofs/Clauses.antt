-- The clauses of evaluation: what each goes by, and what the table says of a kind by its clause.
use mathlib.Core.Path.{◌≡◌, refl, subst, ◌∙◌}
use mathlib.Core.Bool.{Bool, true, false, ◌&&◌}
use Prim.Native.Nat.{ℕ, ◌≤◌}
use borrow.Author.Tests.{eqb-true, leb-true}
use lib.Dec.{leb, eqb}
use Rattle.kinds.specs.declared.Clause.{Clause}
use Rattle.kinds.specs.declared.Clause.TheVariants as clause
use Rattle.kinds.specs.Kinds.{KindColumns, kinds, kind_at, is_operand_form, is_expression, has_path, operand_a, operand_b, operand_c, wanted_by, clause_of, takes, value_code, number_code}
use Rattle.kinds.proofs.Tests.{and_left, and_right}
use Rattle.kinds.proofs.Rows.{each, by_rows}
use Rattle.kinds.proofs.Laws.{expresses, leads, expression_row}

-- whether a clause evaluates at all, goes by a target, and evaluates the fields a, b and c
pub record Uses : Type 0 where
  pub some : Bool
  pub target : Bool
  pub a : Bool
  pub b : Bool
  pub c : Bool

abbrev uses : Bool → Bool → Bool → Bool → Bool → Uses
uses some target a b c = record { some = some; target = target; a = a; b = b; c = c }

abbrev pub uses_of : Clause → Uses
uses_of clause.None = uses false false false false false
uses_of clause.Number = uses true false false false false
uses_of (clause.Argument i) = uses true false false false false
uses_of clause.Read = uses true true false false false
uses_of (clause.Call n) = uses true true true (leb 2 n) false
uses_of (clause.Operation op) = uses true false true true false
uses_of clause.Choice = uses true false true true true

module _ (c : ℕ) where
  pub expression_uses : is_expression c ≡ (uses_of (clause_of c)).some
  unfolding clause_of kinds
  expression_uses = expression_row c ∙ by_rows expresses (λ k. (uses_of k.clause).some) refl refl c

  pub path_uses : has_path c ≡ (uses_of (clause_of c)).target
  unfolding has_path clause_of kinds
  path_uses = by_rows leads (λ k. (uses_of k.clause).target) refl refl c

  pub a_uses : operand_a c ≡ (uses_of (clause_of c)).a
  unfolding operand_a clause_of kinds
  a_uses = rw (expression_row c) (by_rows (λ k. expresses k && is_operand_form k.fields.a) (λ k. (uses_of k.clause).a) refl refl c)

  pub b_uses : operand_b c ≡ (uses_of (clause_of c)).b
  unfolding operand_b clause_of kinds
  b_uses = rw (expression_row c) (by_rows (λ k. expresses k && is_operand_form k.fields.b) (λ k. (uses_of k.clause).b) refl refl c)

  pub c_uses : operand_c c ≡ (uses_of (clause_of c)).c
  unfolding operand_c clause_of kinds
  c_uses = rw (expression_row c) (by_rows (λ k. expresses k && is_operand_form k.fields.c) (λ k. (uses_of k.clause).c) refl refl c)

-- ---- what else a row holds by its clause: an N has its code, an R leads to a V, a call to what takes as many arguments as it hands on

abbrev told : ℕ → KindColumns → Clause → Bool
told c k clause.None = true
told c k clause.Number = eqb c number_code
told c k (clause.Argument i) = true
told c k clause.Read = eqb k.wanted value_code
told c k (clause.Call n) = leb 1 n && eqb (kind_at k.wanted).takes n
told c k (clause.Operation op) = true
told c k clause.Choice = true

module _ (c : ℕ) where
  told_each : told c (kind_at c) (clause_of c) ≡ true
  unfolding clause_of kinds kind_at
  told_each = each (λ i k. told i k k.clause) (λ i. refl) refl c

  pub number_code_lem : clause_of c ≡ clause.Number → c ≡ number_code
  number_code_lem e = eqb-true c number_code (subst (λ x. told c (kind_at c) x ≡ true) e told_each)

  pub read_value : clause_of c ≡ clause.Read → wanted_by c ≡ value_code
  unfolding wanted_by
  read_value e = eqb-true (wanted_by c) value_code (subst (λ x. told c (kind_at c) x ≡ true) e told_each)

  module _ (n : ℕ) (e : clause_of c ≡ clause.Call n) where
    told_call : (leb 1 n && eqb (takes (wanted_by c)) n) ≡ true
    unfolding wanted_by takes
    told_call = subst (λ x. told c (kind_at c) x ≡ true) e told_each

    pub call_some : 1 ≤ n
    call_some = leb-true 1 n (and_left (leb 1 n) (eqb (takes (wanted_by c)) n) told_call)

    pub call_takes : takes (wanted_by c) ≡ n
    call_takes = eqb-true (takes (wanted_by c)) n (and_right (leb 1 n) (eqb (takes (wanted_by c)) n) told_call)
