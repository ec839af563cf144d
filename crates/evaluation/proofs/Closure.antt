-- Evaluation stays among the expressions of a set D of definitions that has the functions it mentions: operands have their
-- expression's owner, and a call goes on in its target.
use mathlib.Core.Path.{◌≡◌, refl, sym, ap, subst, ◌∙◌}
use mathlib.Core.Bool.{Bool, true, false, cond}
use mathlib.Core.List.{List}
use mathlib.Core.Logic.{◌⊎◌, inl, inr}
use Prim.Native.Nat.{ℕ, ◌≤◌, ◌<◌}
use native.Mathlib.Omega.{arith}
use lib.IntN.{ℤ, nat_abs}
use Rattle.kinds.specs.Kinds.{value_code, number_code, operand_a, operand_b, operand_c, takes, clause_of}
use Rattle.kinds.proofs.Tests.{clash}
use Rattle.kinds.proofs.Laws.{path_body}
use Rattle.kinds.proofs.Clauses.{uses_of, expression_uses, path_uses, a_uses, b_uses, c_uses, number_code_lem, read_value, call_takes, call_some}
use Rattle.cells.specs.Cells.{equals}
use Rattle.cells.specs.Table.{kind, field_a, field_b, field_c, owner, target, line_number}
use Rattle.cells.specs.Accepted.{Accepted, Part, HasBody}
use Rattle.cells.specs.Reaches.{HasPath, Mentions, Reaches, once, then}
use Rattle.cells.proofs.Accepted.{reaches_trans}
use Rattle.cells.specs.Limits.{number_limit}
use Rattle.evaluation.specs.Evaluation.{branch_of}
use Rattle.evaluation.specs.Ready.{ExpressionAt, Cell}
use Rattle.kinds.specs.declared.Clause.{Clause}
use Rattle.kinds.specs.declared.Clause.TheVariants as clause

-- expression x of a table of n labels is owned by a definition of D
pub record Within (t : List ℤ) (n : ℕ) (D : ℕ → Type 0) (x : ℕ) : Type 0 where
  pub line : ExpressionAt t n x
  pub owned : D (owner t x)

-- definition d has a body that takes arguments
abbrev pub IsFunction : List ℤ → ℕ → Type 0
IsFunction t d = 1 ≤ takes (kind t d)

-- what D mentions is of E, and the functions of E are of D
pub record Closed (t : List ℤ) (D E : ℕ → Type 0) : Type 0 where
  pub on : (d e : ℕ) → D d → Mentions t d e → E e
  pub back : (e : ℕ) → IsFunction t e → E e → D e

-- ---- sets of definitions

-- every one
abbrev pub All : ℕ → Type 0
All d = Unit {0}

pub all_closed : (t : List ℤ) → Closed t All All
all_closed t = record { on = λ d e h m. tt; back = λ e k h. tt }

-- v and the functions that v reaches
abbrev pub From : List ℤ → ℕ → ℕ → Type 0
From t v d = (d ≡ v) ⊎ (IsFunction t d × Reaches t v d)

pub from_closed : (t : List ℤ) (v : ℕ) → Closed t (From t v) (Reaches t v)
from_closed t v = record { on = go; back = λ e k r. inr (k, r) }
  where
    go : (d e : ℕ) → From t v d → Mentions t d e → Reaches t v e
    go d e (inl p) m = once (subst (λ (x : ℕ). Mentions t x e) p m)
    go d e (inr r) m = then r.1 m

-- what one of these reaches, v reaches
pub from_reaches : (t : List ℤ) (v d w : ℕ) → From t v d → Reaches t d w → Reaches t v w
from_reaches t v d w (inl p) r = subst (λ (x : ℕ). Reaches t x w) p r
from_reaches t v d w (inr h) r = reaches_trans h.1 r

-- ---- labels and cells

pub mentions : (t : List ℤ) (x : ℕ) → HasPath t x → Mentions t (owner t x) (target t x)
mentions t x p = record { line = x; path = p; owned = refl; aimed = refl }

module _ (t : List ℤ) (n : ℕ) (w : Accepted t n) where
  -- a cell other than the number of an N line
  pub cell_ok : (l j : ℕ) → 1 ≤ l → l ≤ n → j < 8 → (kind t l ≡ number_code → j ≡ 3 → ⊥) → Cell t l j
  cell_ok l j h k c f = record { low = h; room = omega (arith, w.room); column = c; natural = w.natural l j h k c f }

  module _ (D E : ℕ → Type 0) (c : Closed t D E) where
    -- what a line leads to by its clause
    unfoldable pub Leads : Clause → ℕ → Type 0
    Leads clause.Number l = nat_abs (line_number t l) ≤ number_limit
    Leads (clause.Argument i) l = Unit {0}
    Leads clause.Read l = (kind t (target t l) ≡ value_code) × E (target t l)
    Leads (clause.Call k) l = Within t n D (field_a t l) × Within t n D (field_b t (target t l)) × HasBody t (target t l) × D (target t l)
    Leads (clause.Operation op) l = Within t n D (field_a t l) × Within t n D (field_b t l)
    Leads clause.Choice l = Within t n D (field_a t l) × ((y : ℤ) → Within t n D (branch_of t l y))
    Leads clause.None l = ⊥

    part : (l d x : ℕ) → Part t n l d x → D d → Within t n D x
    part l d x p h = record {
      line = record { low = omega (arith, p.above); high = p.label; expression = p.expression };
      owned = subst D (sym p.owned) h;
    }

    pub body_within : (x : ℕ) → HasBody t x → D x → Within t n D (field_b t x)
    body_within x h d = part x x (field_b t x) (w.body x h) d

    module _ (l : ℕ) (h : Within t n D l) where
      pub first : operand_a (kind t l) ≡ true → Within t n D (field_a t l)
      first e = part l (owner t l) (field_a t l) (w.first l e) h.owned

      pub second : operand_b (kind t l) ≡ true → Within t n D (field_b t l)
      second e = part l (owner t l) (field_b t l) (w.second l e) h.owned

      pub third : operand_c (kind t l) ≡ true → Within t n D (field_c t l)
      third e = part l (owner t l) (field_c t l) (w.third l e) h.owned

      branch : operand_b (kind t l) ≡ true → operand_c (kind t l) ≡ true → (b : Bool) → Within t n D (cond b (field_c t l) (field_b t l))
      branch e f true = third f
      branch e f false = second e

      aim : HasPath t l → E (target t l)
      aim p = c.on (owner t l) (target t l) h.owned (mentions t l p)

      -- where a path leads has a body
      target_body : HasPath t l → HasBody t (target t l)
      target_body p = rw (w.leads l p) (path_body (kind t l) p)

      called : (k : ℕ) → clause_of (kind t l) ≡ clause.Call k → HasPath t l → D (target t l)
      called k e p =
          let some = call_some (kind t l) k e in
          c.back (target t l) (omega (arith, ap takes (w.leads l p), call_takes (kind t l) k e)) (aim p)

      pub leads : Leads (clause_of (kind t l)) l
      unfolding Leads
      leads = go (clause_of (kind t l)) refl
        where
          go : (k : Clause) → clause_of (kind t l) ≡ k → Leads k l
          go clause.None e = clash (sym h.line.expression ∙ expression_uses (kind t l) ∙ ap (λ k. (uses_of k).some) e)
          go clause.Number e = w.number l (number_code_lem (kind t l) e)
          go (clause.Argument i) e = tt
          go clause.Read e = let p = path_uses (kind t l) ∙ ap (λ k. (uses_of k).target) e in (w.leads l p ∙ read_value (kind t l) e, aim p)
          go (clause.Call k) e =
              let p = path_uses (kind t l) ∙ ap (λ k. (uses_of k).target) e in
              let a = a_uses (kind t l) ∙ ap (λ k. (uses_of k).a) e in
              (first a, body_within (target t l) (target_body p) (called k e p), target_body p, called k e p)
          go (clause.Operation op) e = (first (a_uses (kind t l) ∙ ap (λ k. (uses_of k).a) e), second (b_uses (kind t l) ∙ ap (λ k. (uses_of k).b) e))
          go clause.Choice e =
              let b = b_uses (kind t l) ∙ ap (λ k. (uses_of k).b) e in
              (first (a_uses (kind t l) ∙ ap (λ k. (uses_of k).a) e), λ y. branch b (c_uses (kind t l) ∙ ap (λ k. (uses_of k).c) e) (equals 0 y))
