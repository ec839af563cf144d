-- What the calls of the cycle ask: an entry leads to the entries of its operands, the cells that it reads are there, and a value that it
-- reads has been evaluated.
use mathlib.Core.Path.{◌≡◌, refl, sym, ap, ◌∙◌, subst}
use mathlib.Core.Bool.{Bool, true, false, cond}
use mathlib.Core.List.{List}
use mathlib.Core.Logic.{inl}
use Prim.Native.Nat.{ℕ, ◌≤◌, ◌<◌}
use native.Mathlib.Omega.{arith}
use lib.IntN.{ℤ, nat_abs}
use lib.Dec.{eqb}
use borrow.Author.Tests.{eqb-true}
use mir.Syntax.{w64}
use mir.Val.{to_z, of_z}
use mir.Facts.{to_z-of_z}
use Rattle.cells.proofs.Signed.{fits_by}
use Rattle.kinds.proofs.Laws.{expression_kind}
use Rattle.kinds.specs.Kinds.{value_code, is_kind, operand_a, clause_of}
use Rattle.kinds.proofs.Tests.{clash}
use Rattle.kinds.proofs.Codes.{value_body}
use Rattle.kinds.proofs.Clauses.{Uses, uses_of, a_uses, b_uses, c_uses}
use Rattle.kinds.proofs.Plans.{number_plain}
use Rattle.cells.specs.Table.{cell, kind, field_b, owner, target}
use Rattle.cells.specs.Reaches.{Reaches}
use Rattle.cells.specs.Limits.{number_limit}
use Rattle.numbers.specs.declared.Arithmetic.{Arithmetic}
use Rattle.evaluation.specs.Evaluation.{Outcome, gives, branch_of, depth_limit, one_argument, outcome, nothing}
use Rattle.evaluation.specs.Shown.{state_of, shown}
use Rattle.evaluation.specs.declared.Computed.{Computed}
use Rattle.evaluation.specs.declared.ResultState.TheVariants.{Number}
use Rattle.evaluation.specs.Ready.{Ready, ReachedEvaluated, ExpressionAt, Entry, Entered, Cell, ResultsRoom, Evaluable}
use Rattle.evaluation.specs.Results.{Recorded}
use Rattle.evaluation.specs.declared.Arguments.{Arguments}
use Rattle.kinds.specs.declared.Clause.{Clause}
use Rattle.kinds.specs.declared.Clause.TheVariants as clause
use Rattle.cells.proofs.Accepted.{body_label}
use Rattle.evaluation.proofs.Closure.{Within, From, from_closed, from_reaches, Leads, leads, first, second, third, body_within, cell_ok}
use Rattle.evaluation.proofs.Range.{in_range_lem}
use Rattle.evaluation.proofs.Steps.{left_less}

-- the clauses that evaluate operands, their field a first
abbrev pub Composite : Clause → Type 0
Composite k = (uses_of k).a ≡ true

-- whether they evaluate the field in a column
abbrev uses_in : Uses → ℕ → Bool
uses_in u j = cond (eqb j 3) u.a (cond (eqb j 4) u.b (cond (eqb j 5) u.c false))

-- where what v reaches has been evaluated, so has what a function that v reaches does
handed_on : (t r : List ℤ) (v d : ℕ) → From t v d → ReachedEvaluated t r v → ReachedEvaluated t r d
handed_on t r v d f h w k p = h w k (from_reaches t v d w f p)

-- and it has a state from 1 to 5
pub reached_recorded : {t r : List ℤ} {d : ℕ} → Ready t r → ReachedEvaluated t r d → (w : ℕ) → kind t w ≡ value_code → Reaches t d w → Recorded 1 r w
reached_recorded q h w k p = let s = q.recorded w in record { least = h w k p; most = s.most; ranged = s.ranged }

module _ {t r : List ℤ} {l : ℕ} {g : Arguments} {d : ℕ} where
  pub as_kind : Entry t r l g d → {d' : ℕ} {k k' : Clause} → d' ≡ d → k ≡ clause_of (kind t l) → k ≡ k' → Entered k' t r l g d'
  as_kind e h q x = record {
    entry = record { ready = e.ready; line = e.line; given = e.given; shallow = rw h e.shallow; reached = e.reached };
    of = sym q ∙ x;
  }

  -- a cell other than field a, of any line
  pub line_cell : Entry t r l g d → (j : ℕ) → j < 8 → (j ≡ 3 → ⊥) → Cell t l j
  line_cell e j h f =
      cell_ok t e.ready.count e.ready.accepted l j e.line.low e.line.high h (λ _ x. f x)

  pub kind_cell : Entry t r l g d → Cell t l 0 × (is_kind (kind t l) ≡ true)
  kind_cell e = (line_cell e 0 (omega arith) (λ x. omega arith), expression_kind (kind t l) e.line.expression)

  enter : (e : Entry t r l g d) {x y : ℕ} → y ≡ x → Within t e.ready.count (From t (owner t l)) x → Entry t r y g d
  enter e {x} {y} p h = record {
    ready = e.ready;
    line = subst (λ (n : ℕ). ExpressionAt t e.ready.count n) (sym p) h.line;
    given = e.given;
    shallow = e.shallow;
    reached = subst (λ (n : ℕ). ReachedEvaluated t r (owner t n)) (sym p) (handed_on t r (owner t l) (owner t x) h.owned e.reached);
  }

  module _ {k : Clause} (e : Entered k t r l g d) where
    abbrev Own : ℕ → Type 0
    Own x = From t (owner t l) x

    abbrev Reached : ℕ → Type 0
    Reached x = Reaches t (owner t l) x

    here : Within t e.entry.ready.count Own l
    here = record { line = e.entry.line; owned = inl refl }

    has : Leads t e.entry.ready.count e.entry.ready.accepted Own Reached (from_closed t (owner t l)) k l
    has =
        subst (λ (k : Clause). Leads t e.entry.ready.count e.entry.ready.accepted Own Reached (from_closed t (owner t l)) k l) e.of
        (leads t e.entry.ready.count e.entry.ready.accepted Own Reached (from_closed t (owner t l)) l here)

    operand : Composite k → operand_a (kind t l) ≡ true
    operand c = a_uses (kind t l) ∙ ap (λ k. (uses_of k).a) e.of ∙ c

    pub operand_cell : Composite k → (j : ℕ) → j < 8 → Cell t l j
    operand_cell c j i =
        cell_ok t e.entry.ready.count e.entry.ready.accepted l j e.entry.line.low e.entry.line.high i
        (λ x _. clash (sym (operand c) ∙ ap operand_a x ∙ number_plain))

    -- an operand that the clause evaluates, whichever it is
    pub operand_entry : (j : ℕ) {x : ℕ} → x ≡ cell t l j → uses_in (uses_of k) j ≡ true → Entry t r x g d
    operand_entry j {x} p u = go (eqb j 3) (eqb j 4) (eqb j 5) refl refl refl
      where
        into : {i : ℕ} → Within t e.entry.ready.count Own (cell t l i) → j ≡ i → Entry t r x g d
        into h q = enter e.entry (p ∙ ap (cell t l) q) h

        go : (a b c : Bool) → eqb j 3 ≡ a → eqb j 4 ≡ b → eqb j 5 ≡ c → Entry t r x g d
        go true b c q _ _ =
            let used = a_uses (kind t l) ∙ ap (λ k. (uses_of k).a) e.of ∙ rw q at u in
            into (first t e.entry.ready.count e.entry.ready.accepted Own Reached (from_closed t (owner t l)) l here used) (eqb-true j 3 q)
        go false true c q o _ =
            let used = b_uses (kind t l) ∙ ap (λ k. (uses_of k).b) e.of ∙ rw (q, o) at u in
            into (second t e.entry.ready.count e.entry.ready.accepted Own Reached (from_closed t (owner t l)) l here used) (eqb-true j 4 o)
        go false false true q o i =
            let used = c_uses (kind t l) ∙ ap (λ k. (uses_of k).c) e.of ∙ rw (q, o, i) at u in
            into (third t e.entry.ready.count e.entry.ready.accepted Own Reached (from_closed t (owner t l)) l here used) (eqb-true j 5 i)
        go false false false q o i = clash (sym (rw (q, o, i) at u))

  -- only an expression is entered
  pub none_entered : Entered clause.None t r l g d → ⊥
  unfolding Leads
  none_entered e = has e

  pub branch_entry : Entered clause.Choice t r l g d → (y : ℤ) {x : ℕ} → x ≡ branch_of t l y → Entry t r x g d
  unfolding Leads
  branch_entry e y p = enter e.entry p ((has e).1 y)

  -- at any depth that is allowed
  pub body_entry : {k : ℕ} → Entered (clause.Call k) t r l g d → {x z : ℕ} {y : ℤ} → z ≡ target t l → x ≡ field_b t z → nat_abs y ≤ number_limit
      → {d' : ℕ} → d' ≤ depth_limit → Entry t r x (one_argument y) d'
  unfolding Leads
  body_entry e {x} {z} p q h s =
      let b = enter e.entry (q ∙ ap (field_b t) p) (has e).1 in
      record { ready = b.ready; line = b.line; given = h; shallow = s; reached = b.reached }

  pub body_cell : {k : ℕ} → Entered (clause.Call k) t r l g d → {z : ℕ} → z ≡ target t l → Cell t z 4
  unfolding Leads
  body_cell e {z} p =
      let q = e.entry.ready in
      let b = body_label t q.count q.accepted (target t l) (has e).2 in
      subst (λ (x : ℕ). Cell t x 4) (sym p) (cell_ok t q.count q.accepted (target t l) 4 b.0 b.1 (omega arith) (λ _ x. omega arith))

  -- the target is a value that the definition reaches
  pub read_asks : Entered clause.Read t r l g d → Cell t l 7 × ResultsRoom r (target t l) × Recorded 1 r (target t l)
  unfolding Leads
  read_asks e =
      let q = e.entry.ready in
      let h = has e in
      let b = body_label t q.count q.accepted (target t l) (rw h.0 value_body) in (
        line_cell e.entry 7 (omega arith) (λ x. omega arith),
        record { low = b.0; room = omega (arith, b.1, q.room) },
        reached_recorded q e.entry.reached (target t l) h.0 h.1,
      )

-- ---- after an operand

-- a number as the code hands it on
pub ranged_whole : {y : ℤ} → nat_abs y ≤ number_limit → to_z w64 (of_z w64 y) ≡ y
ranged_whole {y} h = to_z-of_z {w = w64} (fits_by y number_limit h tt)

-- a number is given, or a failure
pub given : (o : Computed) → o.state ≡ Number → shown o ≡ gives o.number o.left
given o q = ap (λ s. record { number = o.number; state = state_of s; left = o.left }) q

module _ (α : Arithmetic) (t r : List ℤ) (x : ℕ) (g : Arguments) (s d : ℕ) (o : Computed) (p : shown o ≡ outcome α t r x g s d) where
  pub number_ranged : Entry t r x g d → o.state ≡ Number → nat_abs o.number ≤ number_limit
  number_ranged e q =
      let is : outcome α t r x g s d ≡ gives o.number o.left = sym p ∙ given o q in
      subst (λ (u : Outcome). nat_abs u.number ≤ number_limit) is (in_range_lem α t r e.ready x g s d e.line e.given).ranged

  pub number_whole : Entry t r x g d → o.state ≡ Number → to_z w64 (of_z w64 o.number) ≡ o.number
  number_whole e q = ranged_whole (number_ranged e q)

  pub left_less_by : o.left ≤ s
  left_less_by =
      subst (λ (n : ℕ). n ≤ s) (ap (λ (u : Outcome). u.left) (sym p)) (left_less α t r x g s d)

-- ---- a value

module _ {t r : List ℤ} {v : ℕ} (e : Evaluable t r v) where
  label : (1 ≤ v) × (v ≤ e.ready.count)
  label = body_label t e.ready.count e.ready.accepted v (rw e.value value_body)

  pub value_cell : Cell t v 4
  value_cell = cell_ok t e.ready.count e.ready.accepted v 4 label.0 label.1 (omega arith) (λ _ x. omega arith)

  pub value_room : ResultsRoom r v
  value_room = record { low = label.0; room = omega (arith, label.1, e.ready.room) }

  pub value_entry : {x : ℕ} → x ≡ field_b t v → Entry t r x nothing 0
  value_entry p =
      let b = body_within t e.ready.count e.ready.accepted (From t v) (Reaches t v) (from_closed t v) v (rw e.value value_body) (inl refl) in
      record {
        ready = e.ready;
        line = subst (λ (n : ℕ). ExpressionAt t e.ready.count n) (sym p) b.line;
        given = omega arith;
        shallow = omega arith;
        reached = subst (λ (n : ℕ). ReachedEvaluated t r (owner t n)) (sym p) (handed_on t r v (owner t (field_b t v)) b.owned e.reached);
      }
