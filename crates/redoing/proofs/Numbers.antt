-- A table with another number z in line l, an N line: what stays as it was, and that the table is accepted still.
use mathlib.Core.Path.{◌≡◌, refl, sym, ap, subst, ◌∙◌}
use mathlib.Core.Bool.{true}
use mathlib.Core.List.{List}
use Prim.Native.Nat.{ℕ, zero, suc, ◌+◌, ◌-◌, ◌*◌, ◌≤◌, ◌<◌}
use native.Mathlib.Omega.{arith}
use native.Mathlib.Decide.{ℕ_discrete}
use lib.IntN.{ℤ, pos, nat_abs}
use lib.ListN.{length, length-set}
use Rattle.kinds.specs.Kinds.{number_code, operand_a}
use Rattle.kinds.proofs.Codes.{number_expression}
use Rattle.kinds.proofs.Plans.{number_plain}
use Rattle.cells.specs.Cells.{int_at}
use Rattle.cells.specs.Limits.{number_limit}
use Rattle.cells.specs.Table.{cell, entry, kind, field_a, owner, target, line_number, with_number}
use Rattle.cells.specs.Accepted.{Accepted, Part, HasBody}
use Rattle.cells.proofs.Stores.{int_at_put, int_at_other}
use Rattle.cells.proofs.Columns.{cell_by}
use Rattle.cells.proofs.Accepted.{kind_label}
use Rattle.order.specs.Order.{SameStructure}
use Rattle.order.proofs.Tests.{both_ways}
use Rattle.evaluation.proofs.Local.{SameLine}

-- ---- whatever line l is

pub number_length : (t : List ℤ) (l : ℕ) (z : ℤ) → length (with_number l z t) ≡ length t
number_length t zero z = refl
number_length t (suc k) z = length-set t (8 * k + 3) z

number_at_lem : (t : List ℤ) (l : ℕ) (z : ℤ) → 1 ≤ l → 8 * l ≤ length t → line_number (with_number l z t) l ≡ z
number_at_lem t zero z h g = absurd (omega arith)
number_at_lem t (suc k) z h g = int_at_put t (8 * k + 3) z (omega arith)

number_past : (t : List ℤ) (l : ℕ) (z : ℤ) (i : ℕ) → 8 * l ≤ i → int_at (with_number l z t) i ≡ int_at t i
number_past t zero z i h = refl
number_past t (suc k) z i h = int_at_other t (8 * k + 3) i z (λ e. omega arith)

module _ (t : List ℤ) (l : ℕ) (z : ℤ) where
  -- every other cell stays
  pub number_entry : (m j : ℕ) → j < 8 → (m ≡ l → j ≡ 3 → ⊥) → entry (with_number l z t) m j ≡ entry t m j
  number_entry m j h d = go l m d
    where
      go : (l m : ℕ) → (m ≡ l → j ≡ 3 → ⊥) → entry (with_number l z t) m j ≡ entry t m j
      go zero m d = refl
      go (suc k) zero d = refl
      go (suc k) (suc m) d = int_at_other t (8 * k + 3) (8 * m + j) z (λ e. d (omega arith) (omega arith))

  pub number_cell : (m j : ℕ) → j < 8 → (m ≡ l → j ≡ 3 → ⊥) → cell (with_number l z t) m j ≡ cell t m j
  number_cell m j h d = cell_by t (with_number l z t) m j (number_entry m j h d)

  -- every other column
  column : (m j : ℕ) → j < 8 → (j ≡ 3 → ⊥) → cell (with_number l z t) m j ≡ cell t m j
  column m j h d = number_cell m j h (λ _. d)

  pub number_structure : SameStructure t (with_number l z t)
  number_structure = record {
    kinds = λ m. column m 0 (omega arith) (λ e. omega arith);
    owners = λ m. column m 6 (omega arith) (λ e. omega arith);
    targets = λ m. column m 7 (omega arith) (λ e. omega arith);
  }

  -- and every other line
  pub number_line : (x : ℕ) → (x ≡ l → ⊥) → SameLine t (with_number l z t) x
  number_line x d = record {
    kinds = sym (number_cell x 0 (omega arith) (λ e _. d e));
    first = sym (number_cell x 3 (omega arith) (λ e _. d e));
    second = sym (number_cell x 4 (omega arith) (λ e _. d e));
    third = sym (number_cell x 5 (omega arith) (λ e _. d e));
    aim = sym (number_cell x 7 (omega arith) (λ e _. d e));
    number = sym (number_entry x 3 (omega arith) (λ e _. d e));
  }

-- ---- an N line

module _ (t : List ℤ) (n : ℕ) (ok : Accepted t n) (l : ℕ) (line : kind t l ≡ number_code) where
  pub number_label : (1 ≤ l) × (l ≤ n)
  number_label = kind_label t n ok l (omega arith)

  -- its owner has a body
  pub number_owner : HasBody t (owner t l)
  number_owner = ok.owners l (rw line number_expression)

  module _ (z : ℤ) (range : nat_abs z ≤ number_limit) where
    abbrev u : List ℤ
    u = with_number l z t

    same : SameStructure t u
    same = number_structure t l z

    natural : (m j : ℕ) → 1 ≤ m → m ≤ n → j < 8 → (kind u m ≡ number_code → j ≡ 3 → ⊥) → int_at u (8 * (m - 1) + j) ≡ pos (cell u m j)
    natural zero j h g a d = absurd (omega arith)
    natural (suc m) j h g a d =
        let q : 8 * (suc m - 1) + j ≡ 8 * m + j = omega arith in
        let else : suc m ≡ l → j ≡ 3 → ⊥ = λ e. d (same.kinds (suc m) ∙ ap (kind t) e ∙ line) in
        rw q (number_entry t l z (suc m) j a else ∙ rw q at (ok.natural (suc m) j h g a (λ e. d (same.kinds (suc m) ∙ e))) ∙ ap pos (sym (number_cell t l z (suc m) j a else)))

    part : (m d x : ℕ) → Part t n m d x → Part u n m d x
    part m d x p = record { above = p.above; label = p.label; expression = rw (same.kinds x) p.expression; owned = same.owners x ∙ p.owned }

    -- an N line has no operands
    first_same : (m : ℕ) → operand_a (kind t m) ≡ true → field_a u m ≡ field_a t m
    first_same m e = number_cell t l z m 3 (omega arith) (λ q _. both_ways (operand_a number_code) (subst (λ (k : ℕ). operand_a k ≡ true) (ap (kind t) q ∙ line) e) number_plain)

    ranged : (m : ℕ) → kind t m ≡ number_code → Dec (m ≡ l) → nat_abs (line_number u m) ≤ number_limit
    ranged m e (yes q) =
        let h = number_label in
        rw (q, number_at_lem t l z h.0 (omega (arith, h.1, ok.room))) range
    ranged m e (no q) = rw (number_entry t l z m 3 (omega arith) (λ i _. q i)) (ok.number m e)

    pub number_accepted : Accepted (with_number l z t) n
    number_accepted = record {
      some = ok.some;
      few = ok.few;
      room = rw (number_length t l z) ok.room;
      unused = λ i h. number_past t l z i (omega (arith, number_label.1)) ∙ ok.unused i h;
      natural = natural;
      kinds = λ m h g. rw (same.kinds m) (ok.kinds m h g);
      root = same.kinds 1 ∙ ok.root;
      top = same.owners 1 ∙ ok.top;
      falls = λ m h g. rw (same.owners m) (ok.falls m h g);
      group = λ m h g e. rw (same.owners m, same.kinds (owner t m)) (ok.group m h g (rw (same.kinds m) at e));
      owners = λ m e. rw (same.owners m, same.kinds (owner t m)) (ok.owners m (rw (same.kinds m) at e));
      argument = λ m. rw (same.owners m, same.kinds m, same.kinds (owner t m)) (ok.argument m);
      body = λ m e. rw (column t l z m 4 (omega arith) (λ i. omega arith)) (part m m _ (ok.body m (rw (same.kinds m) at e)));
      first = λ m e. let e₁ = rw (same.kinds m) at e in rw (first_same m e₁, same.owners m) (part m _ _ (ok.first m e₁));
      second = λ m e. rw (column t l z m 4 (omega arith) (λ i. omega arith), same.owners m) (part m _ _ (ok.second m (rw (same.kinds m) at e)));
      third = λ m e. rw (column t l z m 5 (omega arith) (λ i. omega arith), same.owners m) (part m _ _ (ok.third m (rw (same.kinds m) at e)));
      leads = λ m e. rw (same.targets m, same.kinds m, same.kinds (target t m)) (ok.leads m (rw (same.kinds m) at e));
      others = λ m e. same.targets m ∙ ok.others m (rw (same.kinds m) at e);
      number = λ m e. ranged m (sym (same.kinds m) ∙ e) (ℕ_discrete m l);
    }
