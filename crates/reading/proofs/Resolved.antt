-- From the table that rows 1 to 7 leave to what rows 8 to 11 and rows 12 to 15 ask.
use mathlib.Core.Path.{◌≡◌, refl, ap, sym, ◌∙◌}
use Rattle.std.specs.Prelude.{Ok, Err}
use Rattle.refusals.specs.declared.Refusal.{Refusal}
use mathlib.Core.Logic.{⊎_elim}
use mathlib.Core.Bool.{Bool, true, false}
use mathlib.Core.List.{List}
use Prim.Native.Nat.{ℕ, zero, suc, ◌+◌, ◌-◌, ◌*◌, ◌≤◌, ◌<◌}
use native.Mathlib.Omega.{arith}
use native.Mathlib.Nat.{eq-or-lt_of_le}
use lib.IntN.{ℤ, pos}
use lib.ListN.{length}
use Rattle.kinds.specs.Kinds.{group_code, is_operand_form}
use Rattle.kinds.specs.Kinds as kinds
use Rattle.kinds.proofs.Laws.{kind_low, definition_kind}
use Rattle.cells.specs.Cells.{nat_of, int_at}
use Rattle.cells.specs.Table.{cell, kind, is_definition, owner, with_column}
use Rattle.cells.proofs.Columns.{column_length, column_has, column_other}
use Rattle.kinds.specs.declared.Form.{Form}
use Rattle.kinds.specs.declared.Form.TheVariants.{Missing, Name, Path, Group, Operand, Number}
use Rattle.refusals.specs.Refusal.{Verdict, Fine}
use Rattle.tree.specs.Tree.{owner_of, tree_bad}
use Rattle.tree.specs.Treed.{Formed, Plain, Written}
use Rattle.tree.proofs.Codes.{label_low, label_high}
use Rattle.tree.proofs.Parts.{parts_zero}
use Rattle.tree.proofs.Treed.{treed, TreeAccepted, tree_accepted}
use Rattle.paths.specs.Buckets.{Searchable}
use Rattle.paths.specs.Paths.{target_cell, paths_bad}
use Rattle.lines.specs.Lined.{Lined}
use Rattle.reading.specs.Read.{owned_table, resolved_bad, resolved_table}
use Rattle.reading.specs.ReadStages.{Resolves}
use Rattle.reading.proofs.Stage.{refused_judged}

operand : (f : Form) → is_operand_form f ≡ true → f ≡ Operand
operand Missing e = let z : ◌≡◌ {A = Bool} false true = e in cc
operand Name e = let z : ◌≡◌ {A = Bool} false true = e in cc
operand Path e = let z : ◌≡◌ {A = Bool} false true = e in cc
operand Group e = let z : ◌≡◌ {A = Bool} false true = e in cc
operand Operand e = refl
operand Number e = let z : ◌≡◌ {A = Bool} false true = e in cc

module _ (s : List ℕ) (t : List ℤ) (n : ℕ) (is : Lined s t n) where
  no_kind_lem : (l : ℕ) → n < l → kind t l ≡ 0
  no_kind_lem zero h = refl
  no_kind_lem (suc k) h = ap nat_of (is.unused (8 * k + 0) (omega arith))

  pub formed : Formed t n
  formed = record {
    few = is.few;
    room = is.room;
    kinds = is.kinds;
    unused = no_kind_lem;
    labels = λ l h g. parts_zero t l (λ e. is.a l h g (operand _ e)) (λ e. is.b l h g (operand _ e)) (λ e. is.c l h g (operand _ e));
    top = is.top;
  }

  pub plain : Plain t n
  plain = record { formed = formed; blank = is.blank }

  module _ (fine : tree_bad t n ≡ Fine) where
    pub accepted : TreeAccepted (owned_table t n) n
    unfolding owned_table
    accepted = tree_accepted t n formed (treed t n formed fine)

    kept : (l j : ℕ) → j < 6 → cell (owned_table t n) l j ≡ cell t l j
    unfolding owned_table
    kept l j h = column_other 6 (owner_of t n) (omega arith) n t l j (omega arith) (λ e. omega arith)

    owned_length : length (owned_table t n) ≡ length t
    unfolding owned_table
    owned_length = column_length 6 (owner_of t n) n t

    owner_cell : (k : ℕ) → k < n → int_at (owned_table t n) (8 * k + 6) ≡ pos (owner_of t n (suc k))
    unfolding owned_table
    owner_cell k h = column_has 6 (owner_of t n) (omega arith) n t k h is.room

    owners : (l : ℕ) → 1 ≤ l → l ≤ n → int_at (owned_table t n) (8 * (l - 1) + 6) ≡ pos (owner (owned_table t n) l)
    owners zero h g = absurd (omega arith)
    owners (suc k) h g =
        let e = owner_cell k g in
        let q : suc k - 1 ≡ k = omega arith in
        rw q (e ∙ ap pos (sym (ap nat_of e)))

    beyond : (l : ℕ) → n < l → kind (owned_table t n) l ≡ 0
    beyond l h = kept l 0 (omega arith) ∙ no_kind_lem l h

    root_only : (l : ℕ) → is_definition (owned_table t n) l ≡ true → owner (owned_table t n) l ≡ 0 → l ≡ 1
    root_only l d o =
        let e : kinds.is_definition (kind t l) ≡ true = rw (kept l 0 (omega arith)) at d in
        let k = kind_low (kind t l) (definition_kind (kind t l) e) in
        let low = label_low t l n formed k in
        ⊎_elim sym
        (λ q. absurd (outside (accepted.group l q (label_high t l n formed k) d))) (eq-or-lt_of_le low)
      where
        outside : kind (owned_table t n) (owner (owned_table t n) l) ≡ group_code → ⊥
        outside e = let z : ◌≡◌ {A = ℕ} 0 1 = rw o at e in omega arith

    pub rows : Searchable s (owned_table t n) n
    rows = record {
      few = is.few;
      room = omega (arith, owned_length, is.room);
      names = λ l. omega (arith, kept l 1 (omega arith), kept l 2 (omega arith), is.names l);
      owners = owners;
      falls = accepted.falls;
      beyond = beyond;
      rooted = root_only;
    }

-- ---- the two passes have run: rows 8 to 11 found v and left w; rows 12 to 15, over w, found r and left x

owned_is : (t : List ℤ) (n : ℕ) (v : Verdict) (w : List ℤ) → v ≡ Fine → Written v t n w → w ≡ owned_table t n
unfolding owned_table
owned_is t n (Ok _) w f h = h
owned_is t n (Err e) w f h = let z : ◌≡◌ {A = ℕ} 0 1 = cc in absurd (omega arith)

module _ (s : List ℕ) (t : List ℤ) (n : ℕ) (v : Verdict) (w : List ℤ) (found : v ≡ tree_bad t n) where
  pub paths_rows : Lined s t n → v ≡ Fine → Written v t n w → Searchable s w n
  paths_rows is f h = rw (owned_is t n v w f h) (rows s t n is (sym found ∙ f))

  pub resolved_fine : (r : Verdict) (x : List ℤ) → v ≡ Fine → Written v t n w → r ≡ paths_bad s w n
      → (r ≡ Fine → x ≡ with_column 7 (target_cell s w n) n w) → Resolves s t n r x
  unfolding resolved_bad resolved_table
  resolved_fine r x f h e g =
      let o = owned_is t n v w f h in
      record { found = rw (sym found ∙ f, ← o) e; left = λ q. rw (← o) (g q) }

  pub resolved_refused : (r : Refusal) (x : List ℤ) → v ≡ Err r → Resolves s t n (Err r) x
  unfolding resolved_bad
  resolved_refused r x f = refused_judged _ _ r x (rw (sym found ∙ f))
