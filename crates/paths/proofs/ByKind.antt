-- What a line is, by the kind that its code gives.
use mathlib.Core.Path.{◌≡◌, refl, ap, sym, ◌∙◌}
use mathlib.Core.Bool.{Bool, true, false}
use mathlib.Core.List.{List}
use Prim.Native.Nat.{ℕ}
use lib.Dec.{eqb}
use lib.IntN.{ℤ}
use borrow.Author.Tests.{eqb-true, eqb-false}
use Rattle.std.specs.Prelude.{Some, None, is_some}
use Rattle.kinds.specs.declared.Kind.{Kind}
use Rattle.kinds.specs.Kinds.{is_kind, is_definition, has_path, wanted_by}
use Rattle.kinds.specs.Coded.{own_code, kind_with}
use Rattle.kinds.proofs.Laws.{definition_kind, expression_kind, path_expression}
use Rattle.kinds.proofs.Enumerated.{with_code, with_some, path_wants}
use Rattle.cells.specs.Table as table
use Rattle.refusals.specs.Rows.{target_row}
use Rattle.text.proofs.Bytes.{true_false}
use Rattle.paths.specs.TargetCells.{wrong_target}
use Rattle.paths.proofs.Resolving.{target_wrong, target_right, target_none}

-- a code that gives no kind
module _ (c : ℕ) (e : kind_with c ≡ None) where
  no_kind : is_kind c ≡ true → ⊥
  no_kind f = true_false (sym f ∙ sym (with_some c) ∙ ap is_some e)

  pub no_definition : false ≡ is_definition c
  no_definition = go (is_definition c) refl
    where
      go : (b : Bool) → is_definition c ≡ b → false ≡ b
      go true f = absurd (no_kind (definition_kind c f))
      go false f = refl

  pub no_path : false ≡ has_path c
  no_path = go (has_path c) refl
    where
      go : (b : Bool) → has_path c ≡ b → false ≡ b
      go true f = absurd (no_kind (expression_kind c (path_expression c f)))
      go false f = refl

-- row 15 at line x, whose kind is k
module _ (t : List ℤ) (x : ℕ) where
  pub line_of_none : kind_with (table.kind t x) ≡ None → None ≡ wrong_target t x
  line_of_none e = target_none t x (sym (no_path (table.kind t x) e))

  module _ (k : Kind) (e : kind_with (table.kind t x) ≡ Some k) where
    code : own_code k ≡ table.kind t x
    code = with_code (table.kind t x) k e

    pub line_without_path : kind_with (wanted_by (own_code k)) ≡ None → None ≡ wrong_target t x
    line_without_path f = target_none t x (ap has_path (sym code) ∙ sym (path_wants k) ∙ ap is_some f)

    module _ (w : Kind) (f : kind_with (wanted_by (own_code k)) ≡ Some w) {target : ℕ} (g : target ≡ table.target t x) where
      wants : own_code w ≡ wanted_by (own_code k)
      wants = with_code (wanted_by (own_code k)) w f

      pub kept_target : eqb (table.kind t target) (own_code w) ≡ true → None ≡ wrong_target t x
      kept_target h =
          target_right t x (own_code k) (table.kind t target) (own_code w) code (ap (table.kind t) g) wants (eqb-true (table.kind t target) (own_code w) h)

      pub other_target : eqb (table.kind t target) (own_code w) ≡ false → Some target_row ≡ wrong_target t x
      other_target h =
          target_wrong t x (own_code k) (table.kind t target) (own_code w) code (ap (table.kind t) g) wants
          (sym (path_wants k) ∙ ap is_some f) (eqb-false (table.kind t target) (own_code w) h)
