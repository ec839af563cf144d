-- Two tables with the same kinds, owners and targets: what reaches what, proper orders, rows of marks and what is redone are the same.
use mathlib.Core.Path.{◌≡◌, refl, sym, ap, ◌∙◌}
use mathlib.Core.Bool.{Bool, ◌||◌}
use mathlib.Core.Logic.{inl, inr}
use mathlib.Core.List.{List}
use Prim.Native.Nat.{ℕ, zero, suc}
use lib.Dec.{eqb}
use lib.IntN.{ℤ}
use Rattle.cells.specs.Table.{owner}
use Rattle.cells.specs.Reaches.{Mentions, Reaches, once, then}
use Rattle.order.specs.LabelLists.{filter}
use Rattle.order.specs.Order.{up, Proper, SameStructure}
use Rattle.order.specs.Following.{ProperList}
use Rattle.order.proofs.Same.{reaches_same}
use Rattle.reach.specs.Links.{Around, Touches}
use Rattle.reach.specs.MarkRows.{MarkRow}
use Rattle.reach.proofs.Links.{back_exact}
use Rattle.redoing.specs.Redone.{Redone, is_redone, redone_of}

pub structure_back : {t u : List ℤ} → SameStructure t u → SameStructure u t
structure_back s = record { kinds = λ l. sym (s.kinds l); owners = λ l. sym (s.owners l); targets = λ l. sym (s.targets l) }

pub structure_then : {t u w : List ℤ} → SameStructure t u → SameStructure u w → SameStructure t w
structure_then a b = record { kinds = λ l. b.kinds l ∙ a.kinds l; owners = λ l. b.owners l ∙ a.owners l; targets = λ l. b.targets l ∙ a.targets l }

module _ {t u : List ℤ} (s : SameStructure t u) where
  mentions_on : {a b : ℕ} → Mentions t a b → Mentions u a b
  mentions_on m =
      let x = m.line in
      record { line = x; path = rw (s.kinds x) m.path; owned = s.owners x ∙ m.owned; aimed = s.targets x ∙ m.aimed }

  pub reaches_on : {a b : ℕ} → Reaches t a b → Reaches u a b
  reaches_on (once m) = once (mentions_on m)
  reaches_on (then r m) = then (reaches_on r) (mentions_on m)

  pub redone_on : (d v : ℕ) → Redone t d v → Redone u d v
  redone_on d v (inl e) = inl e
  redone_on d v (inr r) = inr (reaches_on r)

  -- ---- what is around an end of links, and what is touched

  up_on : (j v : ℕ) → up u j v ≡ up t j v
  up_on zero v = refl
  up_on (suc j) v = ap (up u j) (s.owners v) ∙ up_on j (owner t v)

  around_on : (y q : ℕ) → Around t y q → Around u y q
  around_on y q (inl e) = inl e
  around_on y q (inr (k, h, (j, e))) = inr (s.kinds y ∙ k, h, (j, up_on j y ∙ e))

  touches_on : (d q : ℕ) → Touches t 6 d q → Touches u 6 d q
  touches_on d q h =
      let y = h.end in
      record { end = y; links = (back_exact y d).1 (reaches_on ((back_exact y d).0 h.links)); around = around_on y q h.around }

-- ---- both ways

module _ {t u : List ℤ} (s : SameStructure t u) where
  pub proper_on : {o : List ℕ} → Proper t o → Proper u o
  proper_on p = record {
    once = λ v. rw (s.kinds v) (p.once v);
    after = λ a v b e w k r. p.after a v b e w (sym (s.kinds w) ∙ k) (reaches_on (structure_back s) r);
  }

  pub proper_list_on : {cells : List ℤ} → ProperList t cells → ProperList u cells
  proper_list_on p = record { order = p.order; same = p.same; proper = proper_on p.proper }

  pub mark_row_on : (n : ℕ) (square : List ℕ) (d : ℕ) → MarkRow t n 6 square d → MarkRow u n 6 square d
  mark_row_on n square d row q = (λ e. touches_on s d q ((row q).0 e), λ h. (row q).1 (touches_on (structure_back s) d q h))

  -- ---- what is redone

  module _ (n d : ℕ) where
    pub redone_same : is_redone u n d ≡ is_redone t n d
    redone_same = ap (λ (r : ℕ → ℕ → Bool). λ (v : ℕ). eqb v d || r v d) (reaches_same t u s n)

    pub redone_list_same : (o : List ℕ) → redone_of u n d o ≡ redone_of t n d o
    redone_list_same o = ap (λ (f : ℕ → Bool). filter f o) redone_same
