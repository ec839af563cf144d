-- Links, and what is around their ends, in an accepted table.
use mathlib.Core.Path.{◌≡◌, sym, subst}
use mathlib.Core.Logic.{◌⊎◌, inl, inr, ◌↔◌}
use mathlib.Core.List.{List}
use mathlib.Core.Bool.{true}
use Prim.Native.Nat.{ℕ, ◌-◌, ◌*◌, ◌≤◌, ◌<◌}
use native.Mathlib.Omega.{arith}
use native.Mathlib.Decide.{ℕ_discrete}
use lib.IntN.{ℤ}
use Rattle.kinds.specs.Kinds.{group_code, value_code}
use Rattle.kinds.proofs.Laws.{path_expression, path_body}
use Rattle.kinds.proofs.Codes.{group_bodiless}
use Rattle.cells.specs.Table.{cell, kind, is_definition, has_body, owner, target}
use Rattle.cells.specs.Accepted.{Accepted, HasBody}
use Rattle.cells.specs.Reaches.{HasPath, Mentions, Reaches, once as mention, then as and}
pub use Rattle.cells.proofs.Accepted.{body_label, path_label}
use Rattle.order.proofs.Tests.{both_ways}
use Rattle.order.proofs.Tables.{g_kind, kind_v, v_def, kind_label}
use Rattle.order.proofs.Tree.{within_owner, leaf}
use Rattle.reach.specs.Links.{Column, Link, Links, once, then, Around, Touches}
use Rattle.reach.specs.MarkRows.{width}

-- a column that stands in a struct, where the fact is a bound
pub column_of : (j : ℕ) → (6 ≤ j) × (j ≤ 7) → Column j
column_of j h = go (ℕ_discrete j 6)
  where
    go : Dec (j ≡ 6) → Column j
    go (yes e) = inl e
    go (no e) = inr (omega arith)

module _ (t : List ℤ) (n : ℕ) (ok : Accepted t n) where
  -- ---- what has a body is no Group

  pub body_group : (y : ℕ) → HasBody t y → kind t y ≡ group_code → ⊥
  body_group y b k = both_ways (has_body t y) b (rw k group_bodiless)

  pub in_row : (q : ℕ) → q ≤ n → q < 64 * width n
  in_row q h = omega arith

  -- ---- the ends of a link have bodies

  target_body : (l : ℕ) → HasPath t l → HasBody t (target t l)
  target_body l p = rw (ok.leads l p) (path_body (kind t l) p)

  pub end_body : (j l : ℕ) → Column j → HasPath t l → HasBody t (cell t l j)
  end_body j l (inl e) p = rw e (ok.owners l (path_expression (kind t l) p))
  end_body j l (inr e) p = rw e (target_body l p)

  pub other_column : (j : ℕ) → Column j → Column (13 - j)
  other_column j (inl e) = inr (omega arith)
  other_column j (inr e) = inl (omega arith)

  module _ (j : ℕ) (col : Column j) where
    pub link_body : {d e : ℕ} → Link t j d e → HasBody t e
    link_body l = subst (HasBody t) l.to (end_body j l.line col l.path)

    pub links_body : {d e : ℕ} → Links t j d e → HasBody t e
    links_body (once l) = link_body l
    links_body (then r l) = link_body l

    pub links_trans : {d e f : ℕ} → Links t j d e → Links t j e f → Links t j d f
    links_trans r (once l) = then r l
    links_trans r (then s l) = then (links_trans r s) l

    -- ---- what is around an end

    v_definition : (y : ℕ) → kind t y ≡ value_code → is_definition t y ≡ true
    v_definition y e = v_def t y (kind_v t y e)

    -- what is around a V is the V or a Group
    pub around_case : (y q : ℕ) → Around t y q → (q ≡ y) ⊎ (kind t q ≡ group_code)
    around_case y q (inl e) = inl e
    around_case y q (inr (k, h, u)) = go (ℕ_discrete q y)
      where
        go : Dec (q ≡ y) → (q ≡ y) ⊎ (kind t q ≡ group_code)
        go (yes e) = inl e
        go (no e) = inr (g_kind t q (leaf t n ok q y h (v_definition y k) u (λ z. e (sym z))))

    pub around_body : (y q : ℕ) → HasBody t q → Around t y q → q ≡ y
    around_body y q b a = go (around_case y q a)
      where
        go : (q ≡ y) ⊎ (kind t q ≡ group_code) → q ≡ y
        go (inl e) = e
        go (inr e) = absurd (body_group q b e)

    pub around_owner : (y g : ℕ) → HasBody t y → kind t g ≡ group_code → 1 ≤ owner t g → Around t y g → Around t y (owner t g)
    around_owner y g b k h (inl e) = absurd (body_group y b (subst (λ (x : ℕ). kind t x ≡ group_code) e k))
    around_owner y g b k h (inr (v, p, u)) = inr (v, h, within_owner t n ok g y u)

    pub around_label : (y q : ℕ) → HasBody t y → Around t y q → (1 ≤ q) × (q ≤ n)
    around_label y q b a = go (around_case y q a)
      where
        go : (q ≡ y) ⊎ (kind t q ≡ group_code) → (1 ≤ q) × (q ≤ n)
        go (inl e) = subst (λ (x : ℕ). (1 ≤ x) × (x ≤ n)) (sym e) (body_label t n ok y b)
        go (inr e) = kind_label t n ok q (omega arith)

    -- ---- what is touched

    pub touch_label : {d q : ℕ} → Touches t j d q → (1 ≤ q) × (q ≤ n)
    touch_label {d} {q} h = around_label h.end q (links_body h.links) h.around

    pub touch_body : {d y : ℕ} → Touches t j d y → HasBody t y → Links t j d y
    touch_body {d} {y} h b = subst (Links t j d) (sym (around_body h.end y b h.around)) h.links

    pub touch_on : {d f q : ℕ} → Links t j d f → Touches t j f q → Touches t j d q
    touch_on r h = record { end = h.end; links = links_trans r h.links; around = h.around }

    pub touch_around : {d y q : ℕ} → Links t j d y → Around t y q → Touches t j d q
    touch_around {d} {y} r a = record { end = y; links = r; around = a }

    pub touch_owner : {d g : ℕ} → Touches t j d g → kind t g ≡ group_code → 1 ≤ owner t g → Touches t j d (owner t g)
    touch_owner {d} {g} h k p = record { end = h.end; links = h.links; around = around_owner h.end g (links_body h.links) k p h.around }

-- ---- links by column 7 are mentions, and links by column 6 lead back

mentioned : {t : List ℤ} {d e : ℕ} → Mentions t d e → Link t 7 d e
mentioned m = record { line = m.line; path = m.path; from = m.owned; to = m.aimed }

mentions : {t : List ℤ} {d e : ℕ} → Link t 7 d e → Mentions t d e
mentions l = record { line = l.line; path = l.path; owned = l.from; aimed = l.to }

back : {t : List ℤ} {d e : ℕ} → Link t 6 e d → Mentions t d e
back l = record { line = l.line; path = l.path; owned = l.to; aimed = l.from }

backward : {t : List ℤ} {d e : ℕ} → Mentions t d e → Link t 6 e d
backward m = record { line = m.line; path = m.path; from = m.aimed; to = m.owned }

forth : {t : List ℤ} {d e : ℕ} → Links t 7 d e → Reaches t d e
forth (once l) = mention (mentions l)
forth (then r l) = and (forth r) (mentions l)

forth_of : {t : List ℤ} {d e : ℕ} → Reaches t d e → Links t 7 d e
forth_of (mention m) = once (mentioned m)
forth_of (and r m) = then (forth_of r) (mentioned m)

reaches_first : {t : List ℤ} {d e f : ℕ} → Mentions t d e → Reaches t e f → Reaches t d f
reaches_first m (mention l) = and (mention m) l
reaches_first m (and r l) = and (reaches_first m r) l

links_first : {t : List ℤ} {j d e f : ℕ} → Link t j d e → Links t j e f → Links t j d f
links_first l (once k) = then (once l) k
links_first l (then r k) = then (links_first l r) k

back_of : {t : List ℤ} {e d : ℕ} → Links t 6 e d → Reaches t d e
back_of (once l) = mention (back l)
back_of (then r l) = reaches_first (back l) (back_of r)

back_from : {t : List ℤ} {d e : ℕ} → Reaches t d e → Links t 6 e d
back_from (mention m) = once (backward m)
back_from (and r m) = links_first (backward m) (back_from r)

pub forth_exact : {t : List ℤ} (d e : ℕ) → Links t 7 d e ↔ Reaches t d e
forth_exact d e = (forth, forth_of)

pub back_exact : {t : List ℤ} (d e : ℕ) → Links t 6 e d ↔ Reaches t d e
back_exact d e = (back_of, back_from)

-- so whichever way, what reaches itself links to itself
pub itself_exact : (t : List ℤ) (j v : ℕ) → Column j → Links t j v v ↔ Reaches t v v
itself_exact t j v (inl e) = subst (λ (i : ℕ). Links t i v v ↔ Reaches t v v) (sym e) (back_exact v v)
itself_exact t j v (inr e) = subst (λ (i : ℕ). Links t i v v ↔ Reaches t v v) (sym e) (forth_exact v v)
