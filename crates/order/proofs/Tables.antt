-- What holds of every table that Read accepts, in the words of specs/Order.antt; and the test of reaching is the relation.
use mathlib.Core.Path.{◌≡◌, ◌∙◌}
use mathlib.Core.Logic.{◌⊎◌, inl, inr, ◌↔◌}
use mathlib.Core.List.{List}
use mathlib.Core.Bool.{true, false, ◌&&◌}
use Prim.Native.Nat.{ℕ, ◌≤◌, ◌<◌}
use native.Mathlib.Omega.{arith}
use native.Mathlib.Decide.{dec_le}
use lib.Dec.{eqb}
use lib.IntN.{ℤ}
use borrow.Author.Tests.{eqb-true, eq-eqb, ne_eqb}
use Rattle.kinds.specs.Kinds.{group_code, value_code, wanted_by}
use Rattle.kinds.proofs.Laws.{kind_low, definition_kind, path_body, body_definition}
use Rattle.kinds.proofs.Codes.{group_definition, value_definition}
use Rattle.cells.specs.Table.{kind, is_definition, has_path, owner, target}
use Rattle.cells.specs.Accepted.{Accepted}
use Rattle.cells.specs.Reaches.{HasPath, Mentions, Reaches, once, then}
use Rattle.cells.proofs.Accepted.{reaches_trans, cell_out, path_label}
pub use Rattle.cells.proofs.Accepted.{kind_label}
use Rattle.order.specs.LabelLists.{one, count, ◌∈◌}
use Rattle.order.specs.Order.{is_g, is_v, all_labels, values, is_member_of, members, is_mention, mentions, reached, reaches}
use Rattle.order.proofs.Tests.{so_or_not, and_left, and_right, and_intro}
use Rattle.order.proofs.Lists.{mem_of, of_mem, any_true, any_intro, in_filter, count_filter_pass, count_filter_fail, count_filter_le, count_up_from, up_from_once}
use Rattle.order.proofs.Closure.{Chain, step, then as on, closure_exact}

-- ---- kinds

pub v_kind : (t : List ℤ) (v : ℕ) → is_v t v ≡ true → kind t v ≡ value_code
v_kind t v e = eqb-true (kind t v) value_code e

pub kind_v : (t : List ℤ) (v : ℕ) → kind t v ≡ value_code → is_v t v ≡ true
kind_v t v e = eq-eqb (kind t v) value_code e

pub g_kind : (t : List ℤ) (g : ℕ) → is_g t g ≡ true → kind t g ≡ group_code
g_kind t g e = eqb-true (kind t g) group_code e

pub kind_g : (t : List ℤ) (g : ℕ) → kind t g ≡ group_code → is_g t g ≡ true
kind_g t g e = eq-eqb (kind t g) group_code e

pub v_not_g : (t : List ℤ) (l : ℕ) → is_v t l ≡ true → is_g t l ≡ false
v_not_g t l e = ne_eqb (kind t l) group_code (λ (z : kind t l ≡ group_code). omega (arith, v_kind t l e))

pub g_def : (t : List ℤ) (l : ℕ) → is_g t l ≡ true → is_definition t l ≡ true
g_def t l e = rw (g_kind t l e) group_definition

pub v_def : (t : List ℤ) (l : ℕ) → is_v t l ≡ true → is_definition t l ≡ true
v_def t l e = rw (v_kind t l e) value_definition

module _ (t : List ℤ) (n : ℕ) (ok : Accepted t n) where
  -- ---- labels are 1 to n

  pub def_label : (l : ℕ) → is_definition t l ≡ true → (1 ≤ l) × (l ≤ n)
  def_label l d = kind_label t n ok l (kind_low (kind t l) (definition_kind (kind t l) d))

  pub pos_of : (l : ℕ) → is_definition t l ≡ true → 1 ≤ l
  pos_of l d = (def_label l d).0

  pub in_labels : (l : ℕ) → 1 ≤ l → l ≤ n → l ∈ all_labels n
  in_labels l a b = omega (arith, count_up_from l 1 n a (omega arith))

  -- ---- owners

  pub owner_below : (l : ℕ) → 1 ≤ l → owner t l < l
  owner_below l h = go (dec_le l n)
    where
      go : Dec (l ≤ n) → owner t l < l
      go (yes e) = ok.falls l h e
      go (no e) = omega (arith, cell_out t n ok l 6 (omega arith))

  pub top_group : is_g t 1 ≡ true
  top_group = kind_g t 1 ok.root

  pub owner_group : (l : ℕ) → is_definition t l ≡ true → 2 ≤ l → is_g t (owner t l) ≡ true
  owner_group l d h = kind_g t (owner t l) (ok.group l h (def_label l d).1 d)

  -- ---- values and members

  pub count_values : (v : ℕ) → count v (values t n) ≡ one (is_v t v)
  count_values v = go (so_or_not (is_v t v))
    where
      go : (is_v t v ≡ true) ⊎ (is_v t v ≡ false) → count v (values t n) ≡ one (is_v t v)
      go (inl e) =
          let b = def_label v (v_def t v e) in
          count_filter_pass (is_v t) v (all_labels n) e ∙ count_up_from v 1 n b.0 (omega arith) ∙ rw e
      go (inr e) = count_filter_fail (is_v t) v (all_labels n) e ∙ rw e

  pub in_values : (v : ℕ) → is_v t v ≡ true → v ∈ values t n
  in_values v e = let h : count v (values t n) ≡ 1 = rw e at (count_values v) in omega arith

  pub value_of : (v : ℕ) → v ∈ values t n → is_v t v ≡ true
  value_of v m = (in_filter (is_v t) v (all_labels n) m).1

  pub values_once : (v : ℕ) → count v (values t n) ≤ 1
  values_once v = omega (arith, count_filter_le (is_v t) v (all_labels n), up_from_once v 1 n)

  pub member_of : (g p : ℕ) → p ∈ members t n g → (is_definition t p ≡ true) × (owner t p ≡ g)
  member_of g p m =
      let h = (in_filter (is_member_of t g) p (all_labels n) m).1 in
      (and_left (is_definition t p) (eqb (owner t p) g) h, eqb-true (owner t p) g (and_right (is_definition t p) (eqb (owner t p) g) h))

  pub count_member : (g p : ℕ) → is_definition t p ≡ true → owner t p ≡ g → count p (members t n g) ≡ 1
  count_member g p d e =
      let b = def_label p d in
      count_filter_pass (is_member_of t g) p (all_labels n) (and_intro (is_definition t p) (eqb (owner t p) g) d (eq-eqb (owner t p) g e))
      ∙ count_up_from p 1 n b.0 (omega arith)

  pub members_once : (g p : ℕ) → count p (members t n g) ≤ 1
  members_once g p = omega (arith, count_filter_le (is_member_of t g) p (all_labels n), up_from_once p 1 n)

  -- ---- the tests of mentioning and reaching are the relations

  -- where a path leads is a definition
  target_definition : (x : ℕ) → HasPath t x → is_definition t (target t x) ≡ true
  target_definition x e = rw (ok.leads x e) (body_definition (wanted_by (kind t x)) (path_body (kind t x) e))

  target_label : (x : ℕ) → HasPath t x → (1 ≤ target t x) × (target t x ≤ n)
  target_label x e = def_label (target t x) (target_definition x e)

  pub mentions_exact : (d e : ℕ) → (mentions t n d e ≡ true) ↔ Mentions t d e
  mentions_exact d e = (λ h. let w = any_true (is_mention t d e) (all_labels n) h in found w.0 w.2, seen)
    where
      found : (x : ℕ) → is_mention t d e x ≡ true → Mentions t d e
      found x h =
          let a = and_left (has_path t x && eqb (owner t x) d) (eqb (target t x) e) h in
          record {
            line = x;
            path = and_left (has_path t x) (eqb (owner t x) d) a;
            owned = eqb-true (owner t x) d (and_right (has_path t x) (eqb (owner t x) d) a);
            aimed = eqb-true (target t x) e (and_right (has_path t x && eqb (owner t x) d) (eqb (target t x) e) h);
          }

      seen : Mentions t d e → mentions t n d e ≡ true
      seen m =
          let x = m.line in
          let b = path_label t n ok x m.path in
          any_intro (is_mention t d e) (all_labels n) x (in_labels x b.0 b.1)
          (and_intro (has_path t x && eqb (owner t x) d) (eqb (target t x) e)
          (and_intro (has_path t x) (eqb (owner t x) d) m.path (eq-eqb (owner t x) d m.owned))
          (eq-eqb (target t x) e m.aimed))

  mention_label : (d e : ℕ) → mentions t n d e ≡ true → e ∈ all_labels n
  mention_label d e h = at ((mentions_exact d e).0 h)
    where
      at : Mentions t d e → e ∈ all_labels n
      at m = let b = target_label m.line m.path in in_labels e (omega (arith, m.aimed, b.0)) (omega (arith, m.aimed, b.1))

  -- `reached t n d` holds exactly what d reaches, each once
  pub reached_exact : (d e : ℕ) → (e ∈ reached t n d) ↔ Reaches t d e
  reached_exact d e = (λ i. onto (x.0 i), λ r. x.1 (back r))
    where
      x : (e ∈ reached t n d) ↔ Chain (mentions t n) d e
      x = closure_exact (mentions t n) (all_labels n) mention_label d e

      onto : {e : ℕ} → Chain (mentions t n) d e → Reaches t d e
      onto {e} (step m) = once ((mentions_exact d e).0 m)
      onto {e} (on {c = c} r m) = then (onto r) ((mentions_exact c e).0 m)

      back : {e : ℕ} → Reaches t d e → Chain (mentions t n) d e
      back {e} (once m) = step ((mentions_exact d e).1 m)
      back {e = f} (then {e = e} r m) = on (back r) ((mentions_exact e f).1 m)

  pub reaches_exact : (d e : ℕ) → (reaches t n d e ≡ true) ↔ Reaches t d e
  reaches_exact d e = (λ h. (reached_exact d e).0 (of_mem e (reached t n d) h), λ r. mem_of e (reached t n d) ((reached_exact d e).1 r))

  pub reaches_chain : (a b c : ℕ) → reaches t n a b ≡ true → reaches t n b c ≡ true → reaches t n a c ≡ true
  reaches_chain a b c p q = (reaches_exact a c).1 (reaches_trans ((reaches_exact a b).0 p) ((reaches_exact b c).0 q))
