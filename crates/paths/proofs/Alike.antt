-- Rows 12 to 15 read of text and table the kinds, the owners and the bytes of the names alone: two texts with tables that agree in these
-- give the same, wherever the names stand. Two tables over one text that are alike but for the targets are such.
use mathlib.Core.Path.{◌≡◌, refl, ap, sym, ◌∙◌}
use mathlib.Core.List.{List, [], ◌∷◌}
use Prim.Native.Nat.{ℕ, zero, suc, ◌+◌, ◌-◌, ◌*◌, ◌≤◌}
use native.Mathlib.Omega.{arith}
use lib.IntN.{ℤ, pos}
use lib.ListN.{length, drop}
use Rattle.cells.specs.Table.{kind, name_start, name_length, owner, with_column, is_definition, has_path}
use Rattle.cells.specs.Cells.{int_at}
use Rattle.cells.proofs.Columns.{column_keeps, column_other}
use Rattle.text.specs.Pieces.{first_of}
use Rattle.paths.specs.Names.{name_of, is_named, member}
use Rattle.refusals.proofs.FirstBad.{first_same as same-found}
use Rattle.paths.specs.Paths.{settled, head_from, below, descended, names_of, head_of, target_of, target_cell, duplicate_bad, path_head_bad, later_bad, target_bad, paths_bad}
use Rattle.paths.specs.TargetCells.{head_cell, target_by}
use Rattle.paths.specs.Buckets.{Searchable, Allotted, bucket_at, in_bucket, last_below, LinkedBelow, AllLinked}
use Rattle.paths.specs.Leads.{NamesApart}
use Rattle.paths.proofs.FirstLabel.{first_same}
use Rattle.paths.proofs.LastBelow.{last_same}

pub record Alike (t u : List ℤ) : Type 0 where
  pub kinds : (l : ℕ) → kind u l ≡ kind t l
  pub starts : (l : ℕ) → name_start u l ≡ name_start t l
  pub lengths : (l : ℕ) → name_length u l ≡ name_length t l
  pub owners : (l : ℕ) → owner u l ≡ owner t l
  pub owned : (l : ℕ) → 1 ≤ l → int_at u (8 * (l - 1) + 6) ≡ int_at t (8 * (l - 1) + 6)

pub column_alike : (f : ℕ → ℕ) (n : ℕ) (t : List ℤ) → Alike t (with_column 7 f n t)
column_alike f n t = record {
  kinds = λ l. column_other 7 f (omega arith) n t l 0 (omega arith) (λ e. omega arith);
  starts = λ l. column_other 7 f (omega arith) n t l 1 (omega arith) (λ e. omega arith);
  lengths = λ l. column_other 7 f (omega arith) n t l 2 (omega arith) (λ e. omega arith);
  owners = λ l. column_other 7 f (omega arith) n t l 6 (omega arith) (λ e. omega arith);
  owned = λ l h. column_keeps 7 f (omega arith) n t (8 * (l - 1) + 6) (λ k g e. omega arith);
}

-- the table u over the text r has the kinds, names and owners of the table t over the text s
pub record Like (s : List ℕ) (t : List ℤ) (r : List ℕ) (u : List ℤ) : Type 0 where
  pub kinds : (l : ℕ) → kind u l ≡ kind t l
  pub names : (l : ℕ) → name_of r u l ≡ name_of s t l
  pub owners : (l : ℕ) → owner u l ≡ owner t l

module _ (s : List ℕ) (t : List ℤ) (r : List ℕ) (u : List ℤ) (a : Like s t r u) where
  definition_like : (l : ℕ) → is_definition u l ≡ is_definition t l
  definition_like l = rw (a.kinds l)

  path_like : (l : ℕ) → has_path u l ≡ has_path t l
  path_like l = rw (a.kinds l)

  named_like : (g : ℕ) (w : List ℕ) (m : ℕ) → is_named r u g w m ≡ is_named s t g w m
  named_like g w m = rw (definition_like m, a.owners m, a.names m)

  member_like : (n g : ℕ) (w : List ℕ) → member r u n g w ≡ member s t n g w
  unfolding member
  member_like n g w = first_same (is_named r u g w) (is_named s t g w) n 1 (λ x l h. named_like g w x)

  settled_like : (n : ℕ) (w : List ℕ) (k g : ℕ) → settled r u n w k g ≡ settled s t n w k g
  settled_like n w zero g = refl
  settled_like n w (suc k) g = rw (member_like n g w, a.owners g, settled_like n w k (owner t g))

  descended_like : (n : ℕ) (ws : List (List ℕ)) (m : ℕ) → descended r u n m ws ≡ descended s t n m ws
  descended_like n [] m = refl
  descended_like n (w ∷ ws) m = rw (a.kinds m, member_like n m w) (descended_like n ws (below s t n m w))

  head_like : (n x : ℕ) → head_of r u n x ≡ head_of s t n x
  unfolding head_of head_from
  head_like n x =
      rw (a.names x, a.owners x, a.owners (owner t x)) (settled_like n (first_of (names_of s t x)) (owner t (owner t x)) (owner t (owner t x)))

  head_cell_like : (n x : ℕ) → head_cell r u n x ≡ head_cell s t n x
  head_cell_like n x = rw (path_like x, head_like n x)

  target_by_like : (n x head : ℕ) → target_by r u n x head ≡ target_by s t n x head
  target_by_like n x head = rw (path_like x, a.names x, descended_like n (drop 1 (names_of s t x)) head)

  pub target_like : (n x : ℕ) → target_of r u n x ≡ target_of s t n x
  unfolding target_of
  target_like n x = rw (head_like n x, a.names x) (descended_like n (drop 1 (names_of s t x)) (head_of s t n x))

  pub target_cell_like : (n x : ℕ) → target_cell r u n x ≡ target_cell s t n x
  target_cell_like n x = rw (path_like x, target_like n x)

  -- ---- rows 12 to 15

  duplicate_like : (l : ℕ) → duplicate_bad r u l ≡ duplicate_bad s t l
  unfolding duplicate_bad
  duplicate_like l =
      let g = owner t l in
      let w = name_of s t l in
      rw (definition_like l, a.owners l, a.names l, first_same (is_named r u g w) (is_named s t g w) (l - 1) 1 (λ x p q. named_like g w x))

  path_head_like : (n x : ℕ) → path_head_bad r u n x ≡ path_head_bad s t n x
  unfolding path_head_bad
  path_head_like n x = rw (path_like x, head_like n x)

  later_bad_like : (n x : ℕ) → later_bad r u n x ≡ later_bad s t n x
  unfolding later_bad
  later_bad_like n x = rw (path_like x, target_like n x)

  target_bad_like : (n x : ℕ) → target_bad r u n x ≡ target_bad s t n x
  unfolding target_bad
  target_bad_like n x = rw (path_like x, target_like n x, a.kinds (target_of s t n x), a.kinds x)

  pub paths_like : (n : ℕ) → paths_bad r u n ≡ paths_bad s t n
  unfolding paths_bad
  paths_like n =
      let row12 = same-found (duplicate_bad r u) (duplicate_bad s t) n 1 (λ x h g. duplicate_like x) in
      let row13 = same-found (path_head_bad r u n) (path_head_bad s t n) n 1 (λ x h g. path_head_like n x) in
      let row14 = same-found (later_bad r u n) (later_bad s t n) n 1 (λ x h g. later_bad_like n x) in
      let row15 = same-found (target_bad r u n) (target_bad s t n) n 1 (λ x h g. target_bad_like n x) in
      rw (row12, row13, row14, row15)

-- ---- two tables over one text

module _ (s : List ℕ) (t u : List ℤ) (a : Alike t u) where
  like : Like s t s u
  like = record { kinds = a.kinds; names = λ l. rw (a.starts l, a.lengths l); owners = a.owners }

  pub definition_alike : (l : ℕ) → is_definition u l ≡ is_definition t l
  definition_alike = definition_like s t s u like

  pub path_alike : (l : ℕ) → has_path u l ≡ has_path t l
  path_alike = path_like s t s u like

  pub head_cell_alike : (n x : ℕ) → head_cell s u n x ≡ head_cell s t n x
  head_cell_alike = head_cell_like s t s u like

  pub target_by_alike : (n x head : ℕ) → target_by s u n x head ≡ target_by s t n x head
  target_by_alike = target_by_like s t s u like

  pub target_alike : (n x : ℕ) → target_of s u n x ≡ target_of s t n x
  target_alike = target_like s t s u like

  pub target_cell_alike : (n x : ℕ) → target_cell s u n x ≡ target_cell s t n x
  target_cell_alike = target_cell_like s t s u like

  pub paths_alike : (n : ℕ) → paths_bad s u n ≡ paths_bad s t n
  paths_alike = paths_like s t s u like

  pub rows_alike : (n : ℕ) → length u ≡ length t → Searchable s t n → Searchable s u n
  rows_alike n e r = record {
    few = r.few;
    room = omega (arith, r.room);
    names = λ l. rw (a.starts l, a.lengths l) (r.names l);
    owners = λ l h g. a.owned l h ∙ r.owners l h g ∙ ap pos (sym (a.owners l));
    falls = λ l h g. rw (a.owners l) (r.falls l h g);
    beyond = λ l h. a.kinds l ∙ r.beyond l h;
    rooted = λ l d o. r.rooted l (sym (definition_alike l) ∙ d) (sym (a.owners l) ∙ o);
  }

  module _ (starts : List ℕ) where
    allotted_alike : (n : ℕ) → Allotted t n starts → Allotted u n starts
    allotted_alike n h = record {
      long = h.long;
      base = h.base;
      rising = h.rising;
      few = h.few;
      some = λ l p q d. rw (a.owners l) (h.some l p q (sym (definition_alike l) ∙ d));
    }

    bucket_alike : (l : ℕ) → bucket_at s u starts l ≡ bucket_at s t starts l
    bucket_alike l = rw (like.names l, a.owners l)

    chain_alike : (b k : ℕ) → last_below (in_bucket s u starts b) k ≡ last_below (in_bucket s t starts b) k
    chain_alike b k = last_same (in_bucket s u starts b) (in_bucket s t starts b) k (λ l. rw (definition_alike l, bucket_alike l))

  apart_alike : (n : ℕ) → NamesApart s t n → NamesApart s u n
  apart_alike n h l k low less high d e o q =
      h l k low less high (sym (definition_alike l) ∙ d) (sym (definition_alike k) ∙ e) (sym (a.owners l) ∙ o ∙ a.owners k)
      (rw (like.names l, like.names k) at q)

  pub linked_alike : {n : ℕ} {starts links : List ℕ} → AllLinked s t n starts links → AllLinked s u n starts links
  linked_alike {n} {starts} {links} h = record { all = below h.all; apart = apart_alike n h.apart }
    where
      below : LinkedBelow s t n (n + 1) starts links → LinkedBelow s u n (n + 1) starts links
      below l = record {
        allotted = allotted_alike starts n l.allotted;
        room = l.room;
        most = l.most;
        heads = λ b g. l.heads b g ∙ sym (chain_alike starts b (n + 1));
        nexts = λ x p q d. l.nexts x p q (sym (definition_alike x) ∙ d) ∙ rw (bucket_alike starts x) (sym (chain_alike starts (bucket_at s t starts x) x));
        falls = l.falls;
      }
