-- The members of a Group by their names: one at most where row 12 finds nothing, so that the last is the first.
use mathlib.Core.Path.{◌≡◌, sym, ◌∙◌}
use mathlib.Core.Bool.{Bool, true, false}
use mathlib.Core.List.{List}
use Prim.Native.Nat.{ℕ, ◌+◌, ◌-◌, ◌≤◌, ◌<◌}
use native.Mathlib.Omega.{arith}
use lib.Dec.{eqb}
use lib.IntN.{ℤ}
use lib.ListN.{length}
use lib.Seq.{slice, length-slice}
use borrow.Author.Tests.{eq-eqb, eqb-true}
use Rattle.cells.specs.Table.{name_start, name_length, owner, is_definition}
use Rattle.order.specs.Order.{is_member_of}
use Rattle.text.proofs.Bytes.{and_left, and_right}
use Rattle.paths.specs.Names.{name_of, same_name, is_named, member}
use Rattle.paths.specs.Leads.{NamesApart}
use Rattle.paths.specs.Buckets.{NameInText, last_below}
use Rattle.paths.proofs.SameName.{same_sym, same_trans, other_size}
use Rattle.paths.proofs.LastBelow.{last_first}

-- ---- m is a member of Group g with the name w

pub record Named (s : List ℕ) (t : List ℤ) (g : ℕ) (w : List ℕ) (m : ℕ) : Type 0 where
  pub definition : is_definition t m ≡ true
  pub owned : owner t m ≡ g
  pub named : same_name (name_of s t m) w ≡ true

module _ (s : List ℕ) (t : List ℤ) (g : ℕ) (w : List ℕ) (m : ℕ) where
  -- of a member the name decides
  pub member_named : is_definition t m ≡ true → owner t m ≡ g → is_named s t g w m ≡ same_name (name_of s t m) w
  member_named d o = rw (d, eq-eqb (owner t m) g o)

  pub named_parts : is_named s t g w m ≡ true → Named s t g w m
  named_parts e =
      let b : is_member_of t g m ≡ true = and_left (is_member_of t g m) (same_name (name_of s t m) w) e in
      record {
        definition = and_left (is_definition t m) (eqb (owner t m) g) b;
        owned = eqb-true (owner t m) g (and_right (is_definition t m) (eqb (owner t m) g) b);
        named = and_right (is_member_of t g m) (same_name (name_of s t m) w) e;
      }

-- ---- names apart

module _ (s : List ℕ) (t : List ℤ) (n : ℕ) (apart : NamesApart s t n) (g : ℕ) (w : List ℕ) where
  pub two_named : (m x : ℕ) → 1 ≤ m → m < x → x ≤ n → is_named s t g w m ≡ true → is_named s t g w x ≡ true → ⊥
  two_named m x low less high e f =
      let p : Named s t g w m = named_parts s t g w m e in
      let q : Named s t g w x = named_parts s t g w x f in
      apart m x low less high p.definition q.definition (p.owned ∙ sym q.owned) (same_trans (name_of s t m) w (name_of s t x) p.named (same_sym (name_of s t x) w q.named))

  pub member_last : last_below (is_named s t g w) (n + 1) ≡ member s t n g w
  unfolding member
  member_last = last_first (is_named s t g w) n two_named

-- ---- a definition's name beside a part of the text

module _ (s : List ℕ) (t : List ℤ) (m from to : ℕ) (inside : to ≤ length s) where
  pub name_differs : NameInText s t m → (name_length t m ≡ to - from → ⊥) → false ≡ same_name (name_of s t m) (slice from to s)
  name_differs p f =
      let a : length (name_of s t m) ≡ name_length t m = length-slice (name_start t m) (name_start t m + name_length t m) s p ∙ size in
      let b : length (slice from to s) ≡ to - from = length-slice from to s inside in
      sym (other_size (name_of s t m) (slice from to s) (λ e. f (sym a ∙ e ∙ b)))
    where
      size : name_start t m + name_length t m - name_start t m ≡ name_length t m
      size = omega arith

  pub name_compared : {start size : ℕ} {r : Bool} → from ≤ to → start ≡ name_start t m → size ≡ name_length t m → size ≡ to - from
      → r ≡ same_name (slice start (start + size) s) (slice from (from + size) s) → r ≡ same_name (name_of s t m) (slice from to s)
  name_compared {start} {size} order p q z e =
      let x : from + size ≡ to = omega arith in
      e ∙ rw (p, q, ← q, x)
