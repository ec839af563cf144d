-- What the code reads and writes at one label, and what its pass has done. Until the pass has cleared it, the target cell of a label holds its
-- level.
use Rattle.std.specs.Prelude.{◌≡◌, Bool, true, false, cond, ◌&&◌, Option, Some, None, List, length, set}
use Rattle.std.specs.Prelude.{ℕ, suc, ◌+◌, ◌-◌, ◌*◌, ◌%◌, ◌≤◌, ◌<◌, leb, ltb, eqb, ℤ, pos}
use Rattle.cells.specs.Limits.{label_limit}
use Rattle.cells.specs.Cells.{int_at}
use Rattle.cells.specs.Table.{cell, kind, is_definition, is_expression, field_a, field_b, field_c, owner, target}
use Rattle.kinds.specs.Kinds.{group_code, fields_at, is_kind, is_operand_form}
use Rattle.kinds.specs.Coded.{own_code}
use Rattle.kinds.specs.declared.Form.{Form}
use Rattle.kinds.specs.declared.Kind.{Kind}
use Rattle.tree.specs.Tree.{group_right, part_right, uses, IsPart, user_of, owner_of, level_of}
use Rattle.tree.specs.Treed.{Formed}

-- ---- one label

-- l is a label that the table has
abbrev pub HasCells : List ℤ → ℕ → Type 0
HasCells t l = (1 ≤ l) × (8 * l ≤ length t)

-- what a field holds as a body or operand
abbrev pub part_in : Form → ℕ → Option ℕ
part_in f x = cond (is_operand_form f) (Some x) None

-- what a line is in the tree: whether it is a definition, and what its fields a, b and c hold as its body or operands
pub record Node : Type 0 where
  pub definition : Bool
  pub a : Option ℕ
  pub b : Option ℕ
  pub c : Option ℕ

-- the line, by the table of kinds
unfoldable pub node_at : List ℤ → ℕ → Node
node_at t l = record {
  definition = is_definition t l;
  a = part_in (fields_at (kind t l)).a (field_a t l);
  b = part_in (fields_at (kind t l)).b (field_b t l);
  c = part_in (fields_at (kind t l)).c (field_c t l);
}

-- a line of known kind
pub record Known (t : List ℤ) (l : ℕ) : Type 0 where
  pub cells : HasCells t l
  pub known : is_kind (kind t l) ≡ true

-- a line of kind k
abbrev pub OfKind : List ℤ → ℕ → Kind → Type 0
OfKind t l k = (1 ≤ l) × (8 * l ≤ length t) × (own_code k ≡ kind t l)

-- row 8 by the node: a definition's Group, from label 2, and what may be a body or operand
abbrev pub group_fits : List ℤ → ℕ → Bool → Bool
group_fits t l definition = cond (leb 2 l && definition) (group_right t l (field_a t l)) true

abbrev pub part_fits : List ℤ → ℕ → Option ℕ → Bool
part_fits t l None = true
part_fits t l (Some x) = part_right t l x

-- row 9 by the owner cell, which is 0 of an expression that is not used, and no label where it is used more than once
abbrev pub twice : ℕ
twice = label_limit + 1

abbrev pub owned_once : ℕ → Bool
owned_once d = ltb 0 d && ltb d twice

abbrev pub used_right : List ℤ → ℕ → Bool
used_right t l = cond (node_at t l).definition true (owned_once (owner t l))

-- the table in which label x, which is no 0, has this owner and level
abbrev pub assigned : ℕ → ℕ → ℕ → List ℤ → List ℤ
assigned x d v t = cond (eqb x 0) t (set (set t (8 * (x - 1) + 6) (pos d)) (8 * (x - 1) + 7) (pos v))

-- the table in which a part is used once more, by a line that gives it this owner and level
abbrev pub claimed : Option ℕ → ℕ → ℕ → List ℤ → List ℤ
claimed None d v t = t
claimed (Some x) d v t = cond (eqb (owner t x) 0) (assigned x d v t) (set t (8 * (x - 1) + 6) (pos twice))

abbrev pub claimed_all : Node → ℕ → ℕ → List ℤ → List ℤ
claimed_all p d v t = claimed p.c d v (claimed p.b d v (claimed p.a d v t))

-- the table in which line l has propagated its owner and level to its parts
unfoldable pub propagated : ℕ → List ℤ → List ℤ
propagated l t =
    cond (node_at t l).definition
    (claimed_all (node_at t l) l 1 (assigned l (field_a t l) 0 t))
    (claimed_all (node_at t l) (owner t l) (target t l + 1) t)

-- what these writes ask: the parts have cells in the table, and what is written fits
abbrev pub HasPart : List ℤ → Option ℕ → Type 0
HasPart t None = Unit {0}
HasPart t (Some x) = HasCells t x

pub record Inside (t : List ℤ) (p : Node) : Type 0 where
  pub a : HasPart t p.a
  pub b : HasPart t p.b
  pub c : HasPart t p.c

pub record Propagable (t : List ℤ) (l : ℕ) : Type 0 where
  pub line : Known t l
  pub inside : Inside t (node_at t l)
  pub few : l ≤ label_limit
  pub group : (node_at t l).definition ≡ true → field_a t l ≤ label_limit
  pub level : (node_at t l).definition ≡ false → target t l ≤ label_limit

-- ---- tables that passed rows 8 and 9

pub record Structured (t : List ℤ) (n : ℕ) : Type 0 where
  pub formed : Formed t n
  pub group : (l : ℕ) → 2 ≤ l → l ≤ n → is_definition t l ≡ true → (field_a t l < l) × (kind t (field_a t l) ≡ group_code)
  pub part : (l x : ℕ) → IsPart t l x → (l < x) × (is_expression t x ≡ true)

pub record UsedOnce (t : List ℤ) (n : ℕ) : Type 0 where
  pub structure : Structured t n
  pub once : (x : ℕ) → is_expression t x ≡ true → uses t n x ≡ 1

-- ---- the pass

-- owner and target cells of the labels 1 to n are no negative numbers
abbrev pub Natural : List ℤ → ℕ → Type 0
Natural t n = (k j : ℕ) → k < n → 6 ≤ j → j < 8 → int_at t (8 * k + j) ≡ pos (cell t (suc k) j)

-- w is t but for such cells
pub record Over (t : List ℤ) (n : ℕ) (w : List ℤ) : Type 0 where
  pub size : length w ≡ length t
  pub fields : (i : ℕ) → i % 8 < 6 → int_at w i ≡ int_at t i
  pub beyond : (i : ℕ) → 8 * n ≤ i → int_at w i ≡ int_at t i
  pub natural : Natural w n

-- the label at which the owner of x is written: its own for a definition, its user's for an expression
abbrev pub turn_of : List ℤ → ℕ → ℕ → ℕ
turn_of t n x = cond (is_expression t x) (user_of t n x) x

-- the level of x that stands in its target cell when the labels 1 to j are cleared
abbrev pub level_left : List ℤ → ℕ → ℕ → ℕ → ℕ
level_left t n j x = cond (leb x j) 0 (level_of t n x)

-- the owners and levels that labels 1 to k write are written, and the targets of labels 1 to j cleared
pub record Propagated (t : List ℤ) (n k j : ℕ) (w : List ℤ) : Type 0 where
  pub over : Over t n w
  pub owners : (x : ℕ) → 1 ≤ x → x ≤ n → turn_of t n x ≤ k → owner w x ≡ owner_of t n x
  pub levels : (x : ℕ) → 1 ≤ x → x ≤ n → turn_of t n x ≤ k → target w x ≡ level_left t n j x
