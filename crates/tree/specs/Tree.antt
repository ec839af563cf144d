-- The tree of a table: what a line is made of, who uses an expression, who owns it and at what level; rows 8 to 11 of document 01's table
-- "Where each refusal is found". Which fields are a Group, a body or an operand is read off the table of kinds.
use Rattle.std.specs.Prelude.{◌≡◌, Bool, true, not, cond, ◌&&◌, Option, Some, None, List, [], ◌∷◌, ◌++◌, ℕ, zero, suc, ◌+◌, ◌≤◌, leb, ltb, eqb, ℤ, length}
use Rattle.cells.specs.Limits.{level_limit}
use Rattle.cells.specs.Lists.{count, all}
use Rattle.cells.specs.Table.{kind, is_definition, is_expression, field_a, field_b, field_c}
use Rattle.kinds.specs.Kinds.{group_code, fields_at, is_operand_form, takes, argument_place}
use Rattle.kinds.specs.declared.Form.{Form}
use Rattle.refusals.specs.declared.Row.{Row}
use Rattle.refusals.specs.Refusal.{Verdict, first_bad, or_else}
use Rattle.refusals.specs.Rows.{structure_row, uses_row, argument_row, level_row}

-- ---- the parts of a line

abbrev pub operand_in : Form → ℕ → List ℕ
operand_in f x = cond (is_operand_form f) (x ∷ []) []

-- a definition's body, an expression's operands; arguments, tests and branches count as operands
unfoldable pub parts : List ℤ → ℕ → List ℕ
parts t l =
    let k = fields_at (kind t l) in
    operand_in k.a (field_a t l) ++ operand_in k.b (field_b t l) ++ operand_in k.c (field_c t l)

-- ---- row 8

-- g is a G with a label below l
abbrev pub group_right : List ℤ → ℕ → ℕ → Bool
group_right t l g = ltb g l && eqb (kind t g) group_code

-- x is an expression with a label above l
abbrev pub part_right : List ℤ → ℕ → ℕ → Bool
part_right t l x = ltb l x && is_expression t x

-- the Group field is judged from label 2
abbrev pub structure_right : List ℤ → ℕ → Bool
structure_right t l = cond (leb 2 l && is_definition t l) (group_right t l (field_a t l)) true && all (part_right t l) (parts t l)

unfoldable pub structure_bad : List ℤ → ℕ → Option Row
structure_bad t l = cond (structure_right t l) None (Some structure_row)

-- ---- row 9

-- how often x is used by the fields of the labels from 1 to n
abbrev pub uses : List ℤ → ℕ → ℕ → ℕ
uses t zero x = 0
uses t (suc k) x = uses t k x + count x (parts t (suc k))

-- an expression used u times
abbrev pub not_once : Bool → ℕ → Option Row
not_once expression u = cond (expression && not (eqb u 1)) (Some uses_row) None

abbrev pub uses_bad : List ℤ → ℕ → ℕ → Option Row
uses_bad t n x = not_once (is_expression t x) (uses t n x)

-- ---- owners and levels

-- x is the body or an operand of line l
abbrev pub IsPart : List ℤ → ℕ → ℕ → Type 0
IsPart t l x = 1 ≤ count x (parts t l)

-- an expression is owned by the definition whose body it is or stands in
pub data Owned (t : List ℤ) : ℕ → ℕ → Type 0 where
  body : (d x : ℕ) → is_definition t d ≡ true → IsPart t d x → Owned t d x
  operand : (d u x : ℕ) → Owned t d u → is_expression t u ≡ true → IsPart t u x → Owned t d x

-- a body has level 1, its operands level 2, and so on
pub data Level (t : List ℤ) : ℕ → ℕ → Type 0 where
  body : (d x : ℕ) → is_definition t d ≡ true → IsPart t d x → Level t x 1
  operand : (u x k : ℕ) → Level t u k → is_expression t u ≡ true → IsPart t u x → Level t x (suc k)

-- the last label from 1 to n that uses x; 0 where none does
abbrev pub user_of : List ℤ → ℕ → ℕ → ℕ
user_of t zero x = 0
user_of t (suc k) x = cond (leb 1 (count x (parts t (suc k)))) (suc k) (user_of t k x)

-- the lines above x: its user, that one's user and so on, up to a definition. A user's label is below that of what it uses, so that the
-- label is fuel enough
abbrev pub climb : List ℤ → ℕ → ℕ → ℕ → List ℕ
climb t n zero x = []
climb t n (suc m) x =
    let u = user_of t n x in
    let above = u ∷ climb t n m u in
    cond (is_expression t x) above []

abbrev pub last_of : ℕ → List ℕ → ℕ
last_of x [] = x
last_of x (u ∷ us) = last_of u us

-- the definition that x is or stands in
unfoldable pub definition_of : List ℤ → ℕ → ℕ → ℕ
definition_of t n x = last_of x (climb t n x x)

-- a definition's Group, an expression's definition
unfoldable pub owner_of : List ℤ → ℕ → ℕ → ℕ
owner_of t n x = cond (is_expression t x) (definition_of t n x) (field_a t x)

-- an expression's level, and 0 of a definition
unfoldable pub level_of : List ℤ → ℕ → ℕ → ℕ
level_of t n x = length (climb t n x x)

-- ---- rows 10 and 11

-- "P owned by a V": an argument that the body of its owner is not given. A V's body is given none, and P stands for the first of an F's; k
-- and d are the codes of the two
abbrev pub argument_in : ℕ → ℕ → Option Row
argument_in k d = cond (ltb (takes d) (argument_place k)) (Some argument_row) None

abbrev pub argument_bad : List ℤ → ℕ → ℕ → Option Row
argument_bad t n x = argument_in (kind t x) (kind t (owner_of t n x))

abbrev pub above_levels : ℕ → Option Row
above_levels level = cond (ltb level_limit level) (Some level_row) None

abbrev pub level_bad : List ℤ → ℕ → ℕ → Option Row
level_bad t n x = above_levels (level_of t n x)

-- ---- rows 8 to 11, each its own pass upward through the labels

unfoldable pub tree_bad : List ℤ → ℕ → Verdict
tree_bad t n =
    or_else (first_bad (structure_bad t) 1 n)
    (or_else (first_bad (uses_bad t n) 1 n)
    (or_else (first_bad (argument_bad t n) 1 n)
    (first_bad (level_bad t n) 1 n)))
