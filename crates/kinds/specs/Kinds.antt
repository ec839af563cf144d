-- Document 01's one fixed table of twelve rows: which fields a kind has, and what the paper says of the kind elsewhere. What a kind is
-- is read off its row, by the names below the table.
use Rattle.std.specs.Prelude.{Bool, true, false, cond, not, ◌&&◌, List, [], ◌∷◌, ℕ, zero, suc, leb, eqb, length, get_or}
use Prim.Native.Char.{code}
use Rattle.kinds.specs.declared.Form.{Form}
use Rattle.kinds.specs.declared.Form.TheVariants.{Missing, Name, Path, Group, Operand, Number}
use Rattle.kinds.specs.declared.Fields.{Fields}
use Rattle.kinds.specs.declared.Operation.TheVariants.{Sum, Difference, Product, Quotient}
use Rattle.kinds.specs.declared.Clause.{Clause}
use Rattle.kinds.specs.declared.Clause.TheVariants as clause

-- ---- a row

pub record KindColumns : Type 0 where
  -- the letter, and what the fields name, a, b and c hold; a field that the paper does not list is `-`
  pub fields : Fields
  -- the code of the kind that its path must end at; 0 of a kind without a path
  pub wanted : ℕ
  -- how many arguments its body is given
  pub takes : ℕ
  -- the clause of "Working out" that evaluates it
  pub clause : Clause

-- a definition: what it has in its field b, and how many arguments its body is given
abbrev definition : ℕ → Form → ℕ → KindColumns
definition letter b n =
    record { fields = record { letter = letter; name = Name; a = Group; b = b; c = Missing }; wanted = 0; takes = n; clause = clause.None }

-- an expression with a path: what it has in a and b, and what its path must end at
abbrev path : ℕ → Form → Form → ℕ → Clause → KindColumns
path letter a b end by =
    record { fields = record { letter = letter; name = Path; a = a; b = b; c = Missing }; wanted = end; takes = 0; clause = by }

-- any other expression: what it has in a, b and c
abbrev expression : ℕ → Form → Form → Form → Clause → KindColumns
expression letter a b c by =
    record { fields = record { letter = letter; name = Missing; a = a; b = b; c = c }; wanted = 0; takes = 0; clause = by }

-- ---- the table

-- the codes of the kinds that have a name in the definitions
abbrev pub group_code : ℕ
group_code = 1

abbrev pub value_code : ℕ
value_code = 2

abbrev pub function_code : ℕ
function_code = 3

abbrev pub number_code : ℕ
number_code = 4

-- in the paper's order
unfoldable pub kinds : List KindColumns
kinds =
    definition (code "G") Missing 0
    ∷ definition (code "V") Operand 0
    ∷ definition (code "F") Operand 1
    ∷ expression (code "N") Number Missing Missing clause.Number
    ∷ expression (code "P") Missing Missing Missing (clause.Argument 1)
    ∷ path (code "R") Missing Missing value_code clause.Read
    ∷ path (code "C") Operand Missing function_code (clause.Call 1)
    ∷ expression (code "A") Operand Operand Missing (clause.Operation Sum)
    ∷ expression (code "S") Operand Operand Missing (clause.Operation Difference)
    ∷ expression (code "M") Operand Operand Missing (clause.Operation Product)
    ∷ expression (code "D") Operand Operand Missing (clause.Operation Quotient)
    ∷ expression (code "I") Operand Operand Operand clause.Choice
    ∷ []

-- what no code has
abbrev pub no_kind : KindColumns
no_kind = expression 0 Missing Missing Missing clause.None

-- the kind of a code, which is the place of its row from 1: code 0 has none
unfoldable pub kind_at : ℕ → KindColumns
kind_at zero = no_kind
kind_at (suc k) = get_or kinds k no_kind

-- the code of the first row, from code k on, that has this letter; 0 where none has
abbrev pub code_in : List KindColumns → ℕ → ℕ → ℕ
code_in [] k letter = 0
code_in (r ∷ rs) k letter = cond (eqb r.fields.letter letter) k (code_in rs (suc k) letter)

unfoldable pub code_of : ℕ → ℕ
code_of letter = code_in kinds 1 letter

-- ---- what a kind is, by its code

-- the code of a row
unfoldable pub is_kind : ℕ → Bool
is_kind c = leb 1 c && leb c (length kinds)

abbrev pub fields_at : ℕ → Fields
fields_at c = (kind_at c).fields

abbrev pub is_group_form : Form → Bool
is_group_form Missing = false
is_group_form Name = false
is_group_form Path = false
is_group_form Group = true
is_group_form Operand = false
is_group_form Number = false

abbrev pub is_operand_form : Form → Bool
is_operand_form Missing = false
is_operand_form Name = false
is_operand_form Path = false
is_operand_form Group = false
is_operand_form Operand = true
is_operand_form Number = false

abbrev pub is_path_form : Form → Bool
is_path_form Missing = false
is_path_form Name = false
is_path_form Path = true
is_path_form Group = false
is_path_form Operand = false
is_path_form Number = false

-- "G, V and F lines are definitions", the kinds whose field a is a Group; "the rest are expressions"
unfoldable pub is_definition : ℕ → Bool
is_definition c = is_group_form (fields_at c).a

unfoldable pub is_expression : ℕ → Bool
is_expression c = is_kind c && not (is_definition c)

-- a definition's field b may hold its body, an expression's fields a, b and c its operands
unfoldable pub has_body : ℕ → Bool
has_body c = is_definition c && is_operand_form (fields_at c).b

unfoldable pub operand_a : ℕ → Bool
operand_a c = is_expression c && is_operand_form (fields_at c).a

unfoldable pub operand_b : ℕ → Bool
operand_b c = is_expression c && is_operand_form (fields_at c).b

unfoldable pub operand_c : ℕ → Bool
operand_c c = is_expression c && is_operand_form (fields_at c).c

-- a path under name
unfoldable pub has_path : ℕ → Bool
has_path c = is_path_form (fields_at c).name

-- the code of the kind that its path must end at
unfoldable pub wanted_by : ℕ → ℕ
wanted_by c = (kind_at c).wanted

-- how many arguments its body is given
unfoldable pub takes : ℕ → ℕ
takes c = (kind_at c).takes

-- the place of the argument that a clause gives; 0 where it gives none
abbrev pub place_in : Clause → ℕ
place_in clause.None = 0
place_in clause.Number = 0
place_in (clause.Argument k) = k
place_in clause.Read = 0
place_in (clause.Call n) = 0
place_in (clause.Operation op) = 0
place_in clause.Choice = 0

-- the clause of "Working out" that evaluates it
unfoldable pub clause_of : ℕ → Clause
clause_of c = (kind_at c).clause

-- the place of the argument that it stands for; 0 where it stands for none
abbrev pub argument_place : ℕ → ℕ
argument_place c = place_in (clause_of c)
