-- Small tables about rows 8 to 11, as facts that the checker computes.
use mathlib.Core.Path.{◌≡◌, refl, ap}
use mathlib.Core.List.{List, [], ◌∷◌, ◌++◌, map}
use Prim.Native.Nat.{ℕ, zero, suc}
use Prim.Native.Char.{code}
use lib.IntN.{ℤ, pos}
use Rattle.kinds.specs.Kinds.{kinds, kind_at, code_of, is_kind, is_definition, is_expression, takes, clause_of}
use Rattle.refusals.specs.Refusal.{Verdict, Fine, Refused, refusal_of, reply_of}
use Rattle.refusals.specs.Rows.{structure_row, uses_row, argument_row, level_row}
use Rattle.tree.specs.Tree.{parts, structure_bad, definition_of, owner_of, level_of, tree_bad}

-- a line's cells, of the kind with this letter: kind code, start and length of the name, a, b, c; owner and target are not written yet
abbrev row : ℕ → ℕ → ℕ → ℤ → ℕ → ℕ → List ℤ
row letter s n a b c = pos (code_of letter) ∷ pos s ∷ pos n ∷ a ∷ pos b ∷ pos c ∷ pos 0 ∷ pos 0 ∷ []

-- label 1 of every sheet
abbrev root : List ℤ
root = row (code "G") 0 0 (pos 0) 0 0

-- ---- tables of four labels, and what rows 8 to 11 find in each

abbrev found : List ℤ → Verdict
found t = tree_bad (root ++ t) 4

-- the paper's number of what is found, 0 for nothing
abbrev numbered : Verdict → ℕ
numbered v = refusal_of (reply_of v 0)

unfoldable tables : List (List ℤ)
tables =
    -- an expression that no field uses
    (row (code "V") 0 0 (pos 1) 4 0 ++ row (code "N") 0 0 (pos 5) 0 0 ++ row (code "N") 0 0 (pos 5) 0 0)
    -- a Group with a label above its member's
    ∷ (row (code "V") 0 0 (pos 3) 4 0 ++ row (code "G") 0 0 (pos 1) 0 0 ++ row (code "N") 0 0 (pos 5) 0 0)
    -- a Group field that names a V
    ∷ (row (code "V") 0 0 (pos 1) 4 0 ++ row (code "G") 0 0 (pos 2) 0 0 ++ row (code "N") 0 0 (pos 5) 0 0)
    -- a line that is its own operand
    ∷ (row (code "V") 0 0 (pos 1) 3 0 ++ row (code "A") 0 0 (pos 3) 4 0 ++ row (code "N") 0 0 (pos 5) 0 0)
    -- a body that is a definition
    ∷ (row (code "V") 0 0 (pos 1) 3 0 ++ row (code "G") 0 0 (pos 1) 0 0 ++ row (code "N") 0 0 (pos 5) 0 0)
    -- P in a V, and in an F
    ∷ (row (code "V") 0 0 (pos 1) 3 0 ++ row (code "C") 0 1 (pos 4) 0 0 ++ row (code "P") 0 0 (pos 0) 0 0)
    ∷ (row (code "F") 0 0 (pos 1) 3 0 ++ row (code "C") 0 1 (pos 4) 0 0 ++ row (code "P") 0 0 (pos 0) 0 0)
    ∷ []

tables_found : map found tables ≡ Refused uses_row 3
    ∷ Refused structure_row 2
    ∷ Refused structure_row 3
    ∷ Refused structure_row 3
    ∷ Refused structure_row 2
    ∷ Refused argument_row 4
    ∷ Fine
    ∷ []
unfolding tables tree_bad structure_bad parts definition_of owner_of level_of kinds kind_at code_of is_kind is_definition is_expression takes clause_of
tables_found = refl

-- in the paper's numbers
tables_numbered : map numbered (map found tables) ≡ 9 ∷ 8 ∷ 8 ∷ 8 ∷ 8 ∷ 10 ∷ 0 ∷ []
tables_numbered = ap (map numbered) tables_found

-- ---- a body of m calls, each the argument of the one before, and a number: level 32 passes and level 33 does not

abbrev calls : ℕ → ℕ → List ℤ
calls zero l = row (code "N") 0 0 (pos 5) 0 0
calls (suc m) l = row (code "C") 0 1 (pos (suc l)) 0 0 ++ calls m (suc l)

abbrev deep : ℕ → List ℤ
deep m = root ++ row (code "V") 0 0 (pos 1) 3 0 ++ calls m 3

level_32 : tree_bad (deep 31) 34 ≡ Fine
unfolding tree_bad structure_bad parts definition_of owner_of level_of kinds kind_at code_of is_kind is_definition is_expression takes clause_of
level_32 = refl

level_33 : tree_bad (deep 32) 35 ≡ Refused level_row 35
unfolding tree_bad structure_bad parts definition_of owner_of level_of kinds kind_at code_of is_kind is_definition is_expression takes clause_of
level_33 = refl

level_33_numbered : numbered (tree_bad (deep 32) 35) ≡ 11
level_33_numbered = ap numbered level_33
