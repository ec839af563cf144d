-- Worked examples, which antt computes: document 01's "Mistakes to shut out", order 2's blocks, and rows 16 to 18.
use mathlib.Core.Path.{◌≡◌, refl}
use mathlib.Core.List.{List, [], ◌∷◌}
use Prim.Native.Nat.{ℕ}
use lib.IntN.{ℤ, pos, neg_ℤ}
use Rattle.kinds.specs.Kinds.{group_code, value_code, function_code, number_code, kinds, kind_at, is_definition, has_path}
use Rattle.order.specs.Order.{plan, whole, mixed, place16}
use Rattle.order.specs.WholePlan.{whole_plan}
use Rattle.order.specs.Following.{place17, place18}

-- ---- rows of a table, each before the rows after it; names have no part in planning, and are left out

abbrev row : ℕ → ℤ → ℕ → ℕ → ℕ → List ℤ → List ℤ
row k a b o t rest = pos k ∷ pos 0 ∷ pos 0 ∷ a ∷ pos b ∷ pos 0 ∷ pos o ∷ pos t ∷ rest

-- a Group in Group g; a value and a function in Group g with body b
abbrev group : ℕ → List ℤ → List ℤ
group g = row group_code (pos g) 0 g 0

abbrev value : ℕ → ℕ → List ℤ → List ℤ
value g b = row value_code (pos g) b g 0

abbrev function : ℕ → ℕ → List ℤ → List ℤ
function g b = row function_code (pos g) b g 0

-- of definition d: a number; the argument; a read of e; a call of e on a; an operation on a and b
abbrev number : ℕ → ℤ → List ℤ → List ℤ
number d z = row number_code z 0 d 0

abbrev argument : ℕ → List ℤ → List ℤ
argument d = row 5 (pos 0) 0 d 0

abbrev read : ℕ → ℕ → List ℤ → List ℤ
read d e = row 6 (pos 0) 0 d e

abbrev call : ℕ → ℕ → ℕ → List ℤ → List ℤ
call d e a = row 7 (pos a) 0 d e

abbrev operation : ℕ → ℕ → ℕ → ℕ → List ℤ → List ℤ
operation d k a b = row k (pos a) b d 0

-- ---- the table of document 01's sample 1

abbrev example : List ℤ
example =
    group 0 (value 1 6 (group 1 (value 3 9 (value 3 14
    (operation 2 8 7 8 (read 2 4 (number 2 (pos 5)
    (operation 4 11 10 13 (operation 4 10 11 12 (read 4 5 (number 4 (pos 10) (number 4 (pos 100)
    (number 5 (neg_ℤ (pos 325)) [])))))))))))))

-- ---- document 01's "Mistakes to shut out"

-- two functions that call each other are no cycle
each_other : plan (group 0 (function 1 5 (function 1 7 (value 1 9 (call 2 3 6 (argument 2 (call 3 2 8 (argument 3 (call 4 2 10 (number 4 (pos 1) [])))))))))) 10
    ≡ whole (4 ∷ [])
unfolding is_definition has_path kind_at kinds
each_other = refl

-- value 4 is read inside function 3, which value 2 calls: it comes first
inside : plan (group 0 (value 1 5 (function 1 7 (value 1 8 (call 2 3 6 (number 2 (pos 1) (read 3 4 (number 4 (pos 1) [])))))))) 8 ≡ whole (4 ∷ 2 ∷ [])
unfolding is_definition has_path kind_at kinds
inside = refl

-- Group 3 comes before Group 2, which needs it; so it does by document 01's own rule
abbrev two_groups : List ℤ
two_groups = group 0 (group 1 (group 1 (value 2 6 (value 3 7 (read 4 5 (number 5 (pos 1) []))))))

needed_first : (plan two_groups 7 ≡ whole (5 ∷ 4 ∷ [])) × (whole_plan two_groups 7 ≡ 5 ∷ 4 ∷ [])
unfolding is_definition has_path kind_at kinds
needed_first = (refl, refl)

-- ---- the smallest label: value 3 is free, and so comes before 4, though 2 needs 4 alone

smallest : plan (group 0 (value 1 5 (value 1 6 (value 1 7 (read 2 4 (number 3 (pos 1) (number 4 (pos 1) []))))))) 7 ≡ whole (3 ∷ 4 ∷ 2 ∷ [])
unfolding is_definition has_path kind_at kinds
smallest = refl

-- ---- order 2: "A circle between frame and left made us list right mixed too". Groups 2, 3 and 4, two values in each; 5 reads 6 and 9
-- reads 8, the others are numbers. Group 4 stays side by side.

only_tangled_opened : plan
    (group 0 (group 1 (group 1 (group 1 (value 2 11 (value 3 12 (value 4 13 (value 2 14 (value 3 15 (value 4 16
    (read 5 6 (number 6 (pos 1) (number 7 (pos 1) (number 8 (pos 1) (read 9 8 (number 10 (pos 1) [])))))))))))))))) 16
    ≡ mixed (6 ∷ 5 ∷ 8 ∷ 9 ∷ 7 ∷ 10 ∷ [])
unfolding is_definition has_path kind_at kinds
only_tangled_opened = refl

-- all that is tangled is listed as before: document 01's sample 3
sample_3 : plan
    (group 0 (group 1 (group 1 (value 2 8 (value 2 9 (value 3 10 (value 3 11 (read 4 6 (number 5 (pos 20) (number 6 (pos 30) (read 7 5 []))))))))))) 11
    ≡ mixed (5 ∷ 6 ∷ 4 ∷ 7 ∷ [])
unfolding is_definition has_path kind_at kinds
sample_3 = refl

-- the circle lies inside Group 2, whose values stay side by side, behind 8, which one of them reads
tangled_inside : plan
    (group 0 (group 1 (group 2 (group 2 (value 3 11 (value 4 12 (value 1 13 (value 1 14 (value 3 15 (value 4 16
    (read 5 6 (read 6 8 (number 7 (pos 1) (number 8 (pos 1) (number 9 (pos 1) (read 10 9 [])))))))))))))))) 16
    ≡ mixed (7 ∷ 8 ∷ 6 ∷ 5 ∷ 9 ∷ 10 ∷ [])
unfolding is_definition has_path kind_at kinds
tangled_inside = refl

-- three Groups form one block, though no two need each other directly: 2 needs 3, 3 needs 4, and 4 needs 2
three_in_a_circle : plan
    (group 0 (group 1 (group 1 (group 1 (value 2 11 (value 2 12 (value 3 13 (value 3 14 (value 4 15 (value 4 16
    (read 5 8 (number 6 (pos 1) (read 7 10 (number 8 (pos 1) (read 9 6 (number 10 (pos 1) [])))))))))))))))) 16
    ≡ mixed (6 ∷ 8 ∷ 5 ∷ 9 ∷ 10 ∷ 7 ∷ [])
unfolding is_definition has_path kind_at kinds
three_in_a_circle = refl

-- Groups 2 and 4 form a block, which comes before Group 3: it holds the smaller label. Group 3 is listed by the same rule: Group 5 in it, with
-- 10 and 12, comes before 11
smallest_label_held : plan
    (group 0 (group 1 (group 1 (group 1 (group 3 (value 2 13 (value 2 14 (value 4 15 (value 4 16 (value 5 17 (value 3 18 (value 5 19
    (read 6 8 (number 7 (pos 1) (number 8 (pos 1) (read 9 7 (number 10 (pos 1) (number 11 (pos 1) (number 12 (pos 1) []))))))))))))))))))) 19
    ≡ mixed (7 ∷ 8 ∷ 6 ∷ 9 ∷ 10 ∷ 12 ∷ 11 ∷ [])
unfolding is_definition has_path kind_at kinds
smallest_label_held = refl

-- ---- row 16's place: the smallest V that reaches itself, not one that only reaches a cycle

reaching : place16 (group 0 (value 1 5 (value 1 6 (value 1 7 (read 2 3 (read 3 4 (read 4 3 []))))))) 7 ≡ 3
unfolding is_definition has_path kind_at kinds
reaching = refl

free : place16 example 14 ≡ 0
unfolding is_definition has_path kind_at kinds
free = refl

-- ---- rows 17 and 18 for sample 1: proper; a Group, a repetition, a negative number, no label; too short; too early

proper : (place17 example 14 (pos 5 ∷ pos 4 ∷ pos 2 ∷ []) ≡ 0) × (place18 example 14 (pos 5 ∷ pos 4 ∷ pos 2 ∷ []) ≡ 0)
unfolding is_definition has_path kind_at kinds
proper = (refl, refl)

no_value :
    (place17 example 14 (pos 5 ∷ pos 3 ∷ pos 2 ∷ []) ≡ 2)
    × (place17 example 14 (pos 5 ∷ pos 4 ∷ pos 5 ∷ []) ≡ 3)
    × (place17 example 14 (neg_ℤ (pos 5) ∷ pos 4 ∷ pos 2 ∷ []) ≡ 1)
    × (place17 example 14 (pos 5 ∷ pos 4 ∷ pos 2 ∷ pos 0 ∷ []) ≡ 4)
    × (place17 example 14 (pos 5 ∷ pos 4 ∷ pos 2 ∷ pos 15 ∷ []) ≡ 4)
no_value = (refl, refl, refl, refl, refl)

too_short : (place17 example 14 [] ≡ 1) × (place17 example 14 (pos 5 ∷ pos 4 ∷ []) ≡ 3) × (place17 (group 0 []) 1 [] ≡ 0)
too_short = (refl, refl, refl)

too_early : (place18 example 14 (pos 4 ∷ pos 5 ∷ pos 2 ∷ []) ≡ 1) × (place18 example 14 (pos 5 ∷ pos 2 ∷ pos 4 ∷ []) ≡ 2)
unfolding is_definition has_path kind_at kinds
too_early = (refl, refl)
