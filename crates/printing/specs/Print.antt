-- Document 01's "Program and its print", in bytes.
use Rattle.std.specs.Prelude.{◌≡◌, List, [], ◌∷◌, ◌++◌, ℕ, ◌+◌, ◌-◌, ◌*◌, ◌≤◌, ℤ, length, take, replicate, Ok, Err}
use Rattle.std.proofs.Math.Seq.{slice}
use Rattle.cells.specs.Limits.{label_limit}
use Rattle.cells.specs.Characters.{newline, space}
use Rattle.cells.specs.Quoted.{bytes_of}
use Rattle.cells.specs.Table.{name_start, name_length}
use Rattle.refusals.specs.Rows.{row_number}
use Rattle.order.specs.Following.{labels_of}
use Rattle.evaluation.specs.Results.{state_at, number_at, steps_at}
use Rattle.calls.specs.Plan.{plan_refusal, plan_place, PlanReply}
use Rattle.calls.specs.Run.{run_reply, run_table, run_plan, run_results}
use Rattle.planning.specs.PlanLength.{plan_length}
use Rattle.planning.specs.declared.Plan.{Plan}
use Rattle.planning.specs.declared.Plan.TheVariants.{Whole, Mixed}
use Rattle.numbers.specs.Numerals.{decimal, integer}
use Rattle.printing.specs.declared.Printed.{Printed}

-- ---- lines

-- a line of fields, of which a print's lines have one or more
abbrev pub line_of : List (List ℕ) → List ℕ
line_of [] = newline ∷ []
line_of (f ∷ []) = f ++ newline ∷ []
line_of (f ∷ g ∷ fs) = f ++ space ∷ line_of (g ∷ fs)

-- the line of column names
unfoldable pub columns_line : List ℕ
columns_line = bytes_of "label name order state number steps\n"

-- what a refusal has in its place
unfoldable pub refusal_line : List ℕ
refusal_line = bytes_of "refusal place\n"

-- what the print says of the plan
unfoldable pub whole_word : List ℕ
whole_word = bytes_of "whole"

unfoldable pub mixed_word : List ℕ
mixed_word = bytes_of "mixed"

-- the word for a plan
abbrev pub word_of : Plan → List ℕ
word_of (Whole k) = whole_word
word_of (Mixed k) = mixed_word

-- ---- one line per value: the text s, its table t, the results r, and the word for the plan

-- the name field of label l: that part of the text
abbrev pub name_field : List ℕ → List ℤ → ℕ → List ℕ
name_field s t l = slice (name_start t l) (name_start t l + name_length t l) s

-- its "state, number, steps"
abbrev pub result_fields : List ℤ → ℕ → List (List ℕ)
result_fields r l = decimal (state_at r l) ∷ integer (number_at r l) ∷ decimal (steps_at r l) ∷ []

-- "label, name, whole or mixed, state, number, steps"
unfoldable pub value_line : List ℕ → List ℤ → List ℤ → List ℕ → ℕ → List ℕ
value_line s t r word l = line_of (decimal l ∷ name_field s t l ∷ word ∷ result_fields r l)

unfoldable pub value_lines : List ℕ → List ℤ → List ℤ → List ℕ → List ℕ → List ℕ
value_lines s t r word [] = []
value_lines s t r word (l ∷ ls) = value_line s t r word l ++ value_lines s t r word ls

-- ---- the print

-- "one line per value in plan order": the first k cells of the plan p
abbrev pub plan_lines : List ℕ → List ℤ → List ℤ → ℕ → List ℤ → List ℕ → List ℕ
plan_lines s t p k r word = value_lines s t r word (labels_of (take k p))

-- "one line of column names", then these
abbrev pub answer_print : List ℕ → List ℤ → List ℤ → ℕ → List ℤ → List ℕ → List ℕ
answer_print s t p k r word = columns_line ++ plan_lines s t p k r word

-- "A refusal prints `refusal place` and one line of the two numbers"
abbrev pub refusal_print : ℕ → ℕ → List ℕ
refusal_print row place = refusal_line ++ line_of (decimal row ∷ decimal place ∷ [])

-- of a reply, with the table t, the plan p and the results r as Run leaves them
abbrev pub print_by : List ℕ → PlanReply → List ℤ → List ℤ → List ℤ → List ℕ
print_by s (Ok made) t p r = answer_print s t p (plan_length made) r (word_of made)
print_by s (Err e) t p r = refusal_print (row_number e.row) e.place

-- of what Run gives with a table of m cells, a plan of p and results of q
abbrev pub print_with : List ℕ → ℕ → ℕ → ℕ → List ℕ
print_with s m p q = print_by s (run_reply s m p q) (run_table s m p q) (run_plan s m p q) (run_results s m p q)

-- the program's print of the text s: with buffers for 1,024 labels, the most that a sheet has, so that they are long enough for every sheet
unfoldable pub print_reply : List ℕ → PlanReply
print_reply s = run_reply s (8 * label_limit) label_limit (3 * label_limit)

unfoldable pub print_of : List ℕ → List ℕ
print_of s = print_with s (8 * label_limit) label_limit (3 * label_limit)

-- a bound on its bytes: 36 for the column names, and 48 for each of 1,024 labels
abbrev pub print_bound : ℕ
print_bound = 36 + 48 * label_limit

-- ---- what a call that is lent a buffer of m bytes leaves

abbrev pub zero_bytes : ℕ → List ℕ
zero_bytes n = replicate n 0

pub record PrintLeaves (s : List ℕ) (m : ℕ) (answer : Printed) (out : List ℕ) : Type 0 where
  -- Run's refusal and its place, 0 and 0 where it answers
  pub refusal : answer.refusal ≡ plan_refusal (print_reply s)
  pub place : answer.place ≡ plan_place (print_reply s)
  -- the length of the whole print, however much of it there is room for
  pub whole : answer.length ≡ length (print_of s)
  pub short : length (print_of s) ≤ print_bound
  -- the print as far as the buffer goes, then zeros
  pub bytes : out ≡ take m (print_of s) ++ zero_bytes (m - length (print_of s))
