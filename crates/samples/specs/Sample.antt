-- A sample sheet with what document 01 says of it, and what the definitions of the calls give for it.
use Rattle.std.specs.Prelude.{cond, List, [], ◌∷◌, ◌++◌, map, ℕ, zero, suc, ◌-◌, ◌*◌, ℤ, pos, eqb, length, Ok}
use Rattle.refusals.specs.declared.Row.{Row}
use Prim.Native.String.{String}
use Rattle.kinds.specs.Kinds.{is_definition, has_body, has_path, wanted_by, takes}
use Rattle.cells.specs.Quoted.{bytes_of, text_of}
use Rattle.cells.specs.Cells.{zeros}
use Rattle.cells.specs.Table.{kind, owner, target, line_number}
use Rattle.numbers.specs.Rounding.{quotient}
use Rattle.numbers.specs.declared.Tie.{Tie}
use Rattle.numbers.specs.declared.Tie.TheVariants.{Away, Even}
use Rattle.refusals.specs.Refusal.{Reply, Refused}
use Rattle.lines.specs.Lines.{labels}
use Rattle.evaluation.specs.Results.{store}
use Rattle.reading.specs.Read.{read_reply, read_table}
use Rattle.reading.specs.Name.{name_part}
use Rattle.calls.specs.Plan.{plan_reply, plan_cells, PlanReply}
use Rattle.calls.specs.Run.{run_reply, run_plan, run_results}
use Rattle.calls.specs.Follow.{follow_reply, follow_results}
use Rattle.planning.specs.declared.Plan.TheVariants as planned
use Rattle.printing.specs.Print.{print_of}
use Rattle.retouching.specs.Retouch.{retouch_reply, retouch_table, retouch_plan, retouch_results, retouch_changes}

-- ---- a sample

-- what a line of Read's table tells
pub data Fact : Type 0 where
  -- label l is a Group, a value or a function in Group g
  group : (l g : ℕ) → Fact
  value : (l g : ℕ) → Fact
  function : (l g : ℕ) → Fact
  -- definition d reads value e, or calls function e
  reads : (d e : ℕ) → Fact
  calls : (d e : ℕ) → Fact

-- a line of the program's print, "label name order state number steps", but for the order
pub record PrintLine : Type 0 where
  pub label : ℕ
  pub name : String
  pub state : ℕ
  pub number : ℤ
  pub steps : ℕ

-- a refusal with its row and place; or a whole or a mixed plan, with a line for each value in plan order
pub data Expected : Type 0 where
  refusal : (row : Row) (place : ℕ) → Expected
  whole : List PrintLine → Expected
  mixed : List PrintLine → Expected

pub record Sample : Type 0 where
  -- the sheet, line by line
  pub sheet : List String
  -- what Read answers, and what its table tells of the labels from 2 on
  pub read : Reply
  pub table : List Fact
  -- what Plan and Run come to
  pub outcome : Expected
  -- what the program prints, line by line
  pub print : List String

-- ---- what the calls give for a sheet

-- each field is what the definition of its name gives; Follow and Name are asked about the lines that the sample says
pub record Given : Type 0 where
  pub read_reply : Reply
  -- what Read's table tells of the labels from 2 on
  pub table : List Fact
  pub plan_reply : PlanReply
  pub plan_cells : List ℤ
  pub run_reply : PlanReply
  pub run_plan : List ℤ
  pub run_results : List ℤ
  -- Follow's, where its order list is the labels of the lines
  pub follow_reply : Reply
  pub follow_results : List ℤ
  -- Name's, for the label of each line
  pub names : List (List ℕ)
  -- the program's print
  pub print : List ℕ

abbrev pub print_lines_of : Expected → List PrintLine
print_lines_of (refusal r p) = []
print_lines_of (whole ls) = ls
print_lines_of (mixed ls) = ls

abbrev pub labels_listed : List PrintLine → List ℤ
labels_listed ls = map (λ x. pos x.label) ls

-- what a definition of this kind code tells: a Group has no body, and the body of a value is given no argument
abbrev pub definition_fact : ℕ → ℕ → ℕ → Fact
definition_fact code l g = cond (has_body code) (cond (eqb (takes code) 0) (value l g) (function l g)) (group l g)

-- what a line of definition d tells whose path ends at e, of a kind with this code
abbrev pub mention_fact : ℕ → ℕ → ℕ → Fact
mention_fact end d e = cond (eqb (takes end) 0) (reads d e) (calls d e)

-- what label l tells, with this kind code, owner o and target e: by what the table says of the kind, whatever kinds there are
abbrev pub fact_of : ℕ → ℕ → ℕ → ℕ → List Fact
fact_of code l o e = cond (is_definition code) (definition_fact code l o ∷ []) (cond (has_path code) (mention_fact (wanted_by code) o e ∷ []) [])

-- what k labels of a table tell, from l on
abbrev pub facts_from : List ℤ → ℕ → ℕ → List Fact
facts_from t l zero = []
facts_from t l (suc k) = fact_of (kind t l) l (owner t l) (target t l) ++ facts_from t (suc l) k

abbrev pub names_in : List ℕ → ℕ → List PrintLine → List (List ℕ)
names_in s m [] = []
names_in s m (x ∷ ls) = name_part s m (pos x.label) ∷ names_in s m ls

-- of a text s with n labels, where each call is lent just enough: a table of 8n cells, a plan of n and results of 3n
abbrev pub given_for : List ℕ → ℕ → List PrintLine → Given
given_for s n ls = record {
  read_reply = read_reply s (8 * n);
  table = facts_from (read_table s (8 * n)) 2 (n - 1);
  plan_reply = plan_reply s (8 * n) n;
  plan_cells = plan_cells s (8 * n) n;
  run_reply = run_reply s (8 * n) n (3 * n);
  run_plan = run_plan s (8 * n) n (3 * n);
  run_results = run_results s (8 * n) n (3 * n);
  follow_reply = follow_reply s (labels_listed ls) (8 * n) (3 * n);
  follow_results = follow_results s (labels_listed ls) (8 * n) (3 * n);
  names = names_in s (8 * n) ls;
  print = print_of s;
}

abbrev pub given : Sample → Given
given x = given_for (text_of x.sheet) (labels (text_of x.sheet)) (print_lines_of x.outcome)

-- ---- what the sample says that they give

abbrev pub plan_reply_by : Expected → PlanReply
plan_reply_by (refusal r p) = Refused r p
plan_reply_by (whole ls) = Ok (planned.Whole (length ls))
plan_reply_by (mixed ls) = Ok (planned.Mixed (length ls))

abbrev pub follow_reply_by : Expected → Reply
follow_reply_by (refusal r p) = Refused r p
follow_reply_by (whole ls) = Ok (length ls)
follow_reply_by (mixed ls) = Ok (length ls)

-- n cells of a plan: the labels, then zeros
abbrev pub plan_by : ℕ → List PrintLine → List ℤ
plan_by n ls = labels_listed ls ++ zeros (n - length ls)

-- m cells of results: zeros, but for the state, number and steps of each line at its label
abbrev pub results_said : ℕ → List PrintLine → List ℤ
results_said m [] = zeros m
results_said m (x ∷ ls) = store (results_said m ls) x.label (record { number = x.number; state = x.state; steps = x.steps })

abbrev pub names_by : List PrintLine → List (List ℕ)
names_by [] = []
names_by (x ∷ ls) = bytes_of x.name ∷ names_by ls

-- of a sheet with n labels, where the lines are ls
abbrev pub said_of : Sample → ℕ → List PrintLine → Given
said_of x n ls = record {
  read_reply = x.read;
  table = x.table;
  plan_reply = plan_reply_by x.outcome;
  plan_cells = plan_by n ls;
  run_reply = plan_reply_by x.outcome;
  run_plan = plan_by n ls;
  run_results = results_said (3 * n) ls;
  follow_reply = follow_reply_by x.outcome;
  follow_results = results_said (3 * n) ls;
  names = names_by ls;
  print = text_of x.print;
}

-- every line of the sheet but the first has a label
abbrev pub said : Sample → Given
said x = said_of x (length x.sheet - 1) (print_lines_of x.outcome)

-- ---- order 4: a sheet retouched

-- a pair of the list, and what it brings about
pub record PairSaid : Type 0 where
  pub label : ℕ
  pub number : ℤ
  pub redone : ℕ
  pub failing : ℕ
  pub steps : ℕ

-- a line and the number in its cell a
pub record NumberSaid : Type 0 where
  pub line : ℕ
  pub shows : ℤ

pub record RetouchSample : Type 0 where
  pub sheet : List String
  pub pairs : List PairSaid
  -- once all pairs are applied: what Retouch comes to, and what the table shows
  pub outcome : Expected
  pub numbers : List NumberSaid

abbrev pub pair_cells : List PairSaid → List ℤ
pair_cells [] = []
pair_cells (x ∷ ps) = pos x.label ∷ x.number ∷ pair_cells ps

abbrev pub changes_said : List PairSaid → List ℤ
changes_said [] = []
changes_said (x ∷ ps) = pos x.redone ∷ pos x.failing ∷ pos x.steps ∷ changes_said ps

-- what the definitions of Retouch give: the reply, the plan, the results, the changes, and cell a of the lines that the sample says
pub record RetouchFigures : Type 0 where
  pub reply : PlanReply
  pub plan : List ℤ
  pub results : List ℤ
  pub changes : List ℤ
  pub numbers : List ℤ

-- of a text s with n labels, where the call is lent just enough
abbrev pub retouch_for : List ℕ → ℕ → List PairSaid → List NumberSaid → RetouchFigures
retouch_for s n ps ns = record {
  reply = retouch_reply s (pair_cells ps) (8 * n) n (3 * n) (3 * length ps);
  plan = retouch_plan s (pair_cells ps) (8 * n) n (3 * n) (3 * length ps);
  results = retouch_results s (pair_cells ps) (8 * n) n (3 * n) (3 * length ps);
  changes = retouch_changes s (pair_cells ps) (8 * n) n (3 * n) (3 * length ps);
  numbers = map (λ x. line_number (retouch_table s (pair_cells ps) (8 * n) n (3 * n) (3 * length ps)) x.line) ns;
}

abbrev pub retouch_given : RetouchSample → RetouchFigures
retouch_given x = retouch_for (text_of x.sheet) (labels (text_of x.sheet)) x.pairs x.numbers

abbrev pub retouch_said_of : RetouchSample → ℕ → List PrintLine → RetouchFigures
retouch_said_of x n ls = record {
  reply = plan_reply_by x.outcome;
  plan = plan_by n ls;
  results = results_said (3 * n) ls;
  changes = changes_said x.pairs;
  numbers = map (λ y. y.shows) x.numbers;
}

abbrev pub retouch_said : RetouchSample → RetouchFigures
retouch_said x = retouch_said_of x (length x.sheet - 1) (print_lines_of x.outcome)

-- ---- order 5: a quotient by either tie rule

pub record QuotientSample : Type 0 where
  pub dividend : ℤ
  pub divisor : ℤ
  pub away : ℤ
  pub even : ℤ

abbrev pub quotient_given : Tie → QuotientSample → ℤ
quotient_given tie x = quotient tie x.dividend x.divisor

abbrev pub quotient_said : Tie → QuotientSample → ℤ
quotient_said Away x = x.away
quotient_said Even x = x.even
