-- Document 01, "Strength of each contract": "The starred sheets are one table of definition-level facts with one proof"; the examples of
-- document 02's orders stand in the same table. For each sheet, from its bytes on, the definitions of the calls give what the table says;
-- so do those of Retouch for each sheet and list of pairs. The checker computes it.
use mathlib.Core.Path.{◌≡◌, refl}
use mathlib.Core.List.{map}
use Rattle.numbers.specs.Decimal.{all_digits, digits_value, digits_of, decimal_of, number_of}
use Rattle.numbers.specs.Rounding.{rounded, quotient}
use Rattle.numbers.specs.Arithmetic.{ranged_of, result, calculated}
use Rattle.numbers.specs.declared.Tie.{Tie}
use Rattle.numbers.specs.declared.Tie.TheVariants.{Away, Even}
use Rattle.text.specs.Bytes.{is_allowed, is_letter, is_alphanumeric, lowercase_byte}
use Rattle.text.specs.Forms.{is_name, is_path, label_of}
use Rattle.kinds.specs.Kinds.{kinds, kind_at, code_of, is_kind, is_definition, is_expression, has_body, has_path, wanted_by, takes, clause_of}
use Rattle.lines.specs.Fields.{field_of}
use Rattle.lines.specs.Lines.{is_text, line, labels, first_line, tie_of, head_bad, root_line, line_bad, lines_bad, field_cells}
use Rattle.tree.specs.Tree.{parts, structure_bad, definition_of, owner_of, level_of, tree_bad}
use Rattle.paths.specs.Names.{same_name, member}
use Rattle.paths.specs.Paths as paths
use Rattle.reading.specs.Read.{table_short, owned_table, resolved_table, resolved_bad, sheet_cells, sheet_bad, sheet_table, read_bad, read_reply, read_table}
use Rattle.reading.specs.Name.{name_begin, name_size, name_part}
use Rattle.order.specs.Rows16to18.{cycle_bad, order_bad}
use Rattle.evaluation.specs.Evaluation.{on_number, answer_at, outcome_of, body_by, call_by, operation_by, choice_by, entered_by, step_by, with_fuel, outcome, value_outcome}
use Rattle.figures.specs.Figures.{after_rounds}
use Rattle.calls.specs.Buffers.{plan_short, results_short}
use Rattle.calls.specs.Plan.{open_bad, planned_bad, plan_of, plan_bad, plan_reply, plan_cells}
use Rattle.calls.specs.Run.{run_bad, run_reply, run_table, run_plan, run_results}
use Rattle.calls.specs.Follow.{follow_bad, follow_reply, follow_results}
use Rattle.numbers.specs.Numerals.{digits, decimal}
use Rattle.printing.specs.Print.{columns_line, refusal_line, whole_word, mixed_word, value_line, value_lines, print_of}
use Rattle.redoing.specs.Redone.{failing, step_sum}
use Rattle.retouching.specs.Retouch.{changes_short, list_bad, pair_bad, pairs_bad, retouch_bad, retouched, retouch_reply, retouch_table, retouch_plan, retouch_results, retouch_changes}
use Rattle.samples.specs.Sample.{given, said, retouch_given, retouch_said, quotient_given, quotient_said}
use Rattle.samples.specs.Samples.{samples, retouches, divisions}

pub samples_hold : (map given samples ≡ map said samples) × (map retouch_given retouches ≡ map retouch_said retouches)
unfolding samples retouches is_text is_allowed line labels first_line tie_of head_bad field_cells kinds kind_at code_of is_kind is_definition
    is_expression has_body has_path wanted_by takes clause_of field_of label_of number_of decimal_of digits_of digits_value all_digits lines_bad
    line_bad root_line is_name is_path is_letter is_alphanumeric parts structure_bad definition_of owner_of level_of tree_bad same_name
    lowercase_byte member paths.duplicate_bad paths.head_from paths.head_of paths.target_of paths.path_head_bad paths.later_bad paths.target_bad
    paths.paths_bad table_short owned_table resolved_table resolved_bad sheet_cells sheet_bad sheet_table read_bad read_reply read_table name_begin
    name_size name_part cycle_bad plan_short results_short open_bad planned_bad plan_of plan_bad plan_reply plan_cells run_bad run_reply run_table
    run_plan run_results digits decimal columns_line refusal_line whole_word mixed_word value_line value_lines print_of order_bad follow_bad
    follow_reply follow_results after_rounds rounded quotient ranged_of result calculated on_number answer_at outcome_of body_by call_by
    operation_by choice_by entered_by step_by with_fuel outcome value_outcome failing step_sum changes_short list_bad pair_bad pairs_bad retouch_bad
    retouched retouch_reply retouch_table retouch_plan retouch_results retouch_changes
samples_hold = (refl, refl)

-- order 5's quotients, by any tie rule
pub divisions_hold : (tie : Tie) → map (quotient_given tie) divisions ≡ map (quotient_said tie) divisions
unfolding divisions rounded quotient
divisions_hold Away = refl
divisions_hold Even = refl
