-- The rows of document 01's table "Where each refusal is found", in its order, with its words; then those of document 02's orders.
use Rattle.std.specs.Prelude.{ℕ}
use Rattle.refusals.specs.declared.Row.{Row}
use Rattle.refusals.specs.declared.Row.TheVariants.{Text, FirstLine, Labels, Buffers, Fields, Kind, Form, Structure, Uses, Argument, Level, Duplicate, Head, Later, Target}
use Rattle.refusals.specs.declared.Row.TheVariants.{Cycle, Listed, Early, Pairs, PairLabel, PairNumber}

-- the number that the papers give each row
abbrev pub row_number : Row → ℕ
row_number Text = 1
row_number FirstLine = 2
row_number Labels = 3
row_number Buffers = 4
row_number Fields = 5
row_number Kind = 6
row_number Form = 7
row_number Structure = 8
row_number Uses = 9
row_number Argument = 10
row_number Level = 11
row_number Duplicate = 12
row_number Head = 13
row_number Later = 14
row_number Target = 15
row_number Cycle = 16
row_number Listed = 17
row_number Early = 18
row_number Pairs = 19
row_number PairLabel = 20
row_number PairNumber = 21

-- length, last byte or a byte not allowed
abbrev pub text_row : Row
text_row = Text

-- line one differs
abbrev pub first_line_row : Row
first_line_row = FirstLine

-- n is 0 or above 1,024
abbrev pub labels_row : Row
labels_row = Labels

-- a lent buffer is too short
abbrev pub buffers_row : Row
buffers_row = Buffers

-- not five fields, or an empty one
abbrev pub fields_row : Row
fields_row = Fields

-- unknown kind
abbrev pub kind_row : Row
kind_row = Kind

-- a field of wrong form, or label 1 not as it must be
abbrev pub form_row : Row
form_row = Form

-- from label 2, a definition's Group field is not a G with a label below its own; or a body or operand is not an expression with a
-- label above its own line's
abbrev pub structure_row : Row
structure_row = Structure

-- an expression used by no field, or by two or more
abbrev pub uses_row : Row
uses_row = Uses

-- P owned by a V
abbrev pub argument_row : Row
argument_row = Argument

-- level above 32
abbrev pub level_row : Row
level_row = Level

-- a smaller label in its Group has that name
abbrev pub duplicate_row : Row
duplicate_row = Duplicate

-- head not found
abbrev pub head_row : Row
head_row = Head

-- a later name not found, or asked of a V or F
abbrev pub later_row : Row
later_row = Later

-- target of the wrong kind
abbrev pub target_row : Row
target_row = Target

-- V reaches itself
abbrev pub cycle_row : Row
cycle_row = Cycle

-- an order list: a position that is no V label or repeats one, or a V is missing
abbrev pub listed_row : Row
listed_row = Listed

-- an order list: a position whose label reaches a V not listed earlier
abbrev pub early_row : Row
early_row = Early

-- order 4, a list of pairs: "an odd list or above 1,024 pairs"
abbrev pub pairs_row : Row
pairs_row = Pairs

-- "a label that is no N line"
abbrev pub pair_label_row : Row
pair_label_row = PairLabel

-- "a number out of range"
abbrev pub pair_number_row : Row
pair_number_row = PairNumber
