use mathlib.Core.Path.{sym, ◌∙◌, ap}
use Rattle.std.specs.Prelude.{Some, None}
use Rattle.cells.specs.Limits.{number_limit}
use Rattle.numbers.specs.Decimal.{decimal_of}
use Rattle.numbers.proofs.Decimals.{decimal_size, number_stripped, number_bare}
use Rattle.numbers.proofs.read_number.Goals as goal

pub signed-requires : goal.signed-requires
signed-requires c = decimal_size number_limit _ _ (sym c.read_decimal.ensures ∙ c.in_ok-read_decimal-in-Some.was)

pub signed-requires-in-None : goal.signed-requires-in-None
signed-requires-in-None c = decimal_size number_limit _ _ (sym c.read_decimal-in-None.ensures ∙ c.in_ok-read_decimal-in-None.was)

pub returns-in_err-read_decimal-in-Some : goal.returns-in_err-read_decimal-in-Some
returns-in_err-read_decimal-in-Some c =
    c.from_residual.ensures ∙ number_stripped c.args.field.now None c.in-Some.ensures.cases.0
    (sym c.in_err-read_decimal-in-Some.was ∙ c.read_decimal.ensures ∙ ap (decimal_of number_limit) c.in-Some.ensures.cases.1)

pub returns-in_err-read_decimal-in-None : goal.returns-in_err-read_decimal-in-None
returns-in_err-read_decimal-in-None c =
    c.from_residual-in_err-read_decimal-in-None.ensures ∙ number_bare c.args.field.now None c.in-None.ensures.cases (sym c.in_err-read_decimal-in-None.was ∙ c.read_decimal-in-None.ensures)

pub returns-in_ok-read_decimal-in-Some : goal.returns-in_ok-read_decimal-in-Some
returns-in_ok-read_decimal-in-Some c =
    let v = c.in_ok-read_decimal-in-Some.field-0 in
    c.signed.ensures ∙ number_stripped c.args.field.now (Some v) c.in-Some.ensures.cases.0
    (sym c.in_ok-read_decimal-in-Some.was ∙ c.read_decimal.ensures ∙ ap (decimal_of number_limit) c.in-Some.ensures.cases.1)

pub returns-in_ok-read_decimal-in-None : goal.returns-in_ok-read_decimal-in-None
returns-in_ok-read_decimal-in-None c =
    let v = c.in_ok-read_decimal-in-None.field-0 in
    c.signed-in-None.ensures ∙ number_bare c.args.field.now (Some v) c.in-None.ensures.cases (sym c.in_ok-read_decimal-in-None.was ∙ c.read_decimal-in-None.ensures)
