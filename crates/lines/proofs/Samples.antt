-- Small sheets about each of rows 1 to 3 and 5 to 7, as facts that the checker computes.
use mathlib.Core.Path.{◌≡◌, refl, ap}
use mathlib.Core.List.{List, [], ◌∷◌, ◌++◌, map}
use Prim.Native.Nat.{ℕ}
use Rattle.numbers.specs.Decimal.{all_digits, digits_value, digits_of, decimal_of, number_of}
use Rattle.numbers.specs.declared.Tie.TheVariants.{Away, Even}
use Rattle.refusals.specs.Refusal.{Verdict, Fine, Refused, refusal_of, reply_of, or_else}
use Rattle.refusals.specs.declared.Row.TheVariants as row
use Rattle.text.specs.Bytes.{is_allowed, is_letter, is_alphanumeric}
use Rattle.text.specs.Forms.{is_name, is_path, label_of}
use Rattle.cells.specs.Quoted.{bytes_of, text_of}
use Rattle.kinds.specs.Kinds.{kinds, kind_at, code_of}
use Rattle.lines.specs.Fields.{field_of}
use Rattle.lines.specs.Lines.{is_text, line, labels, first_line, tie_of, head_bad, root_line, line_bad, lines_bad}

-- sheets
unfoldable sheets : List (List ℕ)
sheets =
    -- a byte not allowed: a tabulator
    (text_of ("kind name a b c" ∷ []) ++ bytes_of "G" ++ 9 ∷ text_of ("- 0 - -" ∷ []))
    -- no newline at the end
    ∷ (text_of ("kind name a b c" ∷ []) ++ bytes_of "G - 0 - -")
    -- another line one
    ∷ text_of ("kind name a b d" ∷ "G - 0 - -" ∷ [])
    -- a third name of a rule
    ∷ text_of ("kind3 name a b c" ∷ "G - 0 - -" ∷ [])
    -- halves to even
    ∷ text_of ("kind2 name a b c" ∷ "G - 0 - -" ∷ [])
    -- a second line of column names is the line of label 1
    ∷ text_of ("kind2 name a b c" ∷ "kind name a b c" ∷ "G - 0 - -" ∷ [])
    -- column names further down alone
    ∷ text_of ("G - 0 - -" ∷ "kind2 name a b c" ∷ [])
    -- no label
    ∷ text_of ("kind name a b c" ∷ [])
    -- label 1 alone
    ∷ text_of ("kind name a b c" ∷ "G - 0 - -" ∷ [])
    -- label 1 not as it must be
    ∷ text_of ("kind name a b c" ∷ "G - 1 - -" ∷ [])
    -- an empty field, in a line of unknown kind
    ∷ text_of ("kind name a b c" ∷ "G - 0 - -" ∷ "X  1 - -" ∷ [])
    -- unknown kind, with a field of wrong form
    ∷ text_of ("kind name a b c" ∷ "G - 0 - -" ∷ "X - - 0 -" ∷ [])
    -- a label above n
    ∷ text_of ("kind name a b c" ∷ "G - 0 - -" ∷ "V v 1 3 -" ∷ [])
    -- minus zero
    ∷ text_of ("kind name a b c" ∷ "G - 0 - -" ∷ "N - -0 - -" ∷ [])
    -- a leading zero
    ∷ text_of ("kind name a b c" ∷ "G - 0 - -" ∷ "N - 00 - -" ∷ [])
    -- the smallest number
    ∷ text_of ("kind name a b c" ∷ "G - 0 - -" ∷ "N - -1000000000 - -" ∷ [])
    -- a number below the smallest
    ∷ text_of ("kind name a b c" ∷ "G - 0 - -" ∷ "N - -1000000001 - -" ∷ [])
    -- a name of seventeen bytes
    ∷ text_of ("kind name a b c" ∷ "G - 0 - -" ∷ "G abcdefghijklmnopq 1 - -" ∷ [])
    -- a path of nine names
    ∷ text_of ("kind name a b c" ∷ "G - 0 - -" ∷ "R a.a.a.a.a.a.a.a.a - - -" ∷ [])
    -- a path of eight names
    ∷ text_of ("kind name a b c" ∷ "G - 0 - -" ∷ "R a.a.a.a.a.a.a.a - - -" ∷ [])
    ∷ []

-- what rows 1 to 7, row 4 aside, find in each
abbrev text_bad : List ℕ → Verdict
text_bad s = or_else (head_bad s) (lines_bad s (labels s))

found : map text_bad sheets ≡ Refused row.Text 0
    ∷ Refused row.Text 0
    ∷ Refused row.FirstLine 0
    ∷ Refused row.FirstLine 0
    ∷ Fine
    ∷ Refused row.Kind 1
    ∷ Refused row.FirstLine 0
    ∷ Refused row.Labels 0
    ∷ Fine
    ∷ Refused row.Form 1
    ∷ Refused row.Fields 2
    ∷ Refused row.Kind 2
    ∷ Refused row.Form 2
    ∷ Refused row.Form 2
    ∷ Refused row.Form 2
    ∷ Fine
    ∷ Refused row.Form 2
    ∷ Refused row.Form 2
    ∷ Refused row.Form 2
    ∷ Fine
    ∷ []
unfolding sheets head_bad is_text is_allowed labels line first_line lines_bad line_bad root_line kinds kind_at code_of field_of is_name is_path is_letter
    is_alphanumeric label_of number_of decimal_of digits_of digits_value all_digits
found = refl

-- in the paper's numbers, 0 for nothing
abbrev numbered : Verdict → ℕ
numbered v = refusal_of (reply_of v 0)

found_numbered : map numbered (map text_bad sheets) ≡ 1 ∷ 1 ∷ 2 ∷ 2 ∷ 0 ∷ 6 ∷ 2 ∷ 3 ∷ 0 ∷ 7 ∷ 5 ∷ 6 ∷ 7 ∷ 7 ∷ 7 ∷ 0 ∷ 7 ∷ 7 ∷ 7 ∷ 0 ∷ []
found_numbered = ap (map numbered) found

-- the rule goes by the first line alone
tie_rules : map tie_of
    (text_of ("kind name a b c" ∷ "G - 0 - -" ∷ [])
    ∷ text_of ("kind2 name a b c" ∷ "G - 0 - -" ∷ [])
    ∷ text_of ("kind name a b c" ∷ "kind2 name a b c" ∷ [])
    ∷ text_of ("kind2 name a b c" ∷ "kind name a b c" ∷ [])
    ∷ [])
    ≡ Away ∷ Even ∷ Away ∷ Even ∷ []
unfolding tie_of line first_line
tie_rules = refl
