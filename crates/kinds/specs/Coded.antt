-- The kinds of the code, each by its code: what the functions promise that read a kind from a cell.
use Rattle.std.specs.Prelude.{List, [], ◌∷◌, ℕ, zero, suc, Option, None, slice_get}
use Rattle.kinds.specs.declared.Kind.{Kind}
use Rattle.kinds.specs.declared.Kind.TheVariants as kind

abbrev pub own_code : Kind → ℕ
own_code kind.Group = 1
own_code kind.Value = 2
own_code kind.Function = 3
own_code kind.Number = 4
own_code kind.Argument = 5
own_code kind.Read = 6
own_code kind.Call = 7
own_code kind.Sum = 8
own_code kind.Difference = 9
own_code kind.Product = 10
own_code kind.Quotient = 11
own_code kind.Choice = 12

-- the kind that has a code
unfoldable pub every_kind : List Kind
every_kind =
    kind.Group ∷ kind.Value ∷ kind.Function ∷ kind.Number ∷ kind.Argument ∷ kind.Read ∷ kind.Call
    ∷ kind.Sum ∷ kind.Difference ∷ kind.Product ∷ kind.Quotient ∷ kind.Choice ∷ []

unfoldable pub kind_with : ℕ → Option Kind
kind_with zero = None
kind_with (suc k) = slice_get every_kind k
