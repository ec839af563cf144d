-- Bytes, which are numbers below 256, and lists of them.
use Rattle.std.specs.Prelude.{◌≡◌, Bool, true, false, cond, ◌&&◌, ◌||◌, ◌⊎◌, List, [], ◌∷◌, ℕ, ◌+◌, ◌-◌, leb, eqb, length, get_or}
use Rattle.cells.specs.Characters.{newline, space, last_printable, capital_a, capital_z, small_a, small_z}
use Rattle.numbers.specs.Decimal.{is_digit}
pub use Rattle.cells.specs.Lists.{one, all}

-- how many bytes pass the test p
abbrev pub count_by : (ℕ → Bool) → List ℕ → ℕ
count_by p [] = 0
count_by p (x ∷ xs) = one (p x) + count_by p xs

-- the same bytes
abbrev pub same : List ℕ → List ℕ → Bool
same [] [] = true
same [] (y ∷ ys) = false
same (x ∷ xs) [] = false
same (x ∷ xs) (y ∷ ys) = eqb x y && same xs ys

-- ---- document 01, "The sheet"

-- a byte is 10 or 32 to 126
unfoldable pub is_allowed : ℕ → Bool
is_allowed x = eqb x newline || (leb space x && leb x last_printable)

-- the byte that ends a line
abbrev pub is_newline : ℕ → Bool
is_newline x = eqb x newline

-- the last byte is a newline
abbrev pub ends_lines : List ℕ → Type 0
ends_lines s = get_or s (length s - 1) 0 ≡ newline

abbrev pub is_capital : ℕ → Bool
is_capital x = leb capital_a x && leb x capital_z

unfoldable pub is_letter : ℕ → Bool
is_letter x = is_capital x || (leb small_a x && leb x small_z)

unfoldable pub is_alphanumeric : ℕ → Bool
is_alphanumeric x = is_letter x || is_digit x

-- ---- document 02, order 1: "Capitals and small letters"

-- the small letter of a capital: 65 to 90 become 97 to 122
abbrev pub small_of : ℕ → ℕ
small_of x = x + (small_a - capital_a)

-- "without regard to the case of ASCII letters": a capital becomes the small letter, and every other byte stays
unfoldable pub lowercase_byte : ℕ → ℕ
lowercase_byte x = cond (is_capital x) (small_of x) x

-- bytes, a small letter for each capital
abbrev pub lowercase : List ℕ → List ℕ
lowercase [] = []
lowercase (x ∷ w) = lowercase_byte x ∷ lowercase w

-- the two cases of one letter: x is the capital, y the small letter
abbrev pub is_two_cases : ℕ → ℕ → Bool
is_two_cases x y = is_capital x && eqb y (small_of x)

-- equal bytes, or the two cases of one letter
abbrev pub SameButCase : ℕ → ℕ → Type 0
SameButCase x y = (x ≡ y) ⊎ ((is_two_cases x y ≡ true) ⊎ (is_two_cases y x ≡ true))
