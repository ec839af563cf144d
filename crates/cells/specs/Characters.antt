-- The bytes of document 01, "The sheet", each said here alone: a number where the paper has one, else the character, whose code in ASCII
-- is its byte.
use Rattle.std.specs.Prelude.{ℕ}
use Prim.Native.Char.{code}

-- "lines, each ended by byte 10"
abbrev pub newline : ℕ
newline = 10

-- "all others are 32 to 126", the printable characters; the first of them is the space, "one space between fields"
abbrev pub space : ℕ
space = 32

abbrev pub last_printable : ℕ
last_printable = 126

-- "names joined by dots"
abbrev pub dot : ℕ
dot = code "."

-- "`-` alone is a missing field"; before digits it is the sign of a number
abbrev pub hyphen : ℕ
hyphen = code "-"

-- "decimal": the first digit and the last
abbrev pub digit_zero : ℕ
digit_zero = code "0"

abbrev pub digit_nine : ℕ
digit_nine = code "9"

-- "ASCII letters": the first and the last of each alphabet
abbrev pub capital_a : ℕ
capital_a = code "A"

abbrev pub capital_z : ℕ
capital_z = code "Z"

abbrev pub small_a : ℕ
small_a = code "a"

abbrev pub small_z : ℕ
small_z = code "z"
