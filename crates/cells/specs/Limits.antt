-- The limits of document 01, "The sheet", and of rows 11 and 19, each said here alone.
use Rattle.std.specs.Prelude.{ℕ}

-- "A sheet is 1 to 65,536 bytes"
abbrev pub size_limit : ℕ
size_limit = 65536

-- "Then come 1 to 1,024 lines", which have the labels
abbrev pub label_limit : ℕ
label_limit = 1024

-- "A name is 1 to 16 ASCII letters or digits"
abbrev pub name_limit : ℕ
name_limit = 16

-- "A path is 1 to 8 names"
abbrev pub path_limit : ℕ
path_limit = 8

-- a number is "-1000000000 to 1000000000": the largest, and the size of the smallest
abbrev pub number_limit : ℕ
number_limit = 1000000000

-- "level above 32" is refused
abbrev pub level_limit : ℕ
level_limit = 32

-- order 4: a list "above 1,024 pairs" is refused
abbrev pub pair_limit : ℕ
pair_limit = 1024
