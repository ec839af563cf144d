-- A text as one reads it. It is ASCII, where a character's code is its byte.
use Rattle.std.specs.Prelude.{List, [], ◌∷◌, ◌++◌, ℕ}
use Prim.Native.Char.{code}
use Prim.Native.String.{String, [] as end, ◌∷◌ as ◌then◌}
use Rattle.cells.specs.Characters.{newline}

-- its bytes
abbrev pub bytes_of : String → List ℕ
bytes_of end = []
bytes_of (c then s) = code c ∷ bytes_of s

-- the bytes of its lines: "lines, each ended by byte 10"
abbrev pub text_of : List String → List ℕ
text_of [] = []
text_of (l ∷ ls) = bytes_of l ++ newline ∷ text_of ls
