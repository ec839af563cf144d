-- The pieces of a list between separators: the lines of a text between newlines, the fields of a line between spaces, the names of a path between dots.
use Rattle.std.specs.Prelude.{Bool, true, false, List, [], ◌∷◌, ◌++◌, ℕ, zero, suc, ◌+◌, eqb, length}

-- a byte put before the first piece; `cut` always gives a piece
abbrev pub onto : ℕ → List (List ℕ) → List (List ℕ)
onto x [] = (x ∷ []) ∷ []
onto x (p ∷ ps) = (x ∷ p) ∷ ps

abbrev pub cut_at : Bool → ℕ → List (List ℕ) → List (List ℕ)
cut_at true x ps = [] ∷ ps
cut_at false x ps = onto x ps

-- the pieces between the bytes b, first piece first, the bytes b left out; what stands after the last b is the last piece
abbrev pub cut : ℕ → List ℕ → List (List ℕ)
cut b [] = [] ∷ []
cut b (x ∷ xs) = cut_at (eqb x b) x (cut b xs)

-- pieces with the byte b between neighbours
abbrev pub joined_with : ℕ → List (List ℕ) → List ℕ
joined_with b [] = []
joined_with b (p ∷ []) = p
joined_with b (p ∷ q ∷ ps) = p ++ b ∷ joined_with b (q ∷ ps)

-- where piece k begins in the list: past each piece before it, and the separator after that; 0 past the last piece
abbrev pub piece_start : List (List ℕ) → ℕ → ℕ
piece_start [] k = 0
piece_start (p ∷ ps) zero = 0
piece_start (p ∷ ps) (suc k) = length p + 1 + piece_start ps k

-- the first piece, which `cut` always gives
abbrev pub first_of : List (List ℕ) → List ℕ
first_of [] = []
first_of (p ∷ ps) = p

-- k pieces, none of them empty
abbrev pub fields_are : ℕ → List (List ℕ) → Bool
fields_are zero [] = true
fields_are zero (f ∷ fs) = false
fields_are (suc k) [] = false
fields_are (suc k) ([] ∷ fs) = false
fields_are (suc k) ((x ∷ f) ∷ fs) = fields_are k fs
