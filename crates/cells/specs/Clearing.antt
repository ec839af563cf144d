-- A lent buffer cleared.
use Rattle.std.specs.Prelude.{ℕ, zero, suc, List, [], ◌∷◌, ℤ, pos}

-- every cell from index i on is 0
abbrev pub clear_from : ℕ → List ℤ → List ℤ
clear_from zero [] = []
clear_from zero (x ∷ t) = pos 0 ∷ clear_from zero t
clear_from (suc i) [] = []
clear_from (suc i) (x ∷ t) = x ∷ clear_from i t
