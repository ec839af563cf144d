-- Words: numbers of eight bytes, so that eight bytes are compared at once. Nothing of this is in a public contract.
use Rattle.std.specs.Prelude.{List, [], ◌∷◌, ℕ, zero, suc, ◌/◌, ◌%◌}

-- the k lowest bytes of a number, the lowest first
abbrev pub bytes_in : ℕ → ℕ → List ℕ
bytes_in zero w = []
bytes_in (suc k) w = w % 256 ∷ bytes_in k (w / 256)
