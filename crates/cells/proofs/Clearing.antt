-- Laws of `clear_from`: the loop's step and end, and the cleared buffer as two parts.
use mathlib.Core.Path.{◌≡◌, refl, sym, ap, ◌∙◌}
use mathlib.Core.List.{List, [], ◌∷◌, ◌++◌}
use Prim.Native.Nat.{ℕ, suc, zero, ◌+◌, ◌-◌, ◌<◌, ◌≤◌}
use native.Mathlib.Omega.{arith}
use native.Mathlib.Nat.{not-suc-le-zero, le_of_suc-le-suc, sub-zero}
use native.Mathlib.Numerals.{add-one}
use lib.IntN.{ℤ, pos}
use lib.ListN.{length, set, take}
use Rattle.cells.specs.Cells.{zeros}
use Rattle.cells.specs.Clearing.{clear_from}

step : (t : List ℤ) (i : ℕ) → i < length t → clear_from i t ≡ clear_from (suc i) (set t i (pos 0))
step [] i h = absurd (not-suc-le-zero h)
step (x ∷ t) zero h = refl
step (x ∷ t) (suc i) h = ap (λ (l : List ℤ). x ∷ l) (step t i (le_of_suc-le-suc h))

pub clear_step : (t : List ℤ) (i : ℕ) → i < length t → clear_from i t ≡ clear_from (i + 1) (set t i (pos 0))
clear_step t i h = rw add-one (step t i h)

pub clear_done : (t : List ℤ) (i : ℕ) → length t ≤ i → clear_from i t ≡ t
clear_done [] zero h = refl
clear_done [] (suc i) h = refl
clear_done (x ∷ t) zero h = absurd (not-suc-le-zero h)
clear_done (x ∷ t) (suc i) h = ap (λ (l : List ℤ). x ∷ l) (clear_done t i (le_of_suc-le-suc h))

pub clear_all : (t : List ℤ) → clear_from 0 t ≡ zeros (length t)
clear_all [] = refl
clear_all (x ∷ t) = ap (λ (l : List ℤ). pos 0 ∷ l) (clear_all t)

-- cells before i stay, and the others are 0
pub clear_split : (t : List ℤ) (i : ℕ) → i ≤ length t → clear_from i t ≡ take i t ++ zeros (length t - i)
clear_split t zero h = clear_all t ∙ ap zeros (sym (sub-zero (length t)))
clear_split [] (suc i) h = absurd (not-suc-le-zero h)
clear_split (x ∷ t) (suc i) h =
    let e : length t - i ≡ suc (length t) - suc i = omega arith in
    ap (λ (l : List ℤ). x ∷ l) (clear_split t i (le_of_suc-le-suc h) ∙ ap (λ (n : ℕ). take i t ++ zeros n) e)
