-- A list of labels followed position by position.
use mathlib.Core.Path.{◌≡◌, refl}
use mathlib.Core.List.{List, [], ◌∷◌, ◌++◌}
use mathlib.Core.Bool.{Bool, true, false}
use Prim.Native.Nat.{ℕ, suc, ◌+◌, ◌<◌}
use native.Mathlib.Omega.{arith}
use native.Mathlib.Numerals.{add-one}
use lib.IntN.{ℤ, pos}
use lib.ListN.{length, get_or, take, drop, length-map, get_or-map}
use lib.Seq.{take-suc, drop-cons}
use Rattle.cells.specs.Cells.{nat_of, nat_at}
use Rattle.std.specs.Prelude.{Some}
use Rattle.order.specs.LabelLists.{◌∈◌}
use Rattle.order.specs.Following.{labels_of, first_position}
use Rattle.reach.specs.FoundPlace.{found_place}
use Rattle.order.proofs.Tests.{not_so}
use Rattle.order.proofs.Lists.{in_here, in_there}

-- what is found from index i on
abbrev pub onward : (List ℕ → ℕ → Bool) → List ℕ → ℕ → ℕ
onward bad l i = first_position bad (take i l) (i + 1) (drop i l)

module _ (bad : List ℕ → ℕ → Bool) (l : List ℕ) (i : ℕ) where
  pub onward_here : i < length l → bad (take i l) (get_or l i 0) ≡ true → onward bad l i ≡ i + 1
  onward_here h e = rw (drop-cons l i 0 h, e)

  pub onward_turn : i < length l → bad (take i l) (get_or l i 0) ≡ false → onward bad l (i + 1) ≡ onward bad l i
  onward_turn h e = rw (add-one i, add-one (suc i), drop-cons l i 0 h, e, take-suc l i 0 h)

  -- where nothing is found, this label is not bad
  pub onward_fine : i < length l → onward bad l i ≡ 0 → bad (take i l) (get_or l i 0) ≡ false
  onward_fine h z = not_so (bad (take i l) (get_or l i 0)) (λ e. omega (arith, onward_here h e))

-- an index as a position
pub place_at : (i : ℕ) → Some (i + 1) ≡ found_place (i + 1)
place_at i = rw (add-one i)

-- tests that agree on the list's labels find the same
pub same_position : (f g : List ℕ → ℕ → Bool) (l seen : List ℕ) (k : ℕ) → ((a : List ℕ) (v : ℕ) → v ∈ l → f a v ≡ g a v)
    → first_position f seen k l ≡ first_position g seen k l
same_position f g [] seen k h = refl
same_position f g (v ∷ l) seen k h = rw (h seen v (in_here v l), same_position f g l (seen ++ v ∷ []) (suc k) (λ a u m. h a u (in_there u v l m)))

-- ---- cells

pub label_at : (cells : List ℤ) (i : ℕ) → get_or (labels_of cells) i 0 ≡ nat_at cells i
label_at cells i = get_or-map nat_of cells i (pos 0)

pub labels_long : (cells : List ℤ) → length (labels_of cells) ≡ length cells
labels_long cells = length-map cells nat_of
