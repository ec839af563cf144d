-- The rule of placing: of some items, repeatedly the smallest not yet placed whose needed items are all placed. It orders the members of a
-- Group by what they need, and the mixed list by what its values reach.
use Rattle.std.specs.Prelude.{List, [], ◌∷◌, ◌++◌, Bool, not, ◌&&◌, ℕ, zero, suc, eqb, length}
use Rattle.std.proofs.Math.Option.{Option, none, some}
use Rattle.order.specs.LabelLists.{mem, any, first}

-- p needs an item that is not among those done
abbrev pub waits : (ℕ → ℕ → Bool) → List ℕ → List ℕ → ℕ → Bool
waits needs items done p = any (λ q. needs p q && not (mem q done)) items

-- the item to place after those done: the first, and so the smallest where items go upward
abbrev pub next : (ℕ → ℕ → Bool) → List ℕ → List ℕ → Option ℕ
next needs items done = first (λ p. not (mem p done) && not (waits needs items done p)) items

abbrev pub place_next : Option ℕ → List ℕ → (ℕ → List ℕ) → List ℕ
place_next none done more = done
place_next (some p) done more = more p

-- at most k more, as long as there is one
abbrev pub rounds : (ℕ → ℕ → Bool) → List ℕ → ℕ → List ℕ → List ℕ
rounds needs items zero done = done
rounds needs items (suc k) done = place_next (next needs items done) done (λ p. rounds needs items k (done ++ p ∷ []))

abbrev pub placed : (ℕ → ℕ → Bool) → List ℕ → List ℕ
placed needs items = rounds needs items (length items) []

-- stuck: an item is left over
abbrev pub stuck : (ℕ → ℕ → Bool) → List ℕ → Bool
stuck needs items = not (eqb (length (placed needs items)) (length items))
