-- What is left of a row of marks after the labels of a list are taken from it.
use mathlib.Core.Path.{◌≡◌, refl, sym, ap, ◌∙◌, subst}
use mathlib.Core.List.{List, [], ◌∷◌, ◌++◌}
use mathlib.Core.Bool.{Bool, true, false, not, ◌&&◌, ◌||◌, and-false}
use Prim.Native.Nat.{ℕ, ◌+◌, ◌*◌, ◌<◌}
use native.Mathlib.Omega.{arith}
use native.Mathlib.Decide.{ℕ_discrete}
use native.Mathlib.Numerals.{add-one}
use lib.Dec.{ltb}
use lib.IntN.{ℤ}
use lib.ListN.{length, get_or, take}
use lib.Seq.{take-suc}
use Rattle.cells.specs.Cells.{nat_at}
use Rattle.order.specs.LabelLists.{count, ◌∈◌, mem, up_from, any}
use Rattle.order.specs.Following.{labels_of}
use Rattle.order.proofs.Tests.{not_so, and_left, and_right, and_intro}
use Rattle.order.proofs.Lists.{count_append, count_there, count_up_from, any_true, any_intro, mem_of, in_right, in_here}
use Rattle.marks.specs.Marks.{mark, Dropped}
use Rattle.marks.proofs.Squares.{mark_in}
use Rattle.following.specs.Left.{Left, lacks, awaits, Meets}
use Rattle.following.proofs.Steps.{onward, onward_here, onward_turn, onward_fine, label_at, labels_long}

not_or : (a b : Bool) → (not a || b) ≡ not (a && not b)
not_or true true = refl
not_or true false = refl
not_or false b = refl

module _ (row : List ℕ) (w : ℕ) (seen left : List ℕ) (is : Left row w seen left) where
  -- one label more
  pub left_drop : (v : ℕ) (left' : List ℕ) → Dropped left left' w 0 v → Left row w (seen ++ v ∷ []) left'
  left_drop v left' d q = go (ℕ_discrete q v)
    where
      go : Dec (q ≡ v) → mark left' w 0 q ≡ (mark row w 0 q && not (mem q (seen ++ v ∷ [])))
      go (yes z) =
          let m : mem q (seen ++ v ∷ []) ≡ true = mem_of q (seen ++ v ∷ []) (in_right q seen (v ∷ []) (subst (λ (x : ℕ). q ∈ x ∷ []) z (in_here q []))) in
          ap (mark left' w 0) z ∙ d.gone ∙ sym (rw m (and-false (mark row w 0 q)))
      go (no z) =
          let c : count q (seen ++ v ∷ []) ≡ count q seen = omega (arith, count_append q seen (v ∷ []), count_there q v [] z) in
          d.others 0 q (λ _ y. z y) ∙ is q ∙ ap (λ (x : ℕ). mark row w 0 q && not (ltb 0 x)) (sym c)

  -- row 17's test
  pub lacks_is : (v : ℕ) → lacks row w seen v ≡ not (mark left w 0 v)
  unfolding lacks
  lacks_is v = not_or (mark row w 0 v) (mem v seen) ∙ ap not (sym (is v))

  pub held_is : (v : ℕ) → lacks row w seen v ≡ false → mark left w 0 v ≡ true
  held_is v e = go (mark left w 0 v) (sym (lacks_is v) ∙ e)
    where
      go : (b : Bool) → not b ≡ false → b ≡ true
      go true z = refl
      go false z = sym z

  pub held_row : (v : ℕ) → mark left w 0 v ≡ true → mark row w 0 v ≡ true
  held_row v m = and_left (mark row w 0 v) (not (mem v seen)) (sym (is v) ∙ m)

  -- row 18's test
  module _ (square : List ℕ) (v : ℕ) where
    pub awaits_met : Meets square left w v → awaits square row w seen v ≡ true
    unfolding awaits
    awaits_met m =
        any_intro (λ q. mark square w v q && (mark row w 0 q && not (mem q seen))) (up_from 0 (64 * w)) m.at
        (omega (arith, count_up_from m.at 0 (64 * w) (omega arith) (omega (arith, mark_in left w 0 m.at m.there))))
        (and_intro (mark square w v m.at) (mark row w 0 m.at && not (mem m.at seen)) m.here (sym (is m.at) ∙ m.there))

    pub awaits_none : (Meets square left w v → ⊥) → awaits square row w seen v ≡ false
    unfolding awaits
    awaits_none h = not_so (any (λ q. mark square w v q && (mark row w 0 q && not (mem q seen))) (up_from 0 (64 * w))) (λ e.
        let x = any_true (λ q. mark square w v q && (mark row w 0 q && not (mem q seen))) (up_from 0 (64 * w)) e in
        let q = x.0 in
        h (record {
          at = q;
          here = and_left (mark square w v q) (mark row w 0 q && not (mem q seen)) x.2;
          there = is q
              ∙ and_right (mark square w v q) (mark row w 0 q && not (mem q seen)) x.2;
        }))

-- ---- the turns of a pass over an order list: index i, whose label is v

module _ (cells : List ℤ) (row : List ℕ) (w i : ℕ) (left : List ℕ) (is : Left row w (take i (labels_of cells)) left) (here : i < length cells) (v : ℕ) (e : v ≡ nat_at cells i) where
  label : get_or (labels_of cells) i 0 ≡ v
  label = label_at cells i ∙ sym e

  short : i < length (labels_of cells)
  short = omega (arith, labels_long cells)

  pub left_turn : (left' : List ℕ) → Dropped left left' w 0 v → Left row w (take (i + 1) (labels_of cells)) left'
  left_turn left' d =
      let s : take (i + 1) (labels_of cells) ≡ take i (labels_of cells) ++ v ∷ [] = rw (add-one i, take-suc (labels_of cells) i 0 short, label) in
      subst (λ (x : List ℕ). Left row w x left') (sym s) (left_drop row w (take i (labels_of cells)) left is v left' d)

  pub wrong_here : mark left w 0 v ≡ false → onward (lacks row w) (labels_of cells) i ≡ i + 1
  wrong_here m = onward_here (lacks row w) (labels_of cells) i short (rw label (lacks_is row w (take i (labels_of cells)) left is v ∙ ap not m))

  pub wrong_turn : mark left w 0 v ≡ true → onward (lacks row w) (labels_of cells) (i + 1) ≡ onward (lacks row w) (labels_of cells) i
  wrong_turn m = onward_turn (lacks row w) (labels_of cells) i short (rw label (lacks_is row w (take i (labels_of cells)) left is v ∙ ap not m))

  pub label_held : onward (lacks row w) (labels_of cells) i ≡ 0 → mark left w 0 v ≡ true
  label_held z = held_is row w (take i (labels_of cells)) left is v (rw label at (onward_fine (lacks row w) (labels_of cells) i short z))

  module _ (square : List ℕ) where
    pub early_here : Meets square left w v → onward (awaits square row w) (labels_of cells) i ≡ i + 1
    early_here m = onward_here (awaits square row w) (labels_of cells) i short (rw label (awaits_met row w (take i (labels_of cells)) left is square v m))

    pub early_turn : (Meets square left w v → ⊥) → onward (awaits square row w) (labels_of cells) (i + 1) ≡ onward (awaits square row w) (labels_of cells) i
    early_turn h = onward_turn (awaits square row w) (labels_of cells) i short (rw label (awaits_none row w (take i (labels_of cells)) left is square v h))
