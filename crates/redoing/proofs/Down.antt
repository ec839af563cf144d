-- The loop down a part of the plan: what is left of it gives the whole part's results and count.
use mathlib.Core.Path.{◌≡◌, refl, sym, ap, ◌∙◌}
use mathlib.Core.Bool.{Bool, true, false, cond}
use mathlib.Core.List.{List, ◌∷◌}
use Prim.Native.Nat.{ℕ, ◌+◌, ◌≤◌, ◌<◌}
use native.Mathlib.Omega.{arith}
use native.Mathlib.Numerals.{add-one}
use lib.IntN.{ℤ, pos}
use lib.ListN.{length, drop}
use lib.Seq.{drop-cons}
use Rattle.kinds.specs.Kinds.{value_code}
use Rattle.cells.specs.Cells.{nat_at}
use Rattle.cells.specs.Table.{kind}
use Rattle.order.specs.Following.{labels_of}
use Rattle.order.specs.Evaluating.{down}
use Rattle.numbers.specs.declared.Arithmetic.{Arithmetic}
use Rattle.evaluation.specs.Results.{state_at, Recorded}
use Rattle.evaluation.specs.Evaluation.{evaluated}
use Rattle.evaluation.specs.Ready.{Ready, Evaluable}
use Rattle.evaluation.proofs.Stored.{store_length, recorded_still, ready_stored}
use Rattle.figures.specs.Figures.{evaluate_into}
use Rattle.redoing.specs.Redone.{is_redone, redone_of}
use Rattle.redoing.specs.RedoStages.{Tallied, Turned, turns, Redoable}
use Rattle.redoing.specs.declared.Change.{Change}

pub record Going (α : Arithmetic) (t : List ℤ) (n : ℕ) (part : List ℤ) (square : List ℕ) (d : ℕ) (r₀ : List ℤ) (c₀ : Change)
    (r : List ℤ) (c : Change) (i : ℕ) : Type 0 where
  pub asked : Redoable t n r₀ part square d
  pub upto : i ≤ length part
  pub long : length r ≡ length r₀
  pub ready : Ready t r
  pub evaluated : (v : ℕ) → kind t v ≡ value_code → 1 ≤ state_at r v
  pub tallied : Tallied n r c
  pub few : c.redone ≤ i
  pub rest : down (evaluate_into α t) (redone_of t n d (labels_of (drop i part))) r ≡ down (evaluate_into α t) (redone_of t n d (labels_of part)) r₀
  pub counted : c.redone + length (redone_of t n d (labels_of (drop i part))) ≡ c₀.redone + length (redone_of t n d (labels_of part))

module _ (α : Arithmetic) (t : List ℤ) (n : ℕ) (part : List ℤ) (square : List ℕ) (d : ℕ) (r₀ : List ℤ) (c₀ : Change) where
  module _ {r : List ℤ} {c : Change} {i : ℕ} (g : Going α t n part square d r₀ c₀ r c i) where
    next : i < length part → labels_of (drop i part) ≡ nat_at part i ∷ labels_of (drop (i + 1) part)
    next h = rw (add-one, drop-cons part i (pos 0) h) refl

    pub turn_value : {v : ℕ} → i < length part → v ≡ nat_at part i → kind t v ≡ value_code
    turn_value h e = rw e (g.asked.values i h)

    -- the value at hand may be evaluated: every value has been
    pub turn_ready : {v : ℕ} → i < length part → v ≡ nat_at part i → Evaluable t r v
    turn_ready h e = record { ready = g.ready; value = turn_value h e; reached = λ w q _. g.evaluated w q }

    -- a value has been evaluated still
    still : (v : ℕ) → Evaluable t r v → (w : ℕ) → kind t w ≡ value_code → 1 ≤ state_at (evaluate_into α t r v) w
    still v e w q =
        let s = g.ready.recorded w in
        let now : Recorded 1 r w = record { least = g.evaluated w q; most = s.most; ranged = s.ranged } in
        (recorded_still α t r v e 1 (omega arith) w now).least

    -- what is left with a value v in front, by the test of v
    next_left : (b : Bool) {v : ℕ} → i < length part → v ≡ nat_at part i → is_redone t n d v ≡ b
        → redone_of t n d (labels_of (drop i part)) ≡ cond b (v ∷ redone_of t n d (labels_of (drop (i + 1) part))) (redone_of t n d (labels_of (drop (i + 1) part)))
    next_left b {v} h e q =
        ap (redone_of t n d) (next h ∙ ap (λ (x : ℕ). x ∷ labels_of (drop (i + 1) part)) (sym e))
        ∙ ap (λ (a : Bool). cond a (v ∷ redone_of t n d (labels_of (drop (i + 1) part))) (redone_of t n d (labels_of (drop (i + 1) part)))) q

    pub going_turn : {v : ℕ} {r' : List ℤ} {c' : Change} → i < length part → v ≡ nat_at part i → turns square n d v ≡ is_redone t n d v
        → Turned α (turns square n d v) t n v r c r' c' → Going α t n part square d r₀ c₀ r' c' (i + 1)
    going_turn {v} {r'} {c'} h e same w = go (is_redone t n d v) refl (rw same at w)
      where
        go : (b : Bool) → is_redone t n d v ≡ b → Turned α b t n v r c r' c' → Going α t n part square d r₀ c₀ r' c' (i + 1)
        go true q (p, a, s) =
            let f = next_left true h e q in
            let ok = turn_ready h e in
            record {
              asked = g.asked;
              upto = omega arith;
              long = ap length p ∙ store_length r v (evaluated α t r v) ∙ g.long;
              ready = rw p (ready_stored α t r v ok);
              evaluated = λ w k. rw p (still v ok w k);
              tallied = s;
              few = omega (arith, a, g.few);
              rest = ap (down (evaluate_into α t) (redone_of t n d (labels_of (drop (i + 1) part)))) p ∙ ap (λ (l : List ℕ). down (evaluate_into α t) l r) (sym f) ∙ g.rest;
              counted = omega (arith, a, ap length f, g.counted);
            }
        go false q (p, a) =
            let f = next_left false h e q in
            record {
              asked = g.asked;
              upto = omega arith;
              long = ap length p ∙ g.long;
              ready = rw p g.ready;
              evaluated = rw p g.evaluated;
              tallied = rw (p, a) g.tallied;
              few = omega (arith, ap (λ (x : Change). x.redone) a, g.few);
              rest = ap (down (evaluate_into α t) (redone_of t n d (labels_of (drop (i + 1) part)))) p ∙ ap (λ (l : List ℕ). down (evaluate_into α t) l r) (sym f) ∙ g.rest;
              counted = omega (arith, ap (λ (x : Change). x.redone) a, ap length f, g.counted);
            }
