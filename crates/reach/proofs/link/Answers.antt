use mathlib.Core.Path.{◌≡◌, sym, ◌∙◌, subst}
use mathlib.Core.List.{List}
use Prim.Native.Nat.{ℕ, ◌+◌, ◌-◌, ◌≤◌}
use native.Mathlib.Omega.{arith}
use lib.IntN.{ℤ}
use lib.ListN.{get_or, set, length-set}
use Rattle.cells.specs.Table.{cell}
use Rattle.cells.specs.Reaches.{HasPath}
use Rattle.cells.specs.Accepted.{Accepted}
use Rattle.order.proofs.Tests.{both_ways}
use Rattle.reach.specs.Links.{Column}
use Rattle.reach.specs.Chains.{Hangs, ChainedTo}
use Rattle.reach.proofs.Links.{body_label, path_label, end_body, other_column}
use Rattle.reach.proofs.Chaining.{linked_none, linked_skip, linked_push}
use Rattle.reach.proofs.link.Goals as goal
use Rattle.reach.proofs.link.Goals.{After-cell-d, else-has_path, then-has_path}

-- a line with a path hangs at a label
low : (t : List ℤ) (n j l d : ℕ) → Accepted t n → Column j → Hangs t j d l → d ≤ n
low t n j l d ok col h =
    omega (arith, body_label t n ok (cell t l (13 - j)) (end_body t n ok (13 - j) l (other_column t n ok j col) h.path), h.from)

at_label : (c : After-cell-d) → c.cell-d.result ≤ c.args.sheet.n
at_label c =
    low _ _ _ c.loop-l.l _ c.args.sheet.accepted c.requires.column (record {
      path = sym c.has_path.ensures ∙ c.if-has_path.true;
      from = sym c.cell-d.ensures;
    })

pub loop-l-init : goal.loop-l-init
loop-l-init c = linked_none _ _ _ _ c.requires.empty (λ l h d p. omega (arith, (path_label _ _ c.args.sheet.accepted l p.path).0))

pub offset_bounds-chains-d : goal.offset_bounds-chains-d
offset_bounds-chains-d c = omega (arith, at_label (goal.at.offset_bounds-chains-d c).After-cell-d, c.args.sheet.accepted.few)

pub bounds-chains-d : goal.bounds-chains-d
bounds-chains-d c = omega (arith, at_label (goal.at.bounds-chains-d c).After-cell-d, c.requires.room, c.loop-l.auto.chains)

pub offset_bounds-chains-d-then-has_path : goal.offset_bounds-chains-d-then-has_path
offset_bounds-chains-d-then-has_path c = omega (arith, at_label (goal.at.offset_bounds-chains-d-then-has_path c).After-cell-d, c.args.sheet.accepted.few)

pub bounds-chains-d-then-has_path : goal.bounds-chains-d-then-has_path
bounds-chains-d-then-has_path c = simp length-set (omega (arith, at_label (goal.at.bounds-chains-d-then-has_path c).After-cell-d, c.requires.room, c.loop-l.auto.chains))

pub loop-l-preserved : goal.loop-l-preserved
loop-l-preserved c =
    let t = c.args.sheet.cells.now in
    let n = c.args.sheet.n in
    let j = c.args.column in
    let k : c.loop-l.l ≡ c.loop-l.l - 1 + 1 = omega (arith, c.loop-l.auto.l) in
    let z : c.loop-l.l + 1 - 1 ≡ c.loop-l.l - 1 + 1 = omega (arith, c.loop-l.auto.l) in
    elim c.if-has_path.branch [
      | then-has_path w ↦ let h : Hangs t j w.cell-d.result c.loop-l.l = record { path = sym c.has_path.ensures ∙ w.if-has_path.true; from = sym w.cell-d.ensures } in
          rw (w.chains-is, z) (
          subst (λ (x : ℕ). ChainedTo t n j (c.loop-l.l - 1 + 1) (set (set c.loop-l.chains (n + x) (get_or c.loop-l.chains w.cell-d.result 0)) w.cell-d.result x)) (sym k)
          (linked_push _ _ _ _ _ c.loop-l.invariant _ (subst (Hangs t j w.cell-d.result) k h) (low _ _ _ _ _ c.args.sheet.accepted c.requires.column h)
          (omega (arith, c.loop-l-test.true)) (omega (arith, c.requires.room, c.loop-l.auto.chains)) (λ x d h. (path_label _ _ c.args.sheet.accepted x h.path).0))
          )
      | else-has_path w ↦ rw (w.chains-is, z)
          (linked_skip _ _ _ _ _ c.loop-l.invariant (λ d h. both_ways _ (subst (HasPath t) (sym k) h.path) (sym c.has_path.ensures ∙ w.if-has_path.false)))
    ]

pub returns : goal.returns
returns c =
    let z : c.loop-l.l - 1 ≡ c.args.sheet.n = omega (arith, c.loop-l-test.false, c.loop-l.auto.l, c.loop-l.auto.l-end) in
    subst (λ (k : ℕ). ChainedTo c.args.sheet.cells.now c.args.sheet.n c.args.column k c.loop-l.chains) z c.loop-l.invariant
