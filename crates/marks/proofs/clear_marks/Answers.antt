use mathlib.Core.Path.{◌≡◌, ap, ◌∙◌}
use mathlib.Core.List.{List}
use Prim.Native.Nat.{ℕ, ◌<◌}
use native.Mathlib.Omega.{arith}
use borrow.Author.Rules.{rules}
use lib.ListN.{length, get_or, take, drop, replicate, get_or-append}
use lib.Seq.{length-take-le}
use Rattle.std.proofs.lemmas.List.{get_or-replicate}
use Rattle.marks.proofs.Squares.{marks_clear}
use Rattle.marks.proofs.clear_marks.Goals as goal

pub returns : goal.returns
returns c =
    let n : length (take c.args.w c.args.s.now) ≡ c.args.w = length-take-le _ _ c.requires in
    let e : c.fill.new.self ≡ replicate (length (take c.args.w c.args.s.now)) 0 = c.fill.ensures.after (search rules) in
    marks_clear _ _ (λ i h.
    let l : i < length c.fill.new.self = omega (arith, c.fill.ensures.len) in
    get_or-append c.fill.new.self (drop c.args.w c.args.s.now) 0 i l ∙ ap (λ (l : List ℕ). get_or l i 0) e ∙ get_or-replicate _ i 0 0 (omega arith))
