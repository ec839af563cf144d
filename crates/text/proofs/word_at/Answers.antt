use mathlib.Core.Path.{ap, ◌∙◌}
use mathlib.Core.List.{List}
use Prim.Native.Nat.{ℕ, ◌+◌}
use native.Mathlib.Omega.{arith}
use lib.ListN.{take}
use lib.Seq.{slice, length-slice}
use Rattle.std.proofs.lemmas.Option.{MatchOption-at_some}
use Rattle.text.proofs.Slices.{lent, take_slice, slice_below}
use Rattle.text.proofs.Words.{word_bytes}
use Rattle.text.proofs.word_at.Goals as goal

pub returns : goal.returns
returns c =
    let s = c.args.text.now in
    let i = c.args.from in
    let k = MatchOption-at_some _ _ c.unwrap.result c.unwrap.ensures c.first_chunk.ensures.cases in
    let same = k.same ∙ ap (λ (l : List ℕ). take 8 l) (lent s i (i + 8) (omega arith)) ∙ take_slice i 8 (i + 8) s (omega arith) in
    word_bytes c.from_le_bytes.result (slice i (i + 8) s) (omega (arith, length-slice i (i + 8) s c.requires))
    (slice_below 256 i (i + 8) s (omega arith) (λ j. (c.type_inv.text j).fits)) (rw same at c.from_le_bytes.ensures)
