use Prim.Native.Nat.{◌+◌, ◌*◌, ◌/◌, ◌%◌}
use lib.ListN.{get_or}
use mathlib.Core.Path.{sym, ◌∙◌}
use Rattle.marks.proofs.Squares.{inside}
use Rattle.marks.proofs.Bits.{bit_shift}
use Rattle.marks.proofs.has_mark.Goals as goal

pub returns : goal.returns
returns c =
    let args = c.args in
    bit_shift (get_or args.s.now (args.p * args.w + args.q / 64) 0) (args.q % 64) ∙ sym (inside args.s.now args.w args.p args.q c.requires.0)
