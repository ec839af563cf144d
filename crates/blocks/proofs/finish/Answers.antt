use native.Mathlib.Omega.{arith}
use Rattle.blocks.proofs.finish.Goals as goal

pub leave-requires : goal.leave-requires
leave-requires c =
    record {
      s_le_n = (omega (arith, c.requires.s_lt_n), c.requires.s_lt_n.1, c.requires.s_lt_n.2);
      by_index = c.requires.by_index;
      by_index_2 = c.requires.by_index_2;
    }

pub returns : goal.returns
returns c = record {
  least = c.smallest-least.result;
  smallest = c.smallest-least.ensures;
  left = c.leave.ensures;
}
