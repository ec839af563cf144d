use native.Mathlib.Omega.{arith}
use Rattle.cells.proofs.Scratch.{long}
use Rattle.reach.proofs.Scratch.{zero_square}
use Rattle.redoing.proofs.Applied.{standing_cut, plan_few, plan_labels}
use Rattle.redoing.proofs.Windows.{none_at}
use Rattle.redoing.proofs.apply_in.Goals as goal

pub mark_pairs-requires-clause-blank : goal.mark_pairs-requires-clause-blank
mark_pairs-requires-clause-blank g c = (zero_square _ g.row.N c.requires.room).1

pub invariant_of-marked : goal.invariant_of-marked
invariant_of-marked g c =
    let st = standing_cut _ _ _ _ _ _ c.requires.appliable.0 in record {
      few = st.accepted.few;
      rows = omega (arith, c.requires.room, long g.row.N, c.mark_pairs.auto.square);
      short = plan_few _ _ _ _ _ st;
      labels = plan_labels _ _ _ _ _ st;
    }

pub find_windows-requires-clause-blank : goal.find_windows-requires-clause-blank
find_windows-requires-clause-blank g c = (omega (arith, c.requires.appliable.0.accepted.few), none_at 1025)
