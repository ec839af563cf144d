use Rattle.reach.proofs.Scratch.{zero_square}
use Rattle.planning.proofs.plan_in.Goals as goal

pub find_cycle-requires-clause-blank : goal.find_cycle-requires-clause-blank
find_cycle-requires-clause-blank g c = (zero_square c.args.sheet.n g.row.S c.requires.room.0).1
