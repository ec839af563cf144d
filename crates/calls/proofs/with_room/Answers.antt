-- Row 4 of one buffer.
use mathlib.Core.Path.{◌∙◌, ap}
use native.Mathlib.Omega.{arith}
use Rattle.std.specs.Prelude.{Err}
use Rattle.lines.proofs.Heads.{refusal_is}
use Rattle.calls.proofs.Rooms.{room_short, room_long}
use Rattle.calls.proofs.with_room.Goals as goal

pub returns-then-cells-least : goal.returns-then-cells-least
returns-then-cells-least c =
    ap Err (refusal_is c.at.result _ c.args.place c.at.ensures) ∙ room_short c.args.least c.args.cells c.args.place c.args.n (omega arith)

pub returns : goal.returns
returns c = room_long c.args.least c.args.cells c.args.place c.args.n (omega arith)
