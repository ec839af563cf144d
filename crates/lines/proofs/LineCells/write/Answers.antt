use Rattle.std.proofs.Common.{rules}
use lib.IntN.{pos}
use mir.Syntax.{w64}
use mir.Val.{to_z, of_z}
use Rattle.lines.proofs.Pass.{eight_set}
use Rattle.lines.proofs.LineCells.write.Goals as goal

pub returns : goal.returns
returns c =
    let s = c.args.self in
    rw (eight_set c.args.row.now (to_z w64 (of_z w64 s.code)) (to_z w64 (of_z w64 s.start)) (to_z w64 (of_z w64 s.length)) (to_z w64 (of_z w64 s.a)) (to_z w64 (of_z w64 s.b))
    (to_z w64 (of_z w64 s.c)) (pos 0) (pos 0) c.requires) (search rules)
