use Rattle.reach.proofs.Scratch.{zero_square}
use Rattle.following.proofs.check_sized.Goals as goal

pub check_in-requires : goal.check_in-requires
check_in-requires g c = zero_square c.args.sheet.n g.row.WORDS c.requires.0
