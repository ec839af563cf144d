use Rattle.text.proofs.Words.{words_differ}
use Rattle.text.proofs.same_word.Goals as goal

pub returns-then-x-y-2 : goal.returns-then-x-y-2
returns-then-x-y-2 c = words_differ 8 c.args.x c.args.y c.ranges.x.fits c.ranges.y.fits c.if-x-y-2.true
