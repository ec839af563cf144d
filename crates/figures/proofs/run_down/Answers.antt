use Rattle.figures.proofs.Loop.{listed, settles}
use Rattle.figures.proofs.run_down.Goals as goal

pub evaluate_down-requires : goal.evaluate_down-requires
evaluate_down-requires c = listed _ _ _ _ c.args.sheet.accepted c.requires.0 c.requires.1 c.clear.ensures

pub returns : goal.returns
returns c = settles _ _ _ _ c.args.sheet.accepted c.requires.0 c.requires.1 c.clear.ensures _ c.evaluate_down.ensures
