use native.Mathlib.Omega.{arith}
use Rattle.text.proofs.Words.{Folds, folds}
use Rattle.text.proofs.fold_word.Goals as goal
use Rattle.text.proofs.fold_word.Goals.{Start}

word_folds : (c : Start) → Folds 8 c.args.w
word_folds c = folds 8 c.args.w c.ranges.w.fits

pub overflow_add-capitals : goal.overflow_add-capitals
overflow_add-capitals c = record { fits = omega (arith, (word_folds (goal.at.overflow_add-capitals c).Start).low) }

pub overflow_sub-capitals : goal.overflow_sub-capitals
overflow_sub-capitals c = omega (arith, (word_folds (goal.at.overflow_sub-capitals c).Start).low)

pub overflow_add-result : goal.overflow_add-result
overflow_add-result c = record { fits = (word_folds (goal.at.overflow_add-result c).Start).fits }

pub returns : goal.returns
returns c = (word_folds (goal.at.returns c).Start).bytes
