-- What is counted so far, and what is left to count, make the whole count.
use mathlib.Core.Path.{ap, ◌∙◌}
use native.Mathlib.Omega.{arith}
use lib.ListN.{length, length-append}
use Rattle.std.specs.Slice.Iter.{chunks_rest}
use Rattle.text.specs.Bytes.{count_by, is_newline}
use Rattle.text.specs.Scans.{is_bad}
use Rattle.text.proofs.Bytes.{count_append, count_most}
use Rattle.text.proofs.survey.Goals as goal

pub loop-block-preserved : goal.loop-block-preserved
loop-block-preserved c =
    let block = c.in-Some.block.now in
    let rest = chunks_rest c.next.new.self in
    let step = c.in-Some.ensures.steps in
    let counts = c.survey_block-block.ensures in
    let size = ap length step.1.0 ∙ length-append block rest in
    let bad = ap (count_by is_bad) step.1.0 ∙ count_append is_bad block rest in
    let lines = ap (count_by is_newline) step.1.0 ∙ count_append is_newline block rest in
    record {
      size = step.0 ∙ c.loop-block.invariant.size;
      few_bad = omega (arith, counts, c.from-bad.ensures, count_most is_bad block, size);
      few_lines = omega (arith, counts, c.from-lines.ensures, count_most is_newline block, size);
      bad = omega (arith, counts, c.from-bad.ensures, bad);
      lines = omega (arith, counts, c.from-lines.ensures, lines);
    }
