use mathlib.Core.Path.{◌≡◌}
use Prim.Native.Nat.{◌+◌, ◌≤◌}
use lib.ListN.{drop}
use Rattle.text.specs.Bytes.{count_by, is_newline}
use Rattle.text.specs.Scans.{is_bad}
use Rattle.text.proofs.survey_block.Given as goal

abbrev pub invariant-loop-b : goal.invariant-loop-b
invariant-loop-b l = record {
  few_bad : l.bad ≤ l.b-index;
  few_lines : l.lines ≤ l.b-index;
  bad : l.bad + count_by is_bad (drop l.b-index l.block) ≡ count_by is_bad l.block;
  lines : l.lines + count_by is_newline (drop l.b-index l.block) ≡ count_by is_newline l.block;
}
