use mathlib.Core.Path.{◌≡◌}
use Prim.Native.Nat.{◌+◌, ◌≤◌}
use lib.ListN.{length}
use Rattle.std.specs.Slice.Iter.{chunks_rest, chunks_size}
use Rattle.text.specs.Bytes.{count_by, is_newline}
use Rattle.text.specs.Scans.{is_bad, block_size}
use Rattle.text.proofs.survey.Given as goal

abbrev pub invariant-loop-block : goal.invariant-loop-block
invariant-loop-block l = record {
  size : chunks_size l.block-iterator ≡ block_size;
  few_bad : l.bad + length (chunks_rest l.block-iterator) ≤ length l.text;
  few_lines : l.lines + length (chunks_rest l.block-iterator) ≤ length l.text;
  bad : l.bad + count_by is_bad (chunks_rest l.block-iterator) ≡ count_by is_bad l.text;
  lines : l.lines + count_by is_newline (chunks_rest l.block-iterator) ≡ count_by is_newline l.text;
}
