use mathlib.Core.Path.{sym}
use Prim.Native.Nat.{◌+◌}
use native.Mathlib.Omega.{arith}
use Rattle.text.proofs.Slices.{slice_none}
use Rattle.paths.proofs.Hashes.{word_bits}
use Rattle.paths.proofs.name_bits.Goals as goal

pub returns-then-size-eq0 : goal.returns-then-size-eq0
returns-then-size-eq0 c =
    let a = c.args in
    sym (rw (slice_none a.text.now a.from (a.from + a.size) (omega arith)))

pub returns : goal.returns
returns c =
    let a = c.args in
    word_bits a.size c.requires.0 a.text.now a.from c.word_at.result (omega arith) (omega (arith, c.word_at.type_inv)) c.word_at.ensures
