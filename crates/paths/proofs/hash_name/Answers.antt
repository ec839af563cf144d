use mathlib.Core.Path.{◌≡◌, sym, ap, ◌∙◌}
use Prim.Native.Nat.{◌+◌, ◌<◌}
use native.Mathlib.Omega.{arith}
use lib.Seq.{slice}
use Rattle.text.proofs.Slices.{take_slice}
use Rattle.paths.specs.Buckets.{bits_of, add_word}
use Rattle.paths.proofs.Hashes.{add_small, second_part, short_hash, long_hash}
use Rattle.paths.proofs.hash_name.Goals as goal

pub name_bits-requires : goal.name_bits-requires
name_bits-requires c = (omega (arith, c.min.ensures), omega (arith, c.min.ensures))

pub returns-then-size-le8 : goal.returns-then-size-le8
returns-then-size-le8 c =
    let s = c.args.text.now in
    let from = c.args.from in
    let to = c.args.to in
    let end : from + c.min.result ≡ to = omega (arith, c.min.ensures, c.if-size-le8.true) in
    c.add_word-first.ensures
    ∙ ap (add_word 0) (c.name_bits.ensures ∙ ap (λ e. bits_of (slice from e s)) end)
    ∙ short_hash s from to c.requires.1 c.if-size-le8.true

pub name_bits-requires-2 : goal.name_bits-requires-2
name_bits-requires-2 c = (omega (arith, c.min-2.ensures), omega (arith, c.min-2.ensures, c.if-size-le8.false))

pub add_word-requires : goal.add_word-requires
add_word-requires c = rw c.add_word-first.ensures (add_small 0 c.name_bits.result)

pub returns : goal.returns
returns c =
    let s = c.args.text.now in
    let from = c.args.from in
    let to = c.args.to in
    let more : from + 8 < to = omega (arith, c.if-size-le8.false) in
    let end : from + c.min.result ≡ from + 8 = omega (arith, c.min.ensures, c.if-size-le8.false) in
    c.add_word.ensures
    ∙ ap (λ h. add_word h c.name_bits-2.result) c.add_word-first.ensures
    ∙ long_hash s from to c.requires.1 c.if-size-le8.false
    (c.name_bits.ensures ∙ ap (λ e. bits_of (slice from e s)) end ∙ ap bits_of (sym (take_slice from 8 to s (omega (arith, c.if-size-le8.false)))))
    (c.name_bits-2.ensures ∙ ap bits_of (second_part s from to c.min-2.result more c.requires.1 c.min-2.ensures))
