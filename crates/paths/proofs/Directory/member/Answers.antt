use mathlib.Core.Path.{ap, ◌∙◌}
use lib.Seq.{slice}
use Rattle.paths.specs.Buckets.{some_label}
use Rattle.paths.proofs.Hashes.{hash_small}
use Rattle.paths.proofs.Chains.{linked_walkable, member_is}
use Rattle.paths.proofs.Directory.member.Goals as goal

pub invariant_of-buckets : goal.invariant_of-buckets
invariant_of-buckets c =
    let d = c.args.self.now in record { names = d.rows.names; walks = λ g h. linked_walkable d.rows d.all g h }

pub member_in-requires : goal.member_in-requires
member_in-requires c =
    let p = c.requires in record { in_table = (p.in_table.0, rw p.in_table.1 (hash_small _)); in_text = p.in_text }

pub returns : goal.returns
returns c =
    let d = c.args.self.now in
    let w = slice c.args.from c.args.to d.index.text.now in
    c.member_in.ensures ∙ ap some_label (member_is d.rows d.all c.args.group c.requires.in_table.0 w c.requires.in_table.1)
