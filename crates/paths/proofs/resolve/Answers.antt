use Rattle.refusals.proofs.OrElse.{or_next}
use Rattle.paths.specs.Paths.{paths_bad}
use borrow.Author.Rules.{rules}
use Rattle.paths.proofs.resolve.Goals as goal

pub resolve_heads-requires : goal.resolve_heads-requires
resolve_heads-requires c = (c.requires.0, c.link.ensures.all_linked c.in_ok-link.was)

pub returns-in_err-link-clause-value : goal.returns-in_err-link-clause-value
unfolding paths_bad
returns-in_err-link-clause-value c = search rules

pub returns : goal.returns
unfolding paths_bad
returns c =
    let r = c.resolve_heads.ensures in record {
      value = or_next _ _ _ _ c.link.ensures.value c.in_ok-link.was r.value;
      table_after = r.table_after;
    }
