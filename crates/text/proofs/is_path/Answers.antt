-- The pieces between dots are counted, and each is asked for a name.
use mathlib.Core.Path.{◌≡◌}
use native.Mathlib.Omega.{arith}
use lib.Dec.{eqb}
use borrow.Author.Tests.{lt-leb}
use lib.ListN.{length}
use Rattle.std.specs.List.{slice_split}
use Rattle.std.proofs.Common.{rules, tests}
use Rattle.std.proofs.lemmas.Iterator.Consumers.{count_from_yields_List}
use Rattle.std.proofs.lemmas.Iterator.Search.{all_from_yields_List}
use Rattle.std.proofs.lemmas.Iterator.Splits.{YieldsList-from_slice_split}
use Rattle.cells.specs.Characters.{dot}
use Rattle.text.specs.Forms.{is_name}
use Rattle.text.proofs.Names.{path_by, path_long}
use Rattle.text.proofs.is_path.Goals as goal
use Rattle.text.proofs.is_path.Goals.{After-count}

pieces : (c : After-count) → c.count.result ≡ length (slice_split (λ x. eqb x dot) c.args.field.now)
pieces c =
    let s = c.split.ensures in
    count_from_yields_List _ _ c.count.ensures.ran (YieldsList-from_slice_split _ (λ x. eqb x dot) c.args.field.now s.rest s.done s.closure (λ x b q k. search (rules, tests)))

pub returns-then-count-le-PATH_LIMIT : goal.returns-then-count-le-PATH_LIMIT
returns-then-count-le-PATH_LIMIT c =
    let f = c.args.field.now in
    let t = c.split-then-count-le-PATH_LIMIT.ensures in
    path_by f (omega (arith, pieces (goal.at.returns-then-count-le-PATH_LIMIT c).After-count))
    (all_from_yields_List is_name _ _ _ c.all.ensures.ran (YieldsList-from_slice_split _ (λ x. eqb x dot) f t.rest t.done t.closure (λ x b q k. search (rules, tests)))
    (λ x b q k. search (rules, tests)))

pub returns-else-count-le-PATH_LIMIT : goal.returns-else-count-le-PATH_LIMIT
returns-else-count-le-PATH_LIMIT c = rw (lt-leb _ _ c.if-count-le-PATH_LIMIT.false) (path_long c.args.field.now (omega (arith, pieces (goal.at.returns-else-count-le-PATH_LIMIT c).After-count)))
