-- The first dot, by its position among the bytes.
use mathlib.Core.Path.{◌≡◌, refl, ap, sym, ◌∙◌}
use mathlib.Core.Bool.{Bool, true, false, cond}
use mathlib.Core.List.{List, [], ◌∷◌}
use Prim.Native.Nat.{ℕ, ◌+◌, ◌-◌, ◌≤◌}
use native.Mathlib.Omega.{arith}
use lib.Dec.{eqb, ltb}
use lib.ListN.{length, take, drop}
use Rattle.std.proofs.lemmas.List.{drop-take}
use lib.Seq.{slice, length-slice}
use borrow.Author.Tests.{ltb-false}
use Rattle.std.specs.Prelude.{Some, None, position}
use Rattle.std.specs.List.{prefix_len}
use Rattle.cells.specs.Characters.{dot}
use Rattle.text.specs.Scans.{run_end, run, one_more}
use Rattle.text.proofs.Bytes.{run_le}
use Rattle.paths.specs.Buckets.{not_dot}
use Rattle.paths.proofs.name_stop.Goals as goal

run_is : (l : List ℕ) → run not_dot l ≡ prefix_len not_dot l
run_is [] = refl
run_is (x ∷ xs) = go (not_dot x) (run_is xs)
  where
    go : (b : Bool) → run not_dot xs ≡ prefix_len not_dot xs → one_more b (run not_dot xs) ≡ cond b (1 + prefix_len not_dot xs) 0
    go true e = omega arith
    go false e = refl

module _ (s : List ℕ) (from to : ℕ) (order : from ≤ to) (inside : to ≤ length s) where
  abbrev part : List ℕ
  part = slice from to s

  -- as the code takes it
  part_is : part ≡ take (to - from) (drop from s)
  part_is = let end : to ≡ from + (to - from) = omega arith in ap (λ (e : ℕ). slice from e s) end ∙ drop-take from (to - from) s

  at_dot : (size : ℕ) → position (λ x. eqb x dot) (take (to - from) (drop from s)) ≡ Some size → from + size ≡ run_end not_dot s from to
  unfolding run_end
  at_dot size e = go (ltb (prefix_len not_dot part) (length part)) (ap (position (λ x. eqb x dot)) part_is ∙ e)
    where
      go : (b : Bool) → cond b (Some (prefix_len not_dot part)) None ≡ Some size → from + size ≡ from + run not_dot part
      go true f = let q : prefix_len not_dot part ≡ size = cc in omega (arith, run_is part)
      go false f = absurd cc

  at_end : position (λ x. eqb x dot) (take (to - from) (drop from s)) ≡ None → to ≡ run_end not_dot s from to
  unfolding run_end
  at_end e = go (ltb (prefix_len not_dot part) (length part)) refl (ap (position (λ x. eqb x dot)) part_is ∙ e)
    where
      go : (b : Bool) → ltb (prefix_len not_dot part) (length part) ≡ b → cond b (Some (prefix_len not_dot part)) None ≡ None → to ≡ from + run not_dot part
      go true f g = absurd cc
      go false f g =
          omega (arith, run_is part, run_le not_dot part, length-slice from to s inside, ltb-false (prefix_len not_dot part) (length part) f)

pub returns-in-Some : goal.returns-in-Some
returns-in-Some c =
    let a = c.args in
    at_dot a.text.now a.from a.to c.requires.0 c.requires.1 c.in-Some.size (sym c.first_dot.ensures ∙ c.in-Some.is)

pub returns-in-None : goal.returns-in-None
returns-in-None c =
    let a = c.args in
    at_end a.text.now a.from a.to c.requires.0 c.requires.1 (sym c.first_dot.ensures ∙ c.in-None.is)
