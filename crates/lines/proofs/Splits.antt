-- The five fields of a line, found one after the other.
use mathlib.Core.Path.{◌≡◌, refl, ap, ◌∙◌}
use mathlib.Core.Bool.{true, false}
use mathlib.Core.List.{List, ◌∷◌}
use Prim.Native.Nat.{ℕ, suc, ◌+◌, ◌≤◌, ◌<◌}
use native.Mathlib.Omega.{arith}
use lib.ListN.{length}
use lib.Seq.{slice}
use Rattle.std.specs.Prelude.{Some, None}
use Rattle.cells.specs.Characters.{newline, space}
use Rattle.text.specs.Bytes.{all, is_allowed, ends_lines}
use Rattle.text.specs.Pieces.{cut, fields_are}
use Rattle.text.specs.Scans.{field_end, rest, fields_from}
use Rattle.text.proofs.Slices.{slice_at}
use Rattle.text.proofs.Fields.{Spaced, Last, space_end, space_none, last_end, last_none}
use Rattle.lines.specs.declared.Ends.{Ends}
use Rattle.lines.specs.LineSteps.{FiveAt}

-- k fields of the line from `from` on are still to be found, from `at` on
pub record Left (s : List ℕ) (from k at : ℕ) : Type 0 where
  pub here : at < length s
  pub same : fields_are 5 (fields_from s from) ≡ fields_are k (fields_from s at)

pub full : (s : List ℕ) (k at e : ℕ) (fs : List (List ℕ)) → at < e → e ≤ length s → fields_are (suc k) (slice at e s ∷ fs) ≡ fields_are k fs
full s k at e fs h g = rw (slice_at s at e h g)

module _ (s : List ℕ) (ends : ends_lines s) (allowed : all is_allowed s ≡ true) (from : ℕ) where
  module _ (at e : ℕ) (h : at < length s) where
    pub spaced_at : field_end s at space ≡ Some e → Spaced s at e
    spaced_at q = space_end s at h ends q

    pub last_at : field_end s at newline ≡ Some e → Last s at e
    last_at q = last_end s at h ends q

  pub left_all : from < length s → Left s from 5 from
  left_all h = record { here = h; same = refl }

  pub left_next : (k at e : ℕ) → Left s from (suc k) at → field_end s at space ≡ Some e → Left s from k (e + 1)
  left_next k at e l q =
      let p = spaced_at at e l.here q in
      record {
        here = p.inside;
        same = l.same ∙ ap (fields_are (suc k)) p.fields ∙ full s k at e (fields_from s (e + 1)) p.wide (omega (arith, p.inside));
      }

  pub left_none : (k at : ℕ) → Left s from (suc (suc k)) at → field_end s at space ≡ None → fields_are 5 (fields_from s from) ≡ false
  left_none k at l z = l.same ∙ space_none s at l.here ends allowed k z

  pub left_last : (at : ℕ) → Left s from 1 at → field_end s at newline ≡ None → fields_are 5 (fields_from s from) ≡ false
  left_last at l z = l.same ∙ last_none s at l.here ends allowed z

pub five : (s : List ℕ) (from : ℕ) (e : Ends) → Spaced s from e.kind → Spaced s (e.kind + 1) e.name → Spaced s (e.name + 1) e.a → Spaced s (e.a + 1) e.b
    → Last s (e.b + 1) e.c → FiveAt s from e
five s from e p q r t l =
    let ps = cut newline (rest s (e.c + 1)) in
    let h3 : e.b + 1 ≤ e.c = omega (arith, l.wide) in
    let h2 : e.a + 1 ≤ e.c = omega (arith, t.wide) in
    let h1 : e.name + 1 ≤ e.c = omega (arith, r.wide) in
    let h0 : e.kind + 1 ≤ e.c = omega (arith, q.wide) in
    record {
      wide0 = p.wide;
      wide1 = q.wide;
      wide2 = r.wide;
      wide3 = t.wide;
      wide4 = l.wide;
      ending = record {
        inside = l.inside;
        line = p.line e.c ps h0 (q.line e.c ps h1 (r.line e.c ps h2 (t.line e.c ps h3 l.line)));
      };
      are = rw (p.fields, q.fields, r.fields, t.fields, l.fields);
    }
