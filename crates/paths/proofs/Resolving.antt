-- A path, name by name, and the rows at one label.
use mathlib.Core.Path.{◌≡◌, refl, ap, sym, ◌∙◌}
use mathlib.Core.Bool.{Bool, true, false, cond, not, ◌&&◌}
use mathlib.Core.List.{List, [], ◌∷◌}
use Prim.Native.Nat.{ℕ, zero, suc, ◌+◌, ◌-◌, ◌≤◌, ◌<◌}
use native.Mathlib.Omega.{arith}
use lib.Dec.{eqb, ltb}
use lib.IntN.{ℤ}
use Rattle.std.specs.Prelude.{Option, Some, None, is_some}
use Rattle.refusals.specs.declared.Row.{Row}
use lib.ListN.{length, get_or, drop}
use lib.Seq.{slice, length-slice}
use borrow.Author.Tests.{eq-eqb, ne_eqb, eqb-true, ltb-true, ltb-false, lt-ltb, le-ltb, not-false}
use Rattle.kinds.specs.Kinds.{wanted_by, group_code}
use Rattle.kinds.specs.Kinds as kinds
use Rattle.cells.specs.Characters.{dot}
use Rattle.cells.specs.Table.{kind, name_start, name_length, owner, target, is_definition, has_path}
use Rattle.text.specs.Pieces.{cut}
use Rattle.text.specs.Scans.{run_end, run}
use Rattle.text.proofs.Bytes.{run_le, run_fails}
use Rattle.text.proofs.Slices.{take_slice, drop_slice}
use Rattle.text.proofs.Cuts.{cut_more, cut_last}
use Rattle.paths.specs.Names.{name_of, is_named, member}
use Rattle.paths.specs.Buckets.{some_label}
use Rattle.cells.specs.Lists.{or_if_zero}
use Rattle.paths.specs.Paths.{settled, head_from, below, descended, names_of, head_of, duplicate_bad}
use Rattle.paths.specs.TargetCells.{head_cell, target_by, wrong_target}
use Rattle.paths.specs.Buckets.{not_dot, last_below}
use Rattle.refusals.specs.Rows.{duplicate_row, target_row}
use Rattle.paths.proofs.FirstLabel.{first_high}
use Rattle.paths.proofs.LastBelow.{last_empty}
use Rattle.paths.proofs.SomeLabel.{no_zero, some_not_zero}

-- ---- the names of a path by positions

-- the names behind the one that ends at e
abbrev pub later : List ℕ → ℕ → ℕ → List (List ℕ)
later s e to = cond (ltb e to) (cut dot (slice (e + 1) to s)) []

module _ (s : List ℕ) (from to : ℕ) (h : from ≤ to) (k : to ≤ length s) where
  abbrev l : List ℕ
  l = slice from to s

  abbrev r : ℕ
  r = run not_dot l

  long : length l ≡ to - from
  long = length-slice from to s k

  pub stop_low : from ≤ run_end not_dot s from to
  unfolding run_end
  stop_low = omega arith

  pub stop_high : run_end not_dot s from to ≤ to
  unfolding run_end
  stop_high = omega (arith, run_le not_dot l, long)

  names_go : (b : Bool) → ltb (from + r) to ≡ b → cut dot l ≡ slice from (from + r) s ∷ cond b (cut dot (slice (from + r + 1) to s)) []
  names_go true e =
      let short : from + r < to = ltb-true (from + r) to e in
      let inner : r < length l = omega (arith, long) in
      let x = get_or l r 0 in
      let is-dot : x ≡ dot = eqb-true x dot (not-false (eqb x dot) (run_fails not_dot l inner)) in
      let q : from + (r + 1) ≡ from + r + 1 = omega arith in
      let back : drop (r + 1) l ≡ slice (from + r + 1) to s = drop_slice s from to (r + 1) ∙ ap (λ (n : ℕ). slice n to s) q in
      cut_more not_dot dot l refl inner is-dot ∙ rw (take_slice from r to s (omega arith), back)
  names_go false e =
      let end : from + r ≡ to = omega (arith, ltb-false (from + r) to e, run_le not_dot l, long) in
      cut_last not_dot dot l refl (omega (arith, long)) ∙ rw end

  pub names_cut : cut dot l ≡ slice from (run_end not_dot s from to) s ∷ later s (run_end not_dot s from to) to
  unfolding run_end
  names_cut = names_go (ltb (from + r) to) refl

-- label 0 has no kind
pub above_zero : (t : List ℤ) (m : ℕ) → kind t m ≡ group_code → 1 ≤ m
above_zero t zero e = absurd (omega arith)
above_zero t (suc m) e = omega arith

-- an owner's label is no larger than the label, 0 for 0
pub owner_small : (t : List ℤ) (n : ℕ) → ((l : ℕ) → 1 ≤ l → l ≤ n → owner t l < l) → (l : ℕ) → l ≤ n → owner t l ≤ n
owner_small t n falls zero h = omega arith
owner_small t n falls (suc l) h = omega (arith, falls (suc l) (omega arith) h)

-- ---- from Group to Group, outward

module _ (s : List ℕ) (t : List ℤ) (n : ℕ) where
  pub member_high : (g : ℕ) (w : List ℕ) → member s t n g w ≤ n
  unfolding member
  member_high g w = omega (arith, first_high (is_named s t g w) n 1 (omega arith))

  module _ (w : List ℕ) where
    pub settled_at : (k g : ℕ) → 1 ≤ g → settled s t n w (suc k) g ≡ or_if_zero (member s t n g w) (settled s t n w k (owner t g))
    settled_at k g h = rw (ne_eqb g 0 (λ e. omega arith))

    or_high : (a b : ℕ) → a ≤ n → b ≤ n → or_if_zero a b ≤ n
    or_high zero b h g = g
    or_high (suc a) b h g = h

    settled_high : (k g : ℕ) → settled s t n w k g ≤ n
    settled_high zero g = omega arith
    settled_high (suc k) zero = omega arith
    settled_high (suc k) (suc g) =
        rw (settled_at k (suc g) (omega arith))
        (or_high (member s t n (suc g) w) (settled s t n w k (owner t (suc g))) (member_high (suc g) w) (settled_high k (owner t (suc g))))

    pub head_high : (g : ℕ) → head_from s t n w g ≤ n
    unfolding head_from
    head_high g = settled_high g g

    module _ (falls : (l : ℕ) → 1 ≤ l → l ≤ n → owner t l < l) where
      -- as many Groups as the label says are enough
      enough : (k j g : ℕ) → g ≤ k → g ≤ j → g ≤ n → settled s t n w k g ≡ settled s t n w j g
      enough zero zero g a b h = refl
      enough zero (suc j) zero a b h = refl
      enough zero (suc j) (suc g) a b h = absurd (omega arith)
      enough (suc k) zero zero a b h = refl
      enough (suc k) zero (suc g) a b h = absurd (omega arith)
      enough (suc k) (suc j) zero a b h = refl
      enough (suc k) (suc j) (suc g) a b h =
          let f = falls (suc g) (omega arith) h in
          rw (enough k j (owner t (suc g)) (omega arith) (omega arith) (omega arith))

      pub head_end : (g : ℕ) → g ≡ 0 → head_from s t n w g ≡ 0
      unfolding head_from
      head_end g e = rw e

      pub head_found : (g m : ℕ) → 1 ≤ g → member s t n g w ≡ m → (m ≡ 0 → ⊥) → head_from s t n w g ≡ m
      unfolding head_from
      head_found zero m h e z = absurd (omega arith)
      head_found (suc g) zero h e z = absurd (z refl)
      head_found (suc g) (suc m) h e z = settled_at g (suc g) h ∙ rw e

      pub head_next : (g : ℕ) → 1 ≤ g → g ≤ n → member s t n g w ≡ 0 → head_from s t n w g ≡ head_from s t n w (owner t g)
      unfolding head_from
      head_next zero h l e = absurd (omega arith)
      head_next (suc g) h l e =
          let f = falls (suc g) (omega arith) l in
          settled_at g (suc g) h ∙ rw e (enough g (owner t (suc g)) (owner t (suc g)) (omega arith) (omega arith) (omega arith))

  -- ---- downward

  pub down_none : (ws : List (List ℕ)) → descended s t n 0 ws ≡ 0
  down_none [] = refl
  down_none (w ∷ ws) = down_none ws

  pub down_stop : (m : ℕ) (w : List ℕ) (ws : List (List ℕ)) → (kind t m ≡ group_code → ⊥) → descended s t n m (w ∷ ws) ≡ 0
  down_stop m w ws f = rw (ne_eqb (kind t m) group_code f) (down_none ws)

  pub down_on : (m : ℕ) (w : List ℕ) (ws : List (List ℕ)) → kind t m ≡ group_code → descended s t n m (w ∷ ws) ≡ descended s t n (member s t n m w) ws
  down_on m w ws e = rw (eq-eqb (kind t m) group_code e)

  pub descended_high : (ws : List (List ℕ)) (m : ℕ) → m ≤ n → descended s t n m ws ≤ n
  descended_high [] m h = h
  descended_high (w ∷ ws) m h = descended_high ws (below s t n m w) (go (eqb (kind t m) group_code))
    where
      go : (b : Bool) → cond b (member s t n m w) 0 ≤ n
      go true = member_high m w
      go false = omega arith

  -- ---- one name more of a path, whose names so far end at `at`

  module _ (m at to : ℕ) (more : at < to) (inside : to ≤ length s) where
    abbrev e : ℕ
    e = run_end not_dot s (at + 1) to

    later_is : later s at to ≡ slice (at + 1) e s ∷ later s e to
    later_is = rw (lt-ltb at to more) (names_cut s (at + 1) to (omega arith) inside)

    pub later_stop : (kind t m ≡ group_code → ⊥) → descended s t n m (later s at to) ≡ 0
    later_stop f = rw later_is (down_stop m (slice (at + 1) e s) (later s e to) f)

    pub later_on : kind t m ≡ group_code → descended s t n (member s t n m (slice (at + 1) e s)) (later s e to) ≡ descended s t n m (later s at to)
    later_on k = rw later_is (sym (down_on m (slice (at + 1) e s) (later s e to) k))

  pub later_end : (m at to : ℕ) → to ≤ at → descended s t n m (later s at to) ≡ m
  later_end m at to h = rw (le-ltb at to h)

  -- ---- the rows at one label

  module _ (label from to : ℕ) (start : from ≡ name_start t label) (end : to ≡ name_start t label + name_length t label) (inside : to ≤ length s) where
    name_is : name_of s t label ≡ slice from to s
    name_is = rw (start, end)

    names_are : names_of s t label ≡ slice from (run_end not_dot s from to) s ∷ later s (run_end not_dot s from to) to
    names_are = ap (cut dot) name_is ∙ names_cut s from to (omega arith) inside

    pub head_is : has_path t label ≡ true → head_from s t n (slice from (run_end not_dot s from to) s) (owner t (owner t label)) ≡ head_cell s t n label
    unfolding head_of
    head_is e = rw (e, names_are)

    pub target_is : (head : ℕ) → has_path t label ≡ true → descended s t n head (drop 1 (cut dot (slice from to s))) ≡ target_by s t n label head
    target_is head e = rw (e, name_is)

  -- row 12, by the last label before it that has the name in its Group
  module _ (l : ℕ) (d : is_definition t l ≡ true) where
    abbrev named : ℕ → Bool
    named = is_named s t (owner t l) (name_of s t l)

    duplicate_is : duplicate_bad s t l ≡ cond (not (eqb (last_below named l) 0)) (Some duplicate_row) None
    unfolding duplicate_bad
    duplicate_is = rw (d, last_empty named l)

    pub duplicate_none : {o : Option ℕ} → o ≡ some_label (last_below named l) → is_some o ≡ false → None ≡ duplicate_bad s t l
    duplicate_none e f = sym (duplicate_is ∙ rw (no_zero (last_below named l) (ap is_some (sym e) ∙ f)))

    pub duplicate_some : {o : Option ℕ} → o ≡ some_label (last_below named l) → is_some o ≡ true → Some duplicate_row ≡ duplicate_bad s t l
    duplicate_some e f = sym (duplicate_is ∙ rw (some_not_zero (last_below named l) (ap is_some (sym e) ∙ f)))

  pub duplicate_other : (l : ℕ) → is_definition t l ≡ false → None ≡ duplicate_bad s t l
  unfolding duplicate_bad
  duplicate_other l e = rw e

-- row 15
module _ (t : List ℤ) (x k found wants : ℕ) (p : k ≡ kind t x) (q : found ≡ kind t (target t x)) (r : wants ≡ wanted_by k) where
  pub target_wrong : kinds.has_path k ≡ true → (found ≡ wants → ⊥) → Some target_row ≡ wrong_target t x
  target_wrong h f = rw (← p, ← q, ← r, h, ne_eqb found wants f)

  pub target_right : found ≡ wants → None ≡ wrong_target t x
  target_right e = rw (← p, ← q, ← r, eq-eqb found wants e) (go (kinds.has_path k))
    where
      go : (b : Bool) → ◌≡◌ {A = Option Row} None (cond (b && false) (Some target_row) None)
      go true = refl
      go false = refl

pub target_none : (t : List ℤ) (x : ℕ) → has_path t x ≡ false → None ≡ wrong_target t x
target_none t x h = rw h
