-- The fields of a line at the positions that `field_end` finds.
use mathlib.Core.Path.{◌≡◌, refl, ap, sym, ◌∙◌}
use mathlib.Core.Bool.{Bool, true, false, not, ◌&&◌, ◌||◌, cond}
use mathlib.Core.Logic.{◌⊎◌, inl, inr, ⊎_elim}
use mathlib.Core.List.{List, [], ◌∷◌, ◌++◌}
use Prim.Native.Nat.{ℕ, suc, ◌+◌, ◌-◌, ◌≤◌, ◌<◌}
use native.Mathlib.Omega.{arith}
use lib.Dec.{eqb, ltb, leb}
use lib.ListN.{length, get_or, drop, take, take-append-drop}
use lib.Seq.{slice, length-slice}
use borrow.Author.Tests.{eq-eqb, ne_eqb, eqb-true, eqb-false, leb-true, ltb-true, ltb-false, lt-ltb, le-ltb, not-false}
use Rattle.std.proofs.lemmas.Option.{none-some, same_Some}
use Rattle.std.specs.Prelude.{Some, None}
use Rattle.cells.specs.Characters.{newline, space, last_printable}
use Rattle.text.specs.Bytes.{all, is_allowed, ends_lines}
use Rattle.text.specs.Pieces.{cut, first_of, fields_are}
use Rattle.text.specs.Scans.{run_end, field_end, run, is_graphic, rest, fields_from}
use Rattle.text.proofs.Slices.{get_d_slice, drop_slice, take_slice}
use Rattle.text.proofs.Bytes.{true_false, run_until, run_fails, all_at, and-false}
use Rattle.text.proofs.Cuts.{cut_more, fields_space, fields_newline, line_space, some}

-- two parts side by side
pub slice_join : (i m t : ℕ) (s : List ℕ) → i ≤ m → m ≤ t → slice i m s ++ slice m t s ≡ slice i t s
slice_join i m t s h g =
    let q : i + (m - i) ≡ m = omega arith in
    let a : take (m - i) (slice i t s) ≡ slice i m s = take_slice i (m - i) t s (omega arith) ∙ ap (λ (n : ℕ). slice i n s) q in
    let b : drop (m - i) (slice i t s) ≡ slice m t s = drop_slice s i t (m - i) ∙ ap (λ (n : ℕ). slice n t s) q in
    sym (ap (λ (l : List ℕ). l ++ slice m t s) a) ∙ sym (ap (λ (l : List ℕ). take (m - i) (slice i t s) ++ l) b) ∙ take-append-drop (m - i) (slice i t s)

-- a field that a space ends, and what follows from it for the line
pub record Spaced (s : List ℕ) (from e : ℕ) : Type 0 where
  pub wide : from < e
  pub inside : e + 1 < length s
  pub fields : fields_from s from ≡ slice from e s ∷ fields_from s (e + 1)
  pub line : (t : ℕ) (ps : List (List ℕ)) → e + 1 ≤ t → cut newline (rest s (e + 1)) ≡ slice (e + 1) t s ∷ ps → cut newline (rest s from) ≡ slice from t s ∷ ps

-- a field that the end of its line ends
pub record Last (s : List ℕ) (from e : ℕ) : Type 0 where
  pub wide : from < e
  pub inside : e < length s
  pub fields : fields_from s from ≡ slice from e s ∷ []
  pub line : cut newline (rest s from) ≡ slice from e s ∷ cut newline (rest s (e + 1))

too_few : (k : ℕ) (f : List ℕ) → fields_are (suc (suc k)) (f ∷ []) ≡ false
too_few k [] = refl
too_few k (x ∷ f) = refl

too_many : (f : List ℕ) (fs : List (List ℕ)) → 1 ≤ length fs → fields_are 1 (f ∷ fs) ≡ false
too_many f [] h = absurd (omega arith)
too_many [] (g ∷ fs) h = refl
too_many (x ∷ f) (g ∷ fs) h = refl

-- a byte that row 1 allows and that is not graphic
allowed_gap : (x : ℕ) → is_allowed x ≡ true → is_graphic x ≡ false → (x ≡ newline) ⊎ (x ≡ space)
unfolding is_allowed
allowed_gap x a i = go (eqb x newline) (leb space x) refl refl a
  where
    go : (u v : Bool) → eqb x newline ≡ u → leb space x ≡ v → (u || (v && leb x last_printable)) ≡ true → (x ≡ newline) ⊎ (x ≡ space)
    go true v e f b = inl (eqb-true x newline e)
    go false true e f b = inr (omega (arith, leb-true space x f, ltb-false space x i))
    go false false e f b = absurd (true_false (sym b))

-- ---- a run of bytes that pass a test which a newline fails: it ends before the last byte does

module _ (p : ℕ → Bool) (stops : p newline ≡ false) (s : List ℕ) (from : ℕ) (h : from < length s) (ends : ends_lines s) where
  abbrev ran : ℕ
  ran = run p (rest s from)

  long : length (rest s from) ≡ length s - from
  long = length-slice from (length s) s (omega arith)

  short : from + ran < length s
  short =
      let k = length s - 1 - from in
      let q : from + k ≡ length s - 1 = omega arith in
      let e : get_or (rest s from) k 0 ≡ newline = get_d_slice s from (length s) k (omega arith) ∙ ap (λ (n : ℕ). get_or s n 0) q ∙ ends in
      omega (arith, run_until p (rest s from) k (omega (arith, long)) (ap p e ∙ stops), long)

  inner : ran < length (rest s from)
  inner = omega (arith, long, short)

  at : get_or (rest s from) ran 0 ≡ get_or s (from + ran) 0
  at = get_d_slice s from (length s) ran short

  front : take ran (rest s from) ≡ slice from (from + ran) s
  front = take_slice from ran (length s) s (omega (arith, short))

  back : drop (ran + 1) (rest s from) ≡ rest s (from + ran + 1)
  back = let q : from + (ran + 1) ≡ from + ran + 1 = omega arith in drop_slice s from (length s) (ran + 1) ∙ ap (λ (n : ℕ). rest s n) q

-- ---- the line that begins at a position

abbrev other : ℕ → Bool
other x = not (eqb x newline)

module _ (s : List ℕ) (from : ℕ) (h : from < length s) (ends : ends_lines s) where
  abbrev line : List ℕ
  line = first_of (cut newline (rest s from))

  abbrev size : ℕ
  size = run other (rest s from)

  split : cut newline (rest s from) ≡ slice from (from + size) s ∷ cut newline (rest s (from + size + 1))
  split =
      let i = inner other refl s from h ends in
      let x = get_or (rest s from) size 0 in
      let e : x ≡ newline = eqb-true x newline (not-false (eqb x newline) (run_fails other (rest s from) i)) in
      cut_more other newline (rest s from) refl i e ∙ rw (front other refl s from h ends, back other refl s from h ends)

  size_is : length line ≡ size
  size_is =
      let g = short other refl s from h ends in
      let q : from + size - from ≡ size = omega arith in
      ap length (ap first_of split) ∙ length-slice from (from + size) s (omega (arith, g)) ∙ q

  pub line_inside : from + length line < length s
  line_inside = omega (arith, size_is, short other refl s from h ends)

  pub line_next : cut newline (rest s from) ≡ line ∷ cut newline (rest s (from + length line + 1))
  line_next = split ∙ rw (size_is) (ap (λ (p : List ℕ). p ∷ cut newline (rest s (from + size + 1))) (sym (ap first_of split)))

-- ---- a field of it

module _ (s : List ℕ) (from : ℕ) (h : from < length s) (ends : ends_lines s) where
  abbrev l : List ℕ
  l = rest s from

  abbrev r : ℕ
  r = run is_graphic l

  short' : from + r < length s
  short' = short is_graphic refl s from h ends

  inner' : r < length l
  inner' = inner is_graphic refl s from h ends

  at' : get_or l r 0 ≡ get_or s (from + r) 0
  at' = at is_graphic refl s from h ends

  front' : take r l ≡ slice from (from + r) s
  front' = front is_graphic refl s from h ends

  back' : drop (r + 1) l ≡ rest s (from + r + 1)
  back' = back is_graphic refl s from h ends

  spaced : 0 < r → get_or s (from + r) 0 ≡ space → Spaced s from (from + r)
  spaced w e =
      let k : r < length l = inner' in
      let apart : from + r ≡ length s - 1 → ⊥ = λ q. omega (arith, sym e ∙ ap (λ (n : ℕ). get_or s n 0) q ∙ ends) in
      let i : from + r + 1 < length s = omega (arith, apart, short') in
      let q : from + (r + 1) ≡ from + r + 1 = omega arith in
      let head : take (r + 1) l ≡ slice from (from + r + 1) s = take_slice from (r + 1) (length s) s (omega arith) ∙ ap (λ (n : ℕ). slice from n s) q in
      record {
        wide = omega arith;
        inside = i;
        fields = fields_space l k (at' ∙ e) ∙ rw (front', back');
        line =
            λ t ps g d. line_space l (slice (from + r + 1) t s) ps k (at' ∙ e) (ap (cut newline) back' ∙ d)
            ∙ ap (λ (x : List ℕ). x ∷ ps) (ap (λ (y : List ℕ). y ++ slice (from + r + 1) t s) head ∙ slice_join from (from + r + 1) t s (omega arith) g);
      }

  last : 0 < r → get_or s (from + r) 0 ≡ newline → Last s from (from + r)
  last w e =
      let k : r < length l = inner' in
      record {
        wide = omega arith;
        inside = short';
        fields = fields_newline l k (at' ∙ e) ∙ rw front';
        line = cut_more is_graphic newline l refl k (at' ∙ e) ∙ rw (front', back');
      }

  -- ---- what `field_end` says

  low : from ≤ run_end is_graphic s from (length s)
  unfolding run_end
  low = omega arith

  cases : (stop : ℕ)
      → ((field_end s from stop ≡ Some (from + r)) × (0 < r) × (get_or s (from + r) 0 ≡ stop))
      ⊎ ((field_end s from stop ≡ None) × ((r ≡ 0) ⊎ (get_or s (from + r) 0 ≡ stop → ⊥)))
  unfolding field_end run_end
  cases stop = go (ltb from (from + r)) (eqb (get_or s (from + r) 0) stop) refl refl
    where
      go : (x y : Bool) → ltb from (from + r) ≡ x → eqb (get_or s (from + r) 0) stop ≡ y
          → ((cond (x && y) (Some (from + r)) None ≡ Some (from + r)) × (0 < r) × (get_or s (from + r) 0 ≡ stop))
          ⊎ ((cond (x && y) (Some (from + r)) None ≡ None) × ((r ≡ 0) ⊎ (get_or s (from + r) 0 ≡ stop → ⊥)))
      go true true e f = inl (refl, omega (arith, ltb-true from (from + r) e), eqb-true (get_or s (from + r) 0) stop f)
      go true false e f = inr (refl, inr (eqb-false (get_or s (from + r) 0) stop f))
      go false y e f = inr (refl, inl (omega (arith, ltb-false from (from + r) e)))

  pub end_inside : run_end is_graphic s from (length s) < length s
  unfolding run_end
  end_inside = short'

  pub end_found : (stop : ℕ) → (run_end is_graphic s from (length s) ≡ from → ⊥) → get_or s (run_end is_graphic s from (length s)) 0 ≡ stop
      → field_end s from stop ≡ Some (run_end is_graphic s from (length s))
  unfolding field_end
  end_found stop f e = rw (lt-ltb from (run_end is_graphic s from (length s)) (omega (arith, f, low)), eq-eqb (get_or s (run_end is_graphic s from (length s)) 0) stop e)

  pub end_other : (stop : ℕ)
      → (from < run_end is_graphic s from (length s)) × (get_or s (run_end is_graphic s from (length s)) 0 ≡ stop → ⊥) ⊎ (run_end is_graphic s from (length s) ≤ from)
      → field_end s from stop ≡ None
  unfolding field_end
  end_other stop (inl f) = rw (ne_eqb (get_or s (run_end is_graphic s from (length s)) 0) stop f.1, and-false (ltb from (run_end is_graphic s from (length s))) false refl)
  end_other stop (inr e) = rw (le-ltb from (run_end is_graphic s from (length s)) e)

  pub space_end : {e : ℕ} → field_end s from space ≡ Some e → Spaced s from e
  space_end {e} f =
      ⊎_elim (λ w. let q : from + r ≡ e = same_Some _ _ (sym w.0 ∙ f) in rw (← q) (spaced w.1 w.2)) (λ w. absurd (none-some e (sym w.0 ∙ f))) (cases space)

  pub last_end : {e : ℕ} → field_end s from newline ≡ Some e → Last s from e
  last_end {e} f =
      ⊎_elim (λ w. let q : from + r ≡ e = same_Some _ _ (sym w.0 ∙ f) in rw (← q) (last w.1 w.2)) (λ w. absurd (none-some e (sym w.0 ∙ f))) (cases newline)

  module _ (allowed : all is_allowed s ≡ true) where
    -- after row 1, what ends a run of graphic bytes is a space or the end of the line
    gap : (get_or s (from + r) 0 ≡ newline) ⊎ (get_or s (from + r) 0 ≡ space)
    gap =
        allowed_gap (get_or s (from + r) 0) (all_at is_allowed s (from + r) allowed short')
        (ap is_graphic (sym at') ∙ run_fails is_graphic l (inner'))

    by_newline : get_or s (from + r) 0 ≡ newline → fields_from s from ≡ take r l ∷ []
    by_newline e = fields_newline l (inner') (at' ∙ e)

    by_space : get_or s (from + r) 0 ≡ space → fields_from s from ≡ take r l ∷ cut space (first_of (cut newline (drop (r + 1) l)))
    by_space e = fields_space l (inner') (at' ∙ e)

    empty : (k : ℕ) → r ≡ 0 → fields_are (suc k) (fields_from s from) ≡ false
    empty k e =
        let t : take r l ≡ [] = ap (λ (n : ℕ). take n l) e in
        ⊎_elim (λ g. rw (by_newline g, t)) (λ g. rw (by_space g, t)) gap

    pub space_none : (k : ℕ) → field_end s from space ≡ None → fields_are (suc (suc k)) (fields_from s from) ≡ false
    space_none k z =
        ⊎_elim (λ w. absurd (none-some (from + r) (sym z ∙ w.0)))
        (λ w. ⊎_elim (empty (suc k)) (λ f. ⊎_elim (λ g. rw (by_newline g) (too_few k (take r l))) (λ g. absurd (f g)) gap) w.1)
        (cases space)

    pub last_none : field_end s from newline ≡ None → fields_are 1 (fields_from s from) ≡ false
    last_none z =
        ⊎_elim (λ w. absurd (none-some (from + r) (sym z ∙ w.0)))
        (λ w. ⊎_elim (empty 0) (λ f. ⊎_elim (λ g. absurd (f g)) (λ g. rw (by_space g)
        (too_many (take r l) (cut space (first_of (cut newline (drop (r + 1) l)))) (some space (first_of (cut newline (drop (r + 1) l)))))) gap) w.1)
        (cases newline)
