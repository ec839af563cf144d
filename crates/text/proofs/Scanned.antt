-- Names, paths and digits read in one scan: what its loops keep, and what they end with.
use mathlib.Core.Path.{◌≡◌, refl, ap, sym, ◌∙◌}
use mathlib.Core.Bool.{Bool, true, false, ◌&&◌}
use mathlib.Core.List.{List, [], ◌∷◌, ◌++◌}
use Prim.Native.Nat.{ℕ, zero, suc, ◌+◌, ◌-◌, ◌*◌, ◌≤◌, ◌<◌}
use native.Mathlib.Omega.{arith}
use lib.Dec.{ltb, leb}
use lib.ListN.{length, get_or, take, drop}
use lib.Seq.{slice, length-slice}
use Rattle.std.proofs.lemmas.List.{get_or-take, get_or-drop}
use borrow.Author.Tests.{eq-eqb, ne_eqb, ltb-true, ltb-false, le-leb}
use Rattle.std.specs.Prelude.{Some}
use Rattle.cells.specs.Limits.{name_limit, path_limit}
use Rattle.cells.specs.Characters.{newline, space, last_printable, dot, digit_zero}
use Rattle.numbers.specs.Decimal.{is_digit, digits_of}
use Rattle.numbers.proofs.Decimals.{digits_step, digits_end}
use Rattle.text.specs.Bytes.{all, is_letter, is_alphanumeric, ends_lines}
use Rattle.text.specs.Pieces.{cut}
use Rattle.text.specs.Forms.{is_name, all_names, is_path}
use Rattle.text.specs.Scans.{is_graphic, run, run_end, field_end, EndsAt, LettersTo, NameTo, DigitsTo}
use Rattle.text.proofs.Slices.{slice_at, slice_none}
use Rattle.text.proofs.Bytes.{run_more, run_stop, run_end_lem, all_run, true_false, and_left, and_right}
use Rattle.text.proofs.Printed.{is_printed, all_so}
use Rattle.text.proofs.Fields.{end_found, slice_join}
use Rattle.text.proofs.Names.{dot_stops, letter_alphanumeric, name_by}
use Rattle.text.proofs.Joined.{apart, cut_piece, cut_only}

-- the newline that ends the text stands after any other byte
pub inside_next : (s : List ℕ) (i : ℕ) → i < length s → ends_lines s → (get_or s i 0 ≡ newline → ⊥) → i + 1 < length s
inside_next s i h ends f =
    let apart : i ≡ length s - 1 → ⊥ = λ q. f (ap (λ (n : ℕ). get_or s n 0) q ∙ ends) in
    omega (arith, apart)

pub after_space : (s : List ℕ) (from e : ℕ) → ends_lines s → EndsAt s from space e → e + 1 < length s
after_space s from e ends a = inside_next s e a.inside ends (λ q. omega (arith, sym a.by ∙ q))

-- a byte of the part from `from` on
pub byte_behind : (s : List ℕ) (from size : ℕ) → from + size < length s → get_or (take (length s - from) (drop from s)) size 0 ≡ get_or s (from + size) 0
byte_behind s from size h = get_or-take (length s - from) (drop from s) size 0 (omega arith) ∙ get_or-drop from s size 0

-- ---- a field of printed bytes is found by its end

run_printed : (s : List ℕ) (e k i : ℕ) → i + k ≡ e → e < length s → all is_printed (slice i e s) ≡ true → is_graphic (get_or s e 0) ≡ false
    → run_end is_graphic s i (length s) ≡ e
run_printed s e zero i q h a b =
    let z : i ≡ e = omega arith in
    run_stop is_graphic s i (length s) (omega arith) (omega arith) (ap (λ (n : ℕ). is_graphic (get_or s n 0)) z ∙ b) ∙ z
run_printed s e (suc k) i q h a b =
    let x = get_or s i 0 in
    let l = slice (i + 1) e s in
    let w : all is_printed (x ∷ l) ≡ true = sym (ap (all is_printed) (slice_at s i e (omega arith) (omega arith))) ∙ a in
    let g : is_graphic x ≡ true = and_left (is_graphic x) (leb x last_printable) (and_left (is_printed x) (all is_printed l) w) in
    sym (run_more is_graphic s i (length s) (omega arith) (omega arith) g) ∙ run_printed s e k (i + 1) (omega arith) h (and_right (is_printed x) (all is_printed l) w) b

pub field_found : (s : List ℕ) (from stop e : ℕ) → ends_lines s → EndsAt s from stop e → all is_printed (slice from e s) ≡ true
    → is_graphic stop ≡ false → field_end s from stop ≡ Some e
field_found s from stop e ends f a g =
    let w = f.wide in
    let r : run_end is_graphic s from (length s) ≡ e = run_printed s e (e - from) from (omega arith) f.inside a (ap is_graphic f.by ∙ g) in
    end_found s from (omega (arith, f.inside)) ends stop (λ q. omega arith) (ap (λ (n : ℕ). get_or s n 0) r ∙ f.by) ∙ ap (λ (n : ℕ). Some n) r

-- ---- letters and digits: what is left of them from i on

pub record LettersLeft (s : List ℕ) (from i : ℕ) : Type 0 where
  pub low : from ≤ i
  pub inside : i < length s
  pub same : (t : ℕ) → i ≤ t → t ≤ length s → run_end is_alphanumeric s i t ≡ run_end is_alphanumeric s from t

newline_stops : is_alphanumeric newline ≡ false
unfolding is_alphanumeric is_letter
newline_stops = refl

module _ (s : List ℕ) (from : ℕ) where
  letters_whole : from < length s → LettersLeft s from from
  letters_whole h = record { low = omega arith; inside = h; same = λ t g k. refl }

  module _ (i : ℕ) (l : LettersLeft s from i) where
    pub letters_turn : ends_lines s → is_alphanumeric (get_or s i 0) ≡ true → LettersLeft s from (i + 1)
    letters_turn ends e = record {
      low = omega (arith, l.low);
      inside = inside_next s i l.inside ends (λ q. true_false (sym e ∙ ap is_alphanumeric q ∙ newline_stops));
      same = λ t g k. run_more is_alphanumeric s i t (omega arith) k e ∙ l.same t (omega arith) k;
    }

    pub letters_done : is_alphanumeric (get_or s i 0) ≡ false → LettersTo s from i
    letters_done e = record { low = l.low; inside = l.inside; ends = λ t g k. sym (l.same t g k) ∙ go t k g (ltb i t) refl }
      where
        go : (t : ℕ) → t ≤ length s → i ≤ t → (b : Bool) → ltb i t ≡ b → run_end is_alphanumeric s i t ≡ i
        go t k g true q = run_stop is_alphanumeric s i t (ltb-true i t q) k e
        go t k g false q = run_end_lem is_alphanumeric s i t (omega (arith, ltb-false i t q))

-- those behind the letter that a name begins with
pub letters_first : (s : List ℕ) (from : ℕ) → from < length s → ends_lines s → is_letter (get_or s from 0) ≡ true → LettersLeft s from (from + 1)
letters_first s from h ends g = letters_turn s from from (letters_whole s from h) ends (letter_alphanumeric (get_or s from 0) g)

-- ---- a name

module _ (s : List ℕ) (from e : ℕ) (h : from < length s) (g : is_letter (get_or s from 0) ≡ true) (l : LettersTo s from e) where
  abbrev f : List ℕ
  f = slice from e s

  wide : from < e
  unfolding run_end
  wide =
      let m : run_end is_alphanumeric s (from + 1) (length s) ≡ run_end is_alphanumeric s from (length s) =
      run_more is_alphanumeric s from (length s) h (omega arith) (letter_alphanumeric (get_or s from 0) g) in
      omega (arith, m, l.ends (length s) (omega (arith, l.inside)) (omega arith))

  long : length f ≡ e - from
  long = length-slice from e s (omega (arith, l.inside))

  all_of_them : all is_alphanumeric f ≡ true
  unfolding run_end
  all_of_them =
      all_run is_alphanumeric f ∙ eq-eqb (run is_alphanumeric f) (length f) (omega (arith, l.ends e (omega arith) (omega (arith, l.inside)), long))

  pub name_to : e - from ≤ name_limit → NameTo s from e
  name_to m =
      let first : get_or f 0 0 ≡ get_or s from 0 = ap (λ (r : List ℕ). get_or r 0 0) (slice_at s from e wide (omega (arith, l.inside))) in
      record {
        wide = wide;
        letters = l;
        name = name_by f (omega (arith, long, wide)) (omega (arith, long)) (ap is_letter first ∙ g) ∙ all_of_them;
      }

-- a name has no dot
name_apart : (f : List ℕ) → is_name f ≡ true → all (apart dot) f ≡ true
unfolding is_name
name_apart f e = all_so is_alphanumeric (apart dot) dots f (and_right (leb 1 (length f) && leb (length f) name_limit && is_letter (get_or f 0 0)) (all is_alphanumeric f) e)
  where
    dots : (x : ℕ) → is_alphanumeric x ≡ true → apart dot x ≡ true
    dots x h = rw (ne_eqb x dot (λ q. true_false (sym h ∙ ap is_alphanumeric q ∙ dot_stops)))

-- ---- a path: k names are found, and those from `at` on are left

pub record NamesLeft (s : List ℕ) (from at k : ℕ) : Type 0 where
  pub low : from ≤ at
  pub inside : at < length s
  pub same : (t : ℕ) → at < t → t ≤ length s → all_names (cut dot (slice from t s)) ≡ all_names (cut dot (slice at t s))
  pub fewer : (t : ℕ) → at < t → t ≤ length s → length (cut dot (slice from t s)) ≡ k + length (cut dot (slice at t s))

module _ (s : List ℕ) (from : ℕ) where
  module _ (at k e : ℕ) (l : NamesLeft s from at k) (n : NameTo s at e) where
    inside : e < length s
    inside = n.letters.inside

    abbrev piece : List ℕ
    piece = slice at e s

    pub names_turn : ends_lines s → get_or s e 0 ≡ dot → NamesLeft s from (e + 1) (k + 1)
    names_turn ends d = record {
      low = omega (arith, l.low, n.wide);
      inside = inside_next s e inside ends (λ q. omega (arith, sym d ∙ q));
      same = λ t g m. l.same t (omega (arith, n.wide)) m ∙ ap all_names (step t g m) ∙ rw n.name;
      fewer = λ t g m. let h : at < t = omega (arith, n.wide) in omega (arith, l.fewer t h m, ap length (step t g m));
    }
      where
        step : (t : ℕ) → e + 1 < t → t ≤ length s → cut dot (slice at t s) ≡ piece ∷ cut dot (slice (e + 1) t s)
        step t g m =
            ap (cut dot) (sym (slice_join at e t s (omega (arith, n.wide)) (omega arith))
            ∙ ap (λ (r : List ℕ). piece ++ r) (slice_at s e t (omega arith) m ∙ ap (λ (x : ℕ). x ∷ slice (e + 1) t s) d))
            ∙ cut_piece dot piece (slice (e + 1) t s) (name_apart piece n.name)

    pub names_done : k < path_limit → is_path (slice from e s) ≡ true
    unfolding is_path
    names_done h =
        let m : e ≤ length s = omega (arith, inside) in
        let one : cut dot piece ≡ piece ∷ [] = cut_only dot piece (name_apart piece n.name) in
        let few : length (cut dot (slice from e s)) ≤ path_limit = omega (arith, l.fewer e n.wide m, ap length one) in
        rw (le-leb (length (cut dot (slice from e s))) path_limit few) (l.same e n.wide m ∙ ap all_names one ∙ rw n.name)

-- ---- digits: v is the value of those before i, and what stands from i on is left

pub record DigitsLeft (max : ℕ) (s : List ℕ) (from i v : ℕ) : Type 0 where
  pub low : from ≤ i
  pub inside : i < length s
  pub most : v ≤ max
  pub same : (t : ℕ) → i ≤ t → t ≤ length s → digits_of max 0 (slice from t s) ≡ digits_of max v (slice i t s)

module _ (max : ℕ) (s : List ℕ) (from : ℕ) where
  module _ (i v : ℕ) (l : DigitsLeft max s from i v) where
    pub digits_turn : ends_lines s → is_digit (get_or s i 0) ≡ true → 10 * v + (get_or s i 0 - digit_zero) ≤ max
        → DigitsLeft max s from (i + 1) (10 * v + (get_or s i 0 - digit_zero))
    digits_turn ends d h = record {
      low = omega (arith, l.low);
      inside = inside_next s i l.inside ends (λ q. true_false (sym d ∙ ap is_digit q));
      most = h;
      same =
          λ t g k. l.same t (omega arith) k ∙ ap (digits_of max v) (slice_at s i t (omega arith) k) ∙ digits_step max v (get_or s i 0) (slice (i + 1) t s) d;
    }

    pub digits_done : DigitsTo max s from i v
    digits_done = record {
      low = l.low;
      inside = l.inside;
      value = l.same i (omega arith) (omega (arith, l.inside)) ∙ ap (digits_of max v) (slice_none s i i refl) ∙ digits_end max v l.most;
    }
