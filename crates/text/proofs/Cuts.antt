-- `cut` at the end of a run: the bridge from positions, which the code has, to pieces, of which the definitions speak.
use mathlib.Core.Path.{◌≡◌, refl, ap, sym, ◌∙◌}
use mathlib.Core.Bool.{Bool, true, false}
use mathlib.Core.List.{List, [], ◌∷◌, ◌++◌}
use Prim.Native.Nat.{ℕ, zero, suc, ◌+◌, ◌≤◌, ◌<◌}
use native.Mathlib.Nat.{le_of_suc-le-suc, not-suc-le-zero}
use native.Mathlib.Numerals.{add-one}
use native.Mathlib.Omega.{arith}
use lib.Dec.{eqb}
use lib.ListN.{length, get_or, drop, take}
use lib.Seq.{get_or-drop, drop-drop}
use borrow.Author.Tests.{eq-eqb, ne_eqb}
use Rattle.cells.specs.Characters.{newline, space}
use Rattle.text.specs.Bytes.{one, count_by, is_newline}
use Rattle.text.specs.Scans.{run, one_more, is_graphic}
use Rattle.text.specs.Pieces.{cut, cut_at, onto, piece_start, first_of, fields_are}
use Rattle.text.proofs.Bytes.{true_false}

-- a byte that passes a test is not one that fails it
pub differs : (p : ℕ → Bool) (x b : ℕ) → p x ≡ true → p b ≡ false → eqb x b ≡ false
differs p x b e f = ne_eqb x b (λ q. true_false (sym e ∙ ap p q ∙ f))

-- ---- a run that a separator ends, and one that the end of the list ends

more_go : (p : ℕ → Bool) (b x : ℕ) (xs : List ℕ) → p b ≡ false
    → (run p xs < length xs → get_or xs (run p xs) 0 ≡ b → cut b xs ≡ take (run p xs) xs ∷ cut b (drop (suc (run p xs)) xs))
    → (t : Bool) → p x ≡ t → one_more t (run p xs) < suc (length xs) → get_or (x ∷ xs) (one_more t (run p xs)) 0 ≡ b
    → cut b (x ∷ xs) ≡ take (one_more t (run p xs)) (x ∷ xs) ∷ cut b (drop (suc (one_more t (run p xs))) (x ∷ xs))
more_go p b x xs f rest true e h g = rw (differs p x b e f, rest (le_of_suc-le-suc h) g)
more_go p b x xs f rest false e h g = rw (eq-eqb x b g)

cut_more_suc : (p : ℕ → Bool) (b : ℕ) (l : List ℕ) → p b ≡ false → run p l < length l → get_or l (run p l) 0 ≡ b
    → cut b l ≡ take (run p l) l ∷ cut b (drop (suc (run p l)) l)
cut_more_suc p b [] f h g = absurd (not-suc-le-zero h)
cut_more_suc p b (x ∷ xs) f h g = more_go p b x xs f (cut_more_suc p b xs f) (p x) refl h g

pub cut_more : (p : ℕ → Bool) (b : ℕ) (l : List ℕ) → p b ≡ false → run p l < length l → get_or l (run p l) 0 ≡ b
    → cut b l ≡ take (run p l) l ∷ cut b (drop (run p l + 1) l)
cut_more p b l f h g = rw add-one (cut_more_suc p b l f h g)

last_go : (p : ℕ → Bool) (b x : ℕ) (xs : List ℕ) → p b ≡ false → (run p xs ≡ length xs → cut b xs ≡ xs ∷ [])
    → (t : Bool) → p x ≡ t → one_more t (run p xs) ≡ suc (length xs) → cut b (x ∷ xs) ≡ (x ∷ xs) ∷ []
last_go p b x xs f rest true e h = rw (differs p x b e f, rest (omega arith))
last_go p b x xs f rest false e h = absurd (omega arith)

pub cut_last : (p : ℕ → Bool) (b : ℕ) (l : List ℕ) → p b ≡ false → run p l ≡ length l → cut b l ≡ l ∷ []
cut_last p b [] f h = refl
cut_last p b (x ∷ xs) f h = last_go p b x xs f (cut_last p b xs f) (p x) refl h

-- the bytes of a run are a run of the same length
take_run_go : (p : ℕ → Bool) (x : ℕ) (xs : List ℕ) (t : Bool) → p x ≡ t → run p (take (run p xs) xs) ≡ length (take (run p xs) xs)
    → run p (take (one_more t (run p xs)) (x ∷ xs)) ≡ length (take (one_more t (run p xs)) (x ∷ xs))
take_run_go p x xs true e h = rw e (ap suc h)
take_run_go p x xs false e h = refl

pub take_run : (p : ℕ → Bool) (l : List ℕ) → run p (take (run p l) l) ≡ length (take (run p l) l)
take_run p [] = refl
take_run p (x ∷ xs) = take_run_go p x xs (p x) refl (take_run p xs)

-- ---- the fields of a line: a field that a space ends, in the line that begins the list

pub first_onto : (x : ℕ) (ps : List (List ℕ)) → first_of (onto x ps) ≡ x ∷ first_of ps
first_onto x [] = refl
first_onto x (p ∷ ps) = refl

abbrev fields_of : List ℕ → List (List ℕ)
fields_of l = cut space (first_of (cut newline l))

space_go : (x : ℕ) (xs : List ℕ)
    → (run is_graphic xs < length xs → get_or xs (run is_graphic xs) 0 ≡ space → fields_of xs ≡ take (run is_graphic xs) xs ∷ fields_of (drop (suc (run is_graphic xs)) xs))
    → (t : Bool) → is_graphic x ≡ t → one_more t (run is_graphic xs) < suc (length xs) → get_or (x ∷ xs) (one_more t (run is_graphic xs)) 0 ≡ space
    → fields_of (x ∷ xs) ≡ take (one_more t (run is_graphic xs)) (x ∷ xs) ∷ fields_of (drop (suc (one_more t (run is_graphic xs))) (x ∷ xs))
space_go x xs rest true e h g =
    rw (differs is_graphic x newline e refl, first_onto x (cut newline xs), differs is_graphic x space e refl, rest (le_of_suc-le-suc h) g)
space_go x xs rest false e h g =
    rw (ne_eqb x newline (λ q. omega arith), first_onto x (cut newline xs), eq-eqb x space g)

space_suc : (l : List ℕ) → run is_graphic l < length l → get_or l (run is_graphic l) 0 ≡ space
    → fields_of l ≡ take (run is_graphic l) l ∷ fields_of (drop (suc (run is_graphic l)) l)
space_suc [] h g = absurd (not-suc-le-zero h)
space_suc (x ∷ xs) h g = space_go x xs (space_suc xs) (is_graphic x) refl h g

pub fields_space : (l : List ℕ) → run is_graphic l < length l → get_or l (run is_graphic l) 0 ≡ space
    → cut space (first_of (cut newline l)) ≡ take (run is_graphic l) l ∷ cut space (first_of (cut newline (drop (run is_graphic l + 1) l)))
fields_space l h g = rw add-one (space_suc l h g)

pub fields_newline : (l : List ℕ) → run is_graphic l < length l → get_or l (run is_graphic l) 0 ≡ newline
    → cut space (first_of (cut newline l)) ≡ take (run is_graphic l) l ∷ []
fields_newline l h g = rw (cut_more is_graphic newline l refl h g) (cut_last is_graphic space (take (run is_graphic l) l) refl (take_run is_graphic l))

-- the line that begins the list, where its first field is ended by a space: the line after that field is q
line_go : (x : ℕ) (xs q : List ℕ) (ps : List (List ℕ))
    → (run is_graphic xs < length xs → get_or xs (run is_graphic xs) 0 ≡ space → cut newline (drop (suc (run is_graphic xs)) xs) ≡ q ∷ ps
    → cut newline xs ≡ (take (suc (run is_graphic xs)) xs ++ q) ∷ ps)
    → (t : Bool) → is_graphic x ≡ t → one_more t (run is_graphic xs) < suc (length xs) → get_or (x ∷ xs) (one_more t (run is_graphic xs)) 0 ≡ space
    → cut newline (drop (suc (one_more t (run is_graphic xs))) (x ∷ xs)) ≡ q ∷ ps
    → cut newline (x ∷ xs) ≡ (take (suc (one_more t (run is_graphic xs))) (x ∷ xs) ++ q) ∷ ps
line_go x xs q ps rest true e h g d = rw (differs is_graphic x newline e refl, rest (le_of_suc-le-suc h) g d)
line_go x xs q ps rest false e h g d = rw (ne_eqb x newline (λ z. omega arith), d)

line_suc : (l q : List ℕ) (ps : List (List ℕ)) → run is_graphic l < length l → get_or l (run is_graphic l) 0 ≡ space
    → cut newline (drop (suc (run is_graphic l)) l) ≡ q ∷ ps → cut newline l ≡ (take (suc (run is_graphic l)) l ++ q) ∷ ps
line_suc [] q ps h g d = absurd (not-suc-le-zero h)
line_suc (x ∷ xs) q ps h g d = line_go x xs q ps (line_suc xs q ps) (is_graphic x) refl h g d

pub line_space : (l q : List ℕ) (ps : List (List ℕ)) → run is_graphic l < length l → get_or l (run is_graphic l) 0 ≡ space
    → cut newline (drop (run is_graphic l + 1) l) ≡ q ∷ ps → cut newline l ≡ (take (run is_graphic l + 1) l ++ q) ∷ ps
line_space l q ps h g d = rw add-one (line_suc l q ps h g (rw add-one at d))

-- ---- pieces by their number

pub some : (b : ℕ) (xs : List ℕ) → 1 ≤ length (cut b xs)
some b [] = omega arith
some b (y ∷ ys) = go (eqb y b) (cut b ys)
  where
    go : (t : Bool) (ps : List (List ℕ)) → 1 ≤ length (cut_at t y ps)
    go true ps = omega arith
    go false [] = omega arith
    go false (p ∷ ps) = omega arith

length_onto : (x b : ℕ) (xs : List ℕ) → length (onto x (cut b xs)) ≡ length (cut b xs)
length_onto x b xs = go (cut b xs) (some b xs)
  where
    go : (ps : List (List ℕ)) → 1 ≤ length ps → length (onto x ps) ≡ length ps
    go [] h = absurd (not-suc-le-zero h)
    go (p ∷ ps) h = refl

-- one piece more than separators
pub pieces : (s : List ℕ) → length (cut newline s) ≡ suc (count_by is_newline s)
pieces [] = refl
pieces (x ∷ xs) = go (eqb x newline) (pieces xs)
  where
    go : (t : Bool) → length (cut newline xs) ≡ suc (count_by is_newline xs) → length (cut_at t x (cut newline xs)) ≡ suc (one t + count_by is_newline xs)
    go true e = omega arith
    go false e = omega (arith, length_onto x newline xs)

pub place_zero : (ps : List (List ℕ)) → piece_start ps 0 ≡ 0
place_zero [] = refl
place_zero (p ∷ ps) = refl

nil_cons : (p : List ℕ) (ps : List (List ℕ)) → [] ≡ p ∷ ps → ⊥
nil_cons p ps e = omega (arith, ap length e)

place_suc : (ps : List (List ℕ)) (k : ℕ) (p : List ℕ) (qs : List (List ℕ)) → drop k ps ≡ p ∷ qs → piece_start ps (suc k) ≡ piece_start ps k + length p + 1
place_suc [] zero p qs e = absurd (nil_cons p qs e)
place_suc [] (suc k) p qs e = absurd (nil_cons p qs e)
place_suc (q ∷ ps) zero p qs e =
    let h : q ≡ p = cc in
    omega (arith, place_zero ps, ap length h)
place_suc (q ∷ ps) (suc k) p qs e = omega (arith, place_suc ps k p qs e)

-- the pieces from k on are p and then qs
module _ (ps : List (List ℕ)) (k : ℕ) (p : List ℕ) (qs : List (List ℕ)) (e : drop k ps ≡ p ∷ qs) where
  pub piece_is : get_or ps k [] ≡ p
  piece_is = let h : k + 0 ≡ k = omega arith in sym (get_or-drop k ps 0 [] ∙ ap (λ (m : ℕ). get_or ps m []) h) ∙ ap (λ (l : List (List ℕ)). get_or l 0 []) e

  pub pieces_next : qs ≡ drop (k + 1) ps
  pieces_next = sym (ap (λ (l : List (List ℕ)). drop 1 l) e) ∙ drop-drop 1 k ps

  pub place_next_lem : piece_start ps (k + 1) ≡ piece_start ps k + length p + 1
  place_next_lem = rw add-one (place_suc ps k p qs e)

-- every piece lies in the list
inside_go : (x : ℕ) (n : ℕ) (t : Bool) (ps : List (List ℕ)) → 1 ≤ length ps → ((k : ℕ) → k < length ps → piece_start ps k + length (get_or ps k []) ≤ n)
    → (k : ℕ) → k < length (cut_at t x ps) → piece_start (cut_at t x ps) k + length (get_or (cut_at t x ps) k []) ≤ suc n
inside_go x n true ps h rest zero l = omega arith
inside_go x n true ps h rest (suc k) l = omega (arith, rest k (le_of_suc-le-suc l))
inside_go x n false [] h rest k l = absurd (not-suc-le-zero h)
inside_go x n false (p ∷ ps) h rest zero l = omega (arith, rest 0 h)
inside_go x n false (p ∷ ps) h rest (suc k) l = omega (arith, rest (suc k) l)

pub piece_inside : (b : ℕ) (s : List ℕ) (k : ℕ) → k < length (cut b s) → piece_start (cut b s) k + length (get_or (cut b s) k []) ≤ length s
piece_inside b [] zero l = omega arith
piece_inside b [] (suc k) l = absurd (not-suc-le-zero (le_of_suc-le-suc l))
piece_inside b (x ∷ xs) k l = inside_go x (length xs) (eqb x b) (cut b xs) (some b xs) (piece_inside b xs) k l

-- k pieces, none of them empty, are k pieces
pub fields_count : (k : ℕ) (fs : List (List ℕ)) → fields_are k fs ≡ true → length fs ≡ k
fields_count zero [] e = refl
fields_count zero (f ∷ fs) e = absurd (true_false (sym e))
fields_count (suc k) [] e = absurd (true_false (sym e))
fields_count (suc k) ([] ∷ fs) e = absurd (true_false (sym e))
fields_count (suc k) ((x ∷ f) ∷ fs) e = ap suc (fields_count k fs e)
