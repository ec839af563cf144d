-- Names and paths, by what the code tests of a field.
use mathlib.Core.Path.{◌≡◌, refl, ap, ◌∙◌}
use mathlib.Core.Bool.{Bool, true, false, cond, ◌&&◌, ◌||◌}
use mathlib.Core.Logic.{◌⊎◌, inl, inr}
use mathlib.Core.List.{List, [], ◌∷◌}
use Prim.Native.Nat.{ℕ, ◌≤◌, ◌<◌}
use native.Mathlib.Omega.{arith}
use lib.Dec.{eqb, leb}
use lib.ListN.{length, get_or}
use borrow.Author.Tests.{lt-leb, le-leb}
use Rattle.std.specs.Char.{is_ascii_alphabetic, is_ascii_alphanumeric}
use Rattle.std.specs.List.{list_all, slice_split, onto_first}
use Rattle.cells.specs.Limits.{name_limit, path_limit}
use Rattle.cells.specs.Characters.{dot, capital_a, capital_z, small_a, small_z, digit_zero, digit_nine}
use Rattle.text.specs.Bytes.{all, is_letter, is_alphanumeric}
use Rattle.text.specs.Pieces.{cut, cut_at, onto}
use Rattle.text.specs.Forms.{is_name, all_names, is_path}
use Rattle.text.proofs.Bytes.{and-false}

-- ---- letters and digits

pub dot_stops : is_alphanumeric dot ≡ false
unfolding is_alphanumeric is_letter
dot_stops = refl

pub letter_is : (x : ℕ) → is_ascii_alphabetic x ≡ is_letter x
unfolding is_letter
letter_is x = refl

pub alphanumeric_is : (x : ℕ) → is_ascii_alphanumeric x ≡ is_alphanumeric x
unfolding is_alphanumeric is_letter
alphanumeric_is x = go (leb digit_zero x && leb x digit_nine) (leb capital_a x && leb x capital_z) (leb small_a x && leb x small_z)
  where
    go : (d c s : Bool) → ((d || c) || s) ≡ ((c || s) || d)
    go true true s = refl
    go true false true = refl
    go true false false = refl
    go false true s = refl
    go false false true = refl
    go false false false = refl

pub letter_alphanumeric : (x : ℕ) → is_letter x ≡ true → is_alphanumeric x ≡ true
unfolding is_alphanumeric
letter_alphanumeric x e = rw e

-- ---- the library's words for the same

pub all_is : (p q : ℕ → Bool) → ((x : ℕ) → p x ≡ q x) → (f : List ℕ) → list_all p f ≡ all q f
all_is p q h [] = refl
all_is p q h (x ∷ f) = rw (h x, all_is p q h f)

pub names_are : (ps : List (List ℕ)) → list_all is_name ps ≡ all_names ps
names_are [] = refl
names_are (p ∷ ps) = rw (names_are ps)

onto_is : (x : ℕ) (ps : List (List ℕ)) → onto_first x ps ≡ onto x ps
onto_is x [] = refl
onto_is x (p ∷ ps) = refl

cut_go : (t : Bool) (x : ℕ) (ps qs : List (List ℕ)) → ps ≡ qs → cond t ([] ∷ ps) (onto_first x ps) ≡ cut_at t x qs
cut_go true x ps qs e = rw e
cut_go false x ps qs e = rw (e, onto_is x qs)

pub cut_is : (b : ℕ) (f : List ℕ) → slice_split (λ x. eqb x b) f ≡ cut b f
cut_is b [] = refl
cut_is b (x ∷ f) = cut_go (eqb x b) x (slice_split (λ x. eqb x b) f) (cut b f) (cut_is b f)

-- ---- what is a name

module _ (f : List ℕ) where
  pub name_wide : (length f ≡ 0) ⊎ (name_limit < length f) → is_name f ≡ false
  unfolding is_name
  name_wide (inl e) = rw e
  name_wide (inr h) = rw (lt-leb (length f) name_limit h, and-false (leb 1 (length f)) false refl)

  pub name_letter : is_letter (get_or f 0 0) ≡ false → is_name f ≡ false
  unfolding is_name
  name_letter e = rw (e, and-false (leb 1 (length f) && leb (length f) name_limit) false refl)

  pub name_by : 1 ≤ length f → length f ≤ name_limit → is_letter (get_or f 0 0) ≡ true → is_name f ≡ all is_alphanumeric f
  unfolding is_name
  name_by h k e = rw (le-leb 1 (length f) h, le-leb (length f) name_limit k, e)

-- ---- what is a path

module _ (f : List ℕ) where
  pub path_by : {b : Bool} → length (slice_split (λ x. eqb x dot) f) ≤ path_limit → b ≡ list_all is_name (slice_split (λ x. eqb x dot) f) → b ≡ is_path f
  unfolding is_path
  path_by h e = e ∙ names_are (slice_split (λ x. eqb x dot) f) ∙ rw (cut_is dot f, le-leb (length (cut dot f)) path_limit (omega (arith, h, ap length (cut_is dot f))))

  pub path_long : path_limit < length (slice_split (λ x. eqb x dot) f) → false ≡ is_path f
  unfolding is_path
  path_long h = rw (lt-leb (length (cut dot f)) path_limit (omega (arith, h, ap length (cut_is dot f))))
