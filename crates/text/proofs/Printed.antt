-- Printed bytes: those that neither part two fields nor end a line, and that row 1 allows. A field of any form is made of them.
use mathlib.Core.Path.{◌≡◌, refl, ap, sym, ◌∙◌}
use mathlib.Core.Bool.{Bool, true, false, cond, ◌&&◌, ◌||◌}
use mathlib.Core.List.{List, [], ◌∷◌, ◌++◌}
use Prim.Native.Nat.{ℕ, ◌≤◌, ◌<◌}
use native.Mathlib.Omega.{arith}
use lib.Dec.{leb, ltb, eqb}
use lib.IntN.{ℤ}
use lib.ListN.{length, get_or}
use borrow.Author.Tests.{leb-true, le-leb, lt-ltb, eqb-true}
use Rattle.cells.specs.Limits.{name_limit, path_limit, number_limit}
use Rattle.cells.specs.Characters.{space, last_printable, dot, hyphen, digit_zero, digit_nine, capital_a, capital_z, small_a, small_z}
use Rattle.cells.proofs.Tests.{and_left, and_right}
use Rattle.std.specs.Prelude.{Option, Some, None}
use Rattle.numbers.specs.Decimal.{is_digit, all_digits, decimal_of, signed_of, number_of}
use Rattle.numbers.proofs.Decimals.{written}
use Rattle.text.specs.Bytes.{all, is_letter, is_alphanumeric}
use Rattle.text.specs.Pieces.{cut, joined_with}
use Rattle.text.specs.Forms.{is_name, all_names, is_path}
use Rattle.text.proofs.Joined.{joined_cut}

abbrev pub is_printed : ℕ → Bool
is_printed x = ltb space x && leb x last_printable

printed_is : (x : ℕ) → space < x → x ≤ last_printable → is_printed x ≡ true
printed_is x h g = rw (lt-ltb space x h, le-leb x last_printable g)

pub all_so : (p q : ℕ → Bool) → ((x : ℕ) → p x ≡ true → q x ≡ true) → (l : List ℕ) → all p l ≡ true → all q l ≡ true
all_so p q h [] e = refl
all_so p q h (x ∷ l) e = rw (h x (and_left (p x) (all p l) e), all_so p q h l (and_right (p x) (all p l) e))

pub both_all : (p : ℕ → Bool) (a b : List ℕ) → all p a ≡ true → all p b ≡ true → all p (a ++ b) ≡ true
both_all p [] b e f = f
both_all p (x ∷ a) b e f = rw (and_left (p x) (all p a) e) (both_all p a b (and_right (p x) (all p a) e) f)

-- ---- names and paths

digit_printed : (x : ℕ) → is_digit x ≡ true → is_printed x ≡ true
digit_printed x e =
    let h = leb-true digit_zero x (and_left (leb digit_zero x) (leb x digit_nine) e) in
    let g = leb-true x digit_nine (and_right (leb digit_zero x) (leb x digit_nine) e) in
    printed_is x (omega arith) (omega arith)

between : (low high x : ℕ) → space < low → high ≤ last_printable → (leb low x && leb x high) ≡ true → is_printed x ≡ true
between low high x a b e =
    let h = leb-true low x (and_left (leb low x) (leb x high) e) in
    let g = leb-true x high (and_right (leb low x) (leb x high) e) in
    printed_is x (omega arith) (omega arith)

either : (a b c : Bool) → (a ≡ true → c ≡ true) → (b ≡ true → c ≡ true) → (a || b) ≡ true → c ≡ true
either true b c f g e = f refl
either false b c f g e = g e

letter_printed : (x : ℕ) → is_letter x ≡ true → is_printed x ≡ true
unfolding is_letter
letter_printed x e =
    either (leb capital_a x && leb x capital_z) (leb small_a x && leb x small_z) (is_printed x)
    (between capital_a capital_z x (omega arith) (omega arith)) (between small_a small_z x (omega arith) (omega arith)) e

alphanumeric_printed : (x : ℕ) → is_alphanumeric x ≡ true → is_printed x ≡ true
unfolding is_alphanumeric
alphanumeric_printed x e = either (is_letter x) (is_digit x) (is_printed x) (letter_printed x) (digit_printed x) e

pub name_printed : (f : List ℕ) → is_name f ≡ true → all is_printed f ≡ true
unfolding is_name
name_printed f e =
    all_so is_alphanumeric is_printed alphanumeric_printed f (and_right (leb 1 (length f) && leb (length f) name_limit && is_letter (get_or f 0 0)) (all is_alphanumeric f) e)

names_printed : (ps : List (List ℕ)) → all_names ps ≡ true → all is_printed (joined_with dot ps) ≡ true
names_printed [] e = refl
names_printed (p ∷ []) e = name_printed p (and_left (is_name p) true e)
names_printed (p ∷ q ∷ ps) e =
    both_all is_printed p (dot ∷ joined_with dot (q ∷ ps)) (name_printed p (and_left (is_name p) (all_names (q ∷ ps)) e))
    (names_printed (q ∷ ps) (and_right (is_name p) (all_names (q ∷ ps)) e))

pub path_printed : (f : List ℕ) → is_path f ≡ true → all is_printed f ≡ true
unfolding is_path
path_printed f e =
    sym (ap (all is_printed) (joined_cut dot f)) ∙ names_printed (cut dot f) (and_right (leb (length (cut dot f)) path_limit) (all_names (cut dot f)) e)

-- ---- numbers

digits_printed : (f : List ℕ) → all_digits f ≡ true → all is_printed f ≡ true
unfolding all_digits
digits_printed [] e = refl
digits_printed (c ∷ f) e =
    rw (digit_printed c (and_left (is_digit c) (all_digits f) e), digits_printed f (and_right (is_digit c) (all_digits f) e))

pub decimal_printed : (max : ℕ) (f : List ℕ) (v : ℕ) → decimal_of max f ≡ Some v → all is_printed f ≡ true
decimal_printed max f v e = digits_printed f (written max f v e).digits

signed_printed : (negative : Bool) (f : List ℕ) (z : ℤ) → signed_of negative (decimal_of number_limit f) ≡ Some z → all is_printed f ≡ true
signed_printed negative f z = go (decimal_of number_limit f) refl
  where
    go : (d : Option ℕ) → decimal_of number_limit f ≡ d → signed_of negative d ≡ Some z → all is_printed f ≡ true
    go (Some v) q e = decimal_printed number_limit f v q
    go None q e = absurd cc

pub number_printed : (f : List ℕ) (z : ℤ) → number_of f ≡ Some z → all is_printed f ≡ true
unfolding number_of
number_printed [] z e = refl
number_printed (c ∷ f) z e = go (eqb c hyphen) refl e
  where
    go : (b : Bool) → eqb c hyphen ≡ b → cond b (signed_of true (decimal_of number_limit f)) (signed_of false (decimal_of number_limit (c ∷ f))) ≡ Some z
        → all is_printed (c ∷ f) ≡ true
    go true q g = rw (eqb-true c hyphen q, signed_printed true f z g)
    go false q g = signed_printed false (c ∷ f) z g
