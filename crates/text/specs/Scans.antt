-- What the scanners look for and find, as positions of the text s.
use Rattle.std.specs.Prelude.{◌≡◌, Bool, true, false, cond, not, ◌&&◌, List, [], ◌∷◌, Option, Some, None, ℕ, suc, ◌+◌, ◌≤◌, ◌<◌, ltb, eqb, length, get_or}
use Rattle.std.proofs.Math.Seq.{slice}
use Rattle.cells.specs.Characters.{newline, space}
use Rattle.numbers.specs.Decimal.{digits_of}
use Rattle.text.specs.Bytes.{is_allowed, is_alphanumeric}
use Rattle.text.specs.Forms.{is_name}
use Rattle.text.specs.Pieces.{cut, first_of}

-- ---- bytes

abbrev pub is_bad : ℕ → Bool
is_bad x = not (is_allowed x)

-- a byte above the space: what neither ends a line nor parts two fields
abbrev pub is_graphic : ℕ → Bool
is_graphic x = ltb space x

-- ---- counts

-- how many bytes are counted in one block
abbrev pub block_size : ℕ
block_size = 128

-- ---- runs

-- one more than n where a test passes, else 0
abbrev pub one_more : Bool → ℕ → ℕ
one_more true n = suc n
one_more false n = 0

-- how many bytes at the front pass the test p
abbrev pub run : (ℕ → Bool) → List ℕ → ℕ
run p [] = 0
run p (x ∷ xs) = one_more (p x) (run p xs)

-- where the bytes end that pass the test p, from `from` on and before `to`
unfoldable pub run_end : (ℕ → Bool) → List ℕ → ℕ → ℕ → ℕ
run_end p s from to = from + run p (slice from to s)

-- ---- fields

-- what a text holds from position i on, and the fields of the line that begins there
abbrev pub rest : List ℕ → ℕ → List ℕ
rest s i = slice i (length s) s

abbrev pub fields_from : List ℕ → ℕ → List (List ℕ)
fields_from s i = cut space (first_of (cut newline (rest s i)))

-- where the field that begins at `from` ends, if it is not empty and the byte `stop` ends it
unfoldable pub field_end : List ℕ → ℕ → ℕ → Option ℕ
field_end s from stop =
    let end = run_end is_graphic s from (length s) in
    cond (ltb from end && eqb (get_or s end 0) stop) (Some end) None

-- ---- what one scan finds from `from` on, up to e

-- a field that the byte `stop` ends
pub record EndsAt (s : List ℕ) (from stop e : ℕ) : Type 0 where
  pub wide : from < e
  pub inside : e < length s
  pub by : get_or s e 0 ≡ stop

-- letters and digits, however much of the text after them is looked at
pub record LettersTo (s : List ℕ) (from e : ℕ) : Type 0 where
  pub low : from ≤ e
  pub inside : e < length s
  pub ends : (t : ℕ) → e ≤ t → t ≤ length s → run_end is_alphanumeric s from t ≡ e

-- letters and digits that are a name
pub record NameTo (s : List ℕ) (from e : ℕ) : Type 0 where
  pub wide : from < e
  pub letters : LettersTo s from e
  pub name : is_name (slice from e s) ≡ true

-- digits of the value v, or none, which have the value 0
pub record DigitsTo (max : ℕ) (s : List ℕ) (from e v : ℕ) : Type 0 where
  pub low : from ≤ e
  pub inside : e < length s
  pub value : digits_of max 0 (slice from e s) ≡ Some v
