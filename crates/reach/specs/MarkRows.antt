-- The rows of a square of n + 1 rows of marks: what each definition touches.
use Rattle.std.specs.Prelude.{◌≡◌, ◌↔◌, List, true, false, ℕ, ◌+◌, ◌*◌, ◌/◌, ◌≤◌, ◌<◌, ℤ, length, get_or}
use Rattle.kinds.specs.Kinds.{group_code, value_code}
use Rattle.cells.specs.Table.{kind}
use Rattle.cells.specs.Accepted.{HasBody}
use Rattle.marks.specs.Marks.{mark}
use Rattle.reach.specs.Links.{Touches}
use Rattle.reach.specs.declared.RowState.{RowState}
use Rattle.reach.specs.declared.RowState.TheVariants.{New, Made}

-- words in a row
abbrev pub width : ℕ → ℕ
width n = n / 64 + 1

abbrev pub MarkRow : List ℤ → ℕ → ℕ → List ℕ → ℕ → Type 0
MarkRow t n j square d = (q : ℕ) → (mark square (width n) d q ≡ true) ↔ Touches t j d q

abbrev pub Blank : ℕ → List ℕ → ℕ → Type 0
Blank n square d = (q : ℕ) → mark square (width n) d q ≡ false

-- every V's row is made, and a Group's is blank
pub record AllMarkRows (t : List ℤ) (n j : ℕ) (square : List ℕ) : Type 0 where
  pub values : (v : ℕ) → kind t v ≡ value_code → MarkRow t n j square v
  pub groups : (g : ℕ) → kind t g ≡ group_code → Blank n square g

-- What the states say: a row that is made is so, every other is blank, and only what has a body is begun.
pub record MarkRows (t : List ℤ) (n j : ℕ) (state : List RowState) (square : List ℕ) : Type 0 where
  pub begun : (d : ℕ) → (get_or state d New ≡ New → ⊥) → HasBody t d
  pub made : (d : ℕ) → get_or state d New ≡ Made → MarkRow t n j square d
  pub blank : (d : ℕ) → (get_or state d New ≡ Made → ⊥) → Blank n square d

-- room for the rows of n labels
abbrev pub RowsRoom : ℕ → List ℕ → Type 0
RowsRoom n square = (n + 1) * width n ≤ length square

-- room for the rows, the states and the stack of n labels
pub record MarksRoom (n : ℕ) (state : List RowState) (square stack : List ℕ) : Type 0 where
  pub states : n < length state
  pub rows : RowsRoom n square
  pub heights : n < length stack
