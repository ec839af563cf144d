-- How a row grows: what holds between two steps, and what each step does.
use Rattle.std.specs.Prelude.{◌≡◌, ◌⊎◌, List, Bool, true, false, ℕ, ◌+◌, ◌≤◌, ℤ, length, get_or, set, take}
use Rattle.kinds.specs.Kinds.{group_code}
use Rattle.cells.specs.Table.{kind, owner}
use Rattle.cells.specs.Accepted.{HasBody}
use Rattle.order.specs.LabelLists.{one, count, ◌∈◌, filter}
use Rattle.order.specs.Order.{all_labels}
use Rattle.marks.specs.Marks.{mark, Added}
use Rattle.reach.specs.Links.{Link, Around, Touches}
use Rattle.reach.specs.MarkRows.{width, MarkRows}
use Rattle.reach.specs.declared.RowState.{RowState}
use Rattle.reach.specs.declared.RowState.TheVariants.{New, Begun, Made}

-- with a Group, the Groups around it are marked
abbrev pub Raised : List ℤ → (ℕ → Bool) → Type 0
Raised t M = (g : ℕ) → kind t g ≡ group_code → M g ≡ true → 1 ≤ owner t g → M (owner t g) ≡ true

-- What becomes of row d and the stack where a link leads to f: it was marked already; or it is marked now with what is around it, and its
-- row is added if that is made, or else f is put on the stack.
pub data Met (t : List ℤ) (n : ℕ) (state : List RowState) (d f : ℕ) (s stack : List ℕ) (top : ℕ) (s' stack' : List ℕ) (r : ℕ) : Type 0 where
  marked : mark s (width n) d f ≡ true → s' ≡ s → stack' ≡ stack → r ≡ top → Met t n state d f s stack top s' stack' r
  added : mark s (width n) d f ≡ false → get_or state f New ≡ Made → stack' ≡ stack → r ≡ top
      → Added (λ (q : ℕ). Around t f q ⊎ (mark s (width n) f q ≡ true)) s s' (width n) d → Met t n state d f s stack top s' stack' r
  pushed : mark s (width n) d f ≡ false → stack' ≡ set stack top f → r ≡ top + 1 → Added (λ (q : ℕ). Around t f q) s s' (width n) d
      → Met t n state d f s stack top s' stack' r

-- Between two steps of d's row: what is marked is touched, with it what is around it, and what it links to unless it waits in S or is the
-- one at hand, e (0: none is).
pub record Spread (t : List ℤ) (j d e : ℕ) (M : ℕ → Bool) (S : List ℕ) : Type 0 where
  pub sound : (q : ℕ) → M q ≡ true → Touches t j d q
  pub around : (y q : ℕ) → M y ≡ true → HasBody t y → Around t y q → M q ≡ true
  pub raised : Raised t M
  pub closed : (y z : ℕ) → M y ≡ true → HasBody t y → Link t j y z → (M z ≡ true) ⊎ (y ∈ S) ⊎ (y ≡ e)
  pub held : (x : ℕ) → count x S ≤ one (M x)
  pub bodies : (x : ℕ) → x ∈ S → HasBody t x

-- how many labels are marked: it grows by what is put on the stack, so that a row comes to an end
unfoldable pub mark_count : ℕ → (ℕ → Bool) → ℕ
mark_count n M = length (filter M (all_labels n))

-- all that e links to is marked in row d; what is new on the stack is newly marked
pub record Grown (t : List ℤ) (n j d e : ℕ) (s : List ℕ) (top : ℕ) (s' stack' : List ℕ) (r : ℕ) : Type 0 where
  pub spread : Spread t j d 0 (mark s' (width n) d) (take r stack')
  pub links : (z : ℕ) → Link t j e z → mark s' (width n) d z ≡ true
  pub kept : (q : ℕ) → mark s (width n) d q ≡ true → mark s' (width n) d q ≡ true
  pub others : (a q : ℕ) → (a ≡ d → ⊥) → mark s' (width n) a q ≡ mark s (width n) a q
  pub less : r + mark_count n (mark s (width n) d) ≤ top + mark_count n (mark s' (width n) d)

-- d's row is made, and no other changed
pub record Filled (t : List ℤ) (n j d : ℕ) (s s' : List ℕ) : Type 0 where
  pub row : (q : ℕ) → mark s' (width n) d q ≡ true → Touches t j d q
  pub all : (q : ℕ) → Touches t j d q → mark s' (width n) d q ≡ true
  pub others : (a q : ℕ) → (a ≡ d → ⊥) → mark s' (width n) a q ≡ mark s (width n) a q

-- row d has become row e, which by its state `here` is made, and has d; or nothing changed
abbrev pub Shared : ℕ → RowState → ℕ → ℕ → List ℕ → List ℕ → Bool → Type 0
Shared n here d e s s' true = (here ≡ Made) × (mark s (width n) e d ≡ true) × Added (λ (q : ℕ). mark s (width n) e q ≡ true) s s' (width n) d
Shared n here d e s s' false = s' ≡ s

-- What was begun is so still, and what is begun and not made was and is so on both sides.
pub record Since (state state' : List RowState) : Type 0 where
  pub kept : (e : ℕ) → (get_or state e New ≡ New → ⊥) → get_or state' e New ≡ New → ⊥
  pub held : (e : ℕ) → get_or state e New ≡ Begun → get_or state' e New ≡ Begun
  pub unmade : (e : ℕ) → get_or state' e New ≡ Begun → get_or state e New ≡ Begun

-- d is begun
pub record Visited (t : List ℤ) (n j d : ℕ) (state state' : List RowState) (square' : List ℕ) : Type 0 where
  pub rows : MarkRows t n j state' square'
  pub here : get_or state' d New ≡ New → ⊥
  pub since : Since state state'
