-- The search for blocks, by paths (Gabow): the state between two steps, and what the functions of the search promise each other. Items met
-- and in no block found yet stand on a stack. It is cut into classes, whose members are known to be in one block; `starts` has the position
-- at which each class begins. `path` has the positions of those whose row may still have marks of items not met.
use Rattle.std.specs.Prelude.{◌≡◌, ◌⊎◌, List, Bool, true, false, ℕ, ◌+◌, ◌-◌, ◌*◌, ◌≤◌, ◌<◌, length, get_or, Option, MatchOption}
use Rattle.order.specs.LabelLists.{◌∈◌, filter}
use Rattle.order.specs.Closure.{closure}
use Rattle.marks.specs.Marks.{mark, Added, Dropped}
use Rattle.placing.specs.UnmetCounts.{needed}
use Rattle.blocks.specs.Found.{IsLead}

-- l' is l with v at i
pub record Stored (l l' : List ℕ) (i v : ℕ) : Type 0 where
  pub own : get_or l' i 0 ≡ v
  pub others : (j : ℕ) → (j ≡ i → ⊥) → get_or l' j 0 ≡ get_or l j 0

-- the first k of l are positions below n, upward
pub record Positions (l : List ℕ) (k n : ℕ) : Type 0 where
  pub upward : (i j : ℕ) → i < j → j < k → get_or l i 0 < get_or l j 0
  pub under : (i : ℕ) → i < k → get_or l i 0 < n

-- v is one of the first k of l
abbrev pub Among : List ℕ → ℕ → ℕ → Type 0
Among l k v = (i : ℕ) × (i < k) × (get_or l i 0 ≡ v)

-- no class begins after position i and up to j
abbrev pub OneClass : List ℕ → ℕ → ℕ → ℕ → Type 0
OneClass starts b i j = (k : ℕ) → k < b → i < get_or starts k 0 → j < get_or starts k 0

-- p is q, or needs it directly or through other items
abbrev pub NeedsOrIs : (ℕ → ℕ → Bool) → List ℕ → ℕ → ℕ → Type 0
NeedsOrIs R items p q = (p ≡ q) ⊎ (q ∈ closure R items p)

-- how many items are not met
abbrev pub fresh_count : List ℕ → List ℕ → ℕ → ℕ
fresh_count items fresh w = length (filter (mark fresh w 0) items)

-- n items on the stack, b classes, p on the path; the items that are neither fresh nor on the stack have their blocks found
pub record Search (items square mask fresh stacked stack place starts path : List ℕ) (w n b p : ℕ) : Type 0 where
  pub fresh_in : (x : ℕ) → mark fresh w 0 x ≡ true → mark mask w 0 x ≡ true
  pub stack_in : (i : ℕ) → i < n → mark mask w 0 (get_or stack i 0) ≡ true
  pub apart : (x : ℕ) → mark fresh w 0 x ≡ true → mark stacked w 0 x ≡ false
  pub on : (i : ℕ) → i < n → (mark stacked w 0 (get_or stack i 0) ≡ true) × (get_or place (get_or stack i 0) 0 ≡ i)
  pub off : (x : ℕ) → mark stacked w 0 x ≡ true → (get_or place x 0 < n) × (get_or stack (get_or place x 0) 0 ≡ x)
  -- each needs all below it, and all of its class
  pub down : (i j : ℕ) → i ≤ j → j < n → NeedsOrIs (needed square mask w) items (get_or stack j 0) (get_or stack i 0)
  pub up : (i j : ℕ) → i ≤ j → j < n → OneClass starts b i j → NeedsOrIs (needed square mask w) items (get_or stack i 0) (get_or stack j 0)
  -- who needs one above it is of its class
  pub joins : (j i : ℕ) → j < i → i < n → needed square mask w (get_or stack j 0) (get_or stack i 0) ≡ true → OneClass starts b j i
  pub bottom : 0 < n → (0 < b) × (get_or starts 0 0 ≡ 0)
  pub cuts : Positions starts b n
  pub steps : Positions path p n
  pub begun : (k : ℕ) → k < b → Among path p (get_or starts k 0)
  -- no fresh item needs one that has left the path
  pub searched : (i : ℕ) → i < n → (Among path p i → ⊥) → (x : ℕ) → mark fresh w 0 x ≡ true → needed square mask w x (get_or stack i 0) ≡ false
  -- who needs one whose block is found has its own found
  pub closed : (x a : ℕ) → needed square mask w x a ≡ true → mark fresh w 0 a ≡ false → mark stacked w 0 a ≡ false
      → (mark fresh w 0 x ≡ false) × (mark stacked w 0 x ≡ false)
  pub room : n + fresh_count items fresh w ≤ length items

-- the items that are neither fresh nor on the stack have their leads
abbrev pub Settled : List ℕ → List ℕ → List ℕ → List ℕ → List ℕ → List ℕ → ℕ → Type 0
Settled items square mask fresh stacked lead w =
    (x : ℕ) → x ∈ items → mark fresh w 0 x ≡ false → mark stacked w 0 x ≡ false → IsLead (needed square mask w) items x (get_or lead x 0)

-- the state of the search, with the leads
abbrev pub Going : List ℕ → List ℕ → List ℕ → List ℕ → List ℕ → List ℕ → List ℕ → List ℕ → List ℕ → List ℕ → ℕ → ℕ → ℕ → ℕ → Type 0
Going items square mask fresh stacked stack place starts path lead w n b p =
    Search items square mask fresh stacked stack place starts path w n b p × Settled items square mask fresh stacked lead w

-- no item becomes fresh again
abbrev pub Kept : List ℕ → List ℕ → ℕ → Type 0
Kept fresh fresh' w = (x : ℕ) → mark fresh w 0 x ≡ false → mark fresh' w 0 x ≡ false

-- a step was made: an item was met, or one left the path
pub record Nearer (items fresh fresh' : List ℕ) (w p p' : ℕ) : Type 0 where
  pub kept : Kept fresh fresh' w
  pub less : 2 * fresh_count items fresh' w + p' < 2 * fresh_count items fresh w + p

-- ---- the parts of a step

-- r is a mark that row p and the first row of a mask have in common, if they have one
abbrev pub CommonMark : List ℕ → List ℕ → ℕ → ℕ → Option ℕ → Type 0
CommonMark s mask w p r = MatchOption r ((q : ℕ) → mark mask w 0 q ≡ true → mark s w p q ≡ false) (λ q. (mark s w p q ≡ true) × (mark mask w 0 q ≡ true))

-- of b starts the first r are left, those up to `low`
pub record StartsCut (starts : List ℕ) (b low r : ℕ) : Type 0 where
  pub fewer : r ≤ b
  pub left : 0 < r → get_or starts (r - 1) 0 ≤ low
  pub gone : (k : ℕ) → r ≤ k → k < b → low < get_or starts k 0

-- x stands at a position from s to n
abbrev pub StandsFrom : List ℕ → ℕ → ℕ → ℕ → Type 0
StandsFrom stack s n x = (k : ℕ) × (s ≤ k) × (k < n) × (get_or stack k 0 ≡ x)

-- least is the smallest of those
pub record Smallest (stack : List ℕ) (s n least : ℕ) : Type 0 where
  pub least_of : (k : ℕ) → s ≤ k → k < n → least ≤ get_or stack k 0
  pub is : StandsFrom stack s n least

-- low is the lowest place of those on the stack that need q, or n where none does
pub record LowestNeeder (square stacked place : List ℕ) (w q n low : ℕ) : Type 0 where
  pub least : (x : ℕ) → mark square w q x ≡ true → mark stacked w 0 x ≡ true → low ≤ get_or place x 0
  pub is : (low ≡ n) ⊎ ((x : ℕ) × (mark square w q x ≡ true) × (mark stacked w 0 x ≡ true) × (get_or place x 0 ≡ low))

-- what is asked before q goes onto the stack
pub record Pushable (square fresh stacked stack place starts path : List ℕ) (w q n b p : ℕ) : Type 0 where
  pub narrow : w ≤ 1000
  pub low : q < 64 * w
  pub row : q * w + w ≤ length square
  pub unmet : mark fresh w 0 q ≡ true
  pub fresh_room : w ≤ length fresh
  pub stacked_room : w ≤ length stacked
  pub stack_room : n < length stack
  pub place_room : q < length place
  pub starts_room : b < length starts
  pub path_room : p < length path
  pub small : n < 65536
  pub few_starts : b ≤ n
  pub few_steps : p ≤ n
  pub placed : (x : ℕ) → mark stacked w 0 x ≡ true → x < length place

-- q is met: on the stack at position n, on the path, and the start of a class that is joined with those down to the lowest that needs it
pub record Pushed (square fresh stacked stack place starts path fresh' stacked' stack' place' starts' path' : List ℕ) (w q n b p b' : ℕ) : Type 0 where
  pub low : ℕ
  pub met : LowestNeeder square stacked place w q n low
  pub dropped : Dropped fresh fresh' w 0 q
  pub added : Added (λ (x : ℕ). x ≡ q) stacked stacked' w 0
  pub stack_put : Stored stack stack' n q
  pub place_put : Stored place place' q n
  pub path_put : Stored path path' p n
  pub start_put : Stored starts starts' b n
  pub cut : StartsCut starts' (b + 1) low b'

-- those at positions from s to n have left the stack, with their lead
pub record HasLeft (stack stacked stacked' lead lead' : List ℕ) (w s n least : ℕ) : Type 0 where
  pub gone : (x : ℕ) → StandsFrom stack s n x → mark stacked' w 0 x ≡ false
  pub led : (x : ℕ) → StandsFrom stack s n x → get_or lead' x 0 ≡ least
  pub others : (x : ℕ) → (StandsFrom stack s n x → ⊥) → (mark stacked' w 0 x ≡ mark stacked w 0 x) × (get_or lead' x 0 ≡ get_or lead x 0)

-- the same, with the smallest of them as the lead
pub record Finished (stack stacked stacked' lead lead' : List ℕ) (w s n : ℕ) : Type 0 where
  pub least : ℕ
  pub smallest : Smallest stack s n least
  pub left : HasLeft stack stacked stacked' lead lead' w s n least
