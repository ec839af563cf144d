-- Document 01, "Reaching and planning", with order 2's blocks, over a table t of n labels. What a definition mentions and reaches as a
-- relation stands with the table (`Mentions`, `Reaches`); here it is a test, proved equal to the relation. Tests are what plans are
-- computed from; what makes an order proper or whole is said without them.
use Rattle.std.specs.Prelude.{◌≡◌, List, [], ◌∷◌, ◌++◌, Bool, true, false, cond, not, ◌&&◌, ◌||◌, ℕ, zero, suc, eqb, ℤ}
use Rattle.std.proofs.Math.Option.{Option, none, some}
use Rattle.kinds.specs.Kinds.{group_code, value_code}
use Rattle.cells.specs.Table.{kind, is_definition, has_path, owner, target}
use Rattle.cells.specs.Reaches.{Reaches}
use Rattle.order.specs.LabelLists.{one, count, ◌∈◌, mem, up_from, filter, any, first, joined}
use Rattle.order.specs.Closure.{closure}
use Rattle.order.specs.Placing.{placed}
use Rattle.order.specs.Blocks.{block_of, several, has_several, placed_blocks}

-- ---- Groups and values

abbrev pub is_g : List ℤ → ℕ → Bool
is_g t l = eqb (kind t l) group_code

abbrev pub is_v : List ℤ → ℕ → Bool
is_v t l = eqb (kind t l) value_code

abbrev pub all_labels : ℕ → List ℕ
all_labels n = up_from 1 n

-- the V labels, upward
abbrev pub values : List ℤ → ℕ → List ℕ
values t n = filter (is_v t) (all_labels n)

-- "The members of a Group are the definitions whose a is its label", which is their owner; upward
abbrev pub is_member_of : List ℤ → ℕ → ℕ → Bool
is_member_of t g l = is_definition t l && eqb (owner t l) g

abbrev pub members : List ℤ → ℕ → ℕ → List ℕ
members t n g = filter (is_member_of t g) (all_labels n)

-- where one comes to from v in j steps, each from a member to its Group
abbrev pub up : List ℤ → ℕ → ℕ → ℕ
up t zero v = v
up t (suc j) v = up t j (owner t v)

-- v is p, or lies under it at any depth
abbrev pub Within : List ℤ → ℕ → ℕ → Type 0
Within t p v = (j : ℕ) × (up t j v ≡ p)

-- the same as a test: at most k steps meet p; v steps are enough, since a Group's label is below its members'
abbrev pub climbs : List ℤ → ℕ → ℕ → ℕ → Bool
climbs t zero p v = eqb v p
climbs t (suc k) p v = eqb v p || climbs t k p (owner t v)

abbrev pub within : List ℤ → ℕ → ℕ → Bool
within t p v = climbs t v p v

-- ---- "Definition d mentions e when an R or C owned by d has target e, both branches of I included. d reaches e by one or more mentions"

abbrev pub is_mention : List ℤ → ℕ → ℕ → ℕ → Bool
is_mention t d e x = has_path t x && eqb (owner t x) d && eqb (target t x) e

abbrev pub mentions : List ℤ → ℕ → ℕ → ℕ → Bool
mentions t n d e = any (is_mention t d e) (all_labels n)

-- what d reaches, upward
abbrev pub reached : List ℤ → ℕ → ℕ → List ℕ
reached t n d = closure (mentions t n) (all_labels n) d

abbrev pub reaches : List ℤ → ℕ → ℕ → ℕ → Bool
reaches t n d e = mem e (reached t n d)

-- "A value that reaches itself is a circle": there is none
abbrev pub NoCycle : List ℤ → Type 0
NoCycle t = (v : ℕ) → kind t v ≡ value_code → Reaches t v v → ⊥

-- ---- "An order is proper if it lists every V label once, each after every V that it reaches"

pub record Proper (t : List ℤ) (o : List ℕ) : Type 0 where
  -- every V label once, and no other
  pub once : (v : ℕ) → count v o ≡ one (is_v t v)
  -- wherever the order is split at a v, the values that v reaches stand before it
  pub after : (a : List ℕ) (v : ℕ) (b : List ℕ) → o ≡ a ++ v ∷ b → (w : ℕ) → kind t w ≡ value_code → Reaches t v w → w ∈ a

-- ---- "whole if for every Group the V labels under it, at any depth, are consecutive"

-- the labels of o that are so are consecutive: o is three lists, where all of the middle are so and none of the others
pub record Consecutive (So : ℕ → Type 0) (o : List ℕ) : Type 0 where
  pub front : List ℕ
  pub block : List ℕ
  pub back : List ℕ
  pub parts : o ≡ front ++ (block ++ back)
  pub inside : (v : ℕ) → v ∈ block → So v
  pub before : (v : ℕ) → v ∈ front → So v → ⊥
  pub behind : (v : ℕ) → v ∈ back → So v → ⊥

abbrev pub Whole : List ℤ → List ℕ → Type 0
Whole t o = (g : ℕ) → kind t g ≡ group_code → Consecutive (Within t g) o

-- ---- "Member p needs another member q of its Group if a V that is p or under p reaches one that is q or under q"

abbrev pub reaches_into : List ℤ → ℕ → ℕ → ℕ → Bool
reaches_into t n q x = any (λ y. within t q y && reaches t n x y) (values t n)

abbrev pub needs : List ℤ → ℕ → ℕ → ℕ → Bool
needs t n p q = not (eqb p q) && any (λ x. within t p x && reaches_into t n q x) (values t n)

-- ---- order 2: "In a Group, members that need each other round a circle now form one block. Blocks are placed by the smallest label they
-- hold, as soon as every block they need is placed"

-- the block of g's member p, upward
abbrev pub member_block : List ℤ → ℕ → ℕ → ℕ → List ℕ
member_block t n g p = block_of (needs t n) (members t n g) p

-- the blocks of g in order, each known by the smallest label that it holds
abbrev pub ordered : List ℤ → ℕ → ℕ → List ℕ
ordered t n g = placed_blocks (needs t n) (members t n g)

-- ---- "A block of several lists all values under its members, smallest label first, once those it reaches in the block are listed"

-- v is one of the members of b's block, or lies under one
abbrev pub in_block : List ℤ → ℕ → ℕ → ℕ → ℕ → Bool
in_block t n g b v = any (λ p. within t p v) (member_block t n g b)

abbrev pub block_values : List ℤ → ℕ → ℕ → ℕ → List ℕ
block_values t n g b = filter (in_block t n g b) (values t n)

abbrev pub several_plan : List ℤ → ℕ → ℕ → ℕ → List ℕ
several_plan t n g b = placed (reaches t n) (block_values t n g b)

-- ---- "A block that is one Group is listed by this same rule inside"; a V lists itself, and F gives nothing

abbrev pub listed : List ℤ → (ℕ → List ℕ) → ℕ → List ℕ
listed t group p = cond (is_v t p) (p ∷ []) (cond (is_g t p) (group p) [])

abbrev pub block_listed : List ℤ → ℕ → ℕ → (ℕ → List ℕ) → ℕ → List ℕ
block_listed t n g group b = cond (several (needs t n) (members t n g) b) (several_plan t n g b) (listed t group b)

-- what Group g lists, its Groups at most k deep
abbrev pub group_plan : List ℤ → ℕ → ℕ → ℕ → List ℕ
group_plan t n zero g = []
group_plan t n (suc k) g = joined (block_listed t n g (λ p. group_plan t n k p)) (ordered t n g)

-- the outermost Group's; n deep is enough, since a member's label is above its Group's
abbrev pub plan_order : List ℤ → ℕ → List ℕ
plan_order t n = group_plan t n n 1

-- ---- "'Mixed' is the answer when some block has several members", in any Group

abbrev pub group_tangled : List ℤ → ℕ → ℕ → Bool
group_tangled t n g = has_several (needs t n) (members t n g)

abbrev pub sheet_tangled : List ℤ → ℕ → Bool
sheet_tangled t n = any (λ g. is_g t g && group_tangled t n g) (all_labels n)

-- ---- the plan; row 16, "V reaches itself", a pass upward through the labels, whose place is the label

abbrev pub first_cycle : List ℤ → ℕ → Option ℕ
first_cycle t n = first (λ v. reaches t n v v) (values t n)

pub data Answer : Type 0 where
  cycle : ℕ → Answer
  whole : List ℕ → Answer
  mixed : List ℕ → Answer

abbrev pub answer : List ℤ → ℕ → Option ℕ → Bool → Answer
answer t n (some v) mix = cycle v
answer t n none true = mixed (plan_order t n)
answer t n none false = whole (plan_order t n)

abbrev pub plan : List ℤ → ℕ → Answer
plan t n = answer t n (first_cycle t n) (sheet_tangled t n)

-- the list that Plan writes; none where it refuses
abbrev pub order_of : Answer → List ℕ
order_of (cycle v) = []
order_of (whole o) = o
order_of (mixed o) = o

-- the place of row 16, 0 where it finds nothing
abbrev pub or_zero : Option ℕ → ℕ
or_zero none = 0
or_zero (some v) = v

abbrev pub place16 : List ℤ → ℕ → ℕ
place16 t n = or_zero (first_cycle t n)

-- two tables with the same kinds, owners and targets
pub record SameStructure (t u : List ℤ) : Type 0 where
  pub kinds : (l : ℕ) → kind u l ≡ kind t l
  pub owners : (l : ℕ) → owner u l ≡ owner t l
  pub targets : (l : ℕ) → target u l ≡ target t l
