-- Document 02, order 2: the blocks of some items, by what they need. It makes the blocks of a Group's members, as Placing makes an order.
use Rattle.std.specs.Prelude.{List, Bool, not, ◌&&◌, ◌||◌, ℕ, eqb, ltb}
use Rattle.order.specs.LabelLists.{mem, filter, any}
use Rattle.order.specs.Closure.{closure}
use Rattle.order.specs.Placing.{placed}

-- p and q are in one block: each needs the other, directly or through other items
abbrev pub together : (ℕ → ℕ → Bool) → List ℕ → ℕ → ℕ → Bool
together needs items p q = eqb p q || mem q (closure needs items p) && mem p (closure needs items q)

-- the block of p, in the sequence of the items
abbrev pub block_of : (ℕ → ℕ → Bool) → List ℕ → ℕ → List ℕ
block_of needs items p = filter (together needs items p) items

-- it has other members
abbrev pub several : (ℕ → ℕ → Bool) → List ℕ → ℕ → Bool
several needs items p = any (λ q. not (eqb q p)) (block_of needs items p)

-- some block has several members
abbrev pub has_several : (ℕ → ℕ → Bool) → List ℕ → Bool
has_several needs items = any (several needs items) items

-- p is the smallest label that its block holds: by it the block is known and placed
abbrev pub is_leader : (ℕ → ℕ → Bool) → List ℕ → ℕ → Bool
is_leader needs items p = not (any (λ q. ltb q p) (block_of needs items p))

abbrev pub leaders : (ℕ → ℕ → Bool) → List ℕ → List ℕ
leaders needs items = filter (is_leader needs items) items

-- the block of b needs another, that of c: a member of the one needs a member of the other
abbrev pub block_needs : (ℕ → ℕ → Bool) → List ℕ → ℕ → ℕ → Bool
block_needs needs items b c = not (eqb b c) && any (λ p. any (needs p) (block_of needs items c)) (block_of needs items b)

-- "Blocks are placed by the smallest label they hold, as soon as every block they need is placed": the smallest labels, in that order
abbrev pub placed_blocks : (ℕ → ℕ → Bool) → List ℕ → List ℕ
placed_blocks needs items = placed (block_needs needs items) (leaders needs items)
