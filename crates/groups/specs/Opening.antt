-- A block of several is opened: all definitions that are in it or under it are gathered, and their chains are cleared, since they are
-- not listed by themselves.
use Rattle.std.specs.Prelude.{◌≡◌, List, true, ℕ, ◌≤◌, ℤ, length, get_or, take}
use Rattle.cells.specs.Table.{is_definition, owner}
use Rattle.order.specs.LabelLists.{one, count, ◌∈◌, any}
use Rattle.order.specs.Order.{members, within}
use Rattle.groups.specs.Members.{Chain}

-- definitions of one Group, each once
pub record Siblings (t : List ℤ) (block : List ℕ) : Type 0 where
  pub group : ℕ
  pub defs : (p : ℕ) → p ∈ block → is_definition t p ≡ true
  pub owners : (p : ℕ) → p ∈ block → owner t p ≡ group
  pub once : (p : ℕ) → count p block ≤ 1

-- v is a definition that is one of the block, or lies under one
abbrev pub InOrUnder : List ℤ → List ℕ → ℕ → Type 0
InOrUnder t block v = (is_definition t v ≡ true) × (any (λ p. within t p v) block ≡ true)

-- the chains of those inside are their members
abbrev pub MemberChains : List ℤ → ℕ → List ℕ → List ℕ → Type 0
MemberChains t n block next = (h : ℕ) → InOrUnder t block h → Chain n next (get_or next h 0) (members t n h)

-- the chains of those inside are cleared, and no other cell changed
pub record ChainsCleared (t : List ℤ) (block next next' : List ℕ) : Type 0 where
  pub gone : (h : ℕ) → InOrUnder t block h → get_or next' h 0 ≡ 0
  pub others : (y : ℕ) → (InOrUnder t block y → ⊥) → get_or next' y 0 ≡ get_or next y 0

-- the first r of the items are those inside, each once
pub record AllInside (t : List ℤ) (block items : List ℕ) (r : ℕ) : Type 0 where
  pub counts : (v : ℕ) → is_definition t v ≡ true → count v (take r items) ≡ one (any (λ p. within t p v) block)
  pub defs : (v : ℕ) → v ∈ take r items → is_definition t v ≡ true
  pub within : r ≤ length items
