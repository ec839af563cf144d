-- Document 02, order 2, "Only the tangled Groups opened": what a block is, as a relation over a table. The tests that plans are computed from
-- are proved equal to it.
use Rattle.std.specs.Prelude.{◌≡◌, ◌⊎◌, List, true, ℕ, ℤ}
use Rattle.kinds.specs.Kinds.{group_code, value_code}
use Rattle.cells.specs.Table.{kind, is_definition, owner}
use Rattle.cells.specs.Reaches.{Reaches}
use Rattle.order.specs.Order.{Within, Consecutive}

-- ---- "In a Group, members that need each other round a circle now form one block"

-- l is a member of Group g
abbrev pub MemberOf : List ℤ → ℕ → ℕ → Type 0
MemberOf t g l = (is_definition t l ≡ true) × (owner t l ≡ g)

-- "Member p needs another member q of its Group if a V that is p or under p reaches one that is q or under q"
pub record NeedsDirectly (t : List ℤ) (p q : ℕ) : Type 0 where
  pub other : p ≡ q → ⊥
  pub mine : ℕ
  pub yours : ℕ
  pub mine_value : kind t mine ≡ value_code
  pub mine_within : Within t p mine
  pub yours_value : kind t yours ≡ value_code
  pub yours_within : Within t q yours
  pub reach : Reaches t mine yours

-- p needs q, directly or through other members of Group g
pub data NeedsThrough (t : List ℤ) (g p : ℕ) : ℕ → Type 0 where
  directly : {q : ℕ} → MemberOf t g q → NeedsDirectly t p q → NeedsThrough t g p q
  through : {q r : ℕ} → NeedsThrough t g p q → MemberOf t g r → NeedsDirectly t q r → NeedsThrough t g p r

-- p and q, members of Group g, are in one block
abbrev pub OneBlock : List ℤ → ℕ → ℕ → ℕ → Type 0
OneBlock t g p q = (p ≡ q) ⊎ (NeedsThrough t g p q × NeedsThrough t g q p)

-- p is in a block of several: another member of Group g is in one block with it
abbrev pub Tangled : List ℤ → ℕ → ℕ → Type 0
Tangled t g p = (q : ℕ) × (q ≡ p → ⊥) × MemberOf t g q × OneBlock t g p q

-- some block of some Group has several members
abbrev pub SomeTangled : List ℤ → Type 0
SomeTangled t = (g : ℕ) × (p : ℕ) × (kind t g ≡ group_code) × MemberOf t g p × Tangled t g p

-- ---- "the values of a Group are side by side if neither it nor a Group around it is in a block of several"

-- neither Group g nor a Group around it is in a block of several
abbrev pub Clear : List ℤ → ℕ → Type 0
Clear t g = (p : ℕ) → kind t p ≡ group_code → Within t p g → Tangled t (owner t p) p → ⊥

abbrev pub ClearSideBySide : List ℤ → List ℕ → Type 0
ClearSideBySide t o = (g : ℕ) → kind t g ≡ group_code → Clear t g → Consecutive (Within t g) o
