-- The blocks of a Group's members, as a Group is split by them: the lead of each member, and a chain for each leader.
use Rattle.std.specs.Prelude.{◌≡◌, List, Bool, true, not, ◌&&◌, eqb, ℕ, ◌+◌, ◌*◌, ◌≤◌, ◌<◌, ℤ, length, get_or}
use Rattle.order.specs.LabelLists.{◌∈◌, joined}
use Rattle.order.specs.Blocks.{block_of, leaders}
use Rattle.order.specs.Order.{members, needs}
use Rattle.placing.specs.UnmetCounts.{Rising, AllBelow}
use Rattle.blocks.specs.Found.{Led}
use Rattle.blocks.specs.Merged.{heads}
use Rattle.groups.specs.Members.{Chain, Gathered, MaskedBy}
use Rattle.groups.specs.Opened.{expanded_block}
use Rattle.reach.specs.MarkRows.{width}

-- room for placing n labels, in scratch for labels below m and rows of w words
pub record ScratchRoom (n m w : ℕ) : Type 0 where
  pub labels : 64 * width n ≤ m
  pub words : width n ≤ w

-- the items are g's members, each one's lead is the smallest label of its block, and there is a mask of those that hold values
pub record LedMembers (t : List ℤ) (n g : ℕ) (items lead : List ℕ) : Type 0 where
  pub are : items ≡ members t n g
  pub led : Led (needs t n) (members t n g) lead
  pub mask : List ℕ
  pub masked : MaskedBy t n true (members t n g) mask

-- the items go upward and are labels with leads among them, and links
pub record Linkable (n : ℕ) (items lead links : List ℕ) : Type 0 where
  pub rising : Rising items
  pub label : (x : ℕ) → x ∈ items → (1 ≤ x) × (x ≤ n)
  pub leading : AllBelow items (length lead)
  pub item : (x : ℕ) → x ∈ items → get_or lead x 0 ∈ items
  pub room : 2 * n < length links

-- the chain of each leader is its block, by whatever needs the leads were found
pub record BlockChains (n : ℕ) (items lead links : List ℕ) : Type 0 where
  pub chain : (R : ℕ → ℕ → Bool) → Led R items lead → (b : ℕ) → b ∈ leaders R items → Chain n links (get_or links b 0) (block_of R items b)

-- x is its own lead, and has another linked behind it
abbrev pub leads_several : ℕ → List ℕ → List ℕ → ℕ → Bool
leads_several n lead links x = heads lead x && not (eqb (get_or links (n + x) 0) 0)

-- the chain of each leader is what stands for its block
pub record LeaderChains (t : List ℤ) (n g : ℕ) (links : List ℕ) : Type 0 where
  pub chain : (b : ℕ) → b ∈ leaders (needs t n) (members t n g) → Chain n links (get_or links b 0) (expanded_block t n g b)

-- each of l is a label that has a chain of labels, and there is room for all of them
pub record Chains (n : ℕ) (links l : List ℕ) (room : ℕ) : Type 0 where
  pub lists : ℕ → List ℕ
  pub chain : (b : ℕ) → b ∈ l → Chain n links (get_or links b 0) (lists b)
  pub label : (b : ℕ) → b ∈ l → b ≤ n
  pub below : (b x : ℕ) → b ∈ l → x ∈ lists b → x ≤ n
  pub fits : length (joined lists l) ≤ room

-- the chains of l stand one after the other
abbrev pub Expanded : ℕ → List ℕ → List ℕ → List ℕ → ℕ → Type 0
Expanded n links l out r = (f : ℕ → List ℕ) → ((b : ℕ) → b ∈ l → Chain n links (get_or links b 0) (f b)) → Gathered (joined f l) out r
