-- The blocks of items whose needs stand in rows of marks: what the search is lent, and what it finds.
use Rattle.std.specs.Prelude.{◌≡◌, List, Bool, true, ℕ, ◌≤◌, ◌<◌, length, get_or}
use Rattle.order.specs.LabelLists.{◌∈◌}
use Rattle.order.specs.Blocks.{block_of, is_leader}
use Rattle.placing.specs.UnmetCounts.{AllBelow}

-- what the search is lent: rows of marks, three stacks of the items, and a place and a lead for each
pub record Room (items fresh stacked stack place starts path lead : List ℕ) (w : ℕ) : Type 0 where
  pub few : length items < 65536
  pub fresh_room : w ≤ length fresh
  pub stacked_room : w ≤ length stacked
  pub stack_room : length items ≤ length stack
  pub starts_room : length items ≤ length starts
  pub path_room : length items ≤ length path
  pub placed : AllBelow items (length place)
  pub leads_room : AllBelow items (length lead)

-- b is the smallest label of p's block
abbrev pub IsLead : (ℕ → ℕ → Bool) → List ℕ → ℕ → ℕ → Type 0
IsLead R items p b = (b ∈ block_of R items p) × (is_leader R items b ≡ true)

-- each item's lead is the smallest label of its block
abbrev pub Led : (ℕ → ℕ → Bool) → List ℕ → List ℕ → Type 0
Led R items lead = (p : ℕ) → p ∈ items → IsLead R items p (get_or lead p 0)
