-- Each definition's R and C lines in a chain, in one array: d's last line at index d, and at index n + l the line before l in its
-- chain; 0 where there is none.
use Rattle.std.specs.Prelude.{◌≡◌, List, ℕ, ◌+◌, ◌-◌, ◌≤◌, ◌<◌, ℤ, get_or}
use Rattle.cells.specs.Table.{cell}
use Rattle.cells.specs.Reaches.{HasPath}

-- line l is an R or C whose link by column j leads from d
pub record Hangs (t : List ℤ) (j d l : ℕ) : Type 0 where
  pub path : HasPath t l
  pub from : cell t l (13 - j) ≡ d

-- of the lines up to k, the last that hangs at d is x; 0 where there is none
pub record Last (t : List ℤ) (j d k x : ℕ) : Type 0 where
  pub within : x ≤ k
  pub hangs : (x ≡ 0 → ⊥) → Hangs t j d x
  pub none : (l : ℕ) → x < l → l ≤ k → Hangs t j d l → ⊥

-- the chains of the lines up to k
pub record ChainedTo (t : List ℤ) (n j k : ℕ) (chains : List ℕ) : Type 0 where
  pub heads : (d : ℕ) → d ≤ n → Last t j d k (get_or chains d 0)
  pub links : (l d : ℕ) → l ≤ k → Hangs t j d l → Last t j d (l - 1) (get_or chains (n + l) 0)

-- no chain has a line yet
abbrev pub Empty : ℕ → List ℕ → Type 0
Empty n chains = (d : ℕ) → d ≤ n → get_or chains d 0 ≡ 0
