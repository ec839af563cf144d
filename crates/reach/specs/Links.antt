-- Mentions as links between definitions, followed either way. Column 6 of an R or C line is its owner and column 7 its target: a link by
-- column j leads from what stands in the other of the two, column 13 - j, to what stands in j. So links by column 7 are mentions, and links by column 6
-- lead back from what is mentioned.
use Rattle.std.specs.Prelude.{◌≡◌, ◌⊎◌, List, ℕ, ◌-◌, ◌≤◌, ℤ}
use Rattle.kinds.specs.Kinds.{value_code}
use Rattle.cells.specs.Table.{cell, kind}
use Rattle.cells.specs.Reaches.{HasPath}
use Rattle.order.specs.Order.{Within}

abbrev pub Column : ℕ → Type 0
Column j = (j ≡ 6) ⊎ (j ≡ 7)

pub record Link (t : List ℤ) (j d e : ℕ) : Type 0 where
  pub line : ℕ
  pub path : HasPath t line
  pub from : cell t line (13 - j) ≡ d
  pub to : cell t line j ≡ e

-- one or more links
pub data Links (t : List ℤ) (j d : ℕ) : ℕ → Type 0 where
  once : {e : ℕ} → Link t j d e → Links t j d e
  then : {e f : ℕ} → Links t j d e → Link t j e f → Links t j d f

-- q is y or, if y is a V, a Group around it
abbrev pub Around : List ℤ → ℕ → ℕ → Type 0
Around t y q = (q ≡ y) ⊎ ((kind t y ≡ value_code) × (1 ≤ q) × Within t q y)

-- links lead from d to q, or to a V that lies in the Group q
pub record Touches (t : List ℤ) (j d q : ℕ) : Type 0 where
  pub end : ℕ
  pub links : Links t j d end
  pub around : Around t end q
