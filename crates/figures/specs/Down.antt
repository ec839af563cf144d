-- What evaluating down an order list asks: then no value is read before it has been evaluated.
use Rattle.std.specs.Prelude.{◌≡◌, List, ℕ, ◌<◌, ℤ, length, take}
use Rattle.kinds.specs.Kinds.{value_code}
use Rattle.cells.specs.Cells.{nat_at}
use Rattle.cells.specs.Table.{kind}
use Rattle.cells.specs.Reaches.{Reaches}
use Rattle.order.specs.LabelLists.{◌∈◌}
use Rattle.order.specs.Following.{labels_of}
use Rattle.evaluation.specs.Ready.{Ready}

pub record Listed (t r order : List ℤ) : Type 0 where
  pub ready : Ready t r
  -- each cell names a value,
  pub values : (i : ℕ) → i < length order → kind t (nat_at order i) ≡ value_code
  -- "each after every V that it reaches"
  pub after : (i : ℕ) → i < length order → (w : ℕ) → kind t w ≡ value_code → Reaches t (nat_at order i) w → w ∈ labels_of (take i order)
