use mathlib.Core.Path.{◌≡◌}
use Prim.Native.Nat.{◌+◌, ◌-◌}
use native.Mathlib.Omega.{arith}
use Rattle.reading.proofs.Named.{drop_take}
use Rattle.printing.proofs.Run.put_name.Goals as goal

pub returns : goal.returns
returns c =
    let e : c.cell_at-start.result + c.cell_at.result - c.cell_at-start.result ≡ c.cell_at.result = omega arith in
    rw (← c.cell_at-start.ensures, ← c.cell_at.ensures, ← drop_take c.cell_at-start.result c.cell_at.result c.args.self.now.text.now, ← e) c.put_text.ensures
