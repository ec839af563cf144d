-- Row 12's pass, which links every definition.
use mathlib.Core.Path.{◌≡◌, refl, sym, ◌∙◌}
use mathlib.Core.List.{List}
use Prim.Native.Nat.{ℕ, ◌+◌, ◌≤◌, ◌<◌}
use native.Mathlib.Omega.{arith}
use lib.IntN.{ℤ}
use lib.ListN.{length}
use Rattle.std.specs.Prelude.{None}
use Rattle.paths.specs.Paths.{duplicate_bad}
use Rattle.paths.specs.Buckets.{LinkedBelow, AllLinked}
use Rattle.paths.proofs.Passes.{Pass, pass_start, pass_turn, pass_done}
use Rattle.paths.proofs.Leads.{fine_apart}

pub record Linking (s : List ℕ) (t : List ℤ) (n : ℕ) (starts links₀ links : List ℕ) (label : ℕ) : Type 0 where
  pub pass : Pass (duplicate_bad s t) n label
  pub linked : LinkedBelow s t n label starts links
  pub size : length links ≡ length links₀

pub linking_start : {s : List ℕ} {t : List ℤ} {n : ℕ} {starts links : List ℕ} → LinkedBelow s t n 1 starts links → Linking s t n starts links links 1
linking_start {s} {t} {n} h = record { pass = pass_start (duplicate_bad s t) n; linked = h; size = refl }

module _ {s : List ℕ} {t : List ℤ} {n : ℕ} {starts links₀ links : List ℕ} {label : ℕ} (g : Linking s t n starts links₀ links label) where
  pub linking_turn : label ≤ n → duplicate_bad s t label ≡ None → {links' : List ℕ} → LinkedBelow s t n (label + 1) starts links' → length links' ≡ length links
      → Linking s t n starts links₀ links' (label + 1)
  linking_turn m z h p = record { pass = pass_turn g.pass m z; linked = h; size = p ∙ g.size }

  pub linking_done : n < label → AllLinked s t n starts links
  linking_done m =
      let e : label ≡ n + 1 = omega (arith, g.pass.high) in
      record { all = rw (← e) g.linked; apart = fine_apart s t n (sym (pass_done g.pass m)) }
