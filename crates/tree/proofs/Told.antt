-- A row's verdict as a pass finds it, label by label.
use mathlib.Core.Path.{◌≡◌, refl, ap, sym, ◌∙◌}
use Prim.Native.Nat.{ℕ, suc, ◌+◌, ◌-◌, ◌≤◌, ◌<◌}
use native.Mathlib.Numerals.{add-one}
use native.Mathlib.Omega.{arith}
use Rattle.std.specs.Prelude.{Option, Some, None, Ok, Err}
use Rattle.std.specs.Result.{result_and}
use Rattle.refusals.specs.declared.Row.{Row}
use Rattle.refusals.specs.Refusal.{Verdict, Fine, or_else, hit, first_bad}
use Rattle.refusals.proofs.FirstBad.{first_start, first_end}

-- what is found up to l and what is left give the row's verdict
abbrev pub Told : (ℕ → Option Row) → ℕ → ℕ → Verdict → Type 0
Told check n l v = or_else v (first_bad check l (n + 1 - l)) ≡ first_bad check 1 n

step : (v : Verdict) (r : Option Row) (l : ℕ) (rest : Verdict) → or_else (or_else v (hit r l Fine)) rest ≡ or_else v (hit r l rest)
step (Ok u) None l rest = refl
step (Ok u) (Some r) l rest = refl
step (Err e) r l rest = refl

or_fine : (v : Verdict) → or_else v Fine ≡ v
or_fine (Ok u) = refl
or_fine (Err e) = refl

-- the library's word for one verdict and then another
pub and_else : (u v : Verdict) → result_and u v ≡ or_else u v
and_else (Ok x) v = refl
and_else (Err e) v = refl

module _ (check : ℕ → Option Row) (n : ℕ) where
  pub told_start : Told check n 1 Fine
  told_start = first_start check n

  unrolled : (l : ℕ) → l ≤ n → first_bad check l (n + 1 - l) ≡ hit (check l) l (first_bad check (l + 1) (n + 1 - (l + 1)))
  unrolled l g =
      let q : n + 1 - l ≡ suc (n - l) = omega arith in
      let p : n + 1 - (l + 1) ≡ n - l = omega arith in
      rw (q, p, add-one l)

  pub told_turn : (l : ℕ) (v : Verdict) (r : Option Row) → l ≤ n → check l ≡ r → Told check n l v → Told check n (l + 1) (or_else v (hit r l Fine))
  told_turn l v r g e t =
      let rest = first_bad check (l + 1) (n + 1 - (l + 1)) in
      step v r l rest ∙ ap (λ (x : Option Row). or_else v (hit x l rest)) (sym e) ∙ ap (or_else v) (sym (unrolled l g)) ∙ t

  pub told_end : (l : ℕ) (v : Verdict) → n < l → Told check n l v → v ≡ first_bad check 1 n
  told_end l v h t = sym (or_fine v) ∙ ap (or_else v) (sym (first_end check n l h)) ∙ t
