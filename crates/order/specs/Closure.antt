-- What one comes to by one or more steps of a relation m, among the labels `all`.
use Rattle.std.specs.Prelude.{List, Bool, ◌||◌, ℕ, zero, suc, length}
use Rattle.order.specs.LabelLists.{mem, any, filter}

-- those of S, and those to which one of S has a step
abbrev pub grow : (ℕ → ℕ → Bool) → List ℕ → List ℕ → List ℕ
grow m all S = filter (λ e. mem e S || any (λ d. m d e) S) all

abbrev pub spread : (ℕ → ℕ → Bool) → List ℕ → ℕ → List ℕ → List ℕ
spread m all zero S = S
spread m all (suc k) S = spread m all k (grow m all S)

-- all that d comes to, each once and in the sequence of `all`
abbrev pub closure : (ℕ → ℕ → Bool) → List ℕ → ℕ → List ℕ
closure m all d = spread m all (length all) (filter (m d) all)
