-- A refusal, and the shape that rows 5 to 15 share: a check of one label, and the first label that fails it.
use Rattle.std.specs.Prelude.{◌≡◌, ℕ, zero, suc, ◌+◌, ◌≤◌, ◌<◌, Option, Some, None, Result, Ok, Err}
use Rattle.refusals.specs.declared.Row.{Row}
use Rattle.refusals.specs.declared.Refusal.{Refusal}
use Rattle.refusals.specs.Rows.{row_number}

-- what a pass finds: nothing, or a refusal
abbrev pub Verdict : Type 0
Verdict = Result (Unit {0}) Refusal

abbrev pub Fine : Verdict
Fine = Ok tt

-- a refusal by row r, at place p
abbrev pub Refused : {A : Type 0} → Row → ℕ → Result A Refusal
Refused r p = Err (record { row = r; place = p })

-- what a call answers: a count, or a refusal
abbrev pub Reply : Type 0
Reply = Result ℕ Refusal

-- document 01's number and place of a reply, 0 and 0 where it is an answer; and the count that it answers, 0 where it refuses
abbrev pub refusal_of : Reply → ℕ
refusal_of (Ok n) = 0
refusal_of (Err e) = row_number e.row

abbrev pub place_of : Reply → ℕ
place_of (Ok n) = 0
place_of (Err e) = e.place

abbrev pub count_of : Reply → ℕ
count_of (Ok n) = n
count_of (Err e) = 0

-- the reply of a call whose rows found v and which answers n where they found nothing
abbrev pub reply_of : Verdict → ℕ → Reply
reply_of (Ok u) n = Ok n
reply_of (Err e) n = Err e

-- one pass and, where it found nothing, the next
abbrev pub or_else : Verdict → Verdict → Verdict
or_else (Ok u) w = w
or_else (Err e) w = Err e

-- the check of label k gave r: no row goes on with v, any is the refusal, at k
abbrev pub hit : Option Row → ℕ → Verdict → Verdict
hit None k v = v
hit (Some r) k v = Refused r k

-- the first of m labels, from k up, at which the check gives a row: that row, with the label as its place
abbrev pub first_bad : (ℕ → Option Row) → ℕ → ℕ → Verdict
first_bad check k zero = Fine
first_bad check k (suc m) = let v = first_bad check (suc k) m in hit (check k) k v

-- what a refusal by it means: its place is a label, its row is what the check gives there, and the check gives none at every label before
pub record FirstFound (check : ℕ → Option Row) (k m : ℕ) (r : Row) (p : ℕ) : Type 0 where
  pub low : k ≤ p
  pub high : p < k + m
  pub row : check p ≡ Some r
  pub before : (j : ℕ) → k ≤ j → j < p → check j ≡ None

-- the verdict of a row that is told by its place, 0 where it finds nothing
abbrev pub found_at : Row → ℕ → Verdict
found_at r zero = Fine
found_at r (suc p) = Refused r (suc p)
