-- What the functions between promise: bytes written into a lent buffer, one after the other, as far as it goes.
use Rattle.std.specs.Prelude.{ℕ, zero, suc, ◌+◌, ◌*◌, ◌≤◌, min, ◌≡◌, List, ℤ, pos, length}
use Rattle.std.proofs.lemmas.List.Edits.{sets}
use Rattle.cells.specs.Cells.{int_at}
use Rattle.cells.specs.Table.{name_start, name_length}
use Rattle.calls.specs.Plan.{plan_refusal, plan_place}
use Rattle.calls.specs.Run.{run_reply}
use Rattle.printing.specs.Print.{print_with, print_bound}
use Rattle.printing.specs.declared.Printed.{Printed}
use Rattle.printing.specs.declared.Writer.{Writer}

-- the largest index
abbrev pub last_index : ℕ
last_index = 18446744073709551615

-- the bytes x, written into `out` from index `at` on: what it then holds, and the index behind them. A byte that has no room is left out
-- and counts, and every byte of the buffer that is not written over stays.
pub record Wrote (out : List ℕ) (at : ℕ) (x left : List ℕ) (end : ℕ) : Type 0 where
  pub bytes : left ≡ sets out at x
  pub behind : end ≡ min (at + length x) last_index
  pub room : length out ≤ last_index

-- the same of a writer before, w, and behind the bytes x, v: it goes on with the buffer that it was lent
pub record Puts (w : Writer) (x : List ℕ) (v : Writer) : Type 0 where
  pub same : v.out.ghost_name ≡ w.out.ghost_name
  pub wrote : Wrote w.out.now w.at x v.out.now v.at

-- every name field of the table t lies in the text s
abbrev pub NamesIn : List ℕ → List ℤ → Type 0
NamesIn s t = (l : ℕ) → name_start t l + name_length t l ≤ length s

-- result j of label l: 0 state, 1 number, 2 steps
abbrev pub result_at : List ℤ → ℕ → ℕ → ℤ
result_at r zero j = pos 0
result_at r (suc k) j = int_at r (3 * k + j)

-- the print of the text s that is run with a table of m cells, a plan of p and results of q, written from the start of `out` on
pub record PrintWritten (s : List ℕ) (m p q : ℕ) (out : List ℕ) (answer : Printed) (left : List ℕ) : Type 0 where
  pub refusal : answer.refusal ≡ plan_refusal (run_reply s m p q)
  pub place : answer.place ≡ plan_place (run_reply s m p q)
  pub short : length (print_with s m p q) ≤ print_bound
  pub wrote : Wrote out 0 (print_with s m p q) left answer.length
