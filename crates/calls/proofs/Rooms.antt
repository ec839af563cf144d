-- Rows 1 to 4, one after the other: what the reply to the first of them says, and the next one's.
use mathlib.Core.Path.{◌≡◌, refl, sym, ap, ◌∙◌}
use Rattle.std.specs.Prelude.{Ok, Err}
use Rattle.refusals.specs.declared.Refusal.{Refusal}
use mathlib.Core.Bool.{Bool, true, false}
use mathlib.Core.List.{List}
use Prim.Native.Nat.{ℕ, ◌*◌, ◌≤◌, ◌<◌}
use native.Mathlib.Omega.{arith}
use lib.Dec.{leb}
use borrow.Author.Tests.{leb-true, le-leb, lt-leb}
use Rattle.refusals.specs.Rows.{buffers_row}
use Rattle.refusals.specs.Refusal.{or_else, reply_of, Verdict, Fine, Refused, Reply}
use Rattle.refusals.proofs.OrElse.{both_fine}
use Rattle.lines.specs.Lines.{labels, head_bad}
use Rattle.lines.proofs.Heads.{headed}
use Rattle.reading.specs.Read.{table_short}
use Rattle.reading.specs.ReadStages.{Passed}
use Rattle.reading.proofs.Stage.{answered, refused}
use Rattle.calls.specs.Buffers.{plan_short, results_short, plan_buffers, run_buffers}
use Rattle.calls.specs.CallStages.{short_by, head_reply}

-- ---- row 4 of one buffer

pub room_short : (least cells place n : ℕ) → cells < least → Refused buffers_row place ≡ reply_of (short_by least cells place) n
room_short least cells place n h = rw (lt-leb least cells h)

pub room_long : (least cells place n : ℕ) → least ≤ cells → Ok n ≡ reply_of (short_by least cells place) n
room_long least cells place n h = rw (le-leb least cells h)

pub long : (least cells place : ℕ) → short_by least cells place ≡ Fine → least ≤ cells
long least cells place = go (leb least cells) refl
  where
    go : (b : Bool) → leb least cells ≡ b → short_by least cells place ≡ Fine → least ≤ cells
    go true q z = leb-true least cells q
    go false q z = let y : Refused buffers_row place ≡ Fine = rw q at z in let x : ◌≡◌ {A = ℕ} 0 1 = cc in absurd (omega arith)

-- what row 4 lets pass, of a text s
module _ (s : List ℕ) where
  pub table_room : (m : ℕ) → table_short s m ≡ Fine → 8 * labels s ≤ m
  unfolding table_short
  table_room m e = long (8 * labels s) m 1 e

  pub plan_room : (p : ℕ) → plan_short s p ≡ Fine → labels s ≤ p
  unfolding plan_short
  plan_room p e = long (labels s) p 2 e

  pub results_room : (q : ℕ) → results_short s q ≡ Fine → 3 * labels s ≤ q
  unfolding results_short
  results_room q e = long (3 * labels s) q 3 e

  pub run_rooms : (m p q : ℕ) → run_buffers s m p q ≡ Fine → (table_short s m ≡ Fine) × (plan_short s p ≡ Fine) × (results_short s q ≡ Fine)
  run_rooms m p q e =
      let a = both_fine (table_short s m) (or_else (plan_short s p) (results_short s q)) e in
      let b = both_fine (plan_short s p) (results_short s q) a.1 in
      (a.0, b.0, b.1)

-- ---- passes in turn

pub or_all : (u v w : Verdict) → or_else (or_else u v) w ≡ or_else u (or_else v w)
or_all (Ok _) v w = refl
or_all (Err e) v w = refl

-- a reply q of passes that found v, of n labels
module _ (v : Verdict) (n : ℕ) (q : Reply) (e : q ≡ reply_of v n) where
  pub next : (w : ℕ → Verdict) (k : ℕ) (x : Reply) → q ≡ Ok k → x ≡ reply_of (w k) k → x ≡ reply_of (or_else v (w n)) n
  next w k x f g =
      let a = answered v n k (sym e ∙ f) in
      rw a.0 (g ∙ ap (λ (i : ℕ). reply_of (w i) i) a.1)

  pub stop : (w : Verdict) (r : Refusal) → q ≡ Err r → Err r ≡ reply_of (or_else v w) n
  stop w r f = rw (refused v n r (sym e ∙ f))

-- ---- the buffers in turn, of a text s and replies q and x

module _ (s : List ℕ) (m : ℕ) (q : Reply) (e : q ≡ reply_of (head_bad s) (labels s)) where
  pub table_next : (k : ℕ) (x : Reply) → q ≡ Ok k → x ≡ reply_of (short_by (8 * k) m 1) k → x ≡ head_reply s (table_short s m)
  unfolding table_short
  table_next = next (head_bad s) (labels s) q e (λ k. short_by (8 * k) m 1)

  pub table_stop : (r : Refusal) → q ≡ Err r → Err r ≡ head_reply s (table_short s m)
  table_stop = stop (head_bad s) (labels s) q e (table_short s m)

-- rows 1 to 3, and the buffers so far b
module _ (s : List ℕ) (b : Verdict) (q : Reply) (e : q ≡ head_reply s b) where
  pub plan_next : (p k : ℕ) (x : Reply) → q ≡ Ok k → x ≡ reply_of (short_by k p 2) k → x ≡ head_reply s (or_else b (plan_short s p))
  unfolding plan_short
  plan_next p k x f g =
      rw (← or_all) (next (or_else (head_bad s) b) (labels s) q e (λ k. short_by k p 2) k x f g)

  pub results_next : (r k : ℕ) (x : Reply) → q ≡ Ok k → x ≡ reply_of (short_by (3 * k) r 3) k → x ≡ head_reply s (or_else b (results_short s r))
  unfolding results_short
  results_next r k x f g =
      rw (← or_all) (next (or_else (head_bad s) b) (labels s) q e (λ k. short_by (3 * k) r 3) k x f g)

  pub buffer_stop : (w : Verdict) (r : Refusal) → q ≡ Err r → Err r ≡ head_reply s (or_else b w)
  buffer_stop w r f = rw (← or_all) (stop (or_else (head_bad s) b) (labels s) q e w r f)

  -- they found nothing, and answered the number of labels
  pub opened : (k : ℕ) → q ≡ Ok k → Passed s k × (b ≡ Fine)
  opened k f =
      let a = answered (or_else (head_bad s) b) (labels s) k (sym e ∙ f) in
      let h = both_fine (head_bad s) b a.0 in
      (record { head = h.0; count = a.1; few = omega (arith, a.1, (headed s h.0).high) }, h.1)

  pub shut : (r : Refusal) → q ≡ Err r → or_else (head_bad s) b ≡ Err r
  shut r f = refused (or_else (head_bad s) b) (labels s) r (sym e ∙ f)

-- Run's three buffers
module _ (s : List ℕ) (m p : ℕ) (q : Reply) (e : q ≡ head_reply s (plan_buffers s m p)) where
  pub run_next : (r k : ℕ) (x : Reply) → q ≡ Ok k → x ≡ reply_of (short_by (3 * k) r 3) k → x ≡ head_reply s (run_buffers s m p r)
  run_next r k x f g = rw (← or_all (table_short s m) (plan_short s p) (results_short s r)) (results_next s (plan_buffers s m p) q e r k x f g)

  pub run_stop : (r : ℕ) (i : Refusal) → q ≡ Err i → Err i ≡ head_reply s (run_buffers s m p r)
  run_stop r i f = rw (← or_all (table_short s m) (plan_short s p) (results_short s r)) (buffer_stop s (plan_buffers s m p) q e (results_short s r) i f)
