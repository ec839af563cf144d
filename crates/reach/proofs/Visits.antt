-- The states of definitions while rows are made.
use mathlib.Core.Path.{◌≡◌, refl, sym, ap, ◌∙◌, subst}
use mathlib.Core.List.{List}
use mathlib.Core.Bool.{Bool, true, false}
use Prim.Native.Nat.{ℕ, ◌+◌, ◌≤◌, ◌<◌}
use native.Mathlib.Decide.{ℕ_discrete}
use lib.IntN.{ℤ}
use lib.ListN.{length, get_or, set}
use lib.Seq.{get_or-set_same, get_or-set_other}
use borrow.Author.Count.{below_more}
use Rattle.kinds.proofs.Codes.{value_body}
use Rattle.kinds.specs.Kinds.{value_code}
use Rattle.cells.specs.Table.{kind}
use Rattle.cells.specs.Accepted.{Accepted, HasBody}
use Rattle.order.specs.LabelLists.{filter}
use Rattle.order.specs.Order.{all_labels}
use Rattle.order.proofs.Lists.{tally_lt}
use Rattle.order.proofs.Tables.{in_labels}
use Rattle.reach.specs.declared.RowState.{RowState}
use Rattle.reach.specs.declared.RowState.TheVariants.{New, Begun, Made}
use Rattle.reach.specs.MarkRows.{MarkRow, Blank, AllMarkRows, MarkRows}
use Rattle.reach.specs.Turns.{Filled, Since, Visited}
use Rattle.reach.proofs.Links.{body_label, body_group}

pub since_same : (state : List RowState) → Since state state
since_same state = record { kept = λ e f. f; held = λ e h. h; unmade = λ e h. h }

pub since_then : (a b c : List RowState) → Since a b → Since b c → Since a c
since_then a b c p q = record { kept = λ e f. q.kept e (p.kept e f); held = λ e h. q.held e (p.held e h); unmade = λ e h. p.unmade e (q.unmade e h) }

-- what holds between visits: since state₀, in a square of this length
pub record Going (t : List ℤ) (n j : ℕ) (state₀ : List RowState) (square₀ : List ℕ) (state : List RowState) (square : List ℕ) : Type 0 where
  pub squares : length square ≡ length square₀
  pub rows : MarkRows t n j state square
  pub since : Since state₀ state

-- ---- a state

abbrev pub is_new : RowState → Bool
is_new New = true
is_new Begun = false
is_new Made = false

new_or_not : (s : RowState) → Dec (s ≡ New)
new_or_not New = yes refl
new_or_not Begun = no (λ z. cc)
new_or_not Made = no (λ z. cc)

is_new_true : (s : RowState) → is_new s ≡ true → s ≡ New
is_new_true New h = refl
is_new_true Begun h = cc
is_new_true Made h = cc

third : (s : RowState) → (s ≡ New → ⊥) → (s ≡ Begun → ⊥) → s ≡ Made
third New f g = absurd (f refl)
third Begun f g = absurd (g refl)
third Made f g = refl

-- how many labels are not begun
unfoldable pub unbegun : ℕ → List RowState → ℕ
unbegun n state = length (filter (λ e. is_new (get_or state e New)) (all_labels n))

-- a state set
module _ (state : List RowState) (d : ℕ) (v : RowState) (room : d < length state) where
  own : get_or (set state d v) d New ≡ v
  own = get_or-set_same state d v New room

  other : (e : ℕ) → (e ≡ d → ⊥) → get_or (set state d v) e New ≡ get_or state e New
  other e z = get_or-set_other state d e v New z

  at_own : (e : ℕ) → e ≡ d → get_or (set state d v) e New ≡ v
  at_own e z = ap (λ (x : ℕ). get_or (set state d v) x New) z ∙ own

module _ (t : List ℤ) (n : ℕ) (ok : Accepted t n) (j : ℕ) where
  -- d is begun
  module _ (state : List RowState) (square : List ℕ) (d : ℕ) (room : d < length state) (new : get_or state d New ≡ New) (body : HasBody t d) (r : MarkRows t n j state square) where
    pub begin : MarkRows t n j (set state d Begun) square
    begin = record {
      begun = λ e f. begun e f (ℕ_discrete e d);
      made = λ e h. made e h (ℕ_discrete e d);
      blank = λ e f. blank e f (ℕ_discrete e d);
    }
      where
        begun : (e : ℕ) → (get_or (set state d Begun) e New ≡ New → ⊥) → Dec (e ≡ d) → HasBody t e
        begun e f (yes z) = subst (HasBody t) (sym z) body
        begun e f (no z) = r.begun e (λ y. f (other state d Begun room e z ∙ y))

        made : (e : ℕ) → get_or (set state d Begun) e New ≡ Made → Dec (e ≡ d) → MarkRow t n j square e
        made e h (yes z) = absurd (cc (at_own state d Begun room e z))
        made e h (no z) = r.made e (sym (other state d Begun room e z) ∙ h)

        blank : (e : ℕ) → (get_or (set state d Begun) e New ≡ Made → ⊥) → Dec (e ≡ d) → Blank n square e
        blank e f (yes z) = r.blank e (λ y. cc (ap (λ (x : ℕ). get_or state x New) z))
        blank e f (no z) = r.blank e (λ y. f (other state d Begun room e z ∙ y))

    -- one less is left
    pub fewer : (state' : List RowState) → Since (set state d Begun) state' → unbegun n state' < unbegun n state
    unfolding unbegun
    fewer state' s =
        let b = body_label t n ok d body in
        tally_lt (λ e. is_new (get_or state' e New)) (λ e. is_new (get_or state e New)) (all_labels n)
        (λ e i h. ap is_new (old e (is_new_true (get_or state' e New) h) (ℕ_discrete e d)))
        d (in_labels t n ok d b.0 b.1) (ap is_new (s.held d (own state d Begun room))) (ap is_new new)
      where
        old : (e : ℕ) → get_or state' e New ≡ New → Dec (e ≡ d) → get_or state e New ≡ New
        old e h (yes z) = rw z new
        old e h (no z) = go (new_or_not (get_or state e New))
          where
            go : Dec (get_or state e New ≡ New) → get_or state e New ≡ New
            go (yes y) = y
            go (no y) = absurd (s.kept e (λ x. y (sym (other state d Begun room e z) ∙ x)) h)

    -- and made
    pub finish : (square₀ : List ℕ) (state₁ : List RowState) (square₁ square₂ : List ℕ) → Going t n j (set state d Begun) square₀ state₁ square₁
        → d < length state₁ → Filled t n j d square₁ square₂
        → Visited t n j d state (set state₁ d Made) square₂
    finish square₀ state₁ square₁ square₂ g room₁ f = record {
      rows = record {
        begun = λ e y. begun e y (ℕ_discrete e d);
        made = λ e h. made e h (ℕ_discrete e d);
        blank = λ e y. blank e y (ℕ_discrete e d);
      };
      here = λ z. cc (own state₁ d Made room₁);
      since = record { kept = λ e y. kept e y (ℕ_discrete e d); held = λ e y. held e y (ℕ_discrete e d); unmade = λ e y. unmade e y (ℕ_discrete e d) };
    }
      where
        s : Since (set state d Begun) state₁
        s = g.since

        r₁ : MarkRows t n j state₁ square₁
        r₁ = g.rows

        begun : (e : ℕ) → (get_or (set state₁ d Made) e New ≡ New → ⊥) → Dec (e ≡ d) → HasBody t e
        begun e y (yes z) = subst (HasBody t) (sym z) body
        begun e y (no z) = r₁.begun e (λ x. y (other state₁ d Made room₁ e z ∙ x))

        made : (e : ℕ) → get_or (set state₁ d Made) e New ≡ Made → Dec (e ≡ d) → MarkRow t n j square₂ e
        made e h (yes z) = subst (MarkRow t n j square₂) (sym z) (λ q. (f.row q, f.all q))
        made e h (no z) = λ q.
            let o = r₁.made e (sym (other state₁ d Made room₁ e z) ∙ h) q in
            let m = f.others e q z in
            (λ y. o.0 (sym m ∙ y), λ y. m ∙ o.1 y)

        blank : (e : ℕ) → (get_or (set state₁ d Made) e New ≡ Made → ⊥) → Dec (e ≡ d) → Blank n square₂ e
        blank e y (yes z) = absurd (y (at_own state₁ d Made room₁ e z))
        blank e y (no z) = λ q. f.others e q z ∙ r₁.blank e (λ x. y (other state₁ d Made room₁ e z ∙ x)) q

        kept : (e : ℕ) → (get_or state e New ≡ New → ⊥) → Dec (e ≡ d) → get_or (set state₁ d Made) e New ≡ New → ⊥
        kept e y (yes z) x = cc (at_own state₁ d Made room₁ e z)
        kept e y (no z) x = s.kept e (λ w. y (sym (other state d Begun room e z) ∙ w)) (sym (other state₁ d Made room₁ e z) ∙ x)

        held : (e : ℕ) → get_or state e New ≡ Begun → Dec (e ≡ d) → get_or (set state₁ d Made) e New ≡ Begun
        held e y (yes z) = absurd (cc (ap (λ (x : ℕ). get_or state x New) z))
        held e y (no z) = other state₁ d Made room₁ e z ∙ s.held e (other state d Begun room e z ∙ y)

        unmade : (e : ℕ) → get_or (set state₁ d Made) e New ≡ Begun → Dec (e ≡ d) → get_or state e New ≡ Begun
        unmade e y (yes z) = absurd (cc (at_own state₁ d Made room₁ e z))
        unmade e y (no z) = sym (other state d Begun room e z) ∙ s.unmade e (sym (other state₁ d Made room₁ e z) ∙ y)

  -- ---- between visits

  pub going_start : (state : List RowState) (square : List ℕ) → MarkRows t n j state square → Going t n j state square state square
  going_start state square r = record { squares = refl; rows = r; since = since_same state }

  module _ (state₀ : List RowState) (square₀ : List ℕ) (state : List RowState) (square : List ℕ) (g : Going t n j state₀ square₀ state square) where
    pub going_still : (square' : List ℕ) → square' ≡ square → Going t n j state₀ square₀ state square'
    going_still square' e = subst (λ (s : List ℕ). Going t n j state₀ square₀ state s) (sym e) g

    pub going_more : (state' : List RowState) (square' : List ℕ) (d : ℕ) → Visited t n j d state state' square' → length square' ≡ length square
        → Going t n j state₀ square₀ state' square'
    going_more state' square' d v e = record { squares = e ∙ g.squares; rows = v.rows; since = since_then state₀ state state' g.since v.since }

  -- ---- all rows

  pub begun_more : (v : ℕ) (state state' : List RowState) (square' : List ℕ) → ((u : ℕ) → u < v → 1 ≤ u → kind t u ≡ value_code → get_or state u New ≡ New → ⊥)
      → Visited t n j v state state' square'
      → (u : ℕ) → u < v + 1 → 1 ≤ u → kind t u ≡ value_code → get_or state' u New ≡ New → ⊥
  begun_more v state state' square' old h =
      below_more (λ (u : ℕ). 1 ≤ u → kind t u ≡ value_code → get_or state' u New ≡ New → ⊥) v (λ u l i k. h.since.kept u (old u l i k)) (λ i k. h.here)

  -- from states that were all new: what is begun has its row
  pub row_made : (state₀ state : List RowState) (square : List ℕ) → ((d : ℕ) → get_or state₀ d New ≡ New) → Since state₀ state → MarkRows t n j state square
      → (d : ℕ) → (get_or state d New ≡ New → ⊥) → MarkRow t n j square d
  row_made state₀ state square z s r d f = r.made d (third (get_or state d New) f (λ y. cc (z d, s.unmade d y)))

  pub rows_all : (state₀ state : List RowState) (square : List ℕ) → ((d : ℕ) → get_or state₀ d New ≡ New) → Since state₀ state → MarkRows t n j state square
      → ((v : ℕ) → 1 ≤ v → v ≤ n → kind t v ≡ value_code → get_or state v New ≡ New → ⊥) → AllMarkRows t n j square
  rows_all state₀ state square z s r all = record {
    values = λ v k. let b = body_label t n ok v (rw k value_body) in row_made state₀ state square z s r v (all v b.0 b.1 k);
    groups = λ g k. r.blank g (λ y. body_group t n ok g (r.begun g (λ x. cc)) k);
  }
