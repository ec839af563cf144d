-- Rows added to those of their Groups, and what the square then says.
use mathlib.Core.Path.{◌≡◌, refl, sym, ap, ◌∙◌, subst}
use mathlib.Core.Logic.{◌⊎◌, inl, inr}
use mathlib.Core.List.{List}
use mathlib.Core.Bool.{true, false}
use Prim.Native.Nat.{ℕ, zero, suc, ◌+◌, ◌-◌, ◌*◌, ◌≤◌, ◌<◌}
use native.Mathlib.Omega.{arith}
use native.Mathlib.Decide.{ℕ_discrete}
use lib.IntN.{ℤ}
use Rattle.kinds.specs.Kinds.{group_code, value_code}
use Rattle.kinds.specs.GivesValues.{gives_values}
use Rattle.kinds.proofs.Plans.{group_gives, value_gives, gives_definition, gives_cases}
use Rattle.cells.specs.Table.{kind, owner}
use Rattle.cells.specs.Accepted.{Accepted, HasBody}
use Rattle.order.specs.Order.{up, Within, needs, reaches}
use Rattle.order.proofs.Tests.{both_ways, so_or_not}
use Rattle.order.proofs.Tables.{def_label, kind_v, v_kind, reaches_exact}
use Rattle.order.proofs.Tree.{within_owner}
use Rattle.order.proofs.Needs.{holds, holds_intro, holds_v, holds_in, needs_intro, needs_elim}
use Rattle.marks.specs.Marks.{mark, Added, Dropped}
use Rattle.marks.proofs.Squares.{mark_in}
use Rattle.reach.specs.Links.{Around, Touches}
use Rattle.reach.specs.MarkRows.{width, AllMarkRows}
use Rattle.reach.proofs.Links.{body_group, links_body, back_exact}
use Rattle.needs.specs.Needs.{Holder, Wanted, Lifting, Cut, NeedRows}

module _ (t : List ℤ) (n : ℕ) (ok : Accepted t n) where
  pub holder_label : (q : ℕ) → Holder t q → (1 ≤ q) × (q ≤ n)
  holder_label q h = def_label t n ok q (gives_definition (kind t q) h)

  -- the Group of a label other than 1
  pub group_holder : (m : ℕ) → 2 ≤ m → m ≤ n → Holder t m → kind t (owner t m) ≡ group_code
  group_holder m a b h = ok.group m a b (gives_definition (kind t m) h)

  wanted_up : (m p : ℕ) → Wanted t m p → Wanted t (owner t m) p
  wanted_up m p x = record { value = x.value; is = x.is; within = within_owner t n ok m x.value x.within; touches = x.touches }

  pub lifting_start : (s : List ℕ) → AllMarkRows t n 6 s → Lifting t n n s
  lifting_start s r = record { sound = λ q p h. sound q p (gives_cases (kind t q) h); own = λ v p k h. (r.values v k p).1 h; up = λ m p a b c. absurd (omega arith) }
    where
      sound : (q p : ℕ) → (kind t q ≡ group_code) ⊎ (kind t q ≡ value_code) → mark s (width n) q p ≡ true → Wanted t q p
      sound q p (inl k) m = both_ways (mark s (width n) q p) m (r.groups q k p)
      sound q p (inr k) m = record { value = q; is = k; within = (0, refl); touches = (r.values q k p).0 m }

  module _ (k : ℕ) (s : List ℕ) (h : Lifting t n k s) (low : 2 ≤ k) (high : k ≤ n) where
    -- what gives no values is passed over
    pub lifting_skip : gives_values (kind t k) ≡ false → Lifting t n (k - 1) s
    lifting_skip f = record { sound = h.sound; own = h.own; up = λ m p a b c d e. go m p b c d e (ℕ_discrete m k) a }
      where
        go : (m p : ℕ) → 2 ≤ m → m ≤ n → Holder t m → mark s (width n) m p ≡ true → Dec (m ≡ k) → k - 1 < m → mark s (width n) (owner t m) p ≡ true
        go m p b c d e (yes z) a = both_ways (gives_values (kind t k)) (subst (Holder t) z d) f
        go m p b c d e (no z) a = h.up m p (omega arith) b c d e

    turn : Holder t k → (s' : List ℕ) → Added (λ (p : ℕ). mark s (width n) k p ≡ true) s s' (width n) (owner t k) → Lifting t n (k - 1) s'
    turn hk s' add = record { sound = λ q p d m. sound q p d m (ℕ_discrete q (owner t k)); own = λ v p e x. own v p e x; up = λ m p a b c d e. go m p a b c d e (ℕ_discrete m k) }
      where
        below : owner t k < k
        below = ok.falls k (omega arith) high

        kept : (q p : ℕ) → mark s (width n) q p ≡ true → Dec (q ≡ owner t k) → mark s' (width n) q p ≡ true
        kept q p m (yes z) = rw z (add.kept p (rw z at m))
        kept q p m (no z) = add.others q p z ∙ m

        sound : (q p : ℕ) → Holder t q → mark s' (width n) q p ≡ true → Dec (q ≡ owner t k) → Wanted t q p
        sound q p d m (no z) = h.sound q p d (sym (add.others q p z) ∙ m)
        sound q p d m (yes z) = pick (add.only p (subst (λ (x : ℕ). mark s' (width n) x p ≡ true) z m))
          where
            pick : (mark s (width n) (owner t k) p ≡ true) ⊎ (mark s (width n) k p ≡ true) → Wanted t q p
            pick (inl y) = h.sound q p d (subst (λ (x : ℕ). mark s (width n) x p ≡ true) (sym z) y)
            pick (inr y) = subst (λ (x : ℕ). Wanted t x p) (sym z) (wanted_up k p (h.sound k p hk y))

        own : (v p : ℕ) → kind t v ≡ value_code → Touches t 6 v p → mark s' (width n) v p ≡ true
        own v p e x = kept v p (h.own v p e x) (ℕ_discrete v (owner t k))

        -- a label from k on is not k's Group, so its row is as it was
        same : (m p : ℕ) → k ≤ m → mark s' (width n) m p ≡ true → mark s (width n) m p ≡ true
        same m p a e = sym (add.others m p (λ z. omega (arith, below))) ∙ e

        in_row : (p : ℕ) → mark s (width n) k p ≡ true → p < 64 * width n
        in_row p e = mark_in s (width n) k p e

        go : (m p : ℕ) → k - 1 < m → 2 ≤ m → m ≤ n → Holder t m → mark s' (width n) m p ≡ true → Dec (m ≡ k) → mark s' (width n) (owner t m) p ≡ true
        go m p a b c d e (yes z) =
            let y : mark s (width n) k p ≡ true = same k p (omega arith) (subst (λ (x : ℕ). mark s' (width n) x p ≡ true) z e) in
            rw z (add.new p (in_row p y) y)
        go m p a b c d e (no z) = kept (owner t m) p (h.up m p (omega arith) b c d (same m p (omega arith) e)) (ℕ_discrete (owner t m) (owner t k))

    pub lifting_turn : Holder t k → (s' : List ℕ) (o : ℕ) → o ≡ owner t k → Added (λ (p : ℕ). mark s (width n) k p ≡ true) s s' (width n) o → Lifting t n (k - 1) s'
    lifting_turn hk s' o e add = turn hk s' (subst (λ (x : ℕ). Added (λ (p : ℕ). mark s (width n) k p ≡ true) s s' (width n) x) e add)

  -- ---- when all rows are added

  module _ (s : List ℕ) (h : Lifting t n 1 s) where
    climb : (i q v p : ℕ) → up t i v ≡ q → Holder t v → 1 ≤ q → mark s (width n) v p ≡ true → mark s (width n) q p ≡ true
    climb zero q v p e d a m = subst (λ (x : ℕ). mark s (width n) x p ≡ true) e m
    climb (suc i) q v p e d a m = go (ℕ_discrete v 1) (climb i q (owner t v) p e)
      where
        b : (1 ≤ v) × (v ≤ n)
        b = holder_label v d

        go : Dec (v ≡ 1) → (Holder t (owner t v) → 1 ≤ q → mark s (width n) (owner t v) p ≡ true → mark s (width n) q p ≡ true) → mark s (width n) q p ≡ true
        go (yes z) r =
            let y : owner t v ≡ 0 = ap (owner t) z ∙ ok.top in
            absurd (omega (arith, zero_up i, ap (up t i) y, e))
          where
            zero_up : (i : ℕ) → up t i 0 ≡ 0
            zero_up zero = refl
            zero_up (suc i) = zero_up i
        go (no z) r = r (rw (group_holder v (omega (arith, b)) b.1 d) group_gives) a (h.up v p (omega (arith, b)) (omega (arith, b)) b.1 d m)

    all : (q p : ℕ) → Holder t q → Wanted t q p → mark s (width n) q p ≡ true
    all q p d x = climb x.within.0 q x.value p x.within.1 (rw x.is value_gives) (holder_label q d).0 (h.own x.value p x.is x.touches)

    -- ---- what is wanted is needed

    needed : (p q : ℕ) → (p ≡ q → ⊥) → Holder t p → Holder t q → Wanted t q p → needs t n p q ≡ true
    needed p q z hp hq x = at x.touches.around
      where
        y : ℕ
        y = x.touches.end

        from : reaches t n x.touches.end x.value ≡ true
        from = (reaches_exact t n ok x.touches.end x.value).1 ((back_exact x.touches.end x.value).0 x.touches.links)

        to : holds t q x.value ≡ true
        to = holds_intro t n ok q x.value (holder_label q hq).0 (kind_v t x.value x.is) x.within

        with : kind t x.touches.end ≡ value_code → Within t p x.touches.end → needs t n p q ≡ true
        with k u = needs_intro t n ok p q x.touches.end x.value z (holds_intro t n ok p x.touches.end (holder_label p hp).0 (kind_v t x.touches.end k) u) to from

        own : (kind t p ≡ group_code) ⊎ (kind t p ≡ value_code) → p ≡ x.touches.end → HasBody t x.touches.end → kind t x.touches.end ≡ value_code
        own (inr k) e b = subst (λ (v : ℕ). kind t v ≡ value_code) e k
        own (inl k) e b = absurd (body_group t n ok x.touches.end b (subst (λ (v : ℕ). kind t v ≡ group_code) e k))

        at : Around t x.touches.end p → needs t n p q ≡ true
        at (inl e) = with (own (gives_cases (kind t p) hp) e (links_body t n ok 6 (inl refl) x.touches.links)) (0, sym e)
        at (inr (k, a, u)) = with k u

    wanted : (p q : ℕ) → Holder t p → needs t n p q ≡ true → (p ≡ q → ⊥) × Wanted t q p
    wanted p q hp e =
        let w = needs_elim t n ok p q e in
        let x = w.1.0 in
        let y = w.1.1 in (
          w.0,
          record {
            value = y;
            is = v_kind t y (holds_v t n ok q y w.1.3);
            within = holds_in t n ok q y w.1.3;
            touches = record {
              end = x;
              links = (back_exact x y).1 ((reaches_exact t n ok x y).0 w.1.4);
              around = inr (v_kind t x (holds_v t n ok p x w.1.2), (holder_label p hp).0, holds_in t n ok p x w.1.2);
            };
          },
        )

    pub rows_need : (s' : List ℕ) → Cut n (n + 1) s s' → NeedRows t n s'
    rows_need s' c p q hp hq = go (ℕ_discrete q p) (so_or_not (needs t n p q)) (so_or_not (mark s' (width n) q p))
      where
        go : Dec (q ≡ p) → (needs t n p q ≡ true) ⊎ (needs t n p q ≡ false) → (mark s' (width n) q p ≡ true) ⊎ (mark s' (width n) q p ≡ false)
            → mark s' (width n) q p ≡ needs t n p q
        go (yes z) (inl e) _ = absurd ((wanted p q hp e).0 (sym z))
        go (yes z) (inr e) _ = let b = holder_label p hp in ap (λ (x : ℕ). mark s' (width n) x p) z ∙ c.gone p b.0 (omega (arith, b)) ∙ sym e
        go (no z) (inl e) _ = c.kept q p z ∙ all q p hq (wanted p q hp e).1 ∙ sym e
        go (no z) (inr e) (inr m) = m ∙ sym e
        go (no z) (inr e) (inl m) = both_ways (needs t n p q) (needed p q (λ y. z (sym y)) hp hq (h.sound q p hq (sym (c.kept q p z) ∙ m))) e

-- ---- the diagonal

module _ (n k : ℕ) (s₀ s : List ℕ) (c : Cut n k s₀ s) where
  pub cut_skip : mark s (width n) k k ≡ false → Cut n (k + 1) s₀ s
  cut_skip e = record { gone = λ p a b. go p a b (ℕ_discrete p k); kept = c.kept }
    where
      go : (p : ℕ) → 1 ≤ p → p < k + 1 → Dec (p ≡ k) → mark s (width n) p p ≡ false
      go p a b (yes z) = rw z e
      go p a b (no z) = c.gone p a (omega arith)

  pub cut_turn : (s' : List ℕ) → Dropped s s' (width n) k k → Cut n (k + 1) s₀ s'
  cut_turn s' d = record { gone = λ p a b. go p a b (ℕ_discrete p k); kept = λ q p z. d.others q p (λ x y. z (x ∙ sym y)) ∙ c.kept q p z }
    where
      go : (p : ℕ) → 1 ≤ p → p < k + 1 → Dec (p ≡ k) → mark s' (width n) p p ≡ false
      go p a b (yes z) = rw z d.gone
      go p a b (no z) = d.others p p (λ x y. z x) ∙ c.gone p a (omega arith)
