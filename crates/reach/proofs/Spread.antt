-- How a row grows to what its definition touches.
use mathlib.Core.Path.{◌≡◌, refl, sym, ap, ◌∙◌, subst}
use mathlib.Core.Logic.{◌⊎◌, inl, inr}
use mathlib.Core.List.{List, [], ◌∷◌, ◌++◌}
use mathlib.Core.Bool.{Bool, true, false}
use Prim.Native.Nat.{ℕ, suc, ◌+◌, ◌-◌, ◌≤◌, ◌<◌}
use native.Mathlib.Omega.{arith}
use native.Mathlib.Numerals.{add-one}
use native.Mathlib.Decide.{ℕ_discrete, dec_lt}
use lib.IntN.{ℤ}
use lib.ListN.{length, get_or, take, length-append}
use lib.Seq.{take-suc, take-suc-set, length-take-le}
use Rattle.kinds.specs.Kinds.{group_code}
use Rattle.cells.specs.Table.{cell, kind, owner}
use Rattle.cells.specs.Accepted.{Accepted, HasBody}
use Rattle.order.specs.LabelLists.{one, count, ◌∈◌}
use Rattle.order.specs.Order.{all_labels}
use Rattle.order.proofs.Tests.{both_ways, one_le, one_in}
use Rattle.order.proofs.Lists.{count_append, count_here, count_there, in_append, in_single, in_left, in_right, in_here, length_mono, length_up_from, filter_le, tally_lt, zero_or_in}
use Rattle.order.proofs.Tables.{in_labels}
use Rattle.marks.specs.Marks.{mark, Added}
use Rattle.reach.specs.declared.RowState.{RowState}
use Rattle.reach.specs.declared.RowState.TheVariants.{New, Made}
use Rattle.reach.specs.Links.{Column, Link, Links, once, then, Around, Touches}
use Rattle.reach.specs.MarkRows.{width, MarkRow, Blank}
use Rattle.reach.specs.Chains.{Hangs, Last}
use Rattle.reach.specs.Turns.{Raised, Met, marked, added, pushed, Spread, mark_count, Grown, Filled}
use Rattle.reach.proofs.Links.{body_label, links_body, in_row, path_label, around_body, around_owner, around_label, touch_label, touch_body, touch_on, touch_around, touch_owner}

one_mono : (a b : Bool) → (a ≡ true → b ≡ true) → one a ≤ one b
one_mono true b f = rw (f refl) (omega arith)
one_mono false b f = omega arith

-- The lines of e's chain after x are met in row d, with those of S on the stack; s₀ and top₀ are what was before.
pub record Growing (t : List ℤ) (n j d e : ℕ) (s₀ : List ℕ) (top₀ : ℕ) (s S : List ℕ) (x : ℕ) : Type 0 where
  pub spread : Spread t j d e (mark s (width n) d) S
  pub met : (l : ℕ) → x < l → Hangs t j e l → mark s (width n) d (cell t l j) ≡ true
  pub kept : (q : ℕ) → mark s₀ (width n) d q ≡ true → mark s (width n) d q ≡ true
  pub others : (a q : ℕ) → (a ≡ d → ⊥) → mark s (width n) a q ≡ mark s₀ (width n) a q
  pub less : length S + mark_count n (mark s₀ (width n) d) ≤ top₀ + mark_count n (mark s (width n) d)

count_few : (n : ℕ) (M : ℕ → Bool) → mark_count n M ≤ n
unfolding mark_count
count_few n M = omega (arith, filter_le M (all_labels n), length_up_from 1 n)

module _ (t : List ℤ) (n : ℕ) (ok : Accepted t n) (j : ℕ) (col : Column j) where
  -- ---- the stack is no higher than there are labels

  pub stack_short : (d e : ℕ) (M : ℕ → Bool) (S : List ℕ) → Spread t j d e M S → length S ≤ n
  stack_short d e M S h = let m = length_mono S (all_labels n) (λ x. at x (zero_or_in (count x S))) in omega (arith, length_up_from 1 n)
    where
      at : (x : ℕ) → (count x S ≡ 0) ⊎ (x ∈ S) → count x S ≤ count x (all_labels n)
      at x (inl z) = omega arith
      at x (inr m) =
          let b = body_label t n ok x (h.bodies x m) in
          omega (arith, h.held x, one_le (M x), in_labels t n ok x b.0 b.1)

  -- ---- what a row meets

  -- a definition that is newly marked
  more_marked : (M M' : ℕ → Bool) → ((q : ℕ) → M q ≡ true → M' q ≡ true) → (f : ℕ) → (1 ≤ f) × (f ≤ n) → M f ≡ false → M' f ≡ true
      → mark_count n M < mark_count n M'
  unfolding mark_count
  more_marked M M' up f b p q = tally_lt M M' (all_labels n) (λ q i. up q) f (in_labels t n ok f b.0 b.1) p q

  module _ (d e : ℕ) (M M' : ℕ → Bool) (S S' : List ℕ) (h : Spread t j d e M S) (X : ℕ → Type 0)
      (up : (q : ℕ) → M q ≡ true → M' q ≡ true) (new : (q : ℕ) → X q → M' q ≡ true) (only : (q : ℕ) → M' q ≡ true → (M q ≡ true) ⊎ X q)
      (x-sound : (q : ℕ) → X q → Touches t j d q)
      (x-around : (y q : ℕ) → X y → HasBody t y → Around t y q → X q)
      (x-owner : (g : ℕ) → X g → kind t g ≡ group_code → 1 ≤ owner t g → X (owner t g))
      (x-closed : (y z : ℕ) → X y → HasBody t y → Link t j y z → (M' z ≡ true) ⊎ (y ∈ S'))
      (more : (x : ℕ) → x ∈ S → x ∈ S') where
    spread_more : ((x : ℕ) → count x S' ≤ one (M' x)) → ((x : ℕ) → x ∈ S' → HasBody t x) → Spread t j d e M' S'
    spread_more held bodies = record {
      sound = λ q m. sound q (only q m);
      around = λ y q m b a. around y q b a (only y m);
      raised = λ g k m i. raised g k i (only g m);
      closed = λ y z m b l. closed y z b l (only y m);
      held = held;
      bodies = bodies;
    }
      where
        sound : (q : ℕ) → (M q ≡ true) ⊎ X q → Touches t j d q
        sound q (inl m) = h.sound q m
        sound q (inr x) = x-sound q x

        around : (y q : ℕ) → HasBody t y → Around t y q → (M y ≡ true) ⊎ X y → M' q ≡ true
        around y q b a (inl m) = up q (h.around y q m b a)
        around y q b a (inr x) = new q (x-around y q x b a)

        raised : (g : ℕ) → kind t g ≡ group_code → 1 ≤ owner t g → (M g ≡ true) ⊎ X g → M' (owner t g) ≡ true
        raised g k i (inl m) = up (owner t g) (h.raised g k m i)
        raised g k i (inr x) = new (owner t g) (x-owner g x k i)

        old : (y z : ℕ) → (M z ≡ true) ⊎ (y ∈ S) ⊎ (y ≡ e) → (M' z ≡ true) ⊎ (y ∈ S') ⊎ (y ≡ e)
        old y z (inl m) = inl (up z m)
        old y z (inr (inl i)) = inr (inl (more y i))
        old y z (inr (inr i)) = inr (inr i)

        fresh : (y z : ℕ) → (M' z ≡ true) ⊎ (y ∈ S') → (M' z ≡ true) ⊎ (y ∈ S') ⊎ (y ≡ e)
        fresh y z (inl m) = inl m
        fresh y z (inr i) = inr (inl i)

        closed : (y z : ℕ) → HasBody t y → Link t j y z → (M y ≡ true) ⊎ X y → (M' z ≡ true) ⊎ (y ∈ S') ⊎ (y ≡ e)
        closed y z b l (inl m) = old y z (h.closed y z m b l)
        closed y z b l (inr x) = fresh y z (x-closed y z x b l)

  module _ (d e f : ℕ) (way : Links t j d f) (s s' : List ℕ) (S : List ℕ) (h : Spread t j d e (mark s (width n) d) S) where
    abbrev M : ℕ → Bool
    M = mark s (width n) d

    abbrev M' : ℕ → Bool
    M' = mark s' (width n) d

    body : HasBody t f
    body = links_body t n ok j col way

    held_more : ((q : ℕ) → M q ≡ true → M' q ≡ true) → (x : ℕ) → count x S ≤ one (M' x)
    held_more up x = omega (arith, h.held x, one_mono (M x) (M' x) (up x))

    -- f's row is made: it is added
    pub meet_made : MarkRow t n j s f → Added (λ (q : ℕ). Around t f q ⊎ (mark s (width n) f q ≡ true)) s s' (width n) d → Spread t j d e M' S
    meet_made row add = spread_more d e M M' S S h (λ q. Around t f q ⊎ Touches t j f q) add.kept new only sound around own closed (λ x i. i) (held_more add.kept) h.bodies
      where
        label : (q : ℕ) → Around t f q ⊎ Touches t j f q → q ≤ n
        label q (inl a) = (around_label t n ok j col f q body a).1
        label q (inr a) = (touch_label t n ok j col a).1

        by_mark : (q : ℕ) → Around t f q ⊎ Touches t j f q → Around t f q ⊎ (mark s (width n) f q ≡ true)
        by_mark q (inl a) = inl a
        by_mark q (inr a) = inr ((row q).1 a)

        new : (q : ℕ) → Around t f q ⊎ Touches t j f q → M' q ≡ true
        new q x = add.new q (in_row t n ok q (label q x)) (by_mark q x)

        only : (q : ℕ) → M' q ≡ true → (M q ≡ true) ⊎ (Around t f q ⊎ Touches t j f q)
        only q m = go (add.only q m)
          where
            go : (M q ≡ true) ⊎ (Around t f q ⊎ (mark s (width n) f q ≡ true)) → (M q ≡ true) ⊎ (Around t f q ⊎ Touches t j f q)
            go (inl y) = inl y
            go (inr (inl y)) = inr (inl y)
            go (inr (inr y)) = inr (inr ((row q).0 y))

        sound : (q : ℕ) → Around t f q ⊎ Touches t j f q → Touches t j d q
        sound q (inl a) = touch_around t n ok j col way a
        sound q (inr a) = touch_on t n ok j col way a

        around : (y q : ℕ) → Around t f y ⊎ Touches t j f y → HasBody t y → Around t y q → Around t f q ⊎ Touches t j f q
        around y q (inl a) b c = inl (subst (λ (x : ℕ). Around t x q) (around_body t n ok j col f y b a) c)
        around y q (inr a) b c = inr (touch_around t n ok j col (touch_body t n ok j col a b) c)

        own : (g : ℕ) → Around t f g ⊎ Touches t j f g → kind t g ≡ group_code → 1 ≤ owner t g → Around t f (owner t g) ⊎ Touches t j f (owner t g)
        own g (inl a) k i = inl (around_owner t n ok j col f g body k i a)
        own g (inr a) k i = inr (touch_owner t n ok j col a k i)

        closed : (y z : ℕ) → Around t f y ⊎ Touches t j f y → HasBody t y → Link t j y z → (M' z ≡ true) ⊎ (y ∈ S)
        closed y z (inl a) b l = inl (new z (inr (record { end = z; links = once (subst (λ (x : ℕ). Link t j x z) (around_body t n ok j col f y b a) l); around = inl refl })))
        closed y z (inr a) b l = inl (new z (inr (record { end = z; links = then (touch_body t n ok j col a b) l; around = inl refl })))

    -- f's row is not made: f is put on the stack
    pub meet_push : M f ≡ false → Added (λ (q : ℕ). Around t f q) s s' (width n) d → Spread t j d e M' (S ++ f ∷ [])
    meet_push out add = spread_more d e M M' S (S ++ f ∷ []) h (λ q. Around t f q) add.kept new add.only (λ q a. touch_around t n ok j col way a)
        (λ y q a b c. subst (λ (x : ℕ). Around t x q) (around_body t n ok j col f y b a) c) (λ g a k i. around_owner t n ok j col f g body k i a)
        (λ y z a b l. inr (subst (λ (x : ℕ). x ∈ S ++ f ∷ []) (sym (around_body t n ok j col f y b a)) (in_right f S (f ∷ []) (in_here f []))))
        (λ x i. in_left x S (f ∷ []) i) (λ x. held x (ℕ_discrete x f)) (λ x i. bodies x (in_append x S (f ∷ []) i))
      where
        new : (q : ℕ) → Around t f q → M' q ≡ true
        new q a = add.new q (in_row t n ok q (around_label t n ok j col f q body a).1) a

        held : (x : ℕ) → Dec (x ≡ f) → count x (S ++ f ∷ []) ≤ one (M' x)
        held x (yes z) = rw z (omega (arith, count_append f S (f ∷ []), count_here f [], h.held f, ap one out, ap one (new f (inl refl))))
        held x (no z) = omega (arith, count_append x S (f ∷ []), count_there x f [] z, held_more add.kept x)

        bodies : (x : ℕ) → (x ∈ S) ⊎ (x ∈ f ∷ []) → HasBody t x
        bodies x (inl i) = h.bodies x i
        bodies x (inr i) = subst (HasBody t) (sym (in_single x f i)) body

  -- ---- the one at hand

  pub spread_end : (d e : ℕ) (M : ℕ → Bool) (S : List ℕ) → Spread t j d e M S → ((z : ℕ) → Link t j e z → M z ≡ true) → Spread t j d 0 M S
  spread_end d e M S h all = record { sound = h.sound; around = h.around; raised = h.raised; closed = λ y z m b l. go y z l (h.closed y z m b l); held = h.held; bodies = h.bodies }
    where
      go : (y z : ℕ) → Link t j y z → (M z ≡ true) ⊎ (y ∈ S) ⊎ (y ≡ e) → (M z ≡ true) ⊎ (y ∈ S) ⊎ (y ≡ 0)
      go y z l (inl m) = inl m
      go y z l (inr (inl i)) = inr (inl i)
      go y z l (inr (inr i)) = inl (all z (subst (λ (x : ℕ). Link t j x z) i l))

  spread_pop : (d e : ℕ) (M : ℕ → Bool) (S : List ℕ) → Spread t j d 0 M (S ++ e ∷ []) → Spread t j d e M S
  spread_pop d e M S h = record {
    sound = h.sound;
    around = h.around;
    raised = h.raised;
    closed = λ y z m b l. go y z b (h.closed y z m b l);
    held = λ x. omega (arith, h.held x, count_append x S (e ∷ []));
    bodies = λ x i. h.bodies x (in_left x S (e ∷ []) i);
  }
    where
      two : (y z : ℕ) → (y ∈ S) ⊎ (y ∈ e ∷ []) → (M z ≡ true) ⊎ (y ∈ S) ⊎ (y ≡ e)
      two y z (inl i) = inr (inl i)
      two y z (inr i) = inr (inr (in_single y e i))

      go : (y z : ℕ) → HasBody t y → (M z ≡ true) ⊎ (y ∈ S ++ e ∷ []) ⊎ (y ≡ 0) → (M z ≡ true) ⊎ (y ∈ S) ⊎ (y ≡ e)
      go y z b (inl m) = inl m
      go y z b (inr (inl i)) = two y z (in_append y S (e ∷ []) i)
      go y z b (inr (inr i)) = absurd (omega (arith, (body_label t n ok y b).0))

  -- what waits on the stack is linked to
  top_links : (d e : ℕ) (M : ℕ → Bool) (S : List ℕ) → Spread t j d 0 M (S ++ e ∷ []) → HasBody t e × Links t j d e
  top_links d e M S h =
      let i : e ∈ S ++ e ∷ [] = in_right e S (e ∷ []) (in_here e []) in
      let b = h.bodies e i in
      (b, touch_body t n ok j col (h.sound e (one_in (M e) (omega (arith, h.held e)))) b)

  -- the top of the stack
  pub popped : (d : ℕ) (M : ℕ → Bool) (stack : List ℕ) (top e : ℕ) → e ≡ get_or stack (top - 1) 0 → 0 < top → top ≤ length stack → Spread t j d 0 M (take top stack)
      → Spread t j d e M (take (top - 1) stack) × HasBody t e × Links t j d e
  popped d M stack top e z some room h =
      let g = subst (λ (S : List ℕ). Spread t j d 0 M S) split h in let l = top_links d e M (take (top - 1) stack) g in (spread_pop d e M (take (top - 1) stack) g, l.0, l.1)
    where
      split : take top stack ≡ take (top - 1) stack ++ e ∷ []
      split =
          let k : top ≡ suc (top - 1) = omega arith in
          ap (λ (i : ℕ). take i stack) k ∙ take-suc stack (top - 1) 0 (omega arith) ∙ ap (λ (x : ℕ). take (top - 1) stack ++ x ∷ []) (sym z)

  -- ---- along a chain

  module _ (d e : ℕ) (s₀ : List ℕ) (top₀ : ℕ) where
    pub growing_start : (S : List ℕ) (x : ℕ) → length S ≡ top₀ → Spread t j d e (mark s₀ (width n) d) S → Last t j e n x → Growing t n j d e s₀ top₀ s₀ S x
    growing_start S x z h last = record {
      spread = h;
      met = λ l a p. absurd (last.none l a (path_label t n ok l p.path).1 p);
      kept = λ q m. m;
      others = λ a q y. refl;
      less = omega arith;
    }

    module _ (s S : List ℕ) (x : ℕ) (g : Growing t n j d e s₀ top₀ s S x) (y : ℕ) (last : Last t j e (x - 1) y) where
      -- the next line, whose link leads to what is marked in s'
      on : (s' S' : List ℕ) → Spread t j d e (mark s' (width n) d) S' → mark s' (width n) d (cell t x j) ≡ true
          → ((q : ℕ) → mark s (width n) d q ≡ true → mark s' (width n) d q ≡ true)
          → ((a q : ℕ) → (a ≡ d → ⊥) → mark s' (width n) a q ≡ mark s (width n) a q)
          → length S' + mark_count n (mark s (width n) d) ≤ length S + mark_count n (mark s' (width n) d) → Growing t n j d e s₀ top₀ s' S' y
      on s' S' h here up same fewer = record {
        spread = h;
        met = λ l a p. met l a p (ℕ_discrete l x) (dec_lt x l);
        kept = λ q m. up q (g.kept q m);
        others = λ a q z. same a q z ∙ g.others a q z;
        less = omega (arith, g.less);
      }
        where
          met : (l : ℕ) → y < l → Hangs t j e l → Dec (l ≡ x) → Dec (x < l) → mark s' (width n) d (cell t l j) ≡ true
          met l a p (yes z) _ = rw z here
          met l a p (no z) (yes b) = up (cell t l j) (g.met l b p)
          met l a p (no z) (no b) = absurd (last.none l a (omega arith) p)

      module _ (state : List RowState) (stack : List ℕ) (top : ℕ) (is : S ≡ take top stack) (room : top < length stack)
          (way : Links t j d (cell t x j)) (rows : get_or state (cell t x j) New ≡ Made → MarkRow t n j s (cell t x j)) (s' stack' : List ℕ) (r : ℕ) where
        f_label : (1 ≤ cell t x j) × (cell t x j ≤ n)
        f_label = body_label t n ok (cell t x j) (links_body t n ok j col way)

        turn : Met t n state d (cell t x j) s stack top s' stack' r → Growing t n j d e s₀ top₀ s' (take r stack') y × (r ≤ length stack)
        turn (marked m p q z) = (
          subst (λ (w : List ℕ). Growing t n j d e s₀ top₀ w (take r stack') y) (sym p) (subst (λ (w : List ℕ). Growing t n j d e s₀ top₀ s w y) (is ∙ sym same)
              (on s S g.spread m (λ q m. m) (λ a q i. refl) (omega arith))),
          omega arith,
        )
          where
            same : take r stack' ≡ take top stack
            same = rw (q, z)
        turn (added m two q z add) =
            let up = add.kept in
            let here = add.new (cell t x j) (in_row t n ok (cell t x j) f_label.1) (inl (inl refl)) in
            let more = more_marked (mark s (width n) d) (mark s' (width n) d) up (cell t x j) f_label m here in (
              subst (λ (w : List ℕ). Growing t n j d e s₀ top₀ s' w y) (is ∙ sym same)
                  (on s' S (meet_made d e (cell t x j) way s s' S g.spread (rows two) add) here up add.others (omega arith)),
              omega arith,
            )
          where
            same : take r stack' ≡ take top stack
            same = rw (q, z)
        turn (pushed m q z add) =
            let up = add.kept in
            let here = add.new (cell t x j) (in_row t n ok (cell t x j) f_label.1) (inl refl) in
            let more = more_marked (mark s (width n) d) (mark s' (width n) d) up (cell t x j) f_label m here in (
              subst (λ (w : List ℕ). Growing t n j d e s₀ top₀ s' w y) (ap (λ (w : List ℕ). w ++ cell t x j ∷ []) is ∙ sym same)
                  (on s' (S ++ cell t x j ∷ []) (meet_push d e (cell t x j) way s s' S g.spread m add) here up add.others (omega (arith, length-append S (cell t x j ∷ [])))),
              omega arith,
            )
          where
            same : take r stack' ≡ take top stack ++ cell t x j ∷ []
            same = rw (q, z, add-one, take-suc-set stack top (cell t x j))

        pub growing_turn : length stack' ≡ length stack → (f : ℕ) → f ≡ cell t x j → Met t n state d f s stack top s' stack' r
            → Growing t n j d e s₀ top₀ s' (take r stack') y × (r ≤ n)
        growing_turn long f z m =
            let g' = turn (subst (λ (v : ℕ). Met t n state d v s stack top s' stack' r) z m) in
            (g'.0, omega (arith, stack_short d e (mark s' (width n) d) (take r stack') g'.0.spread, length-take-le r stack' (omega (arith, g'.1))))

    pub growing_end : (s S : List ℕ) (x : ℕ) → x ≡ 0 → Growing t n j d e s₀ top₀ s S x → (stack : List ℕ) (r : ℕ) → S ≡ take r stack → r ≤ length stack
        → Grown t n j d e s₀ top₀ s stack r
    growing_end s S x z g stack r is room = record {
      spread = subst (λ (w : List ℕ). Spread t j d 0 (mark s (width n) d) w) is (spread_end d e (mark s (width n) d) S g.spread all);
      links = all;
      kept = g.kept;
      others = g.others;
      less = omega (arith, g.less, ap length is, length-take-le r stack room);
    }
      where
        all : (y : ℕ) → Link t j e y → mark s (width n) d y ≡ true
        all y l =
            let b = path_label t n ok l.line l.path in
            subst (λ (w : ℕ). mark s (width n) d w ≡ true) l.to (g.met l.line (omega (arith, b.0)) (record { path = l.path; from = l.from }))

  -- each turn of `fill` leaves less to do
  pub grown_less : (d e : ℕ) (s : List ℕ) (top : ℕ) (s' stack' : List ℕ) (r : ℕ) → Grown t n j d e s top s' stack' r
      → r + (n - mark_count n (mark s' (width n) d)) ≤ top + (n - mark_count n (mark s (width n) d))
  grown_less d e s top s' stack' r g = omega (arith, g.less, count_few n (mark s' (width n) d), count_few n (mark s (width n) d))

  -- ---- rows that are made

  -- with a Group, they have the Groups around it
  pub row_above : (f : ℕ) (s : List ℕ) → MarkRow t n j s f → Raised t (mark s (width n) f)
  row_above f s row g k m h = (row (owner t g)).1 (touch_owner t n ok j col ((row g).0 m) k h)

  -- rows that are made stay so while row d grows
  pub rows_kept : (d : ℕ) (state : List RowState) (s s' : List ℕ) → (get_or state d New ≡ Made → ⊥) → ((f : ℕ) → get_or state f New ≡ Made → MarkRow t n j s f)
      → ((a q : ℕ) → (a ≡ d → ⊥) → mark s' (width n) a q ≡ mark s (width n) a q) → (f : ℕ) → get_or state f New ≡ Made → MarkRow t n j s' f
  rows_kept d state s s' not_made rows same f made q =
      let e = same f q (λ z. not_made (subst (λ (x : ℕ). get_or state x New ≡ Made) z made)) in
      (λ m. (rows f made q).0 (sym e ∙ m), λ h. e ∙ (rows f made q).1 h)

  pub filled : (d : ℕ) (s₀ s : List ℕ) → Spread t j d 0 (mark s (width n) d) [] → ((z : ℕ) → Link t j d z → mark s (width n) d z ≡ true)
      → ((a q : ℕ) → (a ≡ d → ⊥) → mark s (width n) a q ≡ mark s₀ (width n) a q) → Filled t n j d s₀ s
  filled d s₀ s h first same = record {
    row = h.sound;
    all = λ q x. h.around x.end q (all x.links) (links_body t n ok j col x.links) x.around;
    others = same;
  }
    where
      all : {y : ℕ} → Links t j d y → mark s (width n) d y ≡ true
      all {y} (once l) = first y l
      all {y} (then {e = e} r l) = go (h.closed e y (all r) (links_body t n ok j col r) l)
        where
          go : (mark s (width n) d y ≡ true) ⊎ (e ∈ []) ⊎ (e ≡ 0) → mark s (width n) d y ≡ true
          go (inl m) = m
          go (inr (inl i)) = absurd (omega arith)
          go (inr (inr i)) = absurd (omega (arith, (body_label t n ok e (links_body t n ok j col r)).0))

  -- a row taken from one that is linked to and links back
  pub shared : (d e : ℕ) (s s' : List ℕ) → HasBody t d → Link t j d e → MarkRow t n j s e → mark s (width n) e d ≡ true → Blank n s d
      → Added (λ (q : ℕ). mark s (width n) e q ≡ true) s s' (width n) d → Filled t n j d s s'
  shared d e s s' b l row m blank add = record { row = λ q x. here q (add.only q x); all = all; others = add.others }
    where
      here : (q : ℕ) → (mark s (width n) d q ≡ true) ⊎ (mark s (width n) e q ≡ true) → Touches t j d q
      here q (inl x) = both_ways (mark s (width n) d q) x (blank q)
      here q (inr x) = touch_on t n ok j col (once l) ((row q).0 x)

      all : (q : ℕ) → Touches t j d q → mark s' (width n) d q ≡ true
      all q x = add.new q (in_row t n ok q (touch_label t n ok j col x).1) ((row q).1 (touch_on t n ok j col (touch_body t n ok j col ((row d).0 m) b) x))
