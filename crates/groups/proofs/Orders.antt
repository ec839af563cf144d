-- The rule of placing over a Group's members and over the values: what `place` asks, and what it gives.
use mathlib.Core.Path.{◌≡◌, refl, sym, ap, ◌∙◌, subst}
use mathlib.Core.Logic.{◌⊎◌, inl, inr}
use mathlib.Core.List.{List}
use mathlib.Core.Bool.{Bool, true, false, and-true, and-false}
use Prim.Native.Nat.{ℕ, ◌+◌, ◌*◌, ◌≤◌, ◌<◌}
use native.Mathlib.Omega.{arith}
use lib.IntN.{ℤ}
use lib.ListN.{length, get_or, take}
use lib.Seq.{length-take-le}
use borrow.Author.Tests.{eq-eqb, ne_eqb}
use Rattle.kinds.specs.Kinds.{group_code}
use Rattle.kinds.specs.GivesValues.{gives_values}
use Rattle.kinds.proofs.Plans.{group_gives, value_gives}
use Rattle.cells.specs.Table.{kind, is_definition, owner}
use Rattle.cells.specs.Accepted.{Accepted}
use Rattle.order.specs.LabelLists.{one, count, ◌∈◌, filter}
use Rattle.order.specs.Placing.{placed}
use Rattle.order.specs.Order.{is_g, is_v, all_labels, is_member_of, members, values, reaches, needs, place16, NoCycle}
use Rattle.order.proofs.Tests.{both_ways, so_or_not, not_so}
use Rattle.order.proofs.Lists.{zero_or_in, in_filter, length_mono, length_up_from}
use Rattle.order.proofs.Tables.{v_kind, v_not_g, v_def, def_label, member_of, value_of, in_labels, reaches_exact}
use Rattle.order.proofs.Alike.{placed_same}
use Rattle.order.proofs.Needs.{holds, holds_intro, holds_v, needs_intro, needs_elim, only_itself}
use Rattle.order.proofs.Planned.{place16_exactly}
use Rattle.marks.specs.Marks.{mark, Added}
use Rattle.placing.specs.UnmetCounts.{needed, InRows, Fits, Placed}
use Rattle.placing.proofs.Lists.{count_more, in_more, rising_once}
use Rattle.reach.specs.MarkRows.{width}
use Rattle.reach.proofs.Reading.{row_room}
use Rattle.needs.specs.Needs.{Holder}
use Rattle.groups.specs.Members.{Chain, WalkableChain, Gathered, Items, NeedRowsFrom, NeedRowsOf, is_masked, MaskedBy}
use Rattle.groups.proofs.Chains.{rising_part, rising_filter}

-- ---- the part of a buffer that holds the items

pub items_many : (l items : List ℕ) (m : ℕ) → Gathered l items m → m ≡ length l
items_many l items m h = sym (length-take-le m items h.within) ∙ ap length h.cells

module _ (t : List ℤ) (n : ℕ) (ok : Accepted t n) where
  -- ---- kinds

  -- a definition that has no values in a plan
  abbrev Empty : ℕ → Type 0
  Empty p = gives_values (kind t p) ≡ false

  holds_none : (p x : ℕ) → is_definition t p ≡ true → Empty p → holds t p x ≡ true → ⊥
  holds_none p x d e h =
      let g : is_g t p ≡ false = ne_eqb (kind t p) group_code (λ z. both_ways (gives_values (kind t p)) (rw z group_gives) e) in
      let z : x ≡ p = only_itself t n ok p x d g h in
      both_ways (gives_values (kind t p)) (rw (v_kind t p (subst (λ (y : ℕ). is_v t y ≡ true) z (holds_v t n ok p x h))) value_gives) e

  needs_none : (p q : ℕ) → is_definition t p ≡ true → Empty p → needs t n p q ≡ false
  needs_none p q d e = not_so (needs t n p q) (λ h. let w = needs_elim t n ok p q h in holds_none p w.1.0 d e w.1.2)

  needed_none : (p q : ℕ) → is_definition t q ≡ true → Empty q → needs t n p q ≡ false
  needed_none p q d e = not_so (needs t n p q) (λ h. let w = needs_elim t n ok p q h in holds_none q w.1.1 d e w.1.3)

  -- ---- what `place` asks, and what it gives

  module _ (items : List ℕ) (h : Items t items) where
    item_label : (p : ℕ) → p ∈ items → (1 ≤ p) × (p ≤ n)
    item_label p m = def_label t n ok p (h.defs p m)

    pub items_few : length items ≤ n
    items_few =
        let m = length_mono items (all_labels n) (λ x. at x (zero_or_in (count x items))) in
        omega (arith, length_up_from 1 n)
      where
        at : (x : ℕ) → (count x items ≡ 0) ⊎ (x ∈ items) → count x items ≤ count x (all_labels n)
        at x (inl e) = omega arith
        at x (inr m) = let b = item_label x m in omega (arith, rising_once items h.rising x, in_labels t n ok x b.0 b.1)

    module _ (mask square : List ℕ) (masked : MaskedBy t n true items mask) where
      pub in_rows : (n + 1) * width n ≤ length square → width n ≤ length mask → InRows items square mask (width n)
      in_rows room wide = record {
        rising = h.rising;
        narrow = omega (arith, ok.few);
        below = λ p m. let b = item_label p m in omega (arith, b);
        rows = λ p m. row_room n (width n) p (length square) (item_label p m).1 room;
        masked = λ p m. ((masked p).0 m).0;
        mask_room = wide;
      }

      pub fits : (unmet : List ℕ) → (n + 1) * width n ≤ length square → n < length unmet → width n ≤ length mask → Fits items square mask unmet (width n)
      fits unmet room counts wide =
          record { in_rows = in_rows room wide; few = omega (arith, items_few, ok.few); counted = λ p m. let b = item_label p m in omega (arith, b) }

      in_mask : (p : ℕ) → p ∈ items → Holder t p → mark mask (width n) 0 p ≡ true
      in_mask p i d = (masked p).1 (i, d)

      out_mask : (p : ℕ) → Empty p → mark mask (width n) 0 p ≡ false
      out_mask p e = not_so (mark mask (width n) 0 p) (λ m. both_ways (gives_values (kind t p)) ((masked p).0 m).1 e)

      pub needed_is : NeedRowsOf t n items square → (p q : ℕ) → p ∈ items → q ∈ items → needed square mask (width n) p q ≡ needs t n p q
      needed_is rows p q mp mq = go (so_or_not (gives_values (kind t p))) (so_or_not (gives_values (kind t q)))
        where
          go : Holder t p ⊎ Empty p → Holder t q ⊎ Empty q → needed square mask (width n) p q ≡ needs t n p q
          go (inl hp) (inl hq) = rw (in_mask q mq hq, in_mask p mp hp) (and-true (mark square (width n) q p) ∙ rows p q mp mq hp hq)
          go (inl hp) (inr fq) = rw (out_mask q fq) (sym (needed_none p q (h.defs q mq) fq))
          go (inr fp) (inl hq) = rw (in_mask q mq hq, out_mask p fp) (and-false (mark square (width n) q p) ∙ sym (needs_none p q (h.defs p mp) fp))
          go (inr fp) (inr fq) = rw (out_mask q fq) (sym (needed_none p q (h.defs q mq) fq))

      pub placed_needs : NeedRowsOf t n items square → (order : List ℕ) (r : ℕ) → Placed (needed square mask (width n)) items order r → Placed (needs t n) items order r
      placed_needs rows order r pl = record { cells = pl.cells ∙ placed_same (needed square mask (width n)) (needs t n) items (needed_is rows); within = pl.within }

  -- ---- the members of a Group

  pub walkable : (l next : List ℕ) (p room : ℕ) → Chain n next p l → ((x : ℕ) → x ∈ l → is_definition t x ≡ true) → length l ≤ room → WalkableChain n next p room
  walkable l next p room c d h = record { labels = l; chain = c; below = λ x m. (def_label t n ok x (d x m)).1; fits = h }

  pub member_walk : (g : ℕ) (next : List ℕ) (p room : ℕ) → Chain n next p (members t n g) → length (members t n g) ≤ room → WalkableChain n next p room
  member_walk g next p room c h = walkable (members t n g) next p room c (λ x m. (member_of t n ok g x m).0) h

  module _ (g : ℕ) (items : List ℕ) (m : ℕ) (ga : Gathered (members t n g) items m) where
    is : take m items ≡ members t n g
    is = ga.cells

    pub member_items : Items t (take m items)
    member_items = subst (Items t) (sym is) (record { rising = rising_filter (is_member_of t g) 1 n; defs = λ p i. (member_of t n ok g p i).0 })

    pub member_rows : (square : List ℕ) → NeedRowsFrom t n g square → NeedRowsOf t n (take m items) square
    member_rows square rows p q i j hp hq = rows p q hp hq (omega (arith, (member_of t n ok g q (subst (λ (l : List ℕ). q ∈ l) is j)).1))

  -- ---- the values, where none reaches itself

  module _ (nc : NoCycle t) (p q : ℕ) (vp : is_v t p ≡ true) (vq : is_v t q ≡ true) where
    itself : (v : ℕ) → is_v t v ≡ true → holds t v v ≡ true
    itself v e = holds_intro t n ok v v (def_label t n ok v (v_def t v e)).0 e (0, refl)

    alone : (v x : ℕ) → is_v t v ≡ true → holds t v x ≡ true → x ≡ v
    alone v x e h = only_itself t n ok v x (v_def t v e) (v_not_g t v e) h

    needs_reaches : needs t n p q ≡ reaches t n p q
    needs_reaches = go (so_or_not (needs t n p q)) (so_or_not (reaches t n p q))
      where
        go : (needs t n p q ≡ true) ⊎ (needs t n p q ≡ false) → (reaches t n p q ≡ true) ⊎ (reaches t n p q ≡ false) → needs t n p q ≡ reaches t n p q
        go (inl a) (inl b) = a ∙ sym b
        go (inr a) (inr b) = a ∙ sym b
        go (inl a) (inr b) =
            let w = needs_elim t n ok p q a in
            let x : w.1.0 ≡ p = alone p w.1.0 vp w.1.2 in
            let y : w.1.1 ≡ q = alone q w.1.1 vq w.1.3 in
            both_ways (reaches t n p q) (sym (ap (λ (z : ℕ). reaches t n z q) x) ∙ (sym (ap (λ (z : ℕ). reaches t n w.1.0 z) y) ∙ w.1.4)) b
        go (inr a) (inl b) =
            both_ways (needs t n p q) (needs_intro t n ok p q p q other (itself p vp) (itself q vq) b) a
          where
            other : p ≡ q → ⊥
            other e = nc p (v_kind t p vp) ((reaches_exact t n ok p p).0 (subst (λ (z : ℕ). reaches t n p z ≡ true) (sym e) b))

  -- some values, upward
  module _ (f : ℕ → Bool) (items : List ℕ) (m : ℕ) (ga : Gathered (filter f (values t n)) items m) where
    some_is : take m items ≡ filter f (values t n)
    some_is = ga.cells

    some_value : (p : ℕ) → p ∈ filter f (values t n) → is_v t p ≡ true
    some_value p i = value_of t n ok p (in_filter f p (values t n) i).0

    pub some_items : Items t (take m items)
    some_items = subst (Items t) (sym some_is) (record { rising = rising_part f (values t n) (rising_filter (is_v t) 1 n); defs = λ p i. v_def t p (some_value p i) })

    pub some_rows : (g : ℕ) (square : List ℕ) → ((p : ℕ) → f p ≡ true → g ≤ owner t p) → NeedRowsFrom t n g square → NeedRowsOf t n (take m items) square
    some_rows g square h rows p q i j hp hq = rows p q hp hq (h q (in_filter f q (values t n) (subst (λ (l : List ℕ). q ∈ l) some_is j)).1)

    pub some_placed : place16 t n ≡ 0 → (order : List ℕ) (r : ℕ) → Placed (needs t n) (take m items) order r → Placed (reaches t n) (filter f (values t n)) order r
    some_placed z order r pl = record {
      cells = pl.cells ∙ ap (placed (needs t n)) some_is
          ∙ placed_same (needs t n) (reaches t n) (filter f (values t n)) (λ p q i j. needs_reaches ((place16_exactly t n ok 0).0 z) p q (some_value p i) (some_value q j));
      within = omega (arith, pl.within, ap length some_is);
    }

-- ---- the mask, item by item

module _ (t : List ℤ) (n : ℕ) (groups : Bool) (items mask : List ℕ) (i p : ℕ) (is : p ≡ get_or items i 0) (hi : i < length items) (old : MaskedBy t n groups (take i items) mask) where
  abbrev So : ℕ → Type 0
  So x = is_masked t groups x ≡ true

  more : (x : ℕ) → x ∈ take i items → x ∈ take (i + 1) items
  more x m = omega (arith, count_more x items i hi)

  pub mask_put : p < 64 * width n → is_masked t groups p ≡ true → (mask' : List ℕ) → Added (λ (b : ℕ). b ≡ p) mask mask' (width n) 0
      → MaskedBy t n groups (take (i + 1) items) mask'
  mask_put low h mask' add x = (λ m. there (add.only x m), λ y. back y (in_more x items i hi y.0))
    where
      there : (mark mask (width n) 0 x ≡ true) ⊎ (x ≡ p) → (x ∈ take (i + 1) items) × So x
      there (inl m) = let o = (old x).0 m in (more x o.0, o.1)
      there (inr y) = (omega (arith, count_more x items i hi, ap one (eq-eqb x (get_or items i 0) (y ∙ is))), subst So (sym y) h)

      back : (x ∈ take (i + 1) items) × So x → (x ∈ take i items) ⊎ (x ≡ get_or items i 0) → mark mask' (width n) 0 x ≡ true
      back y (inl m) = add.kept x ((old x).1 (m, y.1))
      back y (inr m) = let q : x ≡ p = m ∙ sym is in add.new x (omega arith) q

  pub mask_skip : is_masked t groups p ≡ false → MaskedBy t n groups (take (i + 1) items) mask
  mask_skip f x = (λ m. let o = (old x).0 m in (more x o.0, o.1), λ y. back y (in_more x items i hi y.0))
    where
      back : (x ∈ take (i + 1) items) × So x → (x ∈ take i items) ⊎ (x ≡ get_or items i 0) → mark mask (width n) 0 x ≡ true
      back y (inl m) = (old x).1 (m, y.1)
      back y (inr m) = both_ways (is_masked t groups p) (subst So (m ∙ sym is) y.1) f
