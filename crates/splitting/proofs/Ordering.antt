-- The blocks of a Group found by rows of needs, and placed.
use mathlib.Core.Path.{◌≡◌, sym, ap, ◌∙◌, subst}
use mathlib.Core.List.{List}
use mathlib.Core.Bool.{Bool, true, ◌&&◌}
use Prim.Native.Nat.{ℕ, ◌+◌, ◌*◌, ◌≤◌, ◌<◌}
use native.Mathlib.Omega.{arith}
use lib.IntN.{ℤ}
use lib.ListN.{length, get_or, take}
use Rattle.cells.specs.Accepted.{Accepted}
use Rattle.order.specs.LabelLists.{◌∈◌, joined}
use Rattle.order.specs.Blocks.{is_leader, leaders, block_needs}
use Rattle.order.specs.Order.{is_member_of, members, needs, ordered}
use Rattle.order.proofs.Lists.{filter_le}
use Rattle.order.proofs.Placing.{placed_sub}
use Rattle.order.proofs.Tables.{def_label, member_of}
use Rattle.order.proofs.Alike.{same_test, placed_same}
use Rattle.order.proofs.Blocks.{lead_of, leaders_same, block_needs_same}
use Rattle.order.proofs.BlockPlan.{ordered_lead}
use Rattle.marks.specs.Marks.{mark}
use Rattle.placing.specs.UnmetCounts.{Rising, AllBelow, needed, Fits, Placed, InRows}
use Rattle.reach.specs.MarkRows.{width}
use Rattle.blocks.specs.Found.{Led}
use Rattle.blocks.specs.Found as blocks
use Rattle.blocks.specs.Merged.{Merged, Mergeable}
use Rattle.blocks.specs.Merged as merged
use Rattle.blocks.proofs.Merging.{led_item, led_head, led_same}
use Rattle.groups.specs.Members.{Gathered, Items, NeedRowsFrom, NeedRowsOf, MaskedBy}
use Rattle.groups.proofs.Chains.{labels_few, rising_part, rising_filter}
use Rattle.reach.proofs.Reading.{row_room}
use Rattle.groups.proofs.Orders.{in_rows, fits, needed_is}
use Rattle.groups.specs.Opened.{expanded_block, expanded}
use Rattle.splitting.specs.Leaders.{ScratchRoom, LedMembers, Linkable, LeaderChains, Chains, Expanded}
use Rattle.groups.proofs.Expanded.{expanded_few, block_label}

-- ---- the members of a Group

module _ (t : List ℤ) (n : ℕ) (ok : Accepted t n) (g : ℕ) where
  abbrev R : ℕ → ℕ → Bool
  R = needs t n

  all_items : Items t (members t n g)
  all_items = record { rising = rising_filter (is_member_of t g) 1 n; defs = λ p i. (member_of t n ok g p i).0 }

  leader_items : Items t (leaders R (members t n g))
  leader_items = record {
    rising = rising_part (is_leader R (members t n g)) (members t n g) (rising_filter (is_member_of t g) 1 n);
    defs = λ p i. (member_of t n ok g p (lead_of R (members t n g) p i).0).0;
  }

  rows_of : (square : List ℕ) → NeedRowsFrom t n g square → NeedRowsOf t n (members t n g) square
  rows_of square rows p q mp mq hp hq = rows p q hp hq (omega (arith, (member_of t n ok g q mq).1))

  label : (p : ℕ) → p ∈ members t n g → (1 ≤ p) × (p ≤ n)
  label p m = def_label t n ok p (member_of t n ok g p m).0

  below : AllBelow (members t n g) (64 * width n)
  below p m = omega (arith, label p m)

  has_row : (square : List ℕ) → (n + 1) * width n ≤ length square → (p : ℕ) → p ∈ members t n g → p * width n + width n ≤ length square
  has_row square room p m = row_room n (width n) p (length square) (label p m).1 room

  -- ---- what the search asks, and what it finds

  module _ (N W : ℕ) (r : ScratchRoom n N W) (ready stacked stack unmet order path lead : List ℕ) (readies : length ready ≡ W) (rows : length stacked ≡ W)
      (stacks : length stack ≡ N) (counts : length unmet ≡ N) (orders : length order ≡ N) (paths : length path ≡ N) (leads : length lead ≡ N) where
    search_room : blocks.Room (members t n g) ready stacked stack unmet order path lead (width n)
    search_room =
        let few = labels_few (is_member_of t g) n in
        record {
          few = omega (arith, few, ok.few);
          fresh_room = omega (arith, r.words, readies);
          stacked_room = omega (arith, r.words, rows);
          stack_room = omega (arith, few, r.labels, stacks);
          starts_room = omega (arith, few, r.labels, orders);
          path_room = omega (arith, few, r.labels, paths);
          placed = λ p m. omega (arith, label p m, r.labels, counts);
          leads_room = λ p m. omega (arith, label p m, r.labels, leads);
        }

    pub find_room : (items : List ℕ) (m : ℕ) → Gathered (members t n g) items m
        → blocks.Room (take m items) ready stacked stack unmet order path lead (width n)
    find_room items m ga = subst (λ (l : List ℕ). blocks.Room l ready stacked stack unmet order path lead (width n)) (sym ga.cells) search_room

  found_led : (square mask lead : List ℕ) → NeedRowsFrom t n g square → MaskedBy t n true (members t n g) mask → Led (needed square mask (width n)) (members t n g) lead
      → Led (needs t n) (members t n g) lead
  found_led square mask lead rows masked =
      led_same (needed square mask (width n)) R (members t n g) lead (needed_is t n ok (members t n g) all_items mask square masked (rows_of square rows))

  module _ (items : List ℕ) (m : ℕ) (ga : Gathered (members t n g) items m) where
    is : take m items ≡ members t n g
    is = ga.cells

    pub find_asks : (square mask : List ℕ) → (n + 1) * width n ≤ length square → width n ≤ length mask → MaskedBy t n true (take m items) mask
        → InRows (take m items) square mask (width n)
    find_asks square mask room wide masked = in_rows t n ok (take m items) (subst (Items t) (sym is) all_items) mask square masked room wide

    pub find_gives : (square mask lead : List ℕ) → NeedRowsFrom t n g square → MaskedBy t n true (take m items) mask
        → Led (needed square mask (width n)) (take m items) lead → LedMembers t n g (take m items) lead
    find_gives square mask lead rows masked led =
        let k = subst (λ (l : List ℕ). MaskedBy t n true l mask) is masked in
        record {
          are = ga.cells;
          led = found_led square mask lead rows k (subst (λ (l : List ℕ). Led (needed square mask (width n)) l lead) is led);
          mask = mask;
          masked = k;
        }

  -- ---- the members and their leads, in a part of a buffer

  module _ (L lead : List ℕ) (m : LedMembers t n g L lead) where
    pub leading : n < length lead → AllBelow L (length lead)
    leading room p i = omega (arith, label p (subst (λ (l : List ℕ). p ∈ l) m.are i))

    pub linkable : (links : List ℕ) → n < length lead → 2 * n < length links → Linkable n L lead links
    linkable links room wide = record {
      rising = subst Rising (sym m.are) all_items.rising;
      label = λ p i. label p (subst (λ (l : List ℕ). p ∈ l) m.are i);
      leading = leading room;
      item = subst (λ (l : List ℕ). (p : ℕ) → p ∈ l → get_or lead p 0 ∈ l) (sym m.are) (led_item R (members t n g) lead m.led);
      room = wide;
    }

    pub mergeable : (square : List ℕ) → n < length lead → (n + 1) * width n ≤ length square → Mergeable L lead square (width n)
    mergeable square lroom room = subst (λ (l : List ℕ). Mergeable l lead square (width n)) (sym m.are) (record {
      rising = all_items.rising;
      narrow = omega (arith, ok.few);
      below = below;
      leading = λ p i. omega (arith, label p i);
      rows = has_row square room;
      item = led_item R (members t n g) lead m.led;
      head = led_head R (members t n g) lead m.led;
    })

    pub few_items : length L ≤ n
    few_items = omega (arith, ap length m.are, labels_few (is_member_of t g) n)

    -- ---- the leaders

    leaders_are : (out : List ℕ) (k : ℕ) → merged.LeadersGathered L lead out k → take k out ≡ leaders R (members t n g)
    leaders_are out k h =
        h.cells R (subst (λ (l : List ℕ). Led R l lead) (sym m.are) m.led) ∙ ap (leaders R) m.are

    -- what placing them asks
    module _ (out : List ℕ) (k : ℕ) (h : merged.LeadersGathered L lead out k) where
      pub heads_items : Items t (take k out)
      heads_items = subst (Items t) (sym (leaders_are out k h)) leader_items

      pub heads_fit : (square mask unmet : List ℕ) → MaskedBy t n true (take k out) mask → (n + 1) * width n ≤ length square → n < length unmet → width n ≤ length mask
          → Fits (take k out) square mask unmet (width n)
      heads_fit square mask unmet masked room counts wide = fits t n ok (take k out) heads_items mask square masked unmet room counts wide

    module _ (s s' followers : List ℕ) (mg : Merged L lead s s' followers (width n)) (rows : NeedRowsFrom t n g s) where
      pub rows_after : NeedRowsFrom t n (g + 1) s'
      rows_after p q hp hq l =
          mg.others q p (λ i. omega (arith, (member_of t n ok g q (subst (λ (k : List ℕ). q ∈ k) m.are i)).1)) ∙ rows p q hp hq (omega arith)

      abbrev Q : ℕ → ℕ → Bool
      Q = needed s m.mask (width n)

      agree : (p q : ℕ) → p ∈ members t n g → q ∈ members t n g → Q p q ≡ R p q
      agree = needed_is t n ok (members t n g) all_items m.mask s m.masked (rows_of s rows)

      led_q : Led Q (members t n g) lead
      led_q = led_same R Q (members t n g) lead (λ p q mp mq. sym (agree p q mp mq)) m.led

      by_rows : (b c : ℕ) → b ∈ leaders R (members t n g) → c ∈ leaders R (members t n g) → needed s' m.mask (width n) c b ≡ block_needs R (members t n g) c b
      by_rows b c mb mc =
          let same = sym (leaders_same Q R (members t n g) agree) in
          (subst (λ (l : List ℕ). Merged l lead s s' followers (width n)) m.are mg).needs m.mask led_q b c
          (subst (λ (l : List ℕ). b ∈ l) same mb) (subst (λ (l : List ℕ). c ∈ l) same mc)
          ∙ block_needs_same Q R (members t n g) agree c b (lead_of R (members t n g) c mc).0 (lead_of R (members t n g) b mb).0

      module _ (mask : List ℕ) (masked : MaskedBy t n true (leaders R (members t n g)) mask) where
        mask_same : (b : ℕ) → b ∈ leaders R (members t n g) → mark mask (width n) 0 b ≡ mark m.mask (width n) 0 b
        mask_same b mb = same_test (mark mask (width n) 0 b) (mark m.mask (width n) 0 b)
            (λ h. (m.masked b).1 ((lead_of R (members t n g) b mb).0, ((masked b).0 h).1))
            (λ h. (masked b).1 (mb, ((m.masked b).0 h).1))

        by_leaders : (c b : ℕ) → c ∈ leaders R (members t n g) → b ∈ leaders R (members t n g) → needed s' mask (width n) c b ≡ block_needs R (members t n g) c b
        by_leaders c b mc mb =
            ap (λ (z : Bool). z && (mark s' (width n) b c && mark mask (width n) 0 c)) (mask_same b mb)
            ∙ ap (λ (z : Bool). mark m.mask (width n) 0 b && (mark s' (width n) b c && z)) (mask_same c mc) ∙ by_rows b c mb mc

        pub blocks_placed : (order : List ℕ) (r : ℕ) → n < length order → Placed (needed s' mask (width n)) (leaders R (members t n g)) order r → Gathered (ordered t n g) order r
        blocks_placed order r room pl = record {
          cells = pl.cells ∙ placed_same (needed s' mask (width n)) (block_needs R (members t n g)) (leaders R (members t n g)) by_leaders;
          within = omega (arith, pl.within, filter_le (is_leader R (members t n g)) (members t n g), labels_few (is_member_of t g) n);
        }

      pub heads_placed : (out mask order : List ℕ) (k r : ℕ) → merged.LeadersGathered L lead out k → MaskedBy t n true (take k out) mask → n < length order
          → Placed (needed s' mask (width n)) (take k out) order r → Gathered (ordered t n g) order r
      heads_placed out mask order k r h masked room pl =
          let e = leaders_are out k h in
          blocks_placed mask (subst (λ (l : List ℕ). MaskedBy t n true l mask) e masked) order r room (subst (λ (l : List ℕ). Placed (needed s' mask (width n)) l order r) e pl)

  -- ---- the chains of the blocks, in the order of the blocks

  pub order_chains : (links order : List ℕ) (r room : ℕ) → LeaderChains t n g links → Gathered (ordered t n g) order r → n ≤ room → Chains n links (take r order) room
  order_chains links order r room c h fit = subst (λ (l : List ℕ). Chains n links l room) (sym h.cells) (record {
    lists = expanded_block t n g;
    chain = λ b m. c.chain b (placed_sub (block_needs R (members t n g)) (leaders R (members t n g)) b m);
    label = λ b m. (label b (ordered_lead t n ok g b m).0).1;
    below = λ b x m i. (block_label t n ok g b x (ordered_lead t n ok g b m).0 i).1;
    fits = omega (arith, expanded_few t n ok g);
  })

  -- the chains put one after the other
  pub all_expanded : (links order out : List ℕ) (k r : ℕ) → LeaderChains t n g links → Gathered (ordered t n g) order k → Expanded n links (take k order) out r
      → Gathered (expanded t n g) out r
  all_expanded links order out k r c h e =
      subst (λ (l : List ℕ). Gathered (joined (expanded_block t n g) l) out r) h.cells
      (e (expanded_block t n g) (λ b m. c.chain b (placed_sub (block_needs R (members t n g)) (leaders R (members t n g)) b (subst (λ (l : List ℕ). b ∈ l) h.cells m))))
