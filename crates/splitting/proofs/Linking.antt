-- The chains of blocks: made from the last item down, and put one after the other.
use mathlib.Core.Path.{◌≡◌, refl, sym, ap, ◌∙◌, subst}
use mathlib.Core.List.{List, [], ◌∷◌, ◌++◌, append-nil, append_assoc}
use mathlib.Core.Bool.{Bool, true, false}
use Prim.Native.Nat.{ℕ, ◌+◌, ◌-◌, ◌≤◌, ◌<◌}
use native.Mathlib.Omega.{arith}
use native.Mathlib.Decide.{ℕ_discrete}
use native.Mathlib.Numerals.{add-one}
use lib.Dec.{eqb}
use Rattle.std.specs.List.{push}
use lib.ListN.{length, get_or, set, take, drop, length-set, length-append, take-append-drop}
use lib.Seq.{get_or-set_same, get_or-set_other, drop-cons, take-suc, length-take-le}
use borrow.Author.Tests.{eqb-true, eq-eqb, ne_eqb}
use Rattle.order.specs.LabelLists.{count, ◌∈◌, filter, joined}
use Rattle.order.specs.Blocks.{together, block_of, leaders}
use Rattle.order.proofs.Lists.{in_here, in_there, in_right, in_filter, in_filter_of, count_here, count_append}
use Rattle.order.proofs.Joined.{joined_append}
use Rattle.order.proofs.Alike.{same_test, filter_same}
use Rattle.order.proofs.Blocks.{Tog, in_block_lem, block_in, lead_of}
use Rattle.placing.proofs.Lists.{rising_once}
use Rattle.blocks.specs.Found.{Led}
use Rattle.blocks.proofs.Merging.{led_tog, led_is}
use Rattle.groups.specs.Members.{Chain, WalkableChain, Gathered}
use Rattle.groups.proofs.Chains.{chain_same}
use Rattle.splitting.specs.Leaders.{Linkable, BlockChains, Chains}

-- x has lead b
abbrev pub headed : List ℕ → ℕ → ℕ → Bool
headed lead b x = eqb (get_or lead x 0) b

-- the block of a leader is those that it leads
block_headed : (R : ℕ → ℕ → Bool) (items lead : List ℕ) → Led R items lead → (b : ℕ) → b ∈ leaders R items → filter (headed lead b) items ≡ block_of R items b
block_headed R items lead led b m =
    let w = lead_of R items b m in
    filter_same (headed lead b) (together R items b) items (λ x mx. same_test (headed lead b x) (together R items b x)
    (λ e. (in_filter (together R items b) x items (block_in R items b x mx (subst (λ (v : ℕ). Tog R items v x) (eqb-true (get_or lead x 0) b e) (led_tog R items lead led x mx)))).1)
    (λ e. eq-eqb (get_or lead x 0) b (led_is R items lead led b x w.0 w.1 mx (in_block_lem R items b x (in_filter_of (together R items b) x items mx e)).1)))

-- the chain of each item is those of the items behind the rest whose lead it is
pub record Linking (n : ℕ) (items lead rest links : List ℕ) : Type 0 where
  pub done : List ℕ
  pub parts : items ≡ rest ++ done
  pub chain : (b : ℕ) → b ∈ items → Chain n links (get_or links b 0) (filter (headed lead b) done)

module _ (n : ℕ) (items lead : List ℕ) where
  module _ (rest links₀ links : List ℕ) (ok : Linkable n items lead links₀) (same : length links ≡ length links₀) (k : Linking n items lead rest links)
      (rest' : List ℕ) (x b : ℕ) (is : rest ≡ push rest' x) (isb : b ≡ get_or lead x 0) where
    parts : items ≡ rest' ++ x ∷ k.done
    parts = k.parts ∙ ap (λ (l : List ℕ). l ++ k.done) is ∙ append_assoc rest' (x ∷ []) k.done

    behind : (y : ℕ) → y ∈ (x ∷ k.done) → y ∈ items
    behind y m = subst (λ (l : List ℕ). y ∈ l) (sym parts) (in_right y rest' (x ∷ k.done) m)

    pub link_item : x ∈ items
    link_item = behind x (in_here x k.done)

    link_lead : b ∈ items
    link_lead = subst (λ (v : ℕ). v ∈ items) (sym isb) (ok.item x link_item)

    later : (y : ℕ) → y ∈ k.done → (y ∈ items) × (y ≡ x → ⊥)
    later y m = (
      behind y (in_there y x k.done m),
      λ e.
          let again : x ∈ k.done = subst (λ (v : ℕ). v ∈ k.done) e m in
          omega (arith, rising_once items ok.rising x, ap (count x) parts, count_append x rest' (x ∷ k.done), count_here x k.done),
    )

    abbrev after : List ℕ
    after = set (set links (n + x) (get_or links b 0)) b x

    label : (1 ≤ x) × (x ≤ n)
    label = ok.label x link_item

    lead_label : (1 ≤ b) × (b ≤ n)
    lead_label = ok.label b link_lead

    -- the chain from p on is as it was
    kept : (c p : ℕ) → Chain n links p (filter (headed lead c) k.done) → Chain n after p (filter (headed lead c) k.done)
    kept c p = chain_same n links after p (filter (headed lead c) k.done) (λ y m.
        let w = later y (in_filter (headed lead c) y k.done m).0 in
        let l = ok.label y w.0 in
        get_or-set_other (set links (n + x) (get_or links b 0)) b (n + y) x 0 (λ z. omega (arith, lead_label, l))
        ∙ get_or-set_other links (n + x) (n + y) (get_or links b 0) 0 (λ z. w.1 (omega arith)))

    pub linking_turn : Linking n items lead rest' after
    linking_turn = record { done = x ∷ k.done; parts = parts; chain = λ c m. go c m (ℕ_discrete c b) }
      where
        go : (c : ℕ) → c ∈ items → Dec (c ≡ b) → Chain n after (get_or after c 0) (filter (headed lead c) (x ∷ k.done))
        go c m (yes e) =
            let test : headed lead c x ≡ true = eq-eqb (get_or lead x 0) c (sym isb ∙ sym e) in
            let head : get_or after c 0 ≡ x = ap (λ (j : ℕ). get_or after j 0) e
            ∙ get_or-set_same (set links (n + x) (get_or links b 0)) b x 0 (omega (arith, length-set links (n + x) (get_or links b 0), lead_label, ok.room)) in
            let link : get_or links c 0 ≡ get_or after (n + x) 0 = ap (λ (j : ℕ). get_or links j 0) e
            ∙ sym (get_or-set_other (set links (n + x) (get_or links b 0)) b (n + x) x 0 (λ z. omega (arith, lead_label, label))
            ∙ get_or-set_same links (n + x) (get_or links b 0) 0 (omega (arith, label, ok.room))) in
            rw test (head, label.0, subst (λ (q : ℕ). Chain n after q (filter (headed lead c) k.done)) link (kept c (get_or links c 0) (k.chain c m)))
        go c m (no e) =
            let test : headed lead c x ≡ false = ne_eqb (get_or lead x 0) c (λ z. e (sym z ∙ sym isb)) in
            let l = ok.label c m in
            let head : get_or links c 0 ≡ get_or after c 0 = sym (get_or-set_other (set links (n + x) (get_or links b 0)) b c x 0 e
            ∙ get_or-set_other links (n + x) c (get_or links b 0) 0 (λ z. omega (arith, label, l))) in
            rw test (subst (λ (q : ℕ). Chain n after q (filter (headed lead c) k.done)) head (kept c (get_or links c 0) (k.chain c m)))

  pub linking_all : (rest links : List ℕ) → length rest ≡ 0 → Linking n items lead rest links → BlockChains n items lead links
  linking_all rest links z k = record { chain = each }
    where
      none : (l : List ℕ) → length l ≡ 0 → l ≡ []
      none [] e = refl
      none (x ∷ l) e = absurd (omega arith)

      all : k.done ≡ items
      all = sym (k.parts ∙ ap (λ (l : List ℕ). l ++ k.done) (none rest z))

      each : (R : ℕ → ℕ → Bool) → Led R items lead → (b : ℕ) → b ∈ leaders R items → Chain n links (get_or links b 0) (block_of R items b)
      each R led b m =
          let c = subst (λ (l : List ℕ). Chain n links (get_or links b 0) (filter (headed lead b) l)) all (k.chain b (lead_of R items b m).0) in
          subst (λ (l : List ℕ). Chain n links (get_or links b 0) l) (block_headed R items lead led b m) c

-- ---- chains put one after the other

-- the chains of the first i of l stand in front
pub record Expanding (n : ℕ) (links l out : List ℕ) (i m : ℕ) : Type 0 where
  pub within : i ≤ length l
  pub short : m ≤ length out
  pub cells : (f : ℕ → List ℕ) → ((b : ℕ) → b ∈ l → Chain n links (get_or links b 0) (f b)) → take m out ≡ joined f (take i l)

module _ (n : ℕ) (links l : List ℕ) (room : ℕ) (ok : Chains n links l room) where
  module _ (out : List ℕ) (same : length out ≡ room) (i m : ℕ) (k : Expanding n links l out i m) (hi : i < length l) (b : ℕ) (is : b ≡ get_or l i 0) where
    one_more_lem : take (i + 1) l ≡ take i l ++ b ∷ []
    one_more_lem = rw add-one (take-suc l i 0 hi) ∙ ap (λ (v : ℕ). take i l ++ v ∷ []) (sym is)

    whole : take i l ++ b ∷ drop (i + 1) l ≡ l
    whole =
        ap (λ (k : List ℕ). take i l ++ k) (sym (rw add-one (drop-cons l i 0 hi) ∙ ap (λ (v : ℕ). v ∷ drop (i + 1) l) (sym is)))
        ∙ take-append-drop i l

    pub expand_item : b ∈ l
    expand_item = subst (λ (k : List ℕ). b ∈ k) whole (in_right b (take i l) (b ∷ drop (i + 1) l) (in_here b (drop (i + 1) l)))

    pub expand_walk : WalkableChain n links (get_or links b 0) (length out - m)
    expand_walk = record {
      labels = ok.lists b;
      chain = ok.chain b expand_item;
      below = λ x j. ok.below b x expand_item j;
      fits = omega (
        arith,
        ok.fits,
        ap length (ap (joined ok.lists) (sym whole)),
        ap length (joined_append ok.lists (take i l) (b ∷ drop (i + 1) l)),
        length-append (joined ok.lists (take i l)) (joined ok.lists (b ∷ drop (i + 1) l)),
        length-append (ok.lists b) (joined ok.lists (drop (i + 1) l)),
        ap length (k.cells ok.lists ok.chain),
        length-take-le m out k.short,
      );
    }

    pub expanding_turn : (out' : List ℕ) (r : ℕ) → ((g : List ℕ) → Chain n links (get_or links b 0) g → Gathered (take m out ++ g) out' r) → Expanding n links l out' (i + 1) r
    expanding_turn out' r h = record {
      within = omega arith;
      short = (h (ok.lists b) (ok.chain b expand_item)).within;
      cells = λ f c.
          (h (f b) (c b expand_item)).cells ∙ ap (λ (k : List ℕ). k ++ f b) (k.cells f c)
          ∙ sym (ap (joined f) one_more_lem ∙ joined_append f (take i l) (b ∷ []) ∙ ap (λ (k : List ℕ). joined f (take i l) ++ k) (append-nil (f b)));
    }
