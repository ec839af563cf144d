-- Chains of members, and labels gathered in lists.
use mathlib.Core.Path.{◌≡◌, refl, sym, ap, ◌∙◌, subst}
use mathlib.Core.Logic.{◌⊎◌, inl, inr}
use mathlib.Core.List.{List, [], ◌∷◌, ◌++◌, append_assoc, append-nil}
use mathlib.Core.Bool.{Bool, true, false, cond}
use Prim.Native.Nat.{ℕ, zero, suc, ◌+◌, ◌-◌, ◌*◌, ◌≤◌, ◌<◌}
use native.Mathlib.Omega.{arith}
use native.Mathlib.Numerals.{add-one}
use native.Mathlib.Decide.{ℕ_discrete, dec_lt}
use lib.Dec.{eqb}
use lib.IntN.{ℤ}
use Rattle.std.specs.List.{push}
use lib.ListN.{length, get_or, set, take, length-set}
use lib.Seq.{get_or-set_same, get_or-set_other, take-suc-set}
use borrow.Author.Tests.{eq-eqb, ne_eqb}
use Rattle.cells.specs.Table.{owner, is_definition}
use Rattle.order.specs.LabelLists.{one, count, ◌∈◌, up_from, filter}
use Rattle.order.specs.Order.{all_labels, is_member_of}
use Rattle.order.proofs.Tests.{so_or_not}
use Rattle.order.proofs.Lists.{in_here, in_there, in_cons, in_filter, count_below, count_here, count_append, filter_le, length_up_from}
use Rattle.placing.specs.UnmetCounts.{Rising}
use Rattle.groups.specs.Members.{Chain, WalkableChain, Gathered, Relinked}

-- ---- labels that pass a test, upward

pub labels_few : (f : ℕ → Bool) (n : ℕ) → length (filter f (all_labels n)) ≤ n
labels_few f n = omega (arith, filter_le f (all_labels n), length_up_from 1 n)

from_up : (m k y : ℕ) → y ∈ up_from m k → m ≤ y
from_up m k y h = go (dec_lt y m)
  where
    go : Dec (y < m) → m ≤ y
    go (yes l) = absurd (omega (arith, count_below y m k l))
    go (no l) = omega arith

above : (f : ℕ → Bool) (m k y : ℕ) → y ∈ filter f (up_from m k) → m ≤ y
above f m k y h = from_up m k y (in_filter f y (up_from m k) h).0

rising_up : (m k : ℕ) → Rising (up_from m k)
rising_up m zero = tt
rising_up m (suc k) = (λ y h. from_up (suc m) k y h, rising_up (suc m) k)

pub rising_part : (f : ℕ → Bool) (l : List ℕ) → Rising l → Rising (filter f l)
rising_part f [] r = tt
rising_part f (x ∷ l) r = go (so_or_not (f x)) (rising_part f l r.1)
  where
    go : (f x ≡ true) ⊎ (f x ≡ false) → Rising (filter f l) → Rising (filter f (x ∷ l))
    go (inl e) i = rw e (λ y h. r.0 y (in_filter f y l h).0, i)
    go (inr e) i = rw e i

pub rising_filter : (f : ℕ → Bool) (m k : ℕ) → Rising (filter f (up_from m k))
rising_filter f m k = rising_part f (up_from m k) (rising_up m k)

-- lists that rise and hold the same are the same
pub rising_same : (a b : List ℕ) → Rising a → Rising b → ((x : ℕ) → count x a ≡ count x b) → a ≡ b
rising_same [] [] ra rb h = refl
rising_same [] (y ∷ b) ra rb h = absurd (omega (arith, h y, count_here y b))
rising_same (x ∷ a) [] ra rb h = absurd (omega (arith, h x, count_here x a))
rising_same (x ∷ a) (y ∷ b) ra rb h = go (in_cons x y b (omega (arith, h x, count_here x a))) (in_cons y x a (omega (arith, h y, count_here y b))) (rising_same a b ra.1 rb.1)
  where
    go : (x ≡ y) ⊎ (x ∈ b) → (y ≡ x) ⊎ (y ∈ a) → (((z : ℕ) → count z a ≡ count z b) → a ≡ b) → x ∷ a ≡ y ∷ b
    go (inl e) _ r = ap (λ (z : ℕ). z ∷ a) e ∙ ap (λ (l : List ℕ). y ∷ l) (r (λ z. omega (arith, h z, ap (λ (v : ℕ). one (eqb z v)) e)))
    go (inr i) (inl e) r = absurd (omega (arith, rb.0 x i))
    go (inr i) (inr j) r = absurd (omega (arith, rb.0 x i, ra.0 y j))

-- ---- chains

pub chain_same : (n : ℕ) (next next' : List ℕ) (p : ℕ) (l : List ℕ) → ((x : ℕ) → x ∈ l → get_or next' (n + x) 0 ≡ get_or next (n + x) 0) → Chain n next p l
    → Chain n next' p l
chain_same n next next' p [] h c = c
chain_same n next next' p (y ∷ l) h c = (
  c.0,
  c.1,
  subst (λ (q : ℕ). Chain n next' q l) (sym (h y (in_here y l))) (chain_same n next next' (get_or next (n + y) 0) l (λ x m. h x (in_there x y l m)) c.2),
)

pub chain_empty : (n : ℕ) (next : List ℕ) (p : ℕ) (l : List ℕ) → p ≡ 0 → Chain n next p l → l ≡ []
chain_empty n next p [] e c = refl
chain_empty n next p (x ∷ l) e c = absurd (omega (arith, c.0, c.1))

chain_once : (n : ℕ) (next : List ℕ) (p : ℕ) (l k : List ℕ) → Chain n next p l → Chain n next p k → l ≡ k
chain_once n next p [] k c d = sym (chain_empty n next p k c d)
chain_once n next p (x ∷ l) [] c d = absurd (omega (arith, c.0, c.1))
chain_once n next p (x ∷ l) (y ∷ k) c d =
    let e : x ≡ y = sym c.0 ∙ d.0 in
    ap (λ (z : ℕ). z ∷ l) e ∙ ap (λ (m : List ℕ). y ∷ m) (chain_once n next (get_or next (n + x) 0) l k c.2 (subst (λ (z : ℕ). Chain n next (get_or next (n + z) 0) k) (sym e) d.2))

-- how many steps there are to the end, of at most k
abbrev pub steps : ℕ → List ℕ → ℕ → ℕ → ℕ
steps n next zero p = 0
steps n next (suc k) p = cond (eqb p 0) 0 (suc (steps n next k (get_or next (n + p) 0)))

pub steps_are : (n : ℕ) (next : List ℕ) (k p : ℕ) (l : List ℕ) → length l ≤ k → Chain n next p l → steps n next k p ≡ length l
steps_are n next zero p [] h c = refl
steps_are n next zero p (x ∷ l) h c = absurd (omega arith)
steps_are n next (suc k) p [] h c = rw (eq-eqb p 0 c)
steps_are n next (suc k) p (x ∷ l) h c =
    let z : p ≡ 0 → ⊥ = λ e. omega (arith, c.0, c.1) in
    rw (ne_eqb p 0 z) (ap suc (ap (λ (q : ℕ). steps n next k (get_or next (n + q) 0)) c.0 ∙ steps_are n next k (get_or next (n + x) 0) l (omega arith) c.2))

-- ---- building them, from the last label down

above_step : (f : ℕ → Bool) (n l : ℕ) → 1 ≤ l → l ≤ n
    → filter f (up_from (suc (l - 1)) (n - (l - 1))) ≡ cond (f l) (l ∷ filter f (up_from (suc l) (n - l))) (filter f (up_from (suc l) (n - l)))
above_step f n l h k =
    let a : suc (l - 1) ≡ l = omega arith in
    let b : n - (l - 1) ≡ suc (n - l) = omega arith in
    ap (λ (j : ℕ). filter f (up_from j (n - (l - 1)))) a ∙ ap (λ (j : ℕ). filter f (up_from l j)) b

-- the chains of the members above l
abbrev pub Linked : List ℤ → ℕ → ℕ → List ℕ → Type 0
Linked t n l next = (g : ℕ) → g ≤ n → Chain n next (get_or next g 0) (filter (is_member_of t g) (up_from (suc l) (n - l)))

module _ (t : List ℤ) (n : ℕ) where
  module _ (l : ℕ) (lo : 1 ≤ l) (hi : l ≤ n) (next : List ℕ) (k : Linked t n l next) where
    same : (g : ℕ) → is_member_of t g l ≡ false → filter (is_member_of t g) (up_from (suc l) (n - l)) ≡ filter (is_member_of t g) (up_from (suc (l - 1)) (n - (l - 1)))
    same g e = sym (above_step (is_member_of t g) n l lo hi ∙ rw e)

    pub linked_skip : is_definition t l ≡ false → Linked t n (l - 1) next
    linked_skip d g h = subst (λ (m : List ℕ). Chain n next (get_or next g 0) m) (same g (rw d)) (k g h)

    module _ (d : is_definition t l ≡ true) (room : 2 * n < length next) (low : owner t l ≤ n) where
      far : (x : ℕ) → l < x → get_or (set (set next (n + l) (get_or next (owner t l) 0)) (owner t l) l) (n + x) 0 ≡ get_or next (n + x) 0
      far x h =
          get_or-set_other (set next (n + l) (get_or next (owner t l) 0)) (owner t l) (n + x) l 0 (λ z. omega arith)
          ∙ get_or-set_other next (n + l) (n + x) (get_or next (owner t l) 0) 0 (λ z. omega arith)

      kept : (g p : ℕ) → Chain n next p (filter (is_member_of t g) (up_from (suc l) (n - l)))
          → Chain n (set (set next (n + l) (get_or next (owner t l) 0)) (owner t l) l) p (filter (is_member_of t g) (up_from (suc l) (n - l)))
      kept g p c = chain_same n next (set (set next (n + l) (get_or next (owner t l) 0)) (owner t l) l) p (filter (is_member_of t g) (up_from (suc l) (n - l)))
          (λ x m. far x (above (is_member_of t g) (suc l) (n - l) x m)) c

      linked_more : Linked t n (l - 1) (set (set next (n + l) (get_or next (owner t l) 0)) (owner t l) l)
      linked_more g h = go (ℕ_discrete g (owner t l))
        where
          go : Dec (g ≡ owner t l) → Chain n (set (set next (n + l) (get_or next (owner t l) 0)) (owner t l) l) (get_or (set (set next (n + l) (get_or next (owner t l) 0)) (owner t l) l) g 0)
              (filter (is_member_of t g) (up_from (suc (l - 1)) (n - (l - 1))))
          go (yes e) =
              let test : is_member_of t g l ≡ true = rw d (eq-eqb (owner t l) g (sym e)) in
              let lists : l ∷ filter (is_member_of t g) (up_from (suc l) (n - l)) ≡ filter (is_member_of t g) (up_from (suc (l - 1)) (n - (l - 1))) =
              sym (above_step (is_member_of t g) n l lo hi ∙ rw test) in
              let head : get_or (set (set next (n + l) (get_or next (owner t l) 0)) (owner t l) l) g 0 ≡ l =
              ap (λ (j : ℕ). get_or (set (set next (n + l) (get_or next (owner t l) 0)) (owner t l) l) j 0) e
              ∙ get_or-set_same (set next (n + l) (get_or next (owner t l) 0)) (owner t l) l 0 (omega (arith, length-set next (n + l) (get_or next (owner t l) 0))) in
              let link : get_or next g 0 ≡ get_or (set (set next (n + l) (get_or next (owner t l) 0)) (owner t l) l) (n + l) 0 =
              ap (λ (j : ℕ). get_or next j 0) e
              ∙ sym (get_or-set_other (set next (n + l) (get_or next (owner t l) 0)) (owner t l) (n + l) l 0 (λ z. omega arith)
              ∙ get_or-set_same next (n + l) (get_or next (owner t l) 0) 0 (omega arith)) in
              subst (λ (m : List ℕ). Chain n (set (set next (n + l) (get_or next (owner t l) 0)) (owner t l) l)
              (get_or (set (set next (n + l) (get_or next (owner t l) 0)) (owner t l) l) g 0) m) lists (
                head,
                lo,
                subst (λ (q : ℕ). Chain n (set (set next (n + l) (get_or next (owner t l) 0)) (owner t l) l) q (filter (is_member_of t g) (up_from (suc l) (n - l)))) link
                    (kept g (get_or next g 0) (k g h)),
              )
          go (no e) =
              let test : is_member_of t g l ≡ false = rw d (ne_eqb (owner t l) g (λ z. e (sym z))) in
              let head : get_or (set (set next (n + l) (get_or next (owner t l) 0)) (owner t l) l) g 0 ≡ get_or next g 0 =
              get_or-set_other (set next (n + l) (get_or next (owner t l) 0)) (owner t l) g l 0 e ∙ get_or-set_other next (n + l) g (get_or next (owner t l) 0) 0 (λ z. omega arith) in
              subst (λ (q : ℕ). Chain n (set (set next (n + l) (get_or next (owner t l) 0)) (owner t l) l) q (filter (is_member_of t g) (up_from (suc (l - 1)) (n - (l - 1))))) (sym head)
              (subst (λ (m : List ℕ). Chain n (set (set next (n + l) (get_or next (owner t l) 0)) (owner t l) l) (get_or next g 0) m) (same g test) (kept g (get_or next g 0) (k g h)))

      pub linked_push : (o : ℕ) → o ≡ owner t l → Linked t n (l - 1) (set (set next (n + l) (get_or next o 0)) o l)
      linked_push o e = subst (λ (x : ℕ). Linked t n (l - 1) (set (set next (n + l) (get_or next x 0)) x l)) (sym e) linked_more

-- ---- walking a chain

take_one : (l : List ℕ) (m p : ℕ) → m < length l → take (m + 1) (set l m p) ≡ take m l ++ p ∷ []
take_one l m p h = rw add-one (take-suc-set l m p h)

-- the rest of the chain goes behind the m items, of which the front stood there before
pub record Walk (n : ℕ) (next front items : List ℕ) (from p m : ℕ) : Type 0 where
  pub rest : List ℕ
  pub parts : (l : List ℕ) → Chain n next from l → take m items ++ rest ≡ front ++ l
  pub chain : Chain n next p rest
  pub below : (x : ℕ) → x ∈ rest → x ≤ n
  pub fits : m + length rest ≤ length items

module _ (n : ℕ) (next items : List ℕ) (from : ℕ) where
  pub walk_start : (m : ℕ) → m ≤ length items → WalkableChain n next from (length items - m) → Walk n next (take m items) items from from m
  walk_start m h w = record {
    rest = w.labels;
    parts = λ l c. ap (λ (k : List ℕ). take m items ++ k) (chain_once n next from w.labels l w.chain c);
    chain = w.chain;
    below = w.below;
    fits = omega (arith, w.fits);
  }

  module _ (front : List ℕ) (p m : ℕ) (w : Walk n next front items from p m) where
    pub walk_label : (p ≡ 0 → ⊥) → (1 ≤ p) × (p ≤ n)
    walk_label z = go w.rest w.chain w.below
      where
        go : (rest : List ℕ) → Chain n next p rest → ((x : ℕ) → x ∈ rest → x ≤ n) → (1 ≤ p) × (p ≤ n)
        go [] c b = absurd (z c)
        go (x ∷ l) c b = (omega (arith, c.0, c.1), omega (arith, c.0, b x (in_here x l)))

    pub walk_step : (p ≡ 0 → ⊥) → Walk n next front (set items m p) from (get_or next (n + p) 0) (m + 1)
    walk_step z = go w.rest w.parts w.chain w.below w.fits
      where
        go : (rest : List ℕ) → ((l : List ℕ) → Chain n next from l → take m items ++ rest ≡ front ++ l) → Chain n next p rest → ((x : ℕ) → x ∈ rest → x ≤ n)
            → m + length rest ≤ length items
            → Walk n next front (set items m p) from (get_or next (n + p) 0) (m + 1)
        go [] e c b f = absurd (z c)
        go (x ∷ r) e c b f = record {
          rest = r;
          parts = λ l k. ap (λ (y : List ℕ). y ++ r) (take_one items m p (omega arith)) ∙ append_assoc (take m items) (p ∷ []) r
              ∙ ap (λ (y : ℕ). take m items ++ y ∷ r) c.0 ∙ e l k;
          chain = subst (λ (y : ℕ). Chain n next (get_or next (n + y) 0) r) (sym c.0) c.2;
          below = λ y i. b y (in_there y x r i);
          fits = omega (arith, length-set items m p);
        }

    pub walk_end : p ≡ 0 → (l : List ℕ) → Chain n next from l → Gathered (front ++ l) items m
    walk_end z l k = go w.rest (w.parts l k) w.chain w.fits
      where
        go : (rest : List ℕ) → take m items ++ rest ≡ front ++ l → Chain n next p rest → m + length rest ≤ length items → Gathered (front ++ l) items m
        go [] e c f = record { cells = sym (append-nil (take m items)) ∙ e; within = omega arith }
        go (x ∷ r) e c f = absurd (omega (arith, c.0, c.1))

-- ---- a chain put in order, from its end

-- the labels of L behind the rest are linked, and nothing else changed
pub record Relinking (n : ℕ) (next₀ L rest next : List ℕ) (head : ℕ) : Type 0 where
  pub done : List ℕ
  pub parts : L ≡ rest ++ done
  pub chain : Chain n next head done
  pub others : (y : ℕ) → ((x : ℕ) → x ∈ done → y ≡ n + x → ⊥) → get_or next y 0 ≡ get_or next₀ y 0

module _ (n : ℕ) (next₀ L : List ℕ) where
  module _ (rest next : List ℕ) (head : ℕ) (r : Relinking n next₀ L rest next head) where
    module _ (rest' : List ℕ) (x : ℕ) (is : rest ≡ push rest' x) where
      parts : L ≡ rest' ++ x ∷ r.done
      parts = r.parts ∙ ap (λ (l : List ℕ). l ++ r.done) is ∙ append_assoc rest' (x ∷ []) r.done

      pub relinking_item : x ∈ L
      relinking_item = omega (arith, ap (count x) parts, count_append x rest' (x ∷ r.done), count_here x r.done)

      pub relinking_turn : 1 ≤ x → n + x < length next → count x L ≤ 1 → Relinking n next₀ L rest' (set next (n + x) head) x
      relinking_turn one room once = record {
        done = x ∷ r.done;
        parts = parts;
        chain = (refl, one, subst (λ (q : ℕ). Chain n (set next (n + x) head) q r.done) (sym (get_or-set_same next (n + x) head 0 room)) kept);
        others = λ y f. get_or-set_other next (n + x) y head 0 (λ z. f x (in_here x r.done) z) ∙ r.others y (λ v m. f v (in_there v x r.done m));
      }
        where
          -- x stands once, so not after its place
          fresh : (v : ℕ) → v ∈ r.done → v ≡ x → ⊥
          fresh v m e =
              let again : x ∈ r.done = subst (λ (w : ℕ). w ∈ r.done) e m in
              omega (arith, ap (count x) parts, count_append x rest' (x ∷ r.done), count_here x r.done)

          kept : Chain n (set next (n + x) head) head r.done
          kept = chain_same n next (set next (n + x) head) head r.done (λ v m. get_or-set_other next (n + x) (n + v) head 0 (λ z. fresh v m (omega arith))) r.chain

    pub relinked : (g : ℕ) → length rest ≡ 0 → g ≤ n → g < length next → ((x : ℕ) → x ∈ L → 1 ≤ x) → Relinked n g L next₀ (set next g head)
    relinked g z low room some = record {
      chain = subst (λ (q : ℕ). Chain n (set next g head) q L) (sym (get_or-set_same next g head 0 room))
          (subst (Chain n (set next g head) head) (sym all) (chain_same n next (set next g head) head r.done (λ x m. get_or-set_other next g (n + x) head 0 (λ y. omega (arith, one x m))) r.chain));
      others = λ y d f. get_or-set_other next g y head 0 d ∙ r.others y (λ x m. f x (subst (λ (l : List ℕ). x ∈ l) (sym all) m));
    }
      where
        all : L ≡ r.done
        all = r.parts ∙ ap (λ (l : List ℕ). l ++ r.done) (none rest z)
          where
            none : (l : List ℕ) → length l ≡ 0 → l ≡ []
            none [] e = refl
            none (x ∷ l) e = absurd (omega arith)

        one : (x : ℕ) → x ∈ r.done → 1 ≤ x
        one x m = some x (subst (λ (l : List ℕ). x ∈ l) (sym all) m)
