-- Laws of the parts of a step: rows copied and compared, the lowest of some, and the leads of a block.
use mathlib.Core.Path.{◌≡◌, sym, ap, ◌∙◌}
use mathlib.Core.Logic.{◌⊎◌, inl, inr}
use mathlib.Core.List.{List, ◌∷◌}
use mathlib.Core.Bool.{true, false, ◌&&◌}
use Prim.Native.Nat.{ℕ, ◌+◌, ◌*◌, ◌/◌, ◌%◌, ◌≤◌, ◌<◌, min}
use native.Mathlib.Omega.{arith}
use native.Mathlib.Decide.{ℕ_discrete, dec_lt}
use lib.ListN.{length, get_or, set, take, drop}
use lib.Seq.{get_or-set_same, get_or-set_other, get_or-take}
use Rattle.std.proofs.lemmas.List.{get_or-drop, length-take}
use Rattle.order.specs.LabelLists.{one, count, ◌∈◌}
use Rattle.order.proofs.Lists.{count_there, in_here}
use Rattle.order.proofs.Tests.{and_left, and_right, one_in}
use Rattle.marks.specs.Marks.{bit, mark, Dropped}
use Rattle.marks.proofs.Squares.{inside, outside}
use Rattle.placing.proofs.Lists.{in_more}
use Rattle.blocks.specs.Search.{Kept, StandsFrom, Smallest, HasLeft}

-- an element of a part of a list
pub part_at : (l : List ℕ) (s k i : ℕ) → i < length (take k (drop s l)) → (get_or (take k (drop s l)) i 0 ≡ get_or l (s + i) 0) × (i < k)
part_at l s k i h =
    let within : i < k = omega (arith, length-take k (drop s l)) in
    (get_or-take k (drop s l) i 0 within ∙ get_or-drop s l i 0, within)

-- a row copied word by word
pub marks_copied : (s t : List ℕ) (w : ℕ) → ((i : ℕ) → i < w → get_or s i 0 ≡ get_or t i 0) → (q : ℕ) → mark s w 0 q ≡ mark t w 0 q
marks_copied s t w h q = go (dec_lt q (64 * w))
  where
    go : Dec (q < 64 * w) → mark s w 0 q ≡ mark t w 0 q
    go (no l) = outside s w 0 q (omega arith) ∙ sym (outside t w 0 q (omega arith))
    go (yes l) =
        let e : 0 * w + q / 64 ≡ q / 64 = omega arith in
        inside s w 0 q l ∙ ap (λ (x : ℕ). bit x (q % 64)) (ap (λ (i : ℕ). get_or s i 0) e ∙ h (q / 64) (omega arith) ∙ sym (ap (λ (i : ℕ). get_or t i 0) e))
        ∙ sym (inside t w 0 q l)

-- one item more leads itself
pub lead_turn : (items lead : List ℕ) (i p v : ℕ) → i < length items → p ≡ get_or items i 0 → v ≡ get_or items i 0 → p < length lead
    → ((x : ℕ) → x ∈ take i items → get_or lead x 0 ≡ x) → (x : ℕ) → x ∈ take (i + 1) items → get_or (set lead p v) x 0 ≡ x
lead_turn items lead i p v h e f l old x m = go (ℕ_discrete x p) (in_more x items i h m)
  where
    go : Dec (x ≡ p) → (x ∈ take i items) ⊎ (x ≡ get_or items i 0) → get_or (set lead p v) x 0 ≡ x
    go (yes y) _ = ap (λ (z : ℕ). get_or (set lead p v) z 0) y ∙ get_or-set_same lead p v 0 l ∙ omega arith
    go (no y) (inl k) = get_or-set_other lead p x v 0 y ∙ old x k
    go (no y) (inr k) = absurd (y (k ∙ sym e))

-- one item more is met
pub met_more : (items fresh fresh' : List ℕ) (w i q : ℕ) → i < length items → q ≡ get_or items i 0 → Kept fresh fresh' w → mark fresh' w 0 q ≡ false
    → ((x : ℕ) → x ∈ take i items → mark fresh w 0 x ≡ false) → (x : ℕ) → x ∈ take (i + 1) items → mark fresh' w 0 x ≡ false
met_more items fresh fresh' w i q h e kept gone old x m = go (in_more x items i h m)
  where
    go : (x ∈ take i items) ⊎ (x ≡ get_or items i 0) → mark fresh' w 0 x ≡ false
    go (inl k) = kept x (old x k)
    go (inr k) = ap (mark fresh' w 0) (k ∙ sym e) ∙ gone

-- ---- the lowest of some

-- r is the lower of two
abbrev pub LowerOf : ℕ → ℕ → ℕ → Type 0
LowerOf a b r = (r ≤ a) × (r ≤ b) × ((r ≡ a) ⊎ (r ≡ b))

pub smallest_turn : (stack : List ℕ) (s i least v r : ℕ) → s ≤ i → Smallest stack s i least → v ≡ get_or stack i 0 → LowerOf least v r
    → Smallest stack s (i + 1) r
smallest_turn stack s i least v r hs g e (a, b, c) = record { least_of = λ k l u. low k l (dec_lt k i) u; is = is c g.is }
  where
    low : (k : ℕ) → s ≤ k → Dec (k < i) → k < i + 1 → r ≤ get_or stack k 0
    low k l (yes u) _ = omega (arith, g.least_of k l u)
    low k l (no u) t =
        let z : k ≡ i = omega arith in
        let y : get_or stack k 0 ≡ get_or stack i 0 = ap (λ (j : ℕ). get_or stack j 0) z in
        omega arith

    is : (r ≡ least) ⊎ (r ≡ v) → StandsFrom stack s i least → StandsFrom stack s (i + 1) r
    is (inl d) (k, l, u, y) = (k, l, omega arith, y ∙ sym d)
    is (inr d) _ = (i, hs, omega arith, sym e ∙ sym d)

-- ---- a block leaves the stack

module _ (stack stacked₀ stacked lead₀ lead : List ℕ) (w s i least x : ℕ) (g : HasLeft stack stacked₀ stacked lead₀ lead w s i least) (hs : s ≤ i) (e : x ≡ get_or stack i 0)
    (once : (k : ℕ) → k < i → get_or stack k 0 ≡ get_or stack i 0 → ⊥) where
  -- it is still there
  pub still : (mark stacked w 0 x ≡ mark stacked₀ w 0 x)
  still = (g.others x (λ f. once f.0 f.2 (f.3 ∙ e))).0

  pub left_turn : (stacked' : List ℕ) → x < length lead → Dropped stacked stacked' w 0 x → HasLeft stack stacked₀ stacked' lead₀ (set lead x least) w s (i + 1) least
  left_turn stacked' hl d = record {
    gone = λ y f. gone y f (ℕ_discrete y x);
    led = λ y f. led y f (ℕ_discrete y x);
    others = λ y f. others y f (ℕ_discrete y x);
  }
    where
      -- another of them was there before
      earlier : (y : ℕ) → StandsFrom stack s (i + 1) y → (y ≡ x → ⊥) → StandsFrom stack s i y
      earlier y (k, l, u, z) n = (k, l, go (dec_lt k i), z)
        where
          go : Dec (k < i) → k < i
          go (yes t) = t
          go (no t) = let q : k ≡ i = omega arith in absurd (n (sym z ∙ ap (λ (j : ℕ). get_or stack j 0) q ∙ sym e))

      gone : (y : ℕ) → StandsFrom stack s (i + 1) y → Dec (y ≡ x) → mark stacked' w 0 y ≡ false
      gone y f (yes z) = ap (mark stacked' w 0) z ∙ d.gone
      gone y f (no z) = d.others 0 y (λ _ q. z q) ∙ g.gone y (earlier y f z)

      led : (y : ℕ) → StandsFrom stack s (i + 1) y → Dec (y ≡ x) → get_or (set lead x least) y 0 ≡ least
      led y f (yes z) = ap (λ (j : ℕ). get_or (set lead x least) j 0) z ∙ get_or-set_same lead x least 0 hl
      led y f (no z) = get_or-set_other lead x y least 0 z ∙ g.led y (earlier y f z)

      others : (y : ℕ) → (StandsFrom stack s (i + 1) y → ⊥) → Dec (y ≡ x) → (mark stacked' w 0 y ≡ mark stacked₀ w 0 y) × (get_or (set lead x least) y 0 ≡ get_or lead₀ y 0)
      others y f (yes z) = absurd (f (i, hs, omega arith, sym (z ∙ e)))
      others y f (no z) =
          let o = g.others y (λ (k, l, u, q). f (k, l, omega arith, q)) in
          (d.others 0 y (λ _ q. z q) ∙ o.0, get_or-set_other lead x y least 0 z ∙ o.1)

-- ---- those on the stack that need one

-- one of those more
pub meet_turn : (square stacked place l r : List ℕ) (w q n low x low' : ℕ) → l ≡ x ∷ r
    → ((y : ℕ) → count y l ≤ one (mark square w q y && mark stacked w 0 y))
    → ((y : ℕ) → mark square w q y ≡ true → mark stacked w 0 y ≡ true → count y l ≡ 0 → low ≤ get_or place y 0)
    → (low ≡ n) ⊎ ((y : ℕ) × (mark square w q y ≡ true) × (mark stacked w 0 y ≡ true) × (get_or place y 0 ≡ low))
    → LowerOf low (get_or place x 0) low'
    → ((y : ℕ) → mark square w q y ≡ true → mark stacked w 0 y ≡ true → count y r ≡ 0 → low' ≤ get_or place y 0)
    × ((low' ≡ n) ⊎ ((y : ℕ) × (mark square w q y ≡ true) × (mark stacked w 0 y ≡ true) × (get_or place y 0 ≡ low')))
meet_turn square stacked place l r w q n low x low' e among least is (a, b, c) = (λ y m k z. by y m k z (ℕ_discrete y x), at c is)
  where
    by : (y : ℕ) → mark square w q y ≡ true → mark stacked w 0 y ≡ true → count y r ≡ 0 → Dec (y ≡ x) → low' ≤ get_or place y 0
    by y m k z (yes d) = let p : get_or place y 0 ≡ get_or place x 0 = ap (λ (v : ℕ). get_or place v 0) d in omega arith
    by y m k z (no d) = omega (arith, least y m k (ap (count y) e ∙ omega (arith, count_there y x r d)))

    own : (mark square w q x && mark stacked w 0 x) ≡ true
    own = one_in (mark square w q x && mark stacked w 0 x) (omega (arith, among x, ap (count x) e, in_here x r))

    at : (low' ≡ low) ⊎ (low' ≡ get_or place x 0) → (low ≡ n) ⊎ ((y : ℕ) × (mark square w q y ≡ true) × (mark stacked w 0 y ≡ true) × (get_or place y 0 ≡ low))
        → (low' ≡ n) ⊎ ((y : ℕ) × (mark square w q y ≡ true) × (mark stacked w 0 y ≡ true) × (get_or place y 0 ≡ low'))
    at (inl d) (inl k) = inl (d ∙ k)
    at (inl d) (inr (y, m, k, z)) = inr (y, m, k, z ∙ sym d)
    at (inr d) _ = inr (x, and_left (mark square w q x) (mark stacked w 0 x) own, and_right (mark square w q x) (mark stacked w 0 x) own, sym d)

-- the lower of two
pub min_lower : (a b : ℕ) → LowerOf a b (min a b)
min_lower a b = (omega arith, omega arith, go (dec_lt a b))
  where
    go : Dec (a < b) → (min a b ≡ a) ⊎ (min a b ≡ b)
    go (yes h) = inl (omega arith)
    go (no h) = inr (omega arith)
