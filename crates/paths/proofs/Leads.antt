-- What a path leads to: one definition at most, and the one that the search finds; and rows 12 to 15 by it.
use mathlib.Core.Path.{◌≡◌, refl, ap, sym, ◌∙◌}
use mathlib.Core.Bool.{Bool, true, false, cond, not, ◌&&◌}
use mathlib.Core.List.{List, [], ◌∷◌}
use Prim.Native.Nat.{ℕ, zero, suc, ◌-◌, ◌≤◌, ◌<◌}
use native.Mathlib.Omega.{arith}
use lib.Dec.{eqb}
use lib.IntN.{ℤ}
use lib.ListN.{drop}
use Rattle.std.specs.Prelude.{Some, None}
use Rattle.refusals.specs.declared.Row.{Row}
use borrow.Author.Tests.{eq-eqb, ne_eqb, eqb-true, eqb-false, not-false}
use Rattle.kinds.specs.Kinds.{group_code, wanted_by}
use Rattle.cells.specs.Table.{kind, owner, is_definition, has_path}
use Rattle.refusals.specs.Rows.{duplicate_row, head_row, later_row, target_row}
use Rattle.refusals.specs.Refusal.{Fine, first_bad}
use Rattle.refusals.proofs.OrElse.{both_fine}
use Rattle.refusals.proofs.FirstBad.{first_none, none_first}
use Rattle.text.specs.Pieces.{first_of}
use Rattle.text.proofs.Bytes.{true_false}
use Rattle.paths.specs.Names.{name_of, first_label, is_named, member}
use Rattle.cells.specs.Lists.{or_if_zero}
use Rattle.paths.specs.Paths.{settled, head_from, descended, names_of, head_of, target_of, duplicate_bad, path_head_bad, later_bad, target_bad, later_rows, head_rows, paths_bad}
use Rattle.paths.specs.Leads.{IsMember, Heads, here, outward, Descends, ended, inward, HeadSettles, Leads, NamesApart, PathsKept}
use Rattle.paths.proofs.FirstLabel.{Passing, first_found, none_passes}
use Rattle.paths.proofs.LastBelow.{one_only}
use Rattle.paths.proofs.Members.{member_named, named_parts, two_named}
use Rattle.paths.proofs.Resolving.{above_zero, owner_small, settled_at, down_none, down_stop, down_on}

-- ---- a row's check of one label

quiet : (h b : Bool) (r : Row) → cond (h && b) (Some r) None ≡ None → h ≡ true → b ≡ false
quiet true true r e q = absurd cc
quiet true false r e q = refl
quiet false b r e q = absurd (true_false (sym q))

keeps_quiet : (h b : Bool) (r : Row) → (h ≡ true → b ≡ false) → cond (h && b) (Some r) None ≡ None
keeps_quiet true b r f = rw (f refl)
keeps_quiet false b r f = refl

above : (m : ℕ) → 1 ≤ m → eqb m 0 ≡ false
above m h = ne_eqb m 0 (λ z. omega arith)

module _ (s : List ℕ) (t : List ℤ) (n : ℕ) where
  -- ---- the member that the search finds, and the members

  module _ (g : ℕ) (w : List ℕ) where
    member_found : 1 ≤ g → (m : ℕ) → member s t n g w ≡ m → (m ≡ 0 → ⊥) → IsMember s t n g w m
    unfolding member
    member_found h m e z =
        let f : Passing (is_named s t g w) 1 n m = first_found (is_named s t g w) n 1 m e z in
        let p = named_parts s t g w m f.passes in
        record { group = h; low = f.low; high = omega (arith, f.high); definition = p.definition; owned = p.owned; named = p.named }

    is_named_lem : {m : ℕ} → IsMember s t n g w m → is_named s t g w m ≡ true
    is_named_lem {m} p = member_named s t g w m p.definition p.owned ∙ p.named

    member_none : member s t n g w ≡ 0 → (m : ℕ) → IsMember s t n g w m → ⊥
    unfolding member
    member_none e m p =
        none_passes (is_named s t g w) n 1 m (omega arith) e p.low (omega (arith, p.high)) (is_named_lem p)

    none_member : 1 ≤ g → ((m : ℕ) → IsMember s t n g w m → ⊥) → member s t n g w ≡ 0
    none_member h f = go (member s t n g w) refl
      where
        go : (m : ℕ) → member s t n g w ≡ m → m ≡ 0
        go zero e = refl
        go (suc m) e = absurd (f (suc m) (member_found h (suc m) e (λ z. omega arith)))

    module _ (apart : NamesApart s t n) where
      -- two members of a Group with one name are one
      pub member_only : {m x : ℕ} → IsMember s t n g w m → IsMember s t n g w x → m ≡ x
      member_only {m} {x} p q =
          one_only (is_named s t g w) n (two_named s t n apart g w) m x p.low p.high (is_named_lem p) q.low q.high (is_named_lem q)

      member_is : {m : ℕ} → IsMember s t n g w m → member s t n g w ≡ m
      member_is {m} p = member_only (member_found p.group (member s t n g w) refl (λ z. member_none z m p)) p

  -- ---- row 12

  -- a label is a definition with the Group and the name of k
  abbrev namesake : ℕ → ℕ → Bool
  namesake k = is_named s t (owner t k) (name_of s t k)

  pub fine_apart : first_bad (duplicate_bad s t) 1 n ≡ Fine → NamesApart s t n
  unfolding duplicate_bad
  fine_apart e l k low less high d f o q =
      let x = first_label (namesake k) 1 (k - 1) in
      let check = first_none (duplicate_bad s t) n 1 e k (omega arith) (omega arith) in
      let z : x ≡ 0 = eqb-true x 0 (not-false (eqb x 0) (quiet (is_definition t k) (not (eqb x 0)) duplicate_row check f)) in
      none_passes (namesake k) (k - 1) 1 l (omega arith) z low (omega arith) (member_named s t (owner t k) (name_of s t k) l d o ∙ q)

  pub apart_fine : NamesApart s t n → first_bad (duplicate_bad s t) 1 n ≡ Fine
  unfolding duplicate_bad
  apart_fine apart = none_first (duplicate_bad s t) n 1 (λ k low high. quiet_at k low (omega arith))
    where
      none : (k : ℕ) → 1 ≤ k → k ≤ n → is_definition t k ≡ true → eqb (first_label (namesake k) 1 (k - 1)) 0 ≡ true
      none k low high d = go (first_label (namesake k) 1 (k - 1)) refl
        where
          go : (x : ℕ) → first_label (namesake k) 1 (k - 1) ≡ x → eqb x 0 ≡ true
          go zero e = refl
          go (suc x) e =
              let f : Passing (namesake k) 1 (k - 1) (suc x) = first_found (namesake k) (k - 1) 1 (suc x) e (λ z. omega arith) in
              let p = named_parts s t (owner t k) (name_of s t k) (suc x) f.passes in
              absurd (apart (suc x) k f.low (omega (arith, f.high)) high p.definition d p.owned p.named)

      quiet_at : (k : ℕ) → 1 ≤ k → k ≤ n → duplicate_bad s t k ≡ None
      quiet_at k low high =
          keeps_quiet (is_definition t k) (not (eqb (first_label (namesake k) 1 (k - 1)) 0)) duplicate_row (λ d. ap not (none k low high d))

  -- ---- the head

  module _ (w : List ℕ) where
    head_go : (k g h : ℕ) → 1 ≤ g → (settled s t n w k (owner t g) ≡ h → Heads s t n w (owner t g) h)
        → (x : ℕ) → member s t n g w ≡ x → or_if_zero x (settled s t n w k (owner t g)) ≡ h → (h ≡ 0 → ⊥) → Heads s t n w g h
    head_go k g h low rest zero q e f = outward low (member_none g w q) (rest e)
    head_go k g h low rest (suc x) q e f = here (member_found g w low h (q ∙ e) f)

    settled_heads : (k g h : ℕ) → settled s t n w k g ≡ h → (h ≡ 0 → ⊥) → Heads s t n w g h
    settled_heads zero g h e f = absurd (f (sym e))
    settled_heads (suc k) zero h e f = absurd (f (sym e))
    settled_heads (suc k) (suc g) h e f =
        head_go k (suc g) h (omega arith) (λ q. settled_heads k (owner t (suc g)) h q f) (member s t n (suc g) w) refl (sym (settled_at s t n w k (suc g) (omega arith)) ∙ e) f

    heads_low : {g h : ℕ} → Heads s t n w g h → 1 ≤ h
    heads_low (here p) = p.low
    heads_low (outward low none r) = heads_low r

    module _ (apart : NamesApart s t n) where
      heads_one : {g h x : ℕ} → Heads s t n w g h → Heads s t n w g x → h ≡ x
      heads_one {g} (here p) (here q) = member_only g w apart p q
      heads_one {g} {h} (here p) (outward low none r) = absurd (none h p)
      heads_one {g} {h} {x} (outward low none r) (here q) = absurd (none x q)
      heads_one (outward low none r) (outward low' none' r') = heads_one r r'

      or_own : (h b : ℕ) → 1 ≤ h → or_if_zero h b ≡ h
      or_own zero b e = absurd (omega arith)
      or_own (suc h) b e = refl

      module _ (falls : (l : ℕ) → 1 ≤ l → l ≤ n → owner t l < l) where
        heads_settled : {g h : ℕ} → Heads s t n w g h → (k : ℕ) → g ≤ k → g ≤ n → settled s t n w k g ≡ h
        heads_settled {g} (here p) zero e l = absurd (omega (arith, p.group))
        heads_settled {g} {h} (here p) (suc k) e l =
            settled_at s t n w k g p.group ∙ rw (member_is g w apart p) (or_own h (settled s t n w k (owner t g)) p.low)
        heads_settled {g} (outward low none r) zero e l = absurd (omega arith)
        heads_settled {g} (outward low none r) (suc k) e l =
            settled_at s t n w k g low ∙ rw (none_member g w low none) (heads_settled r k (omega (arith, falls g low l)) (omega (arith, falls g low l)))

  -- ---- the later names

  down_go : (m e : ℕ) (w : List ℕ) (ws : List (List ℕ)) → descended s t n m (w ∷ ws) ≡ e → (e ≡ 0 → ⊥)
      → (descended s t n (member s t n m w) ws ≡ e → Descends s t n (member s t n m w) ws e)
      → (b : Bool) → eqb (kind t m) group_code ≡ b → Descends s t n m (w ∷ ws) e
  down_go m e w ws q f rest true k =
      let g : kind t m ≡ group_code = eqb-true (kind t m) group_code k in
      let r : descended s t n (member s t n m w) ws ≡ e = sym (down_on s t n m w ws g) ∙ q in
      let some : member s t n m w ≡ 0 → ⊥ = λ z. f (sym r ∙ ap (λ (x : ℕ). descended s t n x ws) z ∙ down_none s t n ws) in
      inward g (member_found m w (above_zero t m g) (member s t n m w) refl some) (rest r)
  down_go m e w ws q f rest false k = absurd (f (sym q ∙ down_stop s t n m w ws (eqb-false (kind t m) group_code k)))

  descended_ends : (ws : List (List ℕ)) (m e : ℕ) → descended s t n m ws ≡ e → (e ≡ 0 → ⊥) → Descends s t n m ws e
  descended_ends [] m e q f = rw (← q) ended
  descended_ends (w ∷ ws) m e q f = down_go m e w ws q f (λ r. descended_ends ws (member s t n m w) e r f) (eqb (kind t m) group_code) refl

  ends_low : {m e : ℕ} {ws : List (List ℕ)} → 1 ≤ m → Descends s t n m ws e → 1 ≤ e
  ends_low h ended = h
  ends_low h (inward k p r) = ends_low p.low r

  module _ (apart : NamesApart s t n) where
    ends_descended : {m e : ℕ} {ws : List (List ℕ)} → Descends s t n m ws e → descended s t n m ws ≡ e
    ends_descended ended = refl
    ends_descended {m} {e} (inward {x = x} {w = w} {ws = ws} k p r) =
        down_on s t n m w ws k ∙ ap (λ (y : ℕ). descended s t n y ws) (member_is m w apart p) ∙ ends_descended r

  -- ---- the path

  -- a path leads to no label 0
  pub leads_low : {x m : ℕ} → Leads s t n x m → 1 ≤ m
  leads_low {x} p = ends_low (heads_low (first_of (names_of s t x)) p.settles) p.ends

  -- where the search ends, the path leads
  pub head_heads : (x h : ℕ) → head_of s t n x ≡ h → (h ≡ 0 → ⊥) → HeadSettles s t n x h
  unfolding head_of head_from
  head_heads x h e f = settled_heads (first_of (names_of s t x)) (owner t (owner t x)) (owner t (owner t x)) h e f

  pub target_leads : (x m : ℕ) → target_of s t n x ≡ m → (m ≡ 0 → ⊥) → Leads s t n x m
  unfolding target_of
  target_leads x m e f =
      let later = drop 1 (names_of s t x) in
      let some : head_of s t n x ≡ 0 → ⊥ = λ z. f (sym e ∙ ap (λ (h : ℕ). descended s t n h later) z ∙ down_none s t n later) in
      record { head = head_of s t n x; settles = head_heads x (head_of s t n x) refl some; ends = descended_ends later (head_of s t n x) m e f }

  module _ (apart : NamesApart s t n) where
    -- a path leads to one definition at most
    pub leads_unique : (x m m' : ℕ) → Leads s t n x m → Leads s t n x m' → m ≡ m'
    leads_unique x m m' p q =
        let e : p.head ≡ q.head = heads_one (first_of (names_of s t x)) apart p.settles q.settles in
        sym (ends_descended apart p.ends) ∙ ap (λ (h : ℕ). descended s t n h (drop 1 (names_of s t x))) e ∙ ends_descended apart q.ends

    module _ (falls : (l : ℕ) → 1 ≤ l → l ≤ n → owner t l < l) where
      -- where the path leads, the search ends
      pub heads_head : (x h : ℕ) → x ≤ n → HeadSettles s t n x h → head_of s t n x ≡ h
      unfolding head_of head_from
      heads_head x h k p =
          heads_settled (first_of (names_of s t x)) apart falls p (owner t (owner t x)) (omega arith) (owner_small t n falls (owner t x) (owner_small t n falls x k))

      pub leads_target : (x m : ℕ) → x ≤ n → Leads s t n x m → target_of s t n x ≡ m
      unfolding target_of
      leads_target x m k p = ap (λ (h : ℕ). descended s t n h (drop 1 (names_of s t x))) (heads_head x p.head k p.settles) ∙ ends_descended apart p.ends

      head_some : (x h : ℕ) → x ≤ n → HeadSettles s t n x h → eqb (head_of s t n x) 0 ≡ false
      head_some x h k p = rw (heads_head x h k p) (above h (heads_low (first_of (names_of s t x)) p))

  -- ---- rows 12 to 15

  pub paths_kept : paths_bad s t n ≡ Fine → PathsKept s t n
  unfolding paths_bad later_bad target_bad
  paths_kept e =
      let a = both_fine (first_bad (duplicate_bad s t) 1 n) (head_rows s t n) e in
      let b = both_fine (first_bad (path_head_bad s t n) 1 n) (later_rows s t n) a.1 in
      let c = both_fine (first_bad (later_bad s t n) 1 n) (first_bad (target_bad s t n) 1 n) b.1 in
      record {
        apart = fine_apart a.0;
        targets = λ x low high p. (
          target_of s t n x,
          ends x p (first_none (later_bad s t n) n 1 c.0 x low (omega arith)),
          fits x p (first_none (target_bad s t n) n 1 c.1 x low (omega arith)),
        );
      }
    where
      ends : (x : ℕ) → has_path t x ≡ true → later_bad s t n x ≡ None → Leads s t n x (target_of s t n x)
      ends x p q = target_leads x (target_of s t n x) refl (eqb-false (target_of s t n x) 0 (quiet (has_path t x) (eqb (target_of s t n x) 0) later_row q p))

      fits : (x : ℕ) → has_path t x ≡ true → target_bad s t n x ≡ None → kind t (target_of s t n x) ≡ wanted_by (kind t x)
      fits x p q =
          let r = eqb (kind t (target_of s t n x)) (wanted_by (kind t x)) in
          eqb-true (kind t (target_of s t n x)) (wanted_by (kind t x)) (not-false r (quiet (has_path t x) (not r) target_row q p))

  module _ (falls : (l : ℕ) → 1 ≤ l → l ≤ n → owner t l < l) where
    module _ (k : PathsKept s t n) (x : ℕ) (low : 1 ≤ x) (high : x ≤ n) where
      led : has_path t x ≡ true → (m : ℕ) × Leads s t n x m × (target_of s t n x ≡ m) × (kind t m ≡ wanted_by (kind t x))
      led p = let r = k.targets x low high p in (r.0, r.1, leads_target k.apart falls x r.0 high r.1, r.2)

      head_kept : path_head_bad s t n x ≡ None
      unfolding path_head_bad
      head_kept = keeps_quiet (has_path t x) (eqb (head_of s t n x) 0) head_row (λ p. let l = (led p).1 in head_some k.apart falls x l.head high l.settles)

      later_kept : later_bad s t n x ≡ None
      unfolding later_bad
      later_kept = keeps_quiet (has_path t x) (eqb (target_of s t n x) 0) later_row (λ p. let r = led p in rw r.2 (above r.0 (leads_low r.1)))

      target_kept : target_bad s t n x ≡ None
      unfolding target_bad
      target_kept =
          keeps_quiet (has_path t x) (not (eqb (kind t (target_of s t n x)) (wanted_by (kind t x)))) target_row
          (λ p. let r = led p in ap not (eq-eqb (kind t (target_of s t n x)) (wanted_by (kind t x)) (ap (kind t) r.2 ∙ r.3)))

    pub kept_paths : PathsKept s t n → paths_bad s t n ≡ Fine
    unfolding paths_bad
    kept_paths k =
        let row13 = none_first (path_head_bad s t n) n 1 (λ x low high. head_kept k x low (omega arith)) in
        let row14 = none_first (later_bad s t n) n 1 (λ x low high. later_kept k x low (omega arith)) in
        rw (apart_fine k.apart, row13, row14)
        (none_first (target_bad s t n) n 1 (λ x low high. target_kept k x low (omega arith)))
