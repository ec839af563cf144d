-- The chain of a bucket: how a definition is linked, and what a walk along it finds. It meets members of one Group alone.
use mathlib.Core.Path.{◌≡◌, refl, ap, sym, ◌∙◌}
use mathlib.Core.Bool.{Bool, true, false, cond}
use mathlib.Core.List.{List}
use mathlib.Core.Logic.{⊎_elim}
use Prim.Native.Nat.{ℕ, zero, suc, ◌+◌, ◌-◌, ◌*◌, ◌≤◌, ◌<◌}
use native.Mathlib.Nat.{eq-or-lt_of_le, mul-le-mul_right, mul-lt-mul_of_pos_right}
use native.Mathlib.Numerals.{add-one}
use native.Mathlib.Omega.{arith}
use lib.Dec.{eqb, ltb}
use lib.IntN.{ℤ}
use lib.ListN.{length, get_or, set, length-set}
use lib.Seq.{slice, get_or-set_same, get_or-set_other}
use borrow.Author.Tests.{eq-eqb, eqb-true, eqb-false, ltb-true, ltb-false}
use Rattle.cells.specs.Limits.{label_limit}
use Rattle.cells.specs.Table.{name_start, name_length, owner, is_definition}
use Rattle.text.proofs.Bytes.{true_false, and_left, and_right}
use Rattle.std.specs.Prelude.{Some, None}
use Rattle.paths.specs.Names.{name_of, same_name, is_named, member}
use Rattle.paths.specs.Buckets.{some_label}
use Rattle.paths.specs.Buckets.{Searchable, hashes, hash_of, start_of, Stretch, Allotted, bucket_of, bucket_at, in_bucket, last_below}
use Rattle.paths.specs.Buckets.{LinkedBelow, AllLinked, Fresh, first_in, Walkable, walk_by, walk, linked_member}
use Rattle.paths.proofs.SomeLabel.{some_is}
use Rattle.paths.proofs.SameName.{same_hash}
use Rattle.paths.proofs.Hashes.{hash_small}
use Rattle.paths.proofs.LastBelow.{last_hit, last_miss, last_one, last_small, last_passes, none_last, last_skip}
use Rattle.paths.proofs.Members.{named_parts, member_named, member_last}

-- ---- buckets

-- a bucket lies in its Group's stretch
pub bucket_high : (starts : List ℕ) (g hash : ℕ) → hash < hashes → start_of starts g < start_of starts (g + 1) → bucket_of starts g hash < start_of starts (g + 1)
bucket_high starts g hash small some =
    omega (arith, mul-lt-mul_of_pos_right {m = hash} {n = hashes} {k = start_of starts (g + 1) - start_of starts g} small (omega arith))

-- the product that says so fits
pub bucket_fits : {starts : List ℕ} {g hash : ℕ} → Stretch starts g → hash < hashes → hash * (start_of starts (g + 1) - start_of starts g) ≤ 4096 * hashes
bucket_fits {starts} {g} {hash} h small =
    omega (arith, h.order, h.few, mul-le-mul_right {m = hash} {n = hashes} (start_of starts (g + 1) - start_of starts g) (omega arith))

module _ {t : List ℤ} {n : ℕ} {starts : List ℕ} (a : Allotted t n starts) where
  pub stretch : (g : ℕ) → g ≤ n → n ≤ label_limit → Stretch starts g
  stretch g h few = record {
    long = omega (arith, a.long);
    order = a.rising g (g + 1) (omega arith) (omega arith);
    few = omega (arith, a.rising (g + 1) (n + 1) (omega arith) (omega arith), a.few);
  }

  -- and in no other's
  one_group : (g h b : ℕ) → g ≤ n → h ≤ n → start_of starts g ≤ b → b < start_of starts (g + 1) → start_of starts h ≤ b → b < start_of starts (h + 1) → g ≡ h
  one_group g h b p q u v x y = go (ltb g h) (ltb h g) refl refl
    where
      go : (k l : Bool) → ltb g h ≡ k → ltb h g ≡ l → g ≡ h
      go true l e f = let m = ltb-true g h e in absurd (omega (arith, a.rising (g + 1) h (omega arith) (omega arith)))
      go false true e f = let m = ltb-true h g f in absurd (omega (arith, a.rising (h + 1) g (omega arith) (omega arith)))
      go false false e f = omega (arith, ltb-false g h e, ltb-false h g f)

module _ {s : List ℕ} {t : List ℤ} {n : ℕ} {starts : List ℕ} (rows : Searchable s t n) (a : Allotted t n starts) where
  -- the bucket of a definition
  bucket_at_high : (l : ℕ) → 1 ≤ l → l ≤ n → is_definition t l ≡ true → bucket_at s t starts l < start_of starts (owner t l + 1)
  bucket_at_high l h g d =
      bucket_high starts (owner t l) (hash_of (name_of s t l)) (hash_small (name_of s t l)) (a.some l h g d)

  -- a definition in a bucket of Group g is a member of it
  owner_is : (g b l : ℕ) → g ≤ n → start_of starts g ≤ b → b < start_of starts (g + 1) → 1 ≤ l → l ≤ n → in_bucket s t starts b l ≡ true → owner t l ≡ g
  owner_is g b l k u v low high e =
      let d : is_definition t l ≡ true = and_left (is_definition t l) (eqb (bucket_at s t starts l) b) e in
      let q : bucket_at s t starts l ≡ b = eqb-true (bucket_at s t starts l) b (and_right (is_definition t l) (eqb (bucket_at s t starts l) b) e) in
      let f = rows.falls l low high in
      let m = bucket_at_high l low high d in
      one_group a (owner t l) g b (omega arith) k (omega arith) (omega arith) u v

-- a member with the name w is in the bucket of w
named_bucket : (s : List ℕ) (t : List ℤ) (starts : List ℕ) (g : ℕ) (w : List ℕ) (x : ℕ) → is_named s t g w x ≡ true
    → in_bucket s t starts (bucket_of starts g (hash_of w)) x ≡ true
named_bucket s t starts g w x e =
    let p = named_parts s t g w x e in
    rw (p.definition, p.owned, same_hash (name_of s t x) w p.named) (eq-eqb (bucket_of starts g (hash_of w)) (bucket_of starts g (hash_of w)) refl)

-- ---- linking

pub link_fresh : (s : List ℕ) (t : List ℤ) {n : ℕ} {old starts links : List ℕ} → Allotted t n starts → Fresh n old links → LinkedBelow s t n 1 starts links
link_fresh s t {starts = starts} a f = record {
  allotted = a;
  room = f.room;
  most = omega arith;
  heads = λ b g. (f.clear b).1 ∙ sym (last_one (in_bucket s t starts b));
  nexts = λ l h g d. absurd (omega arith);
  falls = λ l h g. omega (arith, (f.clear l).1);
}

module _ {s : List ℕ} {t : List ℤ} {n k : ℕ} {starts links : List ℕ} (rows : Searchable s t n) (h : LinkedBelow s t n k starts links) (low : 1 ≤ k) (high : k ≤ n) where
  -- a label that is not in the bucket changes nothing for it
  past : (b : ℕ) → in_bucket s t starts b k ≡ false → last_below (in_bucket s t starts b) k ≡ last_below (in_bucket s t starts b) (k + 1)
  past b e = rw (add-one k) (sym (last_miss (in_bucket s t starts b) k e))

  pub link_other : is_definition t k ≡ false → LinkedBelow s t n (k + 1) starts links
  link_other e = record {
    allotted = h.allotted;
    room = h.room;
    most = omega arith;
    heads = λ b g. h.heads b g ∙ past b (rw e);
    nexts = λ l u v d. ⊎_elim (λ (q : l ≡ k). absurd (true_false (sym d ∙ ap (is_definition t) q ∙ e))) (λ q. h.nexts l u q d) (eq-or-lt_of_le {n = l} {m = k} (omega arith));
    falls = h.falls;
  }

  abbrev own : ℕ
  own = bucket_at s t starts k

  -- its bucket stands behind the labels
  pub own_low : n < own
  own_low = let f = rows.falls k low high in omega (arith, h.allotted.base, h.allotted.rising 0 (owner t k) (omega arith) (omega arith))

  module _ (e : is_definition t k ≡ true) where
    pub own_inside : own < length links
    own_inside =
        let f = rows.falls k low high in
        let rises = h.allotted.rising (owner t k + 1) (n + 1) (omega arith) (omega arith) in
        omega (arith, bucket_at_high rows h.allotted k low high e, h.allotted.few, h.room)

    abbrev stored : List ℕ
    stored = set links k (get_or links own 0)

    stored_long : length stored ≡ length links
    stored_long = length-set links k (get_or links own 0)

    -- what stands behind a label, and behind a bucket
    at_label : (l : ℕ) → l ≤ n → get_or (set stored own k) l 0 ≡ get_or stored l 0
    at_label l g = get_or-set_other stored own l k 0 (λ q. omega (arith, own_low))

    head : (b : ℕ) → n < b → (x : Bool) → eqb own b ≡ x → get_or (set stored own k) b 0 ≡ last_below (in_bucket s t starts b) (k + 1)
    head b g true f =
        let q : own ≡ b = eqb-true own b f in
        let room : own < length stored = omega (arith, stored_long, own_inside) in
        rw (← q, add-one k) (get_or-set_same stored own k 0 room ∙ sym (last_hit (in_bucket s t starts own) k (rw (e, eq-eqb own own refl))))
    head b g false f =
        get_or-set_other stored own b k 0 (λ q. eqb-false own b f (sym q))
        ∙ get_or-set_other links k b (get_or links own 0) 0 (λ q. omega arith)
        ∙ h.heads b g
        ∙ past b (rw (e, f))

    new : get_or stored k 0 ≡ last_below (in_bucket s t starts own) k
    new = get_or-set_same links k (get_or links own 0) 0 (omega (arith, h.room)) ∙ h.heads own own_low

    at_new : (l : ℕ) → l ≡ k → get_or stored l 0 ≡ last_below (in_bucket s t starts (bucket_at s t starts l)) l
    at_new l q = rw q new

    fall : (l : ℕ) → 1 ≤ l → l ≤ n → (x : Bool) → eqb l k ≡ x → get_or stored l 0 < l
    fall l u g true f = rw (eqb-true l k f) (omega (arith, new, last_small (in_bucket s t starts own) k low))
    fall l u g false f = rw (get_or-set_other links k l (get_or links own 0) 0 (eqb-false l k f)) (h.falls l u g)

    pub link_own : LinkedBelow s t n (k + 1) starts (set stored own k)
    link_own = record {
      allotted = h.allotted;
      room = omega (arith, h.room, stored_long, length-set stored own k);
      most = omega arith;
      heads = λ b g. head b g (eqb own b) refl;
      nexts = λ l u v d.
          at_label l (omega arith)
          ∙ ⊎_elim (at_new l) (λ q. get_or-set_other links k l (get_or links own 0) 0 (λ z. omega arith) ∙ h.nexts l u q d) (eq-or-lt_of_le {n = l} {m = k} (omega arith));
      falls = λ l u g. rw (at_label l g) (fall l u g (eqb l k) refl);
    }

-- ---- walking from a label below the bound, where chains fall

module _ (s : List ℕ) (t : List ℤ) (links w : List ℕ) (bound : ℕ) (falls : (l : ℕ) → 1 ≤ l → l < bound → get_or links l 0 < l) where
  enough : (f j x : ℕ) → x < bound → x ≤ f → x ≤ j → walk_by s t links w f x ≡ walk_by s t links w j x
  enough zero zero zero m u v = refl
  enough zero (suc j) zero m u v = refl
  enough (suc f) zero zero m u v = refl
  enough (suc f) (suc j) zero m u v = refl
  enough zero j (suc x) m u v = absurd (omega arith)
  enough (suc f) zero (suc x) m u v = absurd (omega arith)
  enough (suc f) (suc j) (suc x) m u v =
      let l = falls (suc x) (omega arith) m in
      rw (enough f j (get_or links (suc x) 0) (omega arith) (omega arith) (omega arith))

  walk_hit : (x : ℕ) → (x ≡ 0 → ⊥) → same_name (name_of s t x) w ≡ true → walk s t links w x ≡ x
  walk_hit zero z e = absurd (z refl)
  walk_hit (suc x) z e = rw e

  walk_turn : (x : ℕ) → x < bound → (x ≡ 0 → ⊥) → same_name (name_of s t x) w ≡ false → walk s t links w x ≡ walk s t links w (get_or links x 0)
  walk_turn zero m z e = absurd (z refl)
  walk_turn (suc x) m z e =
      let l = falls (suc x) (omega arith) m in
      rw e (enough x (get_or links (suc x) 0) (get_or links (suc x) 0) (omega arith) (omega arith) (omega arith))

-- the loop along a chain: what is left of it gives the answer
pub record Walking (s : List ℕ) (t : List ℤ) (links w : List ℕ) (bound answer x : ℕ) : Type 0 where
  pub inside : x < bound
  pub room : bound ≤ length links
  pub falls : (l : ℕ) → 1 ≤ l → l < bound → get_or links l 0 < l
  pub rest : walk s t links w x ≡ answer

module _ {s : List ℕ} {t : List ℤ} {links w : List ℕ} {bound answer x : ℕ} (h : Walking s t links w bound answer x) where
  pub walking_none : x ≡ 0 → None ≡ some_label answer
  walking_none e = ap some_label (rw e at h).rest

  module _ (some : x ≡ 0 → ⊥) where
    pub walking_less : get_or links x 0 < x
    walking_less = h.falls x (omega (arith, some)) h.inside

    pub walking_some : same_name (name_of s t x) w ≡ true → Some x ≡ some_label answer
    walking_some e = some_is x some ∙ ap some_label (sym (walk_hit s t links w bound h.falls x some e) ∙ h.rest)

    pub walking_turn : same_name (name_of s t x) w ≡ false → Walking s t links w bound answer (get_or links x 0)
    walking_turn e = record {
      inside = omega (arith, walking_less, h.inside);
      room = h.room;
      falls = h.falls;
      rest = sym (walk_turn s t links w bound h.falls x h.inside some e) ∙ h.rest;
    }

-- it begins at the first of the name's bucket
first_go : (b : Bool) (v m : ℕ) → v < m → cond b 0 v < m
first_go true v m l = omega arith
first_go false v m l = l

pub walking_start : (s : List ℕ) (t : List ℤ) (w : List ℕ) {starts links : List ℕ} {g x : ℕ} (hash : ℕ) → Walkable t starts links g → x ≡ first_in starts links g hash
    → Walking s t links w (start_of starts 0) (linked_member s t starts links g hash w) x
walking_start s t w {starts} {links} {g} {x} hash h e =
    let some = h.heads (bucket_of starts g hash) (omega (arith, h.base)) in
    record {
      inside = rw e (first_go (eqb (start_of starts g) (start_of starts (g + 1))) (get_or links (bucket_of starts g hash) 0) (start_of starts 0) some);
      room = omega (arith, h.base, h.stretch.order, h.room);
      falls = h.falls;
      rest = ap (walk s t links w) e;
    }

-- ---- what a lookup in Group g finds: the last member with the name, of the labels that are linked

module _ {s : List ℕ} {t : List ℤ} {n k : ℕ} {starts links : List ℕ} (rows : Searchable s t n) (h : LinkedBelow s t n k starts links) (low : 1 ≤ k) (g : ℕ) (in_table : g ≤ n) where
  pub walkable : Walkable t starts links g
  walkable =
      let a = h.allotted in
      let base = a.base in
      record {
        stretch = stretch a g in_table rows.few;
        base = a.rising 0 g (omega arith) (omega arith);
        room = omega (arith, a.rising (g + 1) (n + 1) (omega arith) (omega arith), a.few, h.room);
        heads = λ b u. rw (h.heads b (omega arith)) (omega (arith, last_small (in_bucket s t starts b) k low, h.most));
        falls = λ l u v. h.falls l u (omega arith);
        rows = λ l v. omega (arith, rows.room);
      }

  module _ (w : List ℕ) where
    abbrev named : ℕ → Bool
    named = is_named s t g w

    abbrev bucket : ℕ
    bucket = bucket_of starts g (hash_of w)

    abbrev chained : ℕ → Bool
    chained = in_bucket s t starts bucket

    module _ (some : start_of starts g < start_of starts (g + 1)) where
      -- a label of the chain is a member of Group g, so that the name decides
      meets : (x : ℕ) → 1 ≤ x → x < k → chained x ≡ true → named x ≡ same_name (name_of s t x) w
      meets x u v c =
          let inside = bucket_high starts g (hash_of w) (hash_small w) some in
          let owned = owner_is rows h.allotted g bucket x in_table (omega arith) inside u (omega (arith, h.most)) c in
          member_named s t g w x (and_left (is_definition t x) (eqb (bucket_at s t starts x) bucket) c) owned

      -- the next of the chain
      follows : (x : ℕ) → 1 ≤ x → x < k → chained x ≡ true → get_or links x 0 ≡ last_below chained x
      follows x u v c =
          let q : bucket_at s t starts x ≡ bucket = eqb-true (bucket_at s t starts x) bucket (and_right (is_definition t x) (eqb (bucket_at s t starts x) bucket) c) in
          h.nexts x u v (and_left (is_definition t x) (eqb (bucket_at s t starts x) bucket) c) ∙ ap (λ (b : ℕ). last_below (in_bucket s t starts b) x) q

      along_go : (f x : ℕ) → 1 ≤ x → x < k → chained x ≡ true → walk_by s t links w f (get_or links x 0) ≡ last_below named (suc (get_or links x 0))
          → (b : Bool) → same_name (name_of s t x) w ≡ b → cond b x (walk_by s t links w f (get_or links x 0)) ≡ last_below named (suc x)
      along_go f x u v c rest true e = sym (last_hit named x (meets x u v c ∙ e))
      along_go f x u v c rest false e =
          rest
          ∙ ap (λ (y : ℕ). last_below named (suc y)) (follows x u v c)
          ∙ sym (last_skip named chained (named_bucket s t starts g w) x)
          ∙ sym (last_miss named x (meets x u v c ∙ e))

      along : (f x : ℕ) → x ≤ f → x < k → ((x ≡ 0 → ⊥) → chained x ≡ true) → walk_by s t links w f x ≡ last_below named (suc x)
      along zero zero l m c = sym (last_one named)
      along (suc f) zero l m c = sym (last_one named)
      along zero (suc x) l m c = absurd (omega arith)
      along (suc f) (suc x) l m c =
          let is : chained (suc x) ≡ true = c (λ z. omega arith) in
          let less = h.falls (suc x) (omega arith) (omega (arith, h.most)) in
          let y = follows (suc x) (omega arith) m is in
          along_go f (suc x) (omega arith) m is
          (along f (get_or links (suc x) 0) (omega arith) (omega arith) (λ z. (last_passes chained (suc x) (get_or links (suc x) 0) (sym y) z).0))
          (same_name (name_of s t (suc x)) w) refl

    -- a Group that has no bucket has no member
    missing : start_of starts g ≡ start_of starts (g + 1) → (y : ℕ) → 1 ≤ y → y < k → named y ≡ true → ⊥
    missing none y u v e =
        let p = named_parts s t g w y e in
        let m = rw p.owned at (h.allotted.some y u (omega (arith, h.most)) p.definition) in
        omega arith

    pub found_last : linked_member s t starts links g (hash_of w) w ≡ last_below named k
    found_last = go (eqb (start_of starts g) (start_of starts (g + 1))) refl
      where
        go : (b : Bool) → eqb (start_of starts g) (start_of starts (g + 1)) ≡ b → walk s t links w (cond b 0 (get_or links bucket 0)) ≡ last_below named k
        go true f = sym (none_last named k (missing (eqb-true (start_of starts g) (start_of starts (g + 1)) f)))
        go false f =
            let rises = h.allotted.rising g (g + 1) (omega arith) (omega arith) in
            let some : start_of starts g < start_of starts (g + 1) = omega (arith, eqb-false (start_of starts g) (start_of starts (g + 1)) f) in
            let x = get_or links bucket 0 in
            let base = h.allotted.rising 0 g (omega arith) (omega arith) in
            let y : x ≡ last_below chained k = h.heads bucket (omega (arith, h.allotted.base)) in
            along some x x (omega arith) (omega (arith, last_small chained k low)) (λ z. (last_passes chained k x (sym y) z).0)
            ∙ ap (λ (v : ℕ). last_below named (suc v)) y
            ∙ sym (last_skip named chained (named_bucket s t starts g w) k)

-- ---- a definition looked up in its own Group, before it is linked

-- what the code reads of definition l: where its name stands, the hash of it and the Group
pub record Own (s : List ℕ) (t : List ℤ) (l from to hash group : ℕ) : Type 0 where
  pub name : slice from to s ≡ name_of s t l
  pub hashed : hash ≡ hash_of (slice from to s)
  pub owned : group ≡ owner t l

pub own_read : (s : List ℕ) (t : List ℤ) (l : ℕ) {from size hash group : ℕ} → from ≡ name_start t l → size ≡ name_length t l
    → hash ≡ hash_of (slice from (from + size) s) → group ≡ owner t l → Own s t l from (from + size) hash group
own_read s t l p q e f = record { name = rw (p, q); hashed = e; owned = f }

module _ {s : List ℕ} {t : List ℤ} {n l : ℕ} {starts links : List ℕ} (rows : Searchable s t n) (h : LinkedBelow s t n l starts links) (low : 1 ≤ l) (high : l ≤ n)
    {from to hash group : ℕ} (o : Own s t l from to hash group) where
  pub own_group : group ≤ n
  own_group = omega (arith, o.owned, rows.falls l low high)

  pub own_found : linked_member s t starts links group hash (slice from to s) ≡ last_below (is_named s t (owner t l) (name_of s t l)) l
  own_found =
      rw (o.hashed, o.name, o.owned) (found_last rows h low (owner t l) (omega (arith, rows.falls l low high)) (name_of s t l))

  module _ (d : is_definition t l ≡ true) {b : ℕ} (e : b ≡ bucket_of starts group hash) where
    own_bucket : b ≡ bucket_at s t starts l
    own_bucket = e ∙ rw (o.hashed, o.name, o.owned)

    pub own_room : (b < length links) × (l < b)
    own_room = (omega (arith, own_bucket, own_inside rows h low high d), omega (arith, own_bucket, own_low rows h low high))

    pub own_linked : {links' : List ℕ} → links' ≡ set (set links l (get_or links b 0)) b l → LinkedBelow s t n (l + 1) starts links'
    own_linked p = rw (p, own_bucket) (link_own rows h low high d)

-- all are linked, and names are apart: the member
module _ {s : List ℕ} {t : List ℤ} {n : ℕ} {starts links : List ℕ} (rows : Searchable s t n) (h : AllLinked s t n starts links) (g : ℕ) (in_table : g ≤ n) where
  pub linked_walkable : Walkable t starts links g
  linked_walkable = walkable rows h.all (omega arith) g in_table

  pub found_member : (w : List ℕ) → linked_member s t starts links g (hash_of w) w ≡ member s t n g w
  found_member w = found_last rows h.all (omega arith) g in_table w ∙ member_last s t n h.apart g w

  pub member_is : (w : List ℕ) {hash : ℕ} → hash ≡ hash_of w → linked_member s t starts links g hash w ≡ member s t n g w
  member_is w e = ap (λ (h : ℕ). linked_member s t starts links g h w) e ∙ found_member w

-- ---- scratch that is all zeros, for n labels below k
