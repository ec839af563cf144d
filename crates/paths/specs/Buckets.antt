-- How the code finds a member fast: each Group has buckets of its own, and the hash of a member's name says in which of them it stands. A
-- search of a Group meets members of that Group and no others. Nothing of this is in a public contract.
use Rattle.std.specs.Prelude.{◌≡◌, Bool, true, cond, not, ◌&&◌, List, [], ◌∷◌, ℕ, zero, suc, ◌+◌, ◌*◌}
use Rattle.std.specs.Prelude.{◌/◌, ◌%◌, ◌-◌, ◌≤◌, ◌<◌, leb, eqb, ℤ, pos, length, get_or, set, take, drop, Option, Some, None}
use Rattle.cells.specs.Limits.{label_limit}
use Rattle.cells.specs.Characters.{dot}
use Rattle.cells.specs.Cells.{int_at}
use Rattle.cells.specs.Table.{kind, name_start, name_length, owner, is_definition}
use Rattle.text.specs.Bytes.{lowercase}
use Rattle.paths.specs.Names.{name_of, same_name}
use Rattle.paths.specs.Leads.{NamesApart}

-- a label that is looked for, where 0 stands for none
abbrev pub some_label : ℕ → Option ℕ
some_label zero = None
some_label (suc l) = Some (suc l)

-- a byte of a name, in a path: no dot
abbrev pub not_dot : ℕ → Bool
not_dot x = not (eqb x dot)

-- the name field of label l lies in the text
abbrev pub NameInText : List ℕ → List ℤ → ℕ → Type 0
NameInText s t l = name_start t l + name_length t l ≤ length s

-- of the table's n labels: their name fields lie in the text, owners are natural numbers, and owners' labels fall
pub record Searchable (s : List ℕ) (t : List ℤ) (n : ℕ) : Type 0 where
  pub few : n ≤ label_limit
  pub room : 8 * n ≤ length t
  pub names : (l : ℕ) → NameInText s t l
  pub owners : (l : ℕ) → 1 ≤ l → l ≤ n → int_at t (8 * (l - 1) + 6) ≡ pos (owner t l)
  pub falls : (l : ℕ) → 1 ≤ l → l ≤ n → owner t l < l
  pub beyond : (l : ℕ) → n < l → kind t l ≡ 0
  pub rooted : (l : ℕ) → is_definition t l ≡ true → owner t l ≡ 0 → l ≡ 1

-- ---- the hash of a name, by what `same_name` compares of it

-- a hash is below this
abbrev pub hashes : ℕ
hashes = 4294967296

-- the factors of the hash, for the two halves of a word
abbrev pub low_factor : ℕ
low_factor = 877249963

abbrev pub high_factor : ℕ
high_factor = 1567245785

-- the low five bits of bytes as one number, the first byte the lowest: the two cases of a letter have the same
abbrev pub bits_of : List ℕ → ℕ
bits_of [] = 0
bits_of (x ∷ w) = x % 32 + 256 * bits_of w

-- a hash and a word more
abbrev pub add_word : ℕ → ℕ → ℕ
add_word h w = ((h + w % hashes) * low_factor + w / hashes * high_factor) / 16 % hashes

-- the hash of bytes: of the first eight, then of eight more; no name has more than sixteen
abbrev pub hash_bytes : List ℕ → ℕ
hash_bytes w = cond (leb (length w) 8) (add_word 0 (bits_of w)) (add_word (add_word 0 (bits_of (take 8 w))) (bits_of (take 8 (drop 8 w))))

unfoldable pub hash_of : List ℕ → ℕ
hash_of w = hash_bytes (lowercase w)

-- ---- the buckets of each Group

-- the first bucket of Group g
abbrev pub start_of : List ℕ → ℕ → ℕ
start_of starts g = get_or starts g 0

-- Group g has the buckets from its start up to the start of Group g + 1
pub record Stretch (starts : List ℕ) (g : ℕ) : Type 0 where
  pub long : g + 1 < length starts
  pub order : start_of starts g ≤ start_of starts (g + 1)
  pub few : start_of starts (g + 1) ≤ 4096

-- the Groups 0 to n have buckets of their own, numbered from n + 1 on, 2 * n in all at most; a Group that has a member has some
pub record Allotted (t : List ℤ) (n : ℕ) (starts : List ℕ) : Type 0 where
  pub long : n + 1 < length starts
  pub base : start_of starts 0 ≡ n + 1
  pub rising : (g h : ℕ) → g ≤ h → h ≤ n + 1 → start_of starts g ≤ start_of starts h
  pub few : start_of starts (n + 1) ≤ n + 1 + 2 * n
  pub some : (l : ℕ) → 1 ≤ l → l ≤ n → is_definition t l ≡ true → start_of starts (owner t l) < start_of starts (owner t l + 1)

-- how they are allotted: the first place has n + 1, and each definition counts for two at the place behind that of its Group; then these
-- are added up
abbrev pub counted_at : List ℤ → ℕ → List ℕ → List ℕ
counted_at t l c = cond (is_definition t l) (set c (owner t l + 1) (get_or c (owner t l + 1) 0 + 2)) c

abbrev pub sum_to : List ℕ → ℕ → ℕ
sum_to c zero = get_or c 0 0
sum_to c (suc g) = sum_to c g + get_or c (suc g) 0

-- the definitions below label k are counted
pub record MembersCounted (t : List ℤ) (n k : ℕ) (c : List ℕ) : Type 0 where
  pub long : n + 1 < length c
  pub base : get_or c 0 0 ≡ n + 1
  pub total : sum_to c (n + 1) + 2 ≤ n + 1 + 2 * k
  pub some : (l : ℕ) → 1 ≤ l → l < k → is_definition t l ≡ true → 1 ≤ get_or c (owner t l + 1) 0

-- ---- the bucket of a name

abbrev pub bucket_of : List ℕ → ℕ → ℕ → ℕ
bucket_of starts g hash = start_of starts g + hash * (start_of starts (g + 1) - start_of starts g) / hashes

-- that of definition l
abbrev pub bucket_at : List ℕ → List ℤ → List ℕ → ℕ → ℕ
bucket_at s t starts l = bucket_of starts (owner t l) (hash_of (name_of s t l))

abbrev pub in_bucket : List ℕ → List ℤ → List ℕ → ℕ → ℕ → Bool
in_bucket s t starts b l = is_definition t l && eqb (bucket_at s t starts l) b

-- ---- the chain of a bucket: its definitions, larger labels first

-- the last label below k that passes the test; 0 where none does
abbrev pub last_below : (ℕ → Bool) → ℕ → ℕ
last_below test zero = 0
last_below test (suc k) = cond (test k) k (last_below test k)

-- the definitions below label k are linked: behind each bucket stands the last one of it, behind each definition the last one before it
pub record LinkedBelow (s : List ℕ) (t : List ℤ) (n k : ℕ) (starts links : List ℕ) : Type 0 where
  pub allotted : Allotted t n starts
  pub room : n + 2 * n < length links
  pub most : k ≤ n + 1
  pub heads : (b : ℕ) → n < b → get_or links b 0 ≡ last_below (in_bucket s t starts b) k
  pub nexts : (l : ℕ) → 1 ≤ l → l < k → is_definition t l ≡ true → get_or links l 0 ≡ last_below (in_bucket s t starts (bucket_at s t starts l)) l
  pub falls : (l : ℕ) → 1 ≤ l → l ≤ n → get_or links l 0 < l

-- all definitions are linked, and row 12 finds nothing
pub record AllLinked (s : List ℕ) (t : List ℤ) (n : ℕ) (starts links : List ℕ) : Type 0 where
  pub all : LinkedBelow s t n (n + 1) starts links
  pub apart : NamesApart s t n

-- scratch before any of it: zeros, long enough for n labels
pub record Fresh (n : ℕ) (starts links : List ℕ) : Type 0 where
  pub long : n + 1 < length starts
  pub room : n + 2 * n < length links
  pub clear : (i : ℕ) → (get_or starts i 0 ≡ 0) × (get_or links i 0 ≡ 0)

-- ---- a lookup in a Group: along the chain of the name's bucket there

-- where the chain begins; 0 where the Group has no bucket
abbrev pub first_in : List ℕ → List ℕ → ℕ → ℕ → ℕ
first_in starts links g hash = cond (eqb (start_of starts g) (start_of starts (g + 1))) 0 (get_or links (bucket_of starts g hash) 0)

-- the chains of Group g lie in the links; they go from a bucket to a label, then to smaller labels, all of which the table has
pub record Walkable (t : List ℤ) (starts links : List ℕ) (g : ℕ) : Type 0 where
  pub stretch : Stretch starts g
  pub base : start_of starts 0 ≤ start_of starts g
  pub room : start_of starts (g + 1) ≤ length links
  pub heads : (b : ℕ) → start_of starts 0 ≤ b → get_or links b 0 < start_of starts 0
  pub falls : (l : ℕ) → 1 ≤ l → l < start_of starts 0 → get_or links l 0 < l
  pub rows : (l : ℕ) → l < start_of starts 0 → 8 * l ≤ length t

-- the first of a chain, from x on, with the name w; 0 where none has it. At most f labels are looked at: x are enough, as chains fall
abbrev pub walk_by : List ℕ → List ℤ → List ℕ → List ℕ → ℕ → ℕ → ℕ
walk_by s t links w zero x = 0
walk_by s t links w (suc f) zero = 0
walk_by s t links w (suc f) (suc x) = cond (same_name (name_of s t (suc x)) w) (suc x) (walk_by s t links w f (get_or links (suc x) 0))

abbrev pub walk : List ℕ → List ℤ → List ℕ → List ℕ → ℕ → ℕ
walk s t links w x = walk_by s t links w x x

-- the member of Group g with the name w, whose hash is handed in; 0 where none is linked
abbrev pub linked_member : List ℕ → List ℤ → List ℕ → List ℕ → ℕ → ℕ → List ℕ → ℕ
linked_member s t starts links g hash w = walk s t links w (first_in starts links g hash)
