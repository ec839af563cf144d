-- Document 01, "Paths", as a relation between an R or C line and a definition: what the paper says of a path, with no search in it.
use Rattle.std.specs.Prelude.{◌≡◌, true, List, [], ◌∷◌, ℕ, ◌≤◌, ◌<◌, ℤ, drop}
use Rattle.kinds.specs.Kinds.{group_code, wanted_by}
use Rattle.cells.specs.Table.{kind, owner, is_definition, has_path}
use Rattle.text.specs.Pieces.{first_of}
use Rattle.paths.specs.Names.{name_of, same_name}
use Rattle.paths.specs.Paths.{names_of}

-- "The members of a Group are the definitions whose a is its label": m, of the labels 1 to n, is such a member of Group g, and w is its name
pub record IsMember (s : List ℕ) (t : List ℤ) (n g : ℕ) (w : List ℕ) (m : ℕ) : Type 0 where
  pub group : 1 ≤ g
  pub low : 1 ≤ m
  pub high : m ≤ n
  pub definition : is_definition t m ≡ true
  pub owned : owner t m ≡ g
  pub named : same_name (name_of s t m) w ≡ true

-- "The head (first name) is looked for among that Group's members, then in the Group around it, outward; the first Group with such a
-- member settles the head": from Group g outward, the head w is settled as definition m
pub data Heads (s : List ℕ) (t : List ℤ) (n : ℕ) (w : List ℕ) : ℕ → ℕ → Type 0 where
  here : {g m : ℕ} → IsMember s t n g w m → Heads s t n w g m
  outward : {g m : ℕ} → 1 ≤ g → ((x : ℕ) → IsMember s t n g w x → ⊥) → Heads s t n w (owner t g) m → Heads s t n w g m

-- "Each later name must be a member of the Group found so far. Nothing goes back outward when a later name fails": from definition m, the
-- later names end at definition e
pub data Descends (s : List ℕ) (t : List ℤ) (n : ℕ) : ℕ → List (List ℕ) → ℕ → Type 0 where
  ended : {m : ℕ} → Descends s t n m [] m
  inward : {m x e : ℕ} {w : List ℕ} {ws : List (List ℕ)} → kind t m ≡ group_code → IsMember s t n m w x → Descends s t n x ws e → Descends s t n m (w ∷ ws) e

-- "The search starts in the Group whose member is the owner": the head of the path of line x is settled as h
abbrev pub HeadSettles : List ℕ → List ℤ → ℕ → ℕ → ℕ → Type 0
HeadSettles s t n x h = Heads s t n (first_of (names_of s t x)) (owner t (owner t x)) h

-- "The target is where the path ends": the path of line x leads to m
pub record Leads (s : List ℕ) (t : List ℤ) (n x m : ℕ) : Type 0 where
  pub head : ℕ
  pub settles : HeadSettles s t n x head
  pub ends : Descends s t n head (drop 1 (names_of s t x)) m

-- row 12, "a smaller label in its Group has that name", finds nothing: no two definitions in one Group have one name
abbrev pub NamesApart : List ℕ → List ℤ → ℕ → Type 0
NamesApart s t n =
    (l k : ℕ) → 1 ≤ l → l < k → k ≤ n → is_definition t l ≡ true → is_definition t k ≡ true → owner t l ≡ owner t k
    → same_name (name_of s t l) (name_of s t k) ≡ true → ⊥

-- rows 12 to 15 find nothing: the names in a Group differ, and the path of each R and C leads to a definition of the kind that it needs,
-- "R needs a V, C needs an F"
pub record PathsKept (s : List ℕ) (t : List ℤ) (n : ℕ) : Type 0 where
  pub apart : NamesApart s t n
  pub targets : (x : ℕ) → 1 ≤ x → x ≤ n → has_path t x ≡ true → (m : ℕ) × Leads s t n x m × (kind t m ≡ wanted_by (kind t x))
