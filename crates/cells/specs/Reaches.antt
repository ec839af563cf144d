-- Document 01: definition d mentions e when an R or C owned by d has target e, both branches of I included; d reaches e by one or more mentions.
use Rattle.std.specs.Prelude.{◌≡◌, true, List, ℕ, ℤ}
use Rattle.cells.specs.Table.{has_path, owner, target}

-- line x is an R or a C
abbrev pub HasPath : List ℤ → ℕ → Type 0
HasPath t x = has_path t x ≡ true

pub record Mentions (t : List ℤ) (d e : ℕ) : Type 0 where
  pub line : ℕ
  pub path : HasPath t line
  pub owned : owner t line ≡ d
  pub aimed : target t line ≡ e

pub data Reaches (t : List ℤ) (d : ℕ) : ℕ → Type 0 where
  once : {e : ℕ} → Mentions t d e → Reaches t d e
  then : {e f : ℕ} → Reaches t d e → Mentions t e f → Reaches t d f
