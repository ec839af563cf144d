-- Rows 1 to 3, case by case, and what is known of a text that they do not refuse.
use mathlib.Core.Path.{◌≡◌, refl, ap, sym, ◌∙◌}
use mathlib.Core.Bool.{Bool, true, false, not, cond, ◌&&◌}
use mathlib.Core.Logic.{⊎_elim}
use mathlib.Core.List.{List, [], ◌∷◌, ◌++◌}
use Prim.Native.Nat.{ℕ, suc, ◌+◌, ◌-◌, ◌≤◌, ◌<◌}
use Prim.Native.Char.{code}
use native.Mathlib.Numerals.{add-one}
use native.Mathlib.Omega.{arith}
use native.Mathlib.Decide.{dec_le}
use lib.Dec.{leb, eqb}
use lib.IntN.{ℤ}
use lib.ListN.{length, get_or, take, length-append}
use lib.Seq.{take_all, get_or-take}
use lib.Pointwise.{pointwise}
use borrow.Author.Tests.{eqb-true, eqb-false, leb-true, le-leb, lt-leb, eq-eqb, ne_eqb, not-true}
use Rattle.cells.specs.Limits.{label_limit, size_limit}
use Rattle.cells.specs.Characters.{newline}
use Rattle.numbers.specs.Rounding.{quotient}
use Rattle.numbers.specs.Arithmetic.{rounding_by, result}
use Rattle.numbers.specs.declared.Tie.{Tie}
use Rattle.numbers.specs.declared.Tie.TheVariants.{Away, Even}
use Rattle.kinds.specs.declared.Operation.TheVariants.{Quotient}
use Rattle.refusals.specs.Rows.{text_row, first_line_row, labels_row}
use Rattle.refusals.specs.Refusal.{Verdict, Fine, Refused, Reply, reply_of}
use Rattle.refusals.specs.declared.Refusal.{Refusal}
use Rattle.refusals.specs.declared.Row.{Row}
use Rattle.std.specs.Prelude.{Option, Some, None, Ok}
use Rattle.text.specs.Bytes.{all, count_by, is_allowed, is_newline, same, ends_lines}
use Rattle.text.specs.Scans.{is_bad}
use Rattle.text.specs.Pieces.{cut, cut_at, first_of}
use Rattle.text.proofs.Bytes.{true_false, and_left, and_right, and-false, all_allowed, count_some, same_lengths, same_eq, same_itself}
use Rattle.cells.proofs.Tests.{or_cases}
use Rattle.text.proofs.Cuts.{first_onto}
use Rattle.lines.specs.Lines.{is_text, line, first_line, tie_of, arithmetic_of, is_first_line, labels, head_bad}

-- ---- row 1

module _ (s : List ℕ) where
  abbrev counted : Option ℕ
  counted = cond (is_text s) (Some (count_by is_newline s)) None

  pub text_empty : length s < 1 → None ≡ counted
  unfolding is_text
  text_empty h = rw (lt-leb 1 (length s) h)

  pub text_long : size_limit < length s → None ≡ counted
  unfolding is_text
  text_long h = rw (lt-leb (length s) size_limit h, and-false (leb 1 (length s)) false refl)

  pub text_open : (get_or s (length s - 1) 0 ≡ newline → ⊥) → None ≡ counted
  unfolding is_text
  text_open f = rw (ne_eqb (get_or s (length s - 1) 0) newline f, and-false (leb 1 (length s) && leb (length s) size_limit) false refl)

  pub text_bad_lem : (count_by is_bad s ≡ 0 → ⊥) → None ≡ counted
  unfolding is_text
  text_bad_lem f =
      rw (all_allowed s, ne_eqb (count_by is_bad s) 0 f, and-false (leb 1 (length s) && leb (length s) size_limit && eqb (get_or s (length s - 1) 0) newline) false refl)

  pub text_right : 1 ≤ length s → length s ≤ size_limit → get_or s (length s - 1) 0 ≡ newline → count_by is_bad s ≡ 0 → Some (count_by is_newline s) ≡ counted
  unfolding is_text
  text_right h k e z =
      rw (le-leb 1 (length s) h, le-leb (length s) size_limit k, eq-eqb (get_or s (length s - 1) 0) newline e, all_allowed s, eq-eqb (count_by is_bad s) 0 z)

  -- what row 1 lets pass
  module _ (t : is_text s ≡ true) where
    sized : (leb 1 (length s) && leb (length s) size_limit && eqb (get_or s (length s - 1) 0) newline) ≡ true
    unfolding is_text
    sized = and_left (leb 1 (length s) && leb (length s) size_limit && eqb (get_or s (length s - 1) 0) newline) (all is_allowed s) t

    pub text_allowed : all is_allowed s ≡ true
    unfolding is_text
    text_allowed = and_right (leb 1 (length s) && leb (length s) size_limit && eqb (get_or s (length s - 1) 0) newline) (all is_allowed s) t

    pub text_ends : ends_lines s
    text_ends = eqb-true (get_or s (length s - 1) 0) newline (and_right (leb 1 (length s) && leb (length s) size_limit) (eqb (get_or s (length s - 1) 0) newline) sized)

    both : (leb 1 (length s) && leb (length s) size_limit) ≡ true
    both = and_left (leb 1 (length s) && leb (length s) size_limit) (eqb (get_or s (length s - 1) 0) newline) sized

    pub text_some : 1 ≤ length s
    text_some = leb-true 1 (length s) (and_left (leb 1 (length s)) (leb (length s) size_limit) both)

    pub text_size : length s ≤ size_limit
    text_size = leb-true (length s) size_limit (and_right (leb 1 (length s)) (leb (length s) size_limit) both)

    pub text_lines : 1 ≤ count_by is_newline s
    text_lines = count_some is_newline s (length s - 1) (omega (arith, text_some)) (eq-eqb (get_or s (length s - 1) 0) newline text_ends)

  -- lines are counted exactly where row 1 does not refuse
  pub none_counted : None ≡ counted → is_text s ≡ false
  none_counted e = go (is_text s) e
    where
      go : (b : Bool) → None ≡ cond b (Some (count_by is_newline s)) None → b ≡ false
      go true z = absurd cc
      go false z = refl

  pub some_counted : (m : ℕ) → Some m ≡ counted → (is_text s ≡ true) × (m ≡ count_by is_newline s)
  some_counted m e = go (is_text s) e
    where
      go : (b : Bool) → Some m ≡ cond b (Some (count_by is_newline s)) None → (b ≡ true) × (m ≡ count_by is_newline s)
      go true z = (refl, cc)
      go false z = absurd cc

length_take_short : (n : ℕ) (s : List ℕ) → length s < n → length (take n s) ≡ length s
length_take_short n s h = ap length (take_all n s (omega arith))

-- ---- row 2: a text with a line begins with the bytes x, none of them a newline, and a newline exactly if x is its first line

abbrev other : ℕ → Bool
other x = not (eqb x newline)

first_bytes : (x s : List ℕ) → all other x ≡ true → 1 ≤ count_by is_newline s → same (first_of (cut newline s)) x ≡ same (take (suc (length x)) s) (x ++ newline ∷ [])
first_bytes x [] a h = absurd (omega arith)
first_bytes [] (y ∷ ys) a h = go (eqb y newline)
  where
    go : (t : Bool) → same (first_of (cut_at t y (cut newline ys))) [] ≡ (t && true)
    go true = refl
    go false = rw (first_onto y (cut newline ys))
first_bytes (z ∷ x) (y ∷ ys) a h = go (eqb y newline) refl h (first_bytes x ys (and_right (other z) (all other x) a))
  where
    go : (t : Bool) → eqb y newline ≡ t → 1 ≤ count_by is_newline (y ∷ ys)
        → (1 ≤ count_by is_newline ys → same (first_of (cut newline ys)) x ≡ same (take (suc (length x)) ys) (x ++ newline ∷ []))
        → same (first_of (cut_at t y (cut newline ys))) (z ∷ x) ≡ (eqb y z && same (take (suc (length x)) ys) (x ++ newline ∷ []))
    go true e g rest =
        let apart : eqb z newline ≡ false = not-true (eqb z newline) (and_left (other z) (all other x) a) in
        rw (ne_eqb y z (λ q. true_false (sym e ∙ ap (λ (n : ℕ). eqb n newline) q ∙ apart)))
    go false e g rest = let k : 1 ≤ 0 + count_by is_newline ys = rw e at g in rw (first_onto y (cut newline ys), rest (omega arith))

get_first : (ps : List (List ℕ)) → get_or ps 0 [] ≡ first_of ps
get_first [] = refl
get_first (p ∷ ps) = refl

-- a first line as it stands in a text, with its end
abbrev ended : Tie → List ℕ
ended tie = first_line tie ++ newline ∷ []

first_other : (tie : Tie) → all other (first_line tie) ≡ true
unfolding first_line
first_other Away = refl
first_other Even = refl

pub first_line_lem : (s : List ℕ) (tie : Tie) → 1 ≤ count_by is_newline s → same (line s 0) (first_line tie) ≡ same (take (length (ended tie)) s) (ended tie)
unfolding line
first_line_lem s tie h =
    rw (length-append (first_line tie) (newline ∷ []), add-one (length (first_line tie)))
    (ap (λ (l : List ℕ). same l (first_line tie)) (get_first (cut newline s)) ∙ first_bytes (first_line tie) s (first_other tie) h)

-- a text that is shorter than what it is asked to begin with
pub begins_short : (s x : List ℕ) → length s < length x → false ≡ same (take (length x) s) x
begins_short s x h = sym (same_lengths (take (length x) s) x (λ e. omega (arith, e, length_take_short (length x) s h)))

eqb_flip : (x y : ℕ) → eqb x y ≡ eqb y x
eqb_flip x y = go (eqb x y) refl
  where
    go : (b : Bool) → eqb x y ≡ b → b ≡ eqb y x
    go true e = sym (eq-eqb y x (sym (eqb-true x y e)))
    go false e = sym (ne_eqb y x (λ q. eqb-false x y e (sym q)))

-- the library's test, as `same` of the bytes that the text begins with
pub begins_same : (x s : List ℕ) → pointwise eqb x s ≡ same s x
begins_same [] [] = refl
begins_same [] (y ∷ s) = refl
begins_same (z ∷ x) [] = refl
begins_same (z ∷ x) (y ∷ s) = rw (eqb_flip z y, begins_same x s)

-- ---- the tie rule that line one names

named_right : (tie : Tie) → is_first_line (first_line tie) ≡ true
unfolding first_line
named_right Away = refl
named_right Even = refl

named_rule : (tie : Tie) → cond (same (first_line tie) (first_line Even)) Even Away ≡ tie
unfolding first_line
named_rule Away = refl
named_rule Even = refl

module _ (s : List ℕ) where
  -- no text names two rules
  pub tie_named : (tie : Tie) → line s 0 ≡ first_line tie → tie_of s ≡ tie
  unfolding tie_of
  tie_named tie e = ap (λ (l : List ℕ). cond (same l (first_line Even)) Even Away) e ∙ named_rule tie

  pub first_named : is_first_line (line s 0) ≡ true → line s 0 ≡ first_line (tie_of s)
  first_named e = ⊎_elim (by Away) (by Even) (or_cases (same (line s 0) (first_line Away)) (same (line s 0) (first_line Even)) e)
    where
      by : (tie : Tie) → same (line s 0) (first_line tie) ≡ true → line s 0 ≡ first_line (tie_of s)
      by tie q = let f = same_eq (line s 0) (first_line tie) q in f ∙ ap first_line (sym (tie_named tie f))

  pub named_first : line s 0 ≡ first_line (tie_of s) → is_first_line (line s 0) ≡ true
  named_first e = ap (λ (l : List ℕ). is_first_line l) e ∙ named_right (tie_of s)

  -- "Sheets whose first line is `kind2 name a b c` use it in D": D rounds by the sheet's own rule
  pub own_quotient : (a b : ℤ) → result (arithmetic_of s) Quotient a b ≡ quotient (tie_of s) a b
  unfolding result
  own_quotient a b = go (tie_of s)
    where
      go : (tie : Tie) → result (rounding_by tie) Quotient a b ≡ quotient tie a b
      go Away = refl
      go Even = refl

-- ---- rows 1 to 3 together

-- a refusal is known by its row and its place
pub refusal_is : (e : Refusal) (r : Row) (p : ℕ) → (e.row ≡ r) × (e.place ≡ p) → e ≡ record { row = r; place = p }
refusal_is e r p w = ap (λ (x : Row). record { row = x; place = e.place }) w.0 ∙ ap (λ (y : ℕ). record { row = r; place = y }) w.1

module _ (s : List ℕ) where
  abbrev reply_is : Reply
  reply_is = reply_of (head_bad s) (labels s)

  pub head_text : is_text s ≡ false → Refused text_row 0 ≡ reply_is
  unfolding head_bad
  head_text e = rw e

  module _ (t : is_text s ≡ true) where
    pub head_first : is_first_line (line s 0) ≡ false → Refused first_line_row 0 ≡ reply_is
    unfolding head_bad
    head_first e = rw (t, e)

    module _ (f : is_first_line (line s 0) ≡ true) where
      pub head_none : count_by is_newline s < 2 → Refused labels_row 0 ≡ reply_is
      unfolding head_bad labels
      head_none h = rw (t, f, lt-leb 1 (count_by is_newline s - 1) (omega arith))

      pub head_many : label_limit + 1 < count_by is_newline s → Refused labels_row 0 ≡ reply_is
      unfolding head_bad labels
      head_many h = rw (t, f, lt-leb (count_by is_newline s - 1) label_limit (omega arith), and-false (leb 1 (count_by is_newline s - 1)) false refl)

      pub head_right : 2 ≤ count_by is_newline s → count_by is_newline s ≤ label_limit + 1 → Ok (count_by is_newline s - 1) ≡ reply_is
      unfolding head_bad labels
      head_right h k = rw (t, f, le-leb 1 (count_by is_newline s - 1) (omega arith), le-leb (count_by is_newline s - 1) label_limit (omega arith))

-- ---- what rows 1 to 3 let pass

pub record Headed (s : List ℕ) : Type 0 where
  pub size : length s ≤ size_limit
  pub some : 1 ≤ length s
  pub ends : ends_lines s
  pub allowed : all is_allowed s ≡ true
  pub first : line s 0 ≡ first_line (tie_of s)
  pub low : 1 ≤ labels s
  pub high : labels s ≤ label_limit

refused_fine : (b : Bool) (v : Verdict) (r : Row) (p : ℕ) → cond b v (Refused r p) ≡ Fine → (b ≡ true) × (v ≡ Fine)
refused_fine true v r p e = (refl, e)
refused_fine false v r p e = absurd cc

pub headed : (s : List ℕ) → head_bad s ≡ Fine → Headed s
unfolding head_bad
headed s e =
    let one = refused_fine (is_text s) _ text_row 0 e in
    let two = refused_fine (is_first_line (line s 0)) _ first_line_row 0 one.1 in
    let three = refused_fine (leb 1 (labels s) && leb (labels s) label_limit) Fine labels_row 0 two.1 in
    record {
      size = text_size s one.0;
      some = text_some s one.0;
      ends = text_ends s one.0;
      allowed = text_allowed s one.0;
      first = first_named s two.0;
      low = leb-true 1 (labels s) (and_left (leb 1 (labels s)) (leb (labels s) label_limit) three.0);
      high = leb-true (labels s) label_limit (and_right (leb 1 (labels s)) (leb (labels s) label_limit) three.0);
    }

-- ---- the fifth byte of such a text tells which of the two first lines it has

ended_long : (tie : Tie) → 16 ≤ length (ended tie)
unfolding first_line
ended_long Away = omega arith
ended_long Even = omega arith

ended_fifth : (tie : Tie) → cond (eqb (get_or (ended tie) 4 0) (code "2")) Even Away ≡ tie
unfolding first_line
ended_fifth Away = refl
ended_fifth Even = refl

module _ (s : List ℕ) (h : Headed s) where
  abbrev begin : List ℕ
  begin = ended (tie_of s)

  begins : same (take (length begin) s) begin ≡ true
  unfolding labels
  begins =
      sym (first_line_lem s (tie_of s) (omega (arith, h.low)))
      ∙ ap (λ (l : List ℕ). same l (first_line (tie_of s))) h.first
      ∙ same_itself (first_line (tie_of s))

  pub first_inside : 16 ≤ length s
  first_inside = go (dec_le (length begin) (length s))
    where
      go : Dec (length begin ≤ length s) → 16 ≤ length s
      go (yes k) = omega (arith, ended_long (tie_of s))
      go (no k) = absurd (true_false (sym begins ∙ sym (begins_short s begin (omega (arith, k)))))

  pub fifth_tells : (b : Bool) → eqb (get_or s 4 0) (code "2") ≡ b → cond b Even Away ≡ tie_of s
  fifth_tells b e =
      let fifth : get_or s 4 0 ≡ get_or begin 4 0 =
      sym (get_or-take (length begin) s 4 0 (omega (arith, ended_long (tie_of s)))) ∙ ap (λ (l : List ℕ). get_or l 4 0) (same_eq (take (length begin) s) begin begins) in
      ap (λ (a : Bool). cond a Even Away) (sym e ∙ ap (λ (y : ℕ). eqb y (code "2")) fifth) ∙ ended_fifth (tie_of s)
