-- Document 01's starred sample sheets and the examples of document 02's orders, as one table. The sentences are the papers', and so are the
-- figures in them; the others are counted by hand, as `sheets/README.md` says. The sheets are those of `sheets/`.
use Rattle.std.specs.Prelude.{List, [], ◌∷◌, ℕ, ℤ, pos, neg_ℤ, Ok}
use Prim.Native.String.{String}
use Rattle.refusals.specs.Rows.{uses_row, duplicate_row, cycle_row}
use Rattle.refusals.specs.Refusal.{Refused}
use Rattle.samples.specs.Sample.{group, value, function, reads, calls, PrintLine, refusal, whole, mixed, Fact, Sample, RetouchSample, QuotientSample}

abbrev print_line : ℕ → String → ℕ → ℤ → ℕ → PrintLine
print_line label name state number steps = record { label = label; name = name; state = state; number = number; steps = steps }

abbrev minus : ℕ → ℤ
minus n = neg_ℤ (pos n)

-- 1. "the sheet above", of "Program and its print", with the print that the paper gives
abbrev pub example : Sample
example = record {
  sheet =
      "kind name a b c"
      ∷ "G - 0 - -"
      ∷ "V total 1 6 -"
      ∷ "G right 1 - -"
      ∷ "V prism 3 9 -"
      ∷ "V sphere 3 14 -"
      ∷ "A - 7 8 -"
      ∷ "R right.prism - - -"
      ∷ "N - 5 - -"
      ∷ "D - 10 13 -"
      ∷ "M - 11 12 -"
      ∷ "R sphere - - -"
      ∷ "N - 10 - -"
      ∷ "N - 100 - -"
      ∷ "N - -325 - -"
      ∷ [];
  read = Ok 14;
  table = value 2 1 ∷ group 3 1 ∷ value 4 3 ∷ value 5 3 ∷ reads 2 4 ∷ reads 4 5 ∷ [];
  outcome = whole
      (print_line 5 "sphere" 1 (minus 325) 1
      ∷ print_line 4 "prism" 1 (minus 33) 5
      ∷ print_line 2 "total" 1 (minus 28) 3
      ∷ []);
  print =
      "label name order state number steps"
      ∷ "5 sphere whole 1 -325 1"
      ∷ "4 prism whole 1 -33 5"
      ∷ "2 total whole 1 -28 3"
      ∷ [];
}

-- 2. "label 1 alone: empty whole plan"
abbrev pub outermost_alone : Sample
outermost_alone = record {
  sheet =
      "kind name a b c"
      ∷ "G - 0 - -"
      ∷ [];
  read = Ok 1;
  table = [];
  outcome = whole [];
  print =
      "label name order state number steps"
      ∷ [];
}

-- 3. "Groups 2, 3; values 4, 5 in 2 and 6, 7 in 3; 4 reads 6, 7 reads 5, the others are numbers: mixed, 5 6 4 7"
abbrev pub mixed_order : Sample
mixed_order = record {
  sheet =
      "kind name a b c"
      ∷ "G - 0 - -"
      ∷ "G right 1 - -"
      ∷ "G left 1 - -"
      ∷ "V prism 2 8 -"
      ∷ "V sphere 2 9 -"
      ∷ "V prism 3 10 -"
      ∷ "V sphere 3 11 -"
      ∷ "R left.prism - - -"
      ∷ "N - 20 - -"
      ∷ "N - 30 - -"
      ∷ "R right.sphere - - -"
      ∷ [];
  read = Ok 11;
  table = group 2 1 ∷ group 3 1 ∷ value 4 2 ∷ value 5 2 ∷ value 6 3 ∷ value 7 3 ∷ reads 4 6 ∷ reads 7 5 ∷ [];
  outcome = mixed
      (print_line 5 "sphere" 1 (pos 20) 1
      ∷ print_line 6 "prism" 1 (pos 30) 1
      ∷ print_line 4 "prism" 1 (pos 30) 1
      ∷ print_line 7 "sphere" 1 (pos 20) 1
      ∷ []);
  print =
      "label name order state number steps"
      ∷ "5 sphere mixed 1 20 1"
      ∷ "6 prism mixed 1 30 1"
      ∷ "4 prism mixed 1 30 1"
      ∷ "7 sphere mixed 1 20 1"
      ∷ [];
}

-- 4. "`even` (if the argument then `odd` of it less 1, else 1) and `odd` (likewise, else 0) in two Groups: `even` of 0 is 1 in 5 steps, of
-- 1 is 0 in 11": the sheet whose last line is the argument, where `even` of it is a number in some steps
abbrev pub even_of : String → ℤ → ℕ → String → Sample
even_of argument number steps printed = record {
  sheet =
      "kind name a b c"
      ∷ "G - 0 - -"
      ∷ "G first 1 - -"
      ∷ "G second 1 - -"
      ∷ "F even 2 6 -"
      ∷ "F odd 3 13 -"
      ∷ "I - 7 8 9"
      ∷ "P - - - -"
      ∷ "C second.odd 10 - -"
      ∷ "N - 1 - -"
      ∷ "S - 11 12 -"
      ∷ "P - - - -"
      ∷ "N - 1 - -"
      ∷ "I - 14 15 16"
      ∷ "P - - - -"
      ∷ "C first.even 17 - -"
      ∷ "N - 0 - -"
      ∷ "S - 18 19 -"
      ∷ "P - - - -"
      ∷ "N - 1 - -"
      ∷ "V answer 1 21 -"
      ∷ "C first.even 22 - -"
      ∷ argument
      ∷ [];
  read = Ok 22;
  table = group 2 1 ∷ group 3 1 ∷ function 4 2 ∷ function 5 3 ∷ calls 4 5 ∷ calls 5 4 ∷ value 20 1 ∷ calls 20 4 ∷ [];
  outcome = whole (print_line 20 "answer" 1 number steps ∷ []);
  print = "label name order state number steps" ∷ printed ∷ [];
}

-- 6. "f calls f on its argument; a value calling f on a number: state 5, 130 steps"
abbrev pub endless_calls : Sample
endless_calls = record {
  sheet =
      "kind name a b c"
      ∷ "G - 0 - -"
      ∷ "F f 1 4 -"
      ∷ "V endless 1 6 -"
      ∷ "C f 5 - -"
      ∷ "P - - - -"
      ∷ "C f 7 - -"
      ∷ "N - 1 - -"
      ∷ [];
  read = Ok 7;
  table = function 2 1 ∷ value 3 1 ∷ calls 2 2 ∷ calls 3 2 ∷ [];
  outcome = whole (print_line 3 "endless" 5 (pos 0) 130 ∷ []);
  print =
      "label name order state number steps"
      ∷ "3 endless whole 5 0 130"
      ∷ [];
}

-- 7. "-3250 / 100 is -33, 3249 / 100 is 32"
abbrev pub nearest_quotient : Sample
nearest_quotient = record {
  sheet =
      "kind name a b c"
      ∷ "G - 0 - -"
      ∷ "V up 1 4 -"
      ∷ "V down 1 7 -"
      ∷ "D - 5 6 -"
      ∷ "N - -3250 - -"
      ∷ "N - 100 - -"
      ∷ "D - 8 9 -"
      ∷ "N - 3249 - -"
      ∷ "N - 100 - -"
      ∷ [];
  read = Ok 9;
  table = value 2 1 ∷ value 3 1 ∷ [];
  outcome = whole (print_line 2 "up" 1 (minus 33) 3 ∷ print_line 3 "down" 1 (pos 32) 3 ∷ []);
  print =
      "label name order state number steps"
      ∷ "2 up whole 1 -33 3"
      ∷ "3 down whole 1 32 3"
      ∷ [];
}

-- 8. "a value reading itself: 16"; row 16 is "not Read", so Read answers
abbrev pub reads_itself : Sample
reads_itself = record {
  sheet =
      "kind name a b c"
      ∷ "G - 0 - -"
      ∷ "V sphere 1 3 -"
      ∷ "R sphere - - -"
      ∷ [];
  read = Ok 3;
  table = value 2 1 ∷ reads 2 2 ∷ [];
  outcome = refusal cycle_row 2;
  print =
      "refusal place"
      ∷ "16 2"
      ∷ [];
}

-- 9. "Label 2 a V with body 3, label 3 `A - 4 4 -`, label 4 an N: 9, place 4"
abbrev pub used_twice : Sample
used_twice = record {
  sheet =
      "kind name a b c"
      ∷ "G - 0 - -"
      ∷ "V sphere 1 3 -"
      ∷ "A - 4 4 -"
      ∷ "N - 7 - -"
      ∷ [];
  read = Refused uses_row 4;
  table = [];
  outcome = refusal uses_row 4;
  print =
      "refusal place"
      ∷ "9 4"
      ∷ [];
}

-- document 02, order 1: "Names now compare without regard to the case of ASCII letters, in member lists and in paths"; a name is printed
-- with "the case as sent"
abbrev pub capital_path : Sample
capital_path = record {
  sheet =
      "kind name a b c"
      ∷ "G - 0 - -"
      ∷ "G right 1 - -"
      ∷ "G lens 2 - -"
      ∷ "V sphere 3 5 -"
      ∷ "N - -325 - -"
      ∷ "V Total 1 7 -"
      ∷ "A - 8 9 -"
      ∷ "R RIGHT.LENS.SPHERE - - -"
      ∷ "N - 5 - -"
      ∷ [];
  read = Ok 9;
  table = group 2 1 ∷ group 3 2 ∷ value 4 3 ∷ value 6 1 ∷ reads 6 4 ∷ [];
  outcome = whole (print_line 4 "sphere" 1 (minus 325) 1 ∷ print_line 6 "Total" 1 (minus 320) 3 ∷ []);
  print =
      "label name order state number steps"
      ∷ "4 sphere whole 1 -325 1"
      ∷ "6 Total whole 1 -320 3"
      ∷ [];
}

-- document 02, order 1: "So `Right` and `right` in one Group clash under 12"
abbrev pub capital_clash : Sample
capital_clash = record {
  sheet =
      "kind name a b c"
      ∷ "G - 0 - -"
      ∷ "G right 1 - -"
      ∷ "G Right 1 - -"
      ∷ [];
  read = Refused duplicate_row 3;
  table = [];
  outcome = refusal duplicate_row 3;
  print =
      "refusal place"
      ∷ "12 3"
      ∷ [];
}

-- document 02, order 2: "A circle between frame and left made us list right mixed too". Frame and left form one block; right, which needs it, is
-- listed behind it, side by side
abbrev pub frame_and_left : Sample
frame_and_left = record {
  sheet =
      "kind name a b c"
      ∷ "G - 0 - -"
      ∷ "G frame 1 - -"
      ∷ "G left 1 - -"
      ∷ "G right 1 - -"
      ∷ "V pd 4 11 -"
      ∷ "V blank 2 12 -"
      ∷ "V dec 3 13 -"
      ∷ "V size 2 14 -"
      ∷ "V dec 4 15 -"
      ∷ "V pd 3 16 -"
      ∷ "N - 3150 - -"
      ∷ "R left.dec - - -"
      ∷ "R frame.size - - -"
      ∷ "N - 5200 - -"
      ∷ "R frame.size - - -"
      ∷ "N - 3100 - -"
      ∷ [];
  read = Ok 16;
  table =
      group 2 1 ∷ group 3 1 ∷ group 4 1 ∷ value 5 4 ∷ value 6 2 ∷ value 7 3 ∷ value 8 2 ∷ value 9 4 ∷ value 10 3 ∷ reads 6 7 ∷ reads 7 8 ∷ reads 9 8 ∷ [];
  outcome = mixed
      (print_line 8 "size" 1 (pos 5200) 1
      ∷ print_line 7 "dec" 1 (pos 5200) 1
      ∷ print_line 6 "blank" 1 (pos 5200) 1
      ∷ print_line 10 "pd" 1 (pos 3100) 1
      ∷ print_line 5 "pd" 1 (pos 3150) 1
      ∷ print_line 9 "dec" 1 (pos 5200) 1
      ∷ []);
  print =
      "label name order state number steps"
      ∷ "8 size mixed 1 5200 1"
      ∷ "7 dec mixed 1 5200 1"
      ∷ "6 blank mixed 1 5200 1"
      ∷ "10 pd mixed 1 3100 1"
      ∷ "5 pd mixed 1 3150 1"
      ∷ "9 dec mixed 1 5200 1"
      ∷ [];
}

-- document 02, order 5: "-3250 / 100 is -32 under the new rule", and -33 under document 01's. The lines of a sheet under either first line:
-- halves of either sign, a divisor below 0, and a half in a function that is called with a number made of a value which was itself a half
abbrev halves_lines : List String
halves_lines =
    "G - 0 - -"
    ∷ "V sphere 1 8 -"
    ∷ "V thin 1 11 -"
    ∷ "V base 1 14 -"
    ∷ "V edge 1 17 -"
    ∷ "V prism 1 20 -"
    ∷ "F percent 1 26 -"
    ∷ "D - 9 10 -"
    ∷ "N - -3250 - -"
    ∷ "N - 100 - -"
    ∷ "D - 12 13 -"
    ∷ "N - 50 - -"
    ∷ "N - 100 - -"
    ∷ "D - 15 16 -"
    ∷ "N - 250 - -"
    ∷ "N - -100 - -"
    ∷ "D - 18 19 -"
    ∷ "N - 150 - -"
    ∷ "N - 100 - -"
    ∷ "C percent 21 - -"
    ∷ "A - 22 25 -"
    ∷ "M - 23 24 -"
    ∷ "R sphere - - -"
    ∷ "N - 100 - -"
    ∷ "N - 50 - -"
    ∷ "D - 27 28 -"
    ∷ "P - - - -"
    ∷ "N - 100 - -"
    ∷ []

abbrev halves_table : List Fact
halves_table = value 2 1 ∷ value 3 1 ∷ value 4 1 ∷ value 5 1 ∷ value 6 1 ∷ function 7 1 ∷ calls 6 7 ∷ reads 6 2 ∷ []

abbrev pub halves_away : Sample
halves_away = record {
  sheet = "kind name a b c" ∷ halves_lines;
  read = Ok 28;
  table = halves_table;
  outcome = whole
      (print_line 2 "sphere" 1 (minus 33) 3
      ∷ print_line 3 "thin" 1 (pos 1) 3
      ∷ print_line 4 "base" 1 (minus 3) 3
      ∷ print_line 5 "edge" 1 (pos 2) 3
      ∷ print_line 6 "prism" 1 (minus 33) 9
      ∷ []);
  print =
      "label name order state number steps"
      ∷ "2 sphere whole 1 -33 3"
      ∷ "3 thin whole 1 1 3"
      ∷ "4 base whole 1 -3 3"
      ∷ "5 edge whole 1 2 3"
      ∷ "6 prism whole 1 -33 9"
      ∷ [];
}

abbrev pub halves_even : Sample
halves_even = record {
  sheet = "kind2 name a b c" ∷ halves_lines;
  read = Ok 28;
  table = halves_table;
  outcome = whole
      (print_line 2 "sphere" 1 (minus 32) 3
      ∷ print_line 3 "thin" 1 (pos 0) 3
      ∷ print_line 4 "base" 1 (minus 2) 3
      ∷ print_line 5 "edge" 1 (pos 2) 3
      ∷ print_line 6 "prism" 1 (minus 32) 9
      ∷ []);
  print =
      "label name order state number steps"
      ∷ "2 sphere whole 1 -32 3"
      ∷ "3 thin whole 1 0 3"
      ∷ "4 base whole 1 -2 3"
      ∷ "5 edge whole 1 2 3"
      ∷ "6 prism whole 1 -32 9"
      ∷ [];
}

unfoldable pub samples : List Sample
samples =
    example
    ∷ outermost_alone
    ∷ mixed_order
    ∷ even_of "N - 0 - -" (pos 1) 5 "20 answer whole 1 1 5"
    ∷ even_of "N - 1 - -" (pos 0) 11 "20 answer whole 1 0 11"
    ∷ endless_calls
    ∷ nearest_quotient
    ∷ reads_itself
    ∷ used_twice
    ∷ capital_path
    ∷ capital_clash
    ∷ frame_and_left
    ∷ halves_away
    ∷ halves_even
    ∷ []

-- for document 02, order 4: a sheet of the layout bench, and what its words give, counted by hand. The first pair puts in the number that stands there: its owner `pd` is worked out
-- again, and nothing changes. The second is owned by the function `prism`, which `base` calls: 250 / 10 is 25
abbrev pub bench : RetouchSample
bench = record {
  sheet =
      "kind name a b c"
      ∷ "G - 0 - -"
      ∷ "G right 1 - -"
      ∷ "F prism 1 7 -"
      ∷ "V dec 2 10 -"
      ∷ "V pd 2 11 -"
      ∷ "V base 2 12 -"
      ∷ "D - 8 9 -"
      ∷ "P - - - -"
      ∷ "N - 100 - -"
      ∷ "N - 250 - -"
      ∷ "N - 3100 - -"
      ∷ "C prism 13 - -"
      ∷ "R dec - - -"
      ∷ [];
  pairs =
      record { label = 11; number = pos 3100; redone = 1; failing = 0; steps = 7 }
      ∷ record { label = 9; number = pos 10; redone = 1; failing = 0; steps = 7 }
      ∷ [];
  outcome = whole
      (print_line 4 "dec" 1 (pos 250) 1
      ∷ print_line 5 "pd" 1 (pos 3100) 1
      ∷ print_line 6 "base" 1 (pos 25) 5
      ∷ []);
  numbers = record { line = 9; shows = pos 10 } ∷ record { line = 10; shows = pos 250 } ∷ record { line = 11; shows = pos 3100 } ∷ [];
}

-- the same sheet: a divisor of 0 put into `prism` fails `base`; the next pair mends it, and the last is owned by `dec`, which `base` reads
abbrev pub bench_mended : RetouchSample
bench_mended = record {
  sheet = bench.sheet;
  pairs =
      record { label = 9; number = pos 0; redone = 1; failing = 1; steps = 7 }
      ∷ record { label = 9; number = minus 100; redone = 1; failing = 0; steps = 7 }
      ∷ record { label = 10; number = pos 350; redone = 2; failing = 0; steps = 7 }
      ∷ [];
  outcome = whole
      (print_line 4 "dec" 1 (pos 350) 1
      ∷ print_line 5 "pd" 1 (pos 3100) 1
      ∷ print_line 6 "base" 1 (minus 4) 5
      ∷ []);
  numbers = record { line = 9; shows = minus 100 } ∷ record { line = 10; shows = pos 350 } ∷ record { line = 11; shows = pos 3100 } ∷ [];
}

unfoldable pub retouches : List RetouchSample
retouches = bench ∷ bench_mended ∷ []

-- document 02, order 5, by itself: dividend, divisor, and the quotient by either rule
abbrev dividing : ℤ → ℤ → ℤ → ℤ → QuotientSample
dividing dividend divisor away even = record { dividend = dividend; divisor = divisor; away = away; even = even }

unfoldable pub divisions : List QuotientSample
divisions =
    dividing (minus 3250) (pos 100) (minus 33) (minus 32)
    ∷ dividing (pos 3250) (pos 100) (pos 33) (pos 32)
    ∷ dividing (pos 50) (pos 100) (pos 1) (pos 0)
    ∷ dividing (pos 150) (pos 100) (pos 2) (pos 2)
    ∷ dividing (minus 50) (pos 100) (minus 1) (pos 0)
    ∷ dividing (minus 150) (pos 100) (minus 2) (minus 2)
    ∷ dividing (pos 250) (minus 100) (minus 3) (minus 2)
    ∷ dividing (pos 350) (minus 100) (minus 4) (minus 4)
    ∷ dividing (minus 250) (minus 100) (pos 3) (pos 2)
    ∷ dividing (pos 3249) (pos 100) (pos 32) (pos 32)
    ∷ dividing (minus 3251) (pos 100) (minus 33) (minus 33)
    ∷ dividing (pos 1) (minus 3) (pos 0) (pos 0)
    ∷ dividing (pos 1000000000) (pos 1) (pos 1000000000) (pos 1000000000)
    ∷ []
