-- The marks that a walk along a word, or a row, has not come to yet.
use Rattle.std.specs.Prelude.{List, ℕ, ◌*◌, ◌++◌}
use Rattle.marks.specs.declared.walk.WordMarks.{WordMarks}
use Rattle.marks.specs.declared.walk.CommonMarks.{CommonMarks}
use Rattle.marks.specs.Marks.{places, shared}

unfoldable pub word_left : WordMarks → List ℕ
word_left walk = places 64 (64 * walk.index) walk.word

-- those of the word at hand, then those of the words to come
unfoldable pub marks_left : CommonMarks → List ℕ
marks_left walk = word_left walk.word ++ shared (64 * walk.at) walk.row.now walk.mask.now
