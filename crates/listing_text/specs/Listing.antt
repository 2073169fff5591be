-- The listing as text (document 01, "Listing and examples").
-- Assumes nothing.
use Rattle.std.specs.Prelude.{List, [], ◌∷◌, ◌++◌, ℕ, ◌+◌, take}
use Rattle.std.proofs.Math.Option.{none, some}
use Rattle.spec.specs.Lists.{gather, span}
use Rattle.spec.specs.Record.{class_name}
use Rattle.spec.specs.Sheet.{class_count, group, class_record}
use Rattle.spec.specs.Rules.{Verdict}
use Rattle.spec.specs.Verdicts.{user_verdict}
use Rattle.spec.specs.Refusals.{Refusal, judge_refusal}
use Rattle.spec.specs.Promises.{Counts, counts_of}
use Rattle.text.specs.Text.{decimal}

-- "classes ", " faulted ", "refused ", " sheet ", " byte " in ASCII
unfoldable pub classes_word : List ℕ
classes_word = 99 ∷ 108 ∷ 97 ∷ 115 ∷ 115 ∷ 101 ∷ 115 ∷ 32 ∷ []

unfoldable pub faulted_word : List ℕ
faulted_word = 32 ∷ 102 ∷ 97 ∷ 117 ∷ 108 ∷ 116 ∷ 101 ∷ 100 ∷ 32 ∷ []

unfoldable pub refused_word : List ℕ
refused_word = 114 ∷ 101 ∷ 102 ∷ 117 ∷ 115 ∷ 101 ∷ 100 ∷ 32 ∷ []

unfoldable pub sheet_word : List ℕ
sheet_word = 32 ∷ 115 ∷ 104 ∷ 101 ∷ 101 ∷ 116 ∷ 32 ∷ []

unfoldable pub byte_word : List ℕ
byte_word = 32 ∷ 98 ∷ 121 ∷ 116 ∷ 101 ∷ 32 ∷ []

abbrev pub space : List ℕ
space = 32 ∷ []

abbrev pub newline : List ℕ
newline = 10 ∷ []

-- "prints the counts"
unfoldable pub counts_text : Counts → List ℕ
counts_text c = classes_word ++ (decimal c.classes ++ (faulted_word ++ (decimal c.faulted ++ newline)))

-- "A refusal prints one line, as `refused 2 sheet 1 byte 0`"
unfoldable pub refusal_text : Refusal → List ℕ
refusal_text r = refused_word ++ (decimal r.number ++ (sheet_word ++ (decimal r.sheet ++ (byte_word ++ (decimal r.byte ++ newline)))))

-- "per user class number, name, rule, place"; 02, C-16: "prints the new number last"
unfoldable pub line_of : ℕ → List ℕ → Verdict → List ℕ
line_of c name v = decimal c ++ (space ++ (name ++ (space ++ (decimal v.rule ++ (space ++ (decimal v.record_number ++ (space ++ (decimal v.class ++ newline))))))))

module _ (library user : List ℕ) where
  -- that of the i-th one
  unfoldable pub line_text : ℕ → List ℕ
  line_text i = let c = class_count library + i in line_of c (class_name (class_record (group library user c))) (user_verdict library user i)

-- the verdicts of as many classes as there can be
abbrev pub listed_lines : ℕ
listed_lines = 256

unfoldable pub listing_text : List ℕ → List ℕ → ℕ → ℕ → List ℕ
listing_text library user used scratch = elim (judge_refusal library user used listed_lines scratch) [
  | some r ↦ refusal_text r
  | none ↦ counts_text (counts_of library (take used user)) ++ gather (line_text library (take used user)) (span 0 (class_count (take used user)))
]
