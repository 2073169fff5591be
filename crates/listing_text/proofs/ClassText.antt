-- The line of a user class, how long it is, and the lines one after another.
-- Assumes nothing.
use mathlib.Core.Path.{◌≡◌, refl, sym, ap, ◌∙◌, subst}
use mathlib.Core.List.{List, [], ◌++◌, append_assoc, append-nil}
use Prim.Native.Nat.{ℕ, zero, suc, ◌+◌, ◌*◌, ◌≤◌, ◌<◌}
use native.Mathlib.Nat.{add-zero, add-suc, suc-add, zero-add}
use native.Mathlib.Omega.{arith}
use lib.ListN.{length, get_or, length-append, length-drop}
use lib.Seq.{get_or-append-add}
use Rattle.spec.specs.Lists.{gather, span}
use Rattle.spec.specs.Record.{class_name}
use Rattle.spec.specs.Sheet.{groups_of, class_count, group_start, group, class_record}
use Rattle.spec.specs.Verdicts.{verdict_bytes, user_verdict, flat_at}
use Rattle.theory.specs.Claims.{running}
use Rattle.theory.proofs.Running.{begins}
use Rattle.groups.proofs.Held.{class_fits}
use Rattle.groups.proofs.Sheets.{none_left}
use Rattle.text.specs.Text.{decimal}
use Rattle.text.specs.Written.{Writes}
use Rattle.text.specs.declared.Writer.{Writer}
use Rattle.text.proofs.Digits.{decimal_length}
use Rattle.listing_text.specs.Listing.{line_of, line_text, space, newline}
use Rattle.groups.specs.Sheets.{UserSheet}
use Rattle.listing_text.specs.Rows.{RowHolds}
use Rattle.text.proofs.Texts.{put_none, put_same, put_then}

-- ---- one line

-- the group of the i-th user class, by its number
user_group : (library sheet : List ℕ) (i : ℕ) → group library sheet (class_count library + i) ≡ get_or (groups_of sheet) i []
unfolding group class_count
user_group library sheet i = get_or-append-add (groups_of library) (groups_of sheet) i []

module _ {sheet : List ℕ} {i : ℕ} (h : i < class_count sheet) where
  pub line_short : {nlib : ℕ} → UserSheet nlib sheet → (library : List ℕ) → length (line_text library sheet i) ≤ 185
  unfolding line_text line_of class_name
  line_short u library =
      let c = class_count library + i in
      let v = user_verdict library sheet i in
      let s : length (class_record (group library sheet c)) ≤ 112 = rw (user_group library sheet i) (class_fits u.clear i h).1 in
      simp (length-append, length-drop) (omega (arith, decimal_length c, decimal_length v.rule, decimal_length v.record_number, decimal_length v.class))

  -- a line by what the code reads is that of the class, beside the library whose verdicts the row holds
  pub line_is : {nlib : ℕ} {verdicts : List ℕ} (library : List ℕ) → nlib ≡ class_count library → RowHolds library sheet verdicts
      → line_of (nlib + i) (class_name (class_record (get_or (groups_of sheet) i []))) (flat_at verdicts i) ≡ line_text library sheet i
  unfolding line_text
  line_is library en w = rw (en, w.verdicts i h, user_group library sheet i)

-- the verdict's bytes as the code reads them
pub line_read : (c : ℕ) (verdicts : List ℕ) (i : ℕ) {name name' : List ℕ} → name ≡ name' → {rule place class : ℕ}
    → rule ≡ get_or verdicts (verdict_bytes * i) 0 → place ≡ get_or verdicts (verdict_bytes * i + 1) 0 → class ≡ get_or verdicts (verdict_bytes * i + 2) 0
    → decimal c ++ (space ++ (name ++ (space ++ (decimal rule ++ (space ++ (decimal place ++ (space ++ (decimal class ++ newline)))))))) ≡ line_of c name' (flat_at verdicts i)
unfolding line_of flat_at
line_read c verdicts i e er ep ec = rw (e, er, ep, ec)

-- ---- the lines

gather_last : (f : ℕ → List ℕ) (k m : ℕ) → gather f (span k (suc m)) ≡ gather f (span k m) ++ f (k + m)
unfolding gather span
gather_last f k zero = append-nil (f k) ∙ ap f (sym (add-zero k))
gather_last f k (suc m) =
    ap (λ (r : List ℕ). f k ++ r) (gather_last f (suc k) m)
    ∙ sym (append_assoc (f k) (gather f (span (suc k) m)) (f (suc k + m)))
    ∙ ap (λ (j : ℕ). (f k ++ gather f (span (suc k) m)) ++ f j) (suc-add k m ∙ sym (add-suc k m))

-- the first i lines are written, and `start` has run along to the i-th class
pub record Lines (library sheet : List ℕ) (first writer : Writer) (i start : ℕ) : Type 0 where
  pub high : i ≤ class_count sheet
  pub short : writer.at ≤ first.at + 185 * i
  pub reached : start ≡ running sheet i
  pub text : Writes first (gather (line_text library sheet) (span 0 i)) writer

module _ {library sheet : List ℕ} {first : Writer} where
  pub lines_start : Lines library sheet first first 0 0
  unfolding gather span running
  lines_start = record { high = omega arith; short = omega arith; reached = refl; text = put_none }

  module _ {nlib : ℕ} (u : UserSheet nlib sheet) {writer : Writer} {i start : ℕ} (f : Lines library sheet first writer i start) where
    -- it is the byte where the group begins
    pub begins_there : start ≡ group_start sheet i
    begins_there = f.reached ∙ begins u.clear i f.high

    pub lines_next : i < class_count sheet → {writer' : Writer} {start' : ℕ} → Writes writer (line_text library sheet i) writer' → start' ≡ running sheet (i + 1)
        → Lines library sheet first writer' (i + 1) start'
    lines_next h w r =
        let e : i + 1 ≡ suc i = omega arith in
        let g : gather (line_text library sheet) (span 0 i) ++ line_text library sheet i ≡ gather (line_text library sheet) (span 0 (i + 1)) =
        sym (ap (λ (k : ℕ). gather (line_text library sheet) (span 0 k)) e
        ∙ gather_last (line_text library sheet) 0 i
        ∙ ap (λ (k : ℕ). gather (line_text library sheet) (span 0 i) ++ line_text library sheet k) (zero-add i)) in
        record {
          high = omega arith;
          short = omega (arith, w.written.place, f.short, line_short h u library);
          reached = r;
          text = put_same g (put_then f.text w);
        }

    -- at the sheet's end there are no more
    pub lines_end : length sheet ≤ start → Writes first (gather (line_text library sheet) (span 0 (class_count sheet))) writer
    lines_end l = subst (λ (k : ℕ). Writes first (gather (line_text library sheet) (span 0 k)) writer) (none_left u i f.high f.reached l) f.text
