-- What the tests of a class tell of its verdict.
-- Assumes nothing.
use mathlib.Core.Path.{◌≡◌, refl, sym, ap, ap₂, ◌∙◌}
use mathlib.Core.Bool.{Bool, true, false, not, ◌&&◌, ◌||◌}
use mathlib.Core.List.{List}
use mathlib.Core.Option.{none}
use Prim.Native.Nat.{ℕ, ◌≤◌, ◌<◌}
use lib.ListN.{get_or}
use Rattle.std.specs.Prelude.{is_some}
use Rattle.spec.specs.Lists.{any}
use Rattle.spec.specs.Record.{bit}
use Rattle.spec.specs.Sheet.{Group, class_record, is_interface}
use Rattle.spec.specs.Classes.{overlay}
use Rattle.spec.specs.Rules.{verdict_of}
use Rattle.spec.specs.Refusals.{form_refusal}
use Rattle.records.specs.declared.record.Head.{Head}
use Rattle.records.specs.Kinds.{head_of}
use Rattle.sheets.specs.Sheets.{Pair, Passed, count, groups, library_count}
use Rattle.overlay.specs.Types.{Known}
use Rattle.slots.specs.declared.Late.{Late}
use Rattle.slots.specs.declared.Late.TheVariants.{Immutable, Powerless, Selfless, DeepSelfless}
use Rattle.slots.specs.Slots.{rule_marker, base_by}
use Rattle.slots.proofs.Sets.{twice}
use Rattle.slots.proofs.Base.{base_is}
use Rattle.survey.specs.Survey.{is_clean, head_by, head_fails, any_late, record_breaks, line_breaks, late_breaks, class_breaks, ClassSet}
use Rattle.survey.proofs.Lines.{above_some}
use Rattle.survey.proofs.Verdicts.{clean_is}

late_same : (m : ℕ) (p q : Late → Bool) → ((rule : Late) → p rule ≡ q rule) → any_late m p ≡ any_late m q
unfolding any_late any
late_same m p q e = rw (e Immutable, e Powerless, e Selfless, e DeepSelfless)

module _ (p : Pair) {c : ℕ} (there : c < count p) {head : Head} (e : head ≡ head_of (class_record (groups p c))) {markers : List ℕ} (known : Known (groups p) markers)
    {rs : Group} (are : rs ≡ groups p c) where
  abbrev nlib : ℕ
  nlib = library_count p

  abbrev g : ℕ → Group
  g = groups p

  abbrev m : ℕ
  m = get_or markers c 0

  -- some record, the CLASS record among them, breaks one of rules 1 to 6
  abbrev early : Bool
  early = head_by head.flags head.markers m || any (record_breaks nlib g) rs

  -- rule 9's second part is broken, as `base` tells, or by this set a slot breaks one of rules 7 to 10
  abbrev late_with : Bool → ℕ → Bool
  late_with base set = (bit 2 m && base) || any_late m (λ rule. not (bit (rule_marker rule) set))

  -- where there is a superclass
  abbrev late_by : ℕ → Bool
  late_by set = late_with (base_by head markers) set

  parts : is_clean (verdict_of nlib g c) ≡ not (early || (not (is_interface (g c)) && late_breaks nlib g c))
  unfolding class_breaks head_fails
  parts =
      clean_is nlib g c
      ∙ ap not
      (swap (any (record_breaks nlib g) (g c)) (head_fails (class_record (g c)) (overlay g c)) (not (is_interface (g c)) && late_breaks nlib g c)
      ∙ ap₂ (λ (a b : Bool). (a || b) || (not (is_interface (g c)) && late_breaks nlib g c))
      (ap₂ (λ (h : Head) (k : ℕ). head_by h.flags h.markers k) (sym e) (sym (known.is c)))
      (ap (any (record_breaks nlib g)) (sym are)))
    where
      swap : (a b r : Bool) → (a || (b || r)) ≡ ((b || a) || r)
      swap true true r = refl
      swap true false r = refl
      swap false true r = refl
      swap false false r = refl

  pub faulted : {b : Bool} → b ≡ not early → b ≡ false → b ≡ is_clean (verdict_of nlib g c)
  faulted {b} eb f = f ∙ sym (parts ∙ ap (λ (x : Bool). not (x || (not (is_interface (g c)) && late_breaks nlib g c))) (sym (twice early) ∙ ap not (sym eb ∙ f)))

  -- of any sheets, accepted or not: where there is no superclass none is asked
  pub fine_any : {b : Bool} → b ≡ not early → b ≡ true → {set : ℕ} → ClassSet nlib g c set
      → {l : Bool} → l ≡ (bit 0 head.flags || not (late_with (is_some head.superclass && base_by head markers) set)) → l ≡ is_clean (verdict_of nlib g c)
  unfolding is_interface late_breaks
  fine_any {b} eb t {set} s {l} el =
      el ∙ go (bit 0 head.flags) (ap (λ (h : Head). bit 0 h.flags) (sym e))
      ∙ sym (parts ∙ ap (λ (x : Bool). not (x || (not (is_interface (g c)) && late_breaks nlib g c))) (sym (twice early) ∙ ap not (sym eb ∙ t)))
    where
      go : (i : Bool) → is_interface (g c) ≡ i → (i || not (late_with (is_some head.superclass && base_by head markers) set)) ≡ not (not (is_interface (g c)) && late_breaks nlib g c)
      go true i = rw i
      go false i =
          rw i
          (ap not
          (ap₂ (λ (x y : Bool). x || y)
          (ap₂ (λ (k : ℕ) (x : Bool). bit 2 k && x) (known.is c) (sym (base_is p there e known)))
          (late_same m (λ rule. not (bit (rule_marker rule) set)) (λ rule. line_breaks nlib g rule c) (λ rule. ap not ((s.class i).is rule) ∙ twice (line_breaks nlib g rule c))
          ∙ ap (λ (k : ℕ). any_late k (λ rule. line_breaks nlib g rule c)) (known.is c))))

  -- of accepted ones: rules 7 to 10 ask a class that has a superclass
  pub fine : Passed p → form_refusal p.library p.user ≡ none → {b : Bool} → b ≡ not early → b ≡ true → nlib ≤ c
      → {set : ℕ} → ClassSet nlib g c set → {l : Bool} → l ≡ (bit 0 head.flags || not (late_by set)) → l ≡ is_clean (verdict_of nlib g c)
  unfolding is_interface
  fine x ok eb t user {set} s el = fine_any eb t s (el ∙ go (bit 0 head.flags) (ap (λ (h : Head). bit 0 h.flags) (sym e)))
    where
      go : (i : Bool) → is_interface (g c) ≡ i → (i || not (late_by set)) ≡ (i || not (late_with (is_some head.superclass && base_by head markers) set))
      go true i = refl
      go false i =
          ap (λ (b : Bool). not (late_with (b && base_by head markers) set)) (sym (above_some p ok (record { passed = x; user_class = user; there = there; says = e; concrete = i })))
