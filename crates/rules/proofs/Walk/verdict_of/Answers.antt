-- What is left of the walk finds what the whole walk finds.
use mathlib.Core.Path.{◌≡◌, refl, sym, ap, ap₂, ◌∙◌, subst}
use mathlib.Core.Bool.{true}
use mathlib.Core.List.{[]}
use mathlib.Core.Logic.{inl}
use Prim.Native.Nat.{ℕ, suc, ◌+◌, ◌<◌}
use native.Mathlib.Omega.{arith}
use lib.ListN.{length}
use Rattle.std.specs.Prelude.{None, Some}
use Rattle.std.proofs.Common.{Bor}
use Rattle.spec.specs.Sheet.{Group}
use Rattle.sheets.specs.Sheets.{Pair, count, groups, library_count}
use Rattle.sheets.proofs.Indexes.{indexed}
use Rattle.groups.proofs.Few.{group_few}
use Rattle.breaks.specs.declared.judging.Judging.{Judging}
use Rattle.breaks.specs.declared.rule.Rule.{Rule}
use Rattle.breaks.specs.Breaking.{asks_first}
use Rattle.breaks.specs.Beyond.{captured_at}
use Rattle.rules.specs.Walk.{from_class, rule_at, found, next_class}
use Rattle.rules.proofs.Ground.{ground}
use Rattle.rules.proofs.Ascent.{rank}
use Rattle.rules.proofs.Stepping.{only_asks}
use Rattle.rules.proofs.Judging.{ClassAt, class_start, class_end, class_next, class_hit, class_clear, class_cleared, rule_start, rule_end, rule_unasked, rule_hit, walked_hit, walked_base}
use Rattle.rules.proofs.Judging.{record_left, record_start, record_end, record_only, record_next, record_here, record_few, record_hit, records_none, first_none, first_some, last_none}
use Rattle.rules.proofs.Keeping.{sound_none}
use Rattle.rules.proofs.Walk.verdict_of.Goals as goal
use Rattle.rules.proofs.Walk.verdict_of.Goals.{After-captured_site, After-sound, in-None, in-Some-2+else-breaks+then-alone}

pub loop-rule-init : goal.loop-rule-init
loop-rule-init c = (refl, rule_start)

pub loop-rule-preserved-then-not-applies : goal.loop-rule-preserved-then-not-applies
loop-rule-preserved-then-not-applies c =
    let j = c.args.self.now.judging.now in
    let w = ground c.library_count-nlib.ensures.passed j.formed.now.formed in
    (c.loop-rule.invariant.0, rule_unasked w c.requires.user_class c.requires.there c.loop-rule.invariant.1 (sym c.applies.ensures ∙ c.if-not-applies.true))

pub loop-next-init : goal.loop-next-init
loop-next-init c =
    let w = ground c.library_count-nlib.ensures.passed c.args.self.now.judging.now.formed.now.formed in
    (c.loop-rule.invariant.0, class_start w c.requires.user_class c.requires.there _ (sym c.applies.ensures ∙ c.if-not-applies.false))

pub clear-requires : goal.clear-requires
clear-requires c = let k = rw c.in-Some.is at c.loop-next.invariant.1 in omega (arith, k.spot.there, c.library_count-nlib.ensures.passed.few)

-- where an earlier walk found nothing in the class and above it
pub loop-next-smaller-then-clear : goal.loop-next-smaller-then-clear
loop-next-smaller-then-clear c = omega (arith, ap rank c.in-Some.is)

pub loop-next-preserved-then-clear : goal.loop-next-preserved-then-clear
loop-next-preserved-then-clear c =
    let k = rw c.in-Some.is at c.loop-next.invariant.1 in
    (c.loop-next.invariant.0, class_clear k (sound_none (rw c.loop-next.invariant.0 at c.loop-next.self.is_cleared) _ _ c.clear.ensures c.if-clear.true))

pub group-group-requires : goal.group-group-requires
group-group-requires c = let k = rw c.in-Some.is at c.loop-next.invariant.1 in k.spot.there

pub sound-requires : goal.sound-requires
sound-requires c = let k = rw c.in-Some.is at c.loop-next.invariant.1 in omega (arith, k.spot.there, c.library_count-nlib.ensures.passed.few)

pub loop-number-init : goal.loop-number-init
loop-number-init c =
    let h = c.enumerate-number-items.ensures in
    let e = h.source ∙ c.records.ensures.records in
    rw (c.into_iter-number-iterator.ensures.into_iter_gives, h.count)
    ((tt, tt, inl (omega (arith, ap length e, c.records.ensures.few))), tt, record_start _ _ _ _ (e ∙ c.group-group.ensures))

pub breaks-requires : goal.breaks-requires
breaks-requires c =
    let s = c.in-Some-2.ensures.steps in
    let k = rw c.in-Some.is at c.loop-next.invariant.1 in
    let f = rw (← s.1) at c.loop-number.invariant.2 in
    record {
      asked_there = k.spot.there;
      standing = record_here f s.0;
      third = λ e. f.one (only_asks _ _ _ (ap asks_first e));
      sixth = λ e. f.one (only_asks _ _ _ (ap asks_first e));
    }

pub overflow_cast-result-then-breaks : goal.overflow_cast-result-then-breaks
overflow_cast-result-then-breaks c =
    let s = c.in-Some-2.ensures.steps in
    let f = rw (← s.1) at c.loop-number.invariant.2 in
    omega (arith, record_few f s.0, group_few (indexed c.library_count-nlib.ensures.passed) c.in-Some.t)

pub overflow_cast-result : goal.overflow_cast-result
overflow_cast-result c = let k = rw c.in-Some.is at c.loop-next.invariant.1 in omega (arith, k.spot.there, c.library_count-nlib.ensures.passed.few)

pub loop-number-preserved : goal.loop-number-preserved
loop-number-preserved c =
    let s = c.in-Some-2.ensures.steps in
    let f = rw (← s.1) at c.loop-number.invariant.2 in
    let alone = rw c.library_count-nlib.ensures.count at c.first_only-alone.ensures in
    let j : c.next.new.self.count ≡ c.in-Some-2.number + 1 = omega (arith, s.1, s.2) in
    let next = record_next f s.0 (sym c.breaks.ensures ∙ c.if-breaks.false) (sym alone ∙ c.if-alone.false) j in
    ((tt, tt, inl (omega (arith, record_left next, record_few f s.0, group_few (indexed c.library_count-nlib.ensures.passed) c.in-Some.t))), tt, next)

-- all records of the class are asked, or the first alone is; what is found in it is the captured variables'
asked_all : (c : After-captured_site) → let p = c.args.self.now.judging.now.formed.now.sheets in let rule = rule_at c.loop-rule.rule-index in
    found (library_count p) (groups p) rule c.in-Some.t ≡ captured_at (library_count p) (groups p) rule c.in-Some.t
asked_all c = records_none _ _ _ _ (elim c.match-next-2.branch [
  | in-None w ↦ record_end c.loop-number.invariant.2 w.in-None.ensures.steps.0.0
  | in-Some-2+else-breaks+then-alone w ↦
      let s = w.in-Some-2.ensures.steps in
      let f = rw (← s.1) at c.loop-number.invariant.2 in
      let alone = rw c.library_count-nlib.ensures.count at c.first_only-alone.ensures in
      record_only f s.0 (sym w.breaks.ensures ∙ w.if-breaks.false) (sym alone ∙ w.if-alone.true)
])

-- nothing is found in class t
abbrev NoneIn : Pair → Rule → ℕ → Type 0
NoneIn p rule t = found (library_count p) (groups p) rule t ≡ []

none_found : (c : After-captured_site) → c.captured_site.result ≡ None → NoneIn c.args.self.now.judging.now.formed.now.sheets (rule_at c.loop-rule.rule-index) c.in-Some.t
none_found c n = asked_all c ∙ first_none _ c.captured_site.ensures n

pub keep-requires : goal.keep-requires
keep-requires c =
    let k = rw c.in-Some.is at c.loop-next.invariant.1 in
    (omega (arith, k.spot.there, c.library_count-nlib.ensures.passed.few), rw c.loop-next.invariant.0 (none_found (goal.at.keep-requires c).After-captured_site c.in_default-captured_site.is))

-- so the walk goes to the next one
upward : (c : After-sound) → let p = c.args.self.now.judging.now.formed.now.sheets in let rule = rule_at c.loop-rule.rule-index in let next = c.next_class-next.result in
    NoneIn p rule c.in-Some.t → ClassAt (library_count p) (count p) (groups p) c.args.c rule next × (rank next < suc c.in-Some.t)
upward c z =
    let w = ground c.library_count-nlib.ensures.passed c.args.self.now.judging.now.formed.now.formed in
    let k = rw c.in-Some.is at c.loop-next.invariant.1 in
    let e = c.next_class-next.ensures ∙ ap₂ (λ (nlib : ℕ) (g : Group). next_class nlib (rule_at c.loop-rule.rule-index) c.in-Some.t g) c.library_count-nlib.ensures.count c.group-group.ensures in
    class_next w c.requires.user_class c.requires.there k z e

-- where an earlier one found nothing
passed_by : (c : After-sound) → c.sound.result ≡ true → NoneIn c.args.self.now.judging.now.formed.now.sheets (rule_at c.loop-rule.rule-index) c.in-Some.t
passed_by c s = sound_none (rw c.loop-next.invariant.0 at c.loop-next.self.is_kept) _ _ c.sound.ensures s

pub loop-next-smaller-then-sound : goal.loop-next-smaller-then-sound
loop-next-smaller-then-sound c =
    let k = (goal.at.loop-next-smaller-then-sound c).After-sound in omega (arith, (upward k (passed_by k c.if-sound.true)).1, ap rank c.in-Some.is)

pub loop-next-preserved-then-sound : goal.loop-next-preserved-then-sound
loop-next-preserved-then-sound c =
    let k = (goal.at.loop-next-preserved-then-sound c).After-sound in (c.loop-next.invariant.0, (upward k (passed_by k c.if-sound.true)).0)

pub loop-next-smaller : goal.loop-next-smaller
loop-next-smaller c = let k = goal.at.loop-next-smaller c in omega (arith, (upward k.After-sound (none_found k.After-captured_site c.in_default-captured_site.is)).1, ap rank c.in-Some.is)

pub loop-next-preserved : goal.loop-next-preserved
loop-next-preserved c = let k = goal.at.loop-next-preserved c in (c.keep.ensures ∙ c.loop-next.invariant.0, (upward k.After-sound (none_found k.After-captured_site c.in_default-captured_site.is)).0)

pub keep_above-requires : goal.keep_above-requires
keep_above-requires c =
    let w = ground c.library_count-nlib.ensures.passed c.args.self.now.judging.now.formed.now.formed in
    let k = rw c.in_default.is at c.loop-next.invariant.1 in
    let clean : Bor Judging → Type 0 = λ j. from_class (library_count j.now.formed.now.sheets) (groups j.now.formed.now.sheets) (rule_at c.loop-rule.rule-index) (Some c.args.c) ≡ [] in (
      omega (arith, c.requires.there, c.library_count-nlib.ensures.passed.few),
      subst clean (sym c.loop-next.invariant.0) (class_cleared w c.requires.user_class c.requires.there k),
    )

pub loop-rule-preserved : goal.loop-rule-preserved
loop-rule-preserved c =
    let p = c.args.self.now.judging.now.formed.now.sheets in
    let w = ground c.library_count-nlib.ensures.passed c.args.self.now.judging.now.formed.now.formed in (
      c.keep_above.ensures ∙ c.loop-next.invariant.0,
      class_end w c.requires.user_class c.requires.there c.loop-rule.invariant.1 (rw c.in_default.is at c.loop-next.invariant.1)
          (last_none (library_count p) (groups p) (rule_at c.loop-rule.rule-index) c.args.c c.breaks_base.ensures c.if-breaks_base.false),
    )

pub returns-then-breaks-clause-verdict : goal.returns-then-breaks-clause-verdict
returns-then-breaks-clause-verdict c =
    let j = c.args.self.now.judging.now in
    let w = ground c.library_count-nlib.ensures.passed j.formed.now.formed in
    let s = c.in-Some-2.ensures.steps in
    let k = rw c.in-Some.is at c.loop-next.invariant.1 in
    let f = rw (← s.1) at c.loop-number.invariant.2 in
    rule_hit w c.requires.user_class c.requires.there c.loop-rule.invariant.1 c.loop-rule-test.true
    (walked_hit _ _ _ _ k.asks (class_hit k (record_hit f s.0 (sym c.breaks.ensures ∙ c.if-breaks.true))))

pub returns-in-Some-captured_site-clause-verdict : goal.returns-in-Some-captured_site-clause-verdict
returns-in-Some-captured_site-clause-verdict c =
    let j = c.args.self.now.judging.now in
    let w = ground c.library_count-nlib.ensures.passed j.formed.now.formed in
    let k = rw c.in-Some.is at c.loop-next.invariant.1 in
    let all = asked_all (goal.at.returns-in-Some-captured_site-clause-verdict c).After-captured_site in
    rule_hit w c.requires.user_class c.requires.there c.loop-rule.invariant.1 c.loop-rule-test.true
    (walked_hit _ _ _ _ k.asks (class_hit k (all ∙ (first_some _ c.captured_site.ensures c.in-Some-captured_site.is).1)))

pub returns-then-breaks_base-clause-verdict : goal.returns-then-breaks_base-clause-verdict
returns-then-breaks_base-clause-verdict c =
    let j = c.args.self.now.judging.now in
    let w = ground c.library_count-nlib.ensures.passed j.formed.now.formed in
    let k = rw c.in_default.is at c.loop-next.invariant.1 in
    rule_hit w c.requires.user_class c.requires.there c.loop-rule.invariant.1 c.loop-rule-test.true
    (walked_base _ _ _ _ k (sym c.breaks_base.ensures ∙ c.if-breaks_base.true))

pub returns-after-loop-rule-clause-verdict : goal.returns-after-loop-rule-clause-verdict
returns-after-loop-rule-clause-verdict c =
    let j = c.args.self.now.judging.now in
    sym (rule_end (ground c.library_count-nlib.ensures.passed j.formed.now.formed) c.requires.user_class c.requires.there c.loop-rule.invariant.1 c.loop-rule-test.false)
