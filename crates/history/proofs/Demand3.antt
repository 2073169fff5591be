-- Demand 3: along any list of calls the verdict row holds what judging the model's sheets from nothing would give, and every answer is the model's.
-- Each call keeps one invariant. A verdict that is written is the new sheets' by what the promise says; one that is not written is so still by locality.
-- Assumes nothing.
use mathlib.Core.Path.{◌≡◌, refl, sym, ap, ◌∙◌, subst}
use mathlib.Core.Logic.{◌⊎◌, inl, inr}
use mathlib.Core.Bool.{not, ◌||◌}
use mathlib.Core.List.{List, [], ◌∷◌, ◌++◌}
use mathlib.Core.Option.{Option, none, some}
use Prim.Native.Nat.{ℕ, ◌+◌, ◌-◌, ◌≤◌, ◌<◌}
use native.Mathlib.Omega.{arith}
use lib.Dec.{T, T_not, not_T, leb, ltb, eqb→eq, ltb→lt, lt→ltb, nltb→le}
use lib.ListN.{length, take, drop, length-append, length-set, take-append-drop}
use lib.Seq.{length-take-le}
use Rattle.spec.specs.Lists.{elem}
use Rattle.spec.specs.Sheet.{Group, class_count, total, group}
use Rattle.spec.specs.Rules.{Verdict, dependencies}
use Rattle.spec.specs.Relations.{Depends}
use Rattle.spec.specs.Breaks.{Not}
use Rattle.spec.specs.Refusals.{Refusal, sheet_limit, scratch_length, added_sheet, replaced_sheet, withdrawn_sheet, sheet_refusal, present_refusal, no_user_refusal, short_refusal}
use Rattle.spec.specs.Refusals.{judge_refusal, add_refusal, replace_refusal, withdraw_refusal}
use Rattle.spec.specs.Verdicts.{VerdictRow, flat, verdict_at, user_verdict, depends_on}
use Rattle.spec.specs.Promises.{Answer, accepted, Counts, counts_of, judged_row, Judges, State, Edit}
use Rattle.laws.proofs.Bools.{decide, and_l, not_or_l, eq→eqb}
use Rattle.laws.proofs.All.{All, all_append, all_set, all_take}
use Rattle.theory.proofs.Cut.{IsGroup, count_of_join, sheet_grouped, sheet_groups}
use Rattle.theory.proofs.Answers.{first_none, none_first, plain_none}
use Rattle.theory.proofs.Demand2.{demand2}
use Rattle.theory.proofs.Local.{verdict_same, locality}
use Rattle.theory.proofs.Withdraw.{some_class, withdrawn_group, withdrawn_count}
use Rattle.theory.proofs.Form.{depends_on_lem}
use Rattle.theory.proofs.Accept.{Clear, Sound, sound, references_below}
use Rattle.theory.proofs.Promised.{told_fine, kept_refused, new_fine}
use Rattle.history.specs.Model.{Call, add, replace, withdraw, Model, sheet, used, buffer, opened, model_refusal, new_groups, new_sheet, model_value, model_answer, changed}
use Rattle.history.specs.Judged.{RightAt}
use Rattle.history.specs.Demand3.{RowLaws, Dependent, Value, MayChange, Done, Runs, LineLeft, Agrees, Answers, Follows, Demand3}
use Rattle.history.proofs.Flat.{flat_laws}
use Rattle.history.proofs.Counting.{counted_by}
use Rattle.theory.proofs.Unrefused.{Present, present_facts, facts_present, short_none, none_short, edit_passes}
use Rattle.history.proofs.Model.{total_count, added_group, set_group, front_is}
use Rattle.history.proofs.Steps.{library_stays, writes, written_by, made_is, why, next, Modelled, ModelHolds}
use Rattle.history.proofs.Steps.{edit_is, modelled, user_after, used_after, state_stays, model_stays, model_changes, row_changes}
use Rattle.history.proofs.Made.{Acceptable, made_acceptable}

-- what is known of an accepted call itself: its group is whole, and the class that it replaces is a user class; there is a class to take out, and no other names it
abbrev Suits : Model → Call → Type 0
Suits m (add g) = IsGroup g
Suits m (replace c g) = IsGroup g × (class_count m.library ≤ c)
Suits m withdraw = (1 ≤ length m.groups) × (sheet_refusal m.library (sheet m) ≡ none)

new_whole : (m : Model) (call : Call) → All IsGroup m.groups → Suits m call → All IsGroup (new_groups m call)
unfolding new_groups
new_whole m (add g) w u = all_append IsGroup m.groups (g ∷ []) w (u, tt)
new_whole m (replace c g) w u = all_set IsGroup m.groups (c - class_count m.library) g w u.0
new_whole m withdraw w u = all_take IsGroup (length m.groups - 1) m.groups w

-- ---- a call that is not refused

record Ready (m : Model) (call : Call) : Type 0 where
  suits : Suits m call
  acceptable : Acceptable m.library (new_sheet m call) m.lines

module _ (m : Model) (w : All IsGroup m.groups) where
  suited : (call : Call) (scratch : ℕ) → model_refusal m call scratch ≡ none → Suits m call
  unfolding model_refusal add_refusal replace_refusal withdraw_refusal no_user_refusal
  suited (add g) scratch e = (edit_passes m.library (buffer m) g (added_sheet (take (used m) (buffer m)) g) m.lines scratch (first_none _ e).1).whole
  suited (replace c g) scratch e =
      let q = first_none _ e in
      let p = edit_passes m.library (buffer m) g (replaced_sheet m.library (take (used m) (buffer m)) c g) m.lines scratch q.1.1 in
      let all : ℕ = total m.library (take (used m) (buffer m)) in
      let there = not_or_l (ltb c (class_count m.library)) (leb all c) (plain_none (ltb c (class_count m.library) || leb all c) 13 q.1.0) in
      (p.whole, nltb→le c (class_count m.library) there)
  suited withdraw scratch e =
      let q = first_none _ e in
      let f = present_facts m.library (buffer m) (used m) q.0 in
      let whole : class_count (sheet m) ≡ length m.groups = (unfold sheet in count_of_join m.groups w) in
      (omega (arith, some_class (take (used m) (buffer m)) q.1.0, ap class_count (front_is m), whole), ap (sheet_refusal m.library) (sym (front_is m)) ∙ f.sheets)

-- what the operation's edit says of the program's buffers, the model's says of its own
ready : (row : VerdictRow) (m : Model) (s : State row) → ModelHolds row m s → (call : Call) (scratch : ℕ) → model_refusal m call scratch ≡ none → Ready m call
ready row m s h call scratch e = record {
  suits = suited m h.whole call scratch e;
  acceptable = subst (Acceptable m.library (new_sheet m call)) h.lines_are
      (subst (λ (t : Edit). t.refusal ≡ none → Acceptable m.library t.sheet (row.lines s.verdicts)) (edit_is row m s h call scratch)
      (made_acceptable row m.library s call scratch) e);
}

-- ---- the verdicts that may change are those that are written

module _ (m : Model) where
  written_may : (call : Call) → Suits m call → Sound m.library (new_sheet m call) → (i : ℕ) → T (writes m call i) → MayChange m call i
  unfolding writes depends_on
  written_may (add g) u s i t = eqb→eq i (length m.groups) t
  written_may (replace c g) u s i t =
      let new : List ℕ = new_sheet m (replace c g) in
      let d : ℕ = class_count m.library + i in
      (depends_on_lem m.library new s c d
      (ltb→lt d (total m.library new) (and_l (ltb d (total m.library new)) (elem c (dependencies (group m.library new) d)) t))).0 t
  written_may withdraw u s i t = omega (arith, eqb→eq i (length m.groups - 1) t, u.0)

  may_written : (call : Call) → Sound m.library (new_sheet m call) → (i : ℕ) → i < class_count (new_sheet m call) → MayChange m call i → T (writes m call i)
  unfolding writes total
  may_written (add g) s i h c = eq→eqb c
  may_written (replace c g) s i h p = (depends_on_lem m.library (new_sheet m (replace c g)) s c (class_count m.library + i) (omega arith)).1 p
  may_written withdraw s i h p = eq→eqb {n = length m.groups - 1} (let z : i ≡ length m.groups - 1 = omega arith in z)

  value_is : (call : Call) → Suits m call → Sound m.library (new_sheet m call) → Value m call (model_value m call)
  unfolding model_value
  value_is (add g) u s = refl
  value_is (replace c g) u s =
      counted_by (depends_on m.library (new_sheet m (replace c g)) c) (Dependent m (replace c g) c) (total m.library (new_sheet m (replace c g)))
      (λ d h. depends_on_lem m.library (new_sheet m (replace c g)) s c d h)
  value_is withdraw u s = omega (arith, u.0)

  -- what is written to the line of a class that is there is the new sheets' verdict
  written_given : All IsGroup m.groups → (call : Call) → Suits m call → (i : ℕ) → i < class_count (new_sheet m call) → T (writes m call i)
      → written_by m call i ≡ user_verdict m.library (new_sheet m call) i
  unfolding writes written_by
  written_given w (add g) u i h t = refl
  written_given w (replace c g) u i h t = refl
  written_given w withdraw u i h t =
      let left : class_count (new_sheet m withdraw) ≡ length (take (length m.groups - 1) m.groups) = (unfold new_sheet new_groups in count_of_join _ (new_whole m withdraw w u)) in
      absurd (omega (arith, eqb→eq i (length m.groups - 1) t, left, length-take-le (length m.groups - 1) m.groups (omega arith)))

-- ---- any other verdict is one of the present sheets, and the new ones give it too

module _ (m : Model) (w : All IsGroup m.groups) (s : Sound m.library (sheet m)) where
  stays : (call : Call) → Suits m call → Sound m.library (new_sheet m call) → (i : ℕ) → i < class_count (new_sheet m call) → Not (MayChange m call i)
      → (i < class_count (sheet m)) × (user_verdict m.library (sheet m) i ≡ user_verdict m.library (new_sheet m call) i)
  unfolding new_sheet new_groups sheet user_verdict verdict_at
  -- no present class can reach the new one
  stays (add g) u v i h n =
      let old : i < length m.groups = omega (arith, count_of_join (new_groups m (add g)) (new_whole m (add g) w u), length-append m.groups (g ∷ [])) in (
        omega (arith, count_of_join m.groups w),
        verdict_same (class_count m.library) (group m.library (sheet m)) (group m.library (new_sheet m (add g))) (λ d. d < total m.library (sheet m))
            (λ d k. references_below m.library (sheet m) s d) (λ d k. added_group m.library m.groups g w u d k)
            (class_count m.library + i) (omega (arith, total_count m.library m.groups w)),
      )
  -- the class does not depend on the replaced one, and all others have their groups still
  stays (replace c g) u v i h n =
      let new : ℕ → Group = group m.library (new_sheet m (replace c g)) in
      let k : ℕ = c - class_count m.library in (
        omega (arith, count_of_join m.groups w, count_of_join (new_groups m (replace c g)) (new_whole m (replace c g) w u), length-set m.groups k g),
        sym (locality (class_count m.library) new (group m.library (sheet m)) (class_count m.library + i)
            (λ d p. set_group m.library m.groups g w u.0 k d
            (λ e. n (subst (Depends new (class_count m.library + i)) (let q : d ≡ c = omega (arith, u.1) in q) p)))),
      )
  -- the classes that are left name none but each other
  stays withdraw u v i h n =
      let now : List ℕ = new_sheet m withdraw in
      let is : withdrawn_sheet (sheet m) ≡ now = made_is m w withdraw in
      let some : 1 ≤ class_count (sheet m) = omega (arith, u.0, count_of_join m.groups w) in
      let count : class_count now + 1 ≡ class_count (sheet m) = ap (λ (l : List ℕ). class_count l + 1) (sym is) ∙ withdrawn_count m.library (sheet m) u.1 some in
      let same : (d : ℕ) → d < total m.library now → group m.library (sheet m) d ≡ group m.library now d =
      subst (λ (l : List ℕ). (d : ℕ) → d < total m.library l → group m.library (sheet m) d ≡ group m.library l d) is (withdrawn_group m.library (sheet m) u.1 some) in (
        omega (arith, count),
        sym (verdict_same (class_count m.library) (group m.library now) (group m.library (sheet m)) (λ d. d < total m.library now)
            (λ d k. references_below m.library now v d) (λ d k. sym (same d k)) (class_count m.library + i) (unfold total in omega arith)),
      )

-- ---- the invariant

module _ (row : VerdictRow) (laws : RowLaws row) where
  record Good (m : Model) (s : State row) : Type 0 where
    holds : ModelHolds row m s
    library_size : length m.library ≤ sheet_limit
    acceptable : Acceptable m.library (sheet m) m.lines
    verdicts_are : (i : ℕ) → i < class_count (sheet m) → row.at s.verdicts i ≡ user_verdict m.library (sheet m) i

  module _ (m : Model) (s : State row) (h : Good m s) where
    present : present_refusal m.library (buffer m) (used m) ≡ none
    present =
        facts_present m.library (buffer m) (used m) (record {
          library_size = h.library_size;
          user_size = unfold used in h.acceptable.size;
          in_buffer = unfold used buffer in omega (arith, length-append (sheet m) m.past);
          sheets = ap (sheet_refusal m.library) (front_is m) ∙ h.acceptable.sheets;
        })

    agrees : Agrees row m s
    unfolding judge_refusal user_verdict total
    agrees = record {
      user_is = h.holds.user_is;
      used_is = h.holds.used_is;
      lines_are = h.holds.lines_are;
      accepted = none_first (present_refusal m.library (buffer m) (used m) ∷ short_refusal (class_count (take (used m) (buffer m))) m.lines scratch_length ∷ []) (
        present,
        (
          none_short (class_count (take (used m) (buffer m))) m.lines (subst (λ (u : List ℕ). class_count u ≤ m.lines) (sym (front_is m)) h.acceptable.room),
          tt,
        ),
      );
      verdicts_are = h.verdicts_are;
      verdicts_right = λ lb ub i k.
          let front : i < class_count (take (used m) (buffer m)) = subst (λ (u : List ℕ). i < class_count u) (sym (front_is m)) k in
          let right : RightAt m.library (take (used m) (buffer m)) i (verdict_at m.library (take (used m) (buffer m)) (class_count m.library + i)) =
          demand2 m.library (buffer m) (used m) (record { library_bytes = lb; user_bytes = ub; unrefused = present }) (class_count m.library + i) (omega arith) (omega arith) in
          subst (RightAt m.library (sheet m) i) (sym (h.verdicts_are i k))
          (subst (λ (u : List ℕ). RightAt m.library u i (verdict_at m.library u (class_count m.library + i))) (front_is m) right);
    }

  -- a withdrawal clears the line of the class that was last
  line_left : (m : Model) (s : State row) → Good m s → (call : Call) (after : State row) → after.verdicts ≡ row.rewritten (writes m call) (written_by m call) s.verdicts
      → LineLeft row m call after
  unfolding writes written_by sheet
  line_left m s h (add g) after e = tt
  line_left m s h (replace c g) after e = tt
  line_left m s h withdraw after e = λ i k.
      let z : i ≡ length m.groups - 1 = omega arith in
      ap (λ (v : row.Row). row.at v i) e
      ∙ laws.at_changed (writes m withdraw) (written_by m withdraw) s.verdicts i
      (omega (arith, h.holds.lines_are, h.acceptable.room, count_of_join m.groups h.holds.whole)) (eq→eqb {n = length m.groups - 1} z)

  -- ---- one call

  module _ (m : Model) (s : State row) (h : Good m s) (d : Done row) (p : Modelled row m s d) where
    -- where it is not refused
    module _ (e : why row m d ≡ none) where
      known : Ready m d.call
      known = ready row m s h.holds d.call (length d.scratch) e

      new_sound : Sound m.library (new_sheet m d.call)
      new_sound = sound m.library (new_sheet m d.call) known.acceptable.sheets

      abbrev given : ℕ → Verdict
      given = user_verdict m.library (new_sheet m d.call)

      new_verdicts : (i : ℕ) → i < class_count (new_sheet m d.call) → row.at d.after.verdicts i ≡ given i
      new_verdicts i k = ap (λ (v : row.Row). row.at v i) (row_changes row m s d p e) ∙ go (decide (writes m d.call i))
        where
          go : T (writes m d.call i) ⊎ T (not (writes m d.call i)) → row.at (row.rewritten (writes m d.call) (written_by m d.call) s.verdicts) i ≡ given i
          go (inl t) =
              laws.at_changed (writes m d.call) (written_by m d.call) s.verdicts i (omega (arith, h.holds.lines_are, known.acceptable.room)) t
              ∙ written_given m h.holds.whole d.call known.suits i k t
          go (inr t) =
              let old = stays m h.holds.whole (sound m.library (sheet m) h.acceptable.sheets) d.call known.suits new_sound i k
              (λ c. T_not (writes m d.call i) t (may_written m d.call new_sound i k c)) in
              laws.at_kept (writes m d.call) (written_by m d.call) s.verdicts i t ∙ h.verdicts_are i old.0 ∙ old.1

      good_changed : Good (changed m d.call) d.after
      unfolding changed sheet new_sheet
      good_changed = record {
        holds = record {
          whole = new_whole m d.call h.holds.whole known.suits;
          user_is = user_after row m s h.holds d p ∙ ap buffer (model_changes row m s d p e);
          used_is = used_after row m s h.holds d p ∙ ap used (model_changes row m s d p e);
          lines_are = ap row.lines (row_changes row m s d p e) ∙ laws.lines_same (writes m d.call) (written_by m d.call) s.verdicts ∙ h.holds.lines_are;
        };
        library_size = h.library_size;
        acceptable = known.acceptable;
        verdicts_are = new_verdicts;
      }

      kept_changed : (i : ℕ) → Not (MayChange m d.call i) → row.at d.after.verdicts i ≡ row.at s.verdicts i
      kept_changed i n =
          ap (λ (v : row.Row). row.at v i) (row_changes row m s d p e)
          ∙ laws.at_kept (writes m d.call) (written_by m d.call) s.verdicts i (not_T (writes m d.call i) (λ t. n (written_may m d.call known.suits new_sound i t)))

    good_after : Good (next row m d) d.after
    good_after = go (why row m d) refl
      where
        go : (o : Option Refusal) → why row m d ≡ o → Good (next row m d) d.after
        go none e = subst (λ (n : Model). Good n d.after) (sym (model_changes row m s d p e)) (good_changed e)
        go (some r) e = subst (λ (n : Model). Good n d.after) (sym (model_stays row m s d p r e)) (subst (Good m) (sym (state_stays row m s d p r e)) h)

    kept_after : (i : ℕ) → Not (MayChange m d.call i) → row.at d.after.verdicts i ≡ row.at s.verdicts i
    kept_after i n = go (why row m d) refl
      where
        go : (o : Option Refusal) → why row m d ≡ o → row.at d.after.verdicts i ≡ row.at s.verdicts i
        go none e = kept_changed e i n
        go (some r) e = ap (λ (t : State row). row.at t.verdicts i) (state_stays row m s d p r e)

    answers : Answers row m s d
    unfolding model_answer
    answers = record {
      answer_is = p.changes.answered;
      refused = λ r e. (state_stays row m s d p r e, p.scratch_is ∙ sym (kept_refused d.scratch _ e));
      scratch_is = p.scratch_is;
      value = λ n e.
          let a = told_fine (why row m d) (model_value m d.call) (sym e ∙ p.changes.answered) in
          subst (Value m d.call) (sym a.1) (value_is m d.call (known a.0).suits (new_sound a.0));
      line = λ n e.
          let a = told_fine (why row m d) (model_value m d.call) (sym e ∙ p.changes.answered) in
          line_left m s h d.call d.after (row_changes row m s d p a.0);
      kept = kept_after;
    }

  -- ---- every list of calls

  run : (ds : List (Done row)) (library : List ℕ) (m : Model) (s : State row) → m.library ≡ library → Good m s → Runs row library s ds → Follows row m s ds
  run [] library m s e h r = agrees m s h
  run (d ∷ ds) library m s e h r =
      let p = modelled row m s h.holds library e d r.0 in
      (agrees m s h, answers m s h d p, run ds library (next row m d) d.after (library_stays m d.call (length d.scratch) ∙ e) (good_after m s h d p) r.1)

  -- ---- the opening: an accepted judging

  module _ (library user : List ℕ) (n : ℕ) (verdicts : row.Row) (scratch : List ℕ) (answer : Answer Counts) (verdicts_after : row.Row) (scratch_after : List ℕ)
      (p : Judges row library user n verdicts scratch answer verdicts_after scratch_after) (counts : Counts) (e : answer ≡ accepted counts) where
    abbrev bytes : List ℕ
    bytes = take n user

    unrefused : judge_refusal library user n (row.lines verdicts) (length scratch) ≡ none
    unrefused = (told_fine (judge_refusal library user n (row.lines verdicts) (length scratch)) (counts_of library bytes) (sym e ∙ p.answered)).0

    facts : Present library user n × (class_count bytes ≤ row.lines verdicts)
    unfolding judge_refusal
    facts =
        let q = first_none _ unrefused in
        (present_facts library user n q.0, short_none (class_count bytes) (row.lines verdicts) (length scratch) q.1.0)

    judged : verdicts_after ≡ row.rewritten (λ i. ltb i (class_count bytes)) (user_verdict library bytes) verdicts
    unfolding judged_row
    judged = p.verdicts_are ∙ sym (new_fine verdicts _ unrefused)

    cut : Clear 1 (class_count library) bytes
    cut = (sound library bytes facts.0.sheets).user_sheet

    sheet_opened : sheet (opened library user n (row.lines verdicts)) ≡ bytes
    unfolding opened sheet
    sheet_opened = sheet_grouped bytes cut.end cut.loose

    good_opened : Good (opened library user n (row.lines verdicts)) (record { user = user; used = n; verdicts = verdicts_after })
    unfolding opened buffer used
    good_opened = record {
      holds = record {
        whole = sheet_groups bytes cut.end cut.loose;
        user_is = sym (ap (λ (l : List ℕ). l ++ drop n user) sheet_opened ∙ take-append-drop n user);
        used_is = sym (ap length sheet_opened ∙ length-take-le n user facts.0.in_buffer);
        lines_are = ap row.lines judged ∙ laws.lines_same (λ i. ltb i (class_count bytes)) (user_verdict library bytes) verdicts;
      };
      library_size = facts.0.library_size;
      acceptable = subst (λ (l : List ℕ). Acceptable library l (row.lines verdicts)) (sym sheet_opened)
          (record { size = omega (arith, length-take-le n user facts.0.in_buffer, facts.0.user_size); sheets = facts.0.sheets; room = facts.1 });
      verdicts_are = λ i h.
          let k : i < class_count bytes = subst (λ (l : List ℕ). i < class_count l) sheet_opened h in
          ap (λ (v : row.Row). row.at v i) judged
          ∙ laws.at_changed (λ j. ltb j (class_count bytes)) (user_verdict library bytes) verdicts i (omega (arith, facts.1)) (lt→ltb i (class_count bytes) k)
          ∙ ap (λ (l : List ℕ). user_verdict library l i) (sym sheet_opened);
    }

-- ---- every list of calls that starts from an accepted judging

pub demand3 : (row : VerdictRow) → RowLaws row → Demand3 row
demand3 row laws library user n verdicts scratch answer verdicts_after scratch_after p counts e calls r =
    run row laws calls library (opened library user n (row.lines verdicts)) (record { user = user; used = n; verdicts = verdicts_after })
    (unfold opened in refl) (good_opened row laws library user n verdicts scratch answer verdicts_after scratch_after p counts e) r

pub flat_demand3 : Demand3 flat
flat_demand3 = demand3 flat flat_laws
