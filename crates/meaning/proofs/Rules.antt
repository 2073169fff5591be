-- Classes that are covered both ways break the same rules, so in accepted sheets that mean the same each class has the same rule number.
-- Assumes nothing.
use mathlib.Core.Path.{◌≡◌, refl, sym, ap, ◌∙◌, subst}
use mathlib.Core.Logic.{◌⊎◌, inl, inr}
use mathlib.Core.List.{List, [], ◌∷◌}
use Prim.Native.Nat.{ℕ, ◌≤◌, ◌<◌}
use native.Mathlib.Omega.{arith}
use lib.Dec.{T}
use lib.ListN.{take}
use Rattle.spec.specs.Record.{is_kind, REFERS, target, index}
use Rattle.spec.specs.Sheet.{Group, class_count, total, group}
use Rattle.spec.specs.Rules.{Verdict, clean}
use Rattle.spec.specs.Relations.{At}
use Rattle.spec.specs.Breaks.{Not, Allowed, Lacks, slot, root, Varies, Drops, SelflessBase, marked, overrides, UnfitBase, unfit, Claims, Breaks, rule1, rule2, rule3, rule4}
use Rattle.spec.specs.Breaks.{rule5, rule6, rule7, rule8, rule9, rule10}
use Rattle.spec.specs.Verdicts.{verdict_at}
use Rattle.theory.specs.Claims.{Right}
use Rattle.laws.proofs.Members.{at_in, in_at}
use Rattle.theory.proofs.Form.{accepted_sound}
use Rattle.theory.proofs.First.{clean_or}
use Rattle.theory.proofs.Demand2.{demand2}
use Rattle.meaning.specs.Claims.{SameRules}
use Rattle.meaning.proofs.Same.{mean_turn}
use Rattle.meaning.proofs.Covers.{Covers, user_groups, sheets_cover, sheets_count}
use Rattle.meaning.proofs.Relations.{Somewhere, flag_over, marked_over, satisfies_over, root_over, slot_over}

-- ---- what a class breaks

module _ (nlib : ℕ) (g h : ℕ → Group) (over : (c : ℕ) → Covers (g c) (h c)) (back : (c : ℕ) → Covers (h c) (g c)) where
  lacks_over : {m c d k : ℕ} {w : List ℕ} → Lacks nlib g m c w d k → Somewhere (Lacks nlib h m c)
  lacks_over (slot s f) = let p = slot_over g h over nlib s in (0 ∷ p.0, p.1, p.2, slot p.3 (λ q. f (satisfies_over h g back q)))
  lacks_over (root {d} r z f) = (1 ∷ [], d, 0, root (root_over g h over nlib r) z (λ q. f (marked_over h g back q)))

  varies_over : {c d k : ℕ} {w : List ℕ} → Varies nlib g c w d k → Somewhere (Varies nlib h c)
  varies_over (slot s f) = let p = slot_over g h over nlib s in (0 ∷ p.0, p.1, p.2, slot p.3 f)

  drops_over : {c d k : ℕ} {w : List ℕ} → Drops nlib g c w d k → Somewhere (Drops nlib h c)
  drops_over (slot s t) = let p = slot_over g h over nlib s in (0 ∷ p.0, p.1, p.2, slot p.3 t)

  base_back : {c s : ℕ} → SelflessBase nlib h c s → SelflessBase nlib g c s
  base_back (marked m) = marked (marked_over h g back m)
  base_back {c} (overrides z a b f) = overrides z (flag_over (back c) a) (flag_over (back c) b) (λ q. f (flag_over (over c) q))

  base_over : {c d k : ℕ} {w : List ℕ} → UnfitBase nlib g c w d k → UnfitBase nlib h c w d k
  base_over {c} (unfit s f) = unfit ((over c).superclass s) (λ q. f (base_back q))

  claims_over : {m c : ℕ} → Claims nlib g m c → Claims nlib h m c
  claims_over {m} {c} q = record { class = λ f. q.class (flag_over (back c) f); marked = marked_over g h over q.marked }

  -- a REFERS record to a member that is not allowed
  refers_over : {c k : ℕ} {r : List ℕ} → At (g c) k r → T (is_kind REFERS r) → Not (Allowed (g (target r)) (index r)) → Somewhere (Breaks nlib h c 2)
  refers_over {c} {k} {r} a t f =
      let q = (over c).refers {d = target r} {i = index r} (record { bytes = r; member = at_in a; of_kind = t; owner = refl; number = refl }) in
      let p = in_at q.member in
      (p.0 ∷ [], c, p.0, rule2 p.1 q.of_kind (λ w. f ((back (target r)).allowed (rw (q.owner, q.number) at w))))

  breaks_over : {c r d k : ℕ} {w : List ℕ} → Breaks nlib g c r w d k → Somewhere (Breaks nlib h c r)
  breaks_over {c} (rule1 {k} {d} {r} a m l f) =
      let q = (over c).references (record { bytes = r; member = at_in a; names = m }) in
      let p = in_at q.member in
      (p.0 ∷ [], c, p.0, rule1 p.1 q.names l (λ w. f (flag_over (back d) w)))
  breaks_over (rule2 a t f) = refers_over a t f
  breaks_over {c} (rule3 a t) = (0 ∷ [], c, 0, rule3 ((over c).first a) t)
  breaks_over {c} (rule4 (inl q)) = (0 ∷ [], c, 0, rule4 (inl (marked_over g h over q.0, marked_over g h over q.1)))
  breaks_over {c} (rule4 (inr q)) = (0 ∷ [], c, 0, rule4 (inr (marked_over g h over q.0, marked_over g h over q.1)))
  breaks_over {c} (rule5 a t s f) =
      let p = in_at ((over c).field (at_in a) t) in (p.0 ∷ [], c, p.0, rule5 p.1 t s (λ w. f (w.0, satisfies_over h g back w.1)))
  breaks_over {c} (rule6 (inl f)) = (0 ∷ [], c, 0, rule6 (inl (flag_over (over c) f)))
  breaks_over {c} (rule6 (inr (inl f))) = (0 ∷ [], c, 0, rule6 (inr (inl (flag_over (over c) f))))
  breaks_over {c} (rule6 (inr (inr f))) = (0 ∷ [], c, 0, rule6 (inr (inr (flag_over (over c) f))))
  breaks_over (rule7 q (inl v)) = let p = varies_over v in (p.0, p.1, p.2, rule7 (claims_over q) (inl p.3))
  breaks_over (rule7 q (inr v)) = let p = lacks_over v in (p.0, p.1, p.2, rule7 (claims_over q) (inr p.3))
  breaks_over (rule8 q v) = let p = lacks_over v in (p.0, p.1, p.2, rule8 (claims_over q) p.3)
  breaks_over (rule9 q (inl (inl v))) = let p = varies_over v in (p.0, p.1, p.2, rule9 (claims_over q) (inl (inl p.3)))
  breaks_over (rule9 q (inl (inr v))) = let p = drops_over v in (p.0, p.1, p.2, rule9 (claims_over q) (inl (inr p.3)))
  breaks_over {d} {k} {w} (rule9 q (inr v)) = (w, d, k, rule9 (claims_over q) (inr (base_over v)))
  breaks_over (rule10 q v) = let p = lacks_over v in (p.0, p.1, p.2, rule10 (claims_over q) p.3)

-- ---- the verdict's rule

-- verdicts that are right about what breaks the same rules, wherever that is
module _ (B B' : ℕ → List ℕ → ℕ → ℕ → Type 0) (there : (r : ℕ) (w : List ℕ) (d k : ℕ) → B r w d k → Somewhere (B' r))
    (back : (r : ℕ) (w : List ℕ) (d k : ℕ) → B' r w d k → Somewhere (B r)) (u v : Verdict) (a : Right B u) (b : Right B' v) where
  rule_same : u.rule ≡ v.rule
  rule_same = go (clean_or u) (clean_or v)
    where
      go : (u ≡ clean) ⊎ Not (u ≡ clean) → (v ≡ clean) ⊎ Not (v ≡ clean) → u.rule ≡ v.rule
      go (inl e) (inl f) = ap (λ (x : Verdict). x.rule) (e ∙ sym f)
      go (inl e) (inr f) = let y = b.broken f in let q = back v.rule y.place v.class v.record_number y.is in absurd (a.cleanly.0 e v.rule q.0 q.1 q.2 q.3)
      go (inr e) (inl f) = let x = a.broken e in let q = there u.rule x.place u.class u.record_number x.is in absurd (b.cleanly.0 f u.rule q.0 q.1 q.2 q.3)
      go (inr e) (inr f) =
          let x = a.broken e in
          let y = b.broken f in
          let q = back v.rule y.place v.class v.record_number y.is in
          let p = there u.rule x.place u.class u.record_number x.is in
          let low : u.rule ≤ v.rule = x.lowest_rule v.rule q.0 q.1 q.2 q.3 in
          let high : v.rule ≤ u.rule = y.lowest_rule u.rule p.0 p.1 p.2 p.3 in
          omega arith

pub same_rules : SameRules
same_rules library user used a user' used' b m c hl hc =
    let s = take used user in
    let t = take used' user' in
    let u = user_groups (class_count library) s (accepted_sound library user used a.unrefused).user_sheet in
    let v = user_groups (class_count library) t (accepted_sound library user' used' b.unrefused).user_sheet in
    let over = sheets_cover library s t u v m in
    let back = sheets_cover library t s v u (mean_turn s t m) in
    let h : c < total library t = subst (λ (n : ℕ). c < n) (sheets_count library s t m) hc in
    rule_same (Breaks (class_count library) (group library s) c) (Breaks (class_count library) (group library t) c)
    (λ r w d k. breaks_over (class_count library) (group library s) (group library t) over back)
    (λ r w d k. breaks_over (class_count library) (group library t) (group library s) back over)
    (verdict_at library s c) (verdict_at library t c)
    (demand2 library user used a c hl hc) (demand2 library user' used' b c hl h)
