-- What a record's body says of its kind; and in the last arm of a match, which kind it does not have.
-- Assumes nothing.
use mathlib.Core.Path.{◌≡◌, refl, sym, ◌∙◌}
use mathlib.Core.Bool.{false}
use mathlib.Core.List.{List}
use Prim.Native.Nat.{ℕ}
use native.Mathlib.Omega.{arith}
use borrow.Author.Tests.{eq-eqb, ne_eqb}
use mathlib.Core.Bool.{true}
use Rattle.spec.specs.Record.{kind, is_kind}
use Rattle.records.specs.declared.record.Ty.{Ty}
use Rattle.records.specs.declared.record.Head.{Head}
use Rattle.records.specs.declared.record.Body.{Body}
use Rattle.records.specs.declared.record.Body.TheVariants as B
use Rattle.records.specs.Kinds.{Reads}

abbrev pub body_kind : Body → ℕ
body_kind (B.Class h) = 1
body_kind (B.Implements c) = 2
body_kind (B.Field f t) = 3
body_kind (B.Local t) = 4
body_kind (B.Uses c i) = 5
body_kind (B.Builds c) = 6
body_kind (B.Member f) = 7
body_kind (B.Refers c i) = 8

pub reads_kind : (r : List ℕ) (b : Body) → Reads r b → kind r ≡ body_kind b
reads_kind r (B.Class h) q = q.0
reads_kind r (B.Implements c) q = q.0
reads_kind r (B.Field f t) q = q.0
reads_kind r (B.Local t) q = q.0
reads_kind r (B.Uses c i) q = q.0
reads_kind r (B.Builds c) q = q.0
reads_kind r (B.Member f) q = q.0
reads_kind r (B.Refers c i) q = q.0

-- the kind as a test
pub is_of : (r : List ℕ) (b : Body) → Reads r b → {k : ℕ} → body_kind b ≡ k → is_kind k r ≡ true
is_of r b q e = eq-eqb _ _ (reads_kind r b q ∙ e)

pub is_not : (r : List ℕ) (b : Body) → Reads r b → {k : ℕ} → (body_kind b ≡ k → ⊥) → is_kind k r ≡ false
is_not r b q n = ne_eqb _ _ (λ e. n (sym (reads_kind r b q) ∙ e))

-- ---- where a match has come past a kind

pub not_class : (b : Body) → ((h : Head) → b ≡ B.Class h → ⊥) → body_kind b ≡ 1 → ⊥
not_class (B.Class h) n e = n _ refl
not_class (B.Implements c) n e = omega arith
not_class (B.Field f t) n e = omega arith
not_class (B.Local t) n e = omega arith
not_class (B.Uses c i) n e = omega arith
not_class (B.Builds c) n e = omega arith
not_class (B.Member f) n e = omega arith
not_class (B.Refers c i) n e = omega arith

pub not_implements : (b : Body) → ((c : ℕ) → b ≡ B.Implements c → ⊥) → body_kind b ≡ 2 → ⊥
not_implements (B.Class h) n e = omega arith
not_implements (B.Implements c) n e = n _ refl
not_implements (B.Field f t) n e = omega arith
not_implements (B.Local t) n e = omega arith
not_implements (B.Uses c i) n e = omega arith
not_implements (B.Builds c) n e = omega arith
not_implements (B.Member f) n e = omega arith
not_implements (B.Refers c i) n e = omega arith

pub not_field : (b : Body) → ((f : ℕ) (t : Ty) → b ≡ B.Field f t → ⊥) → body_kind b ≡ 3 → ⊥
not_field (B.Class h) n e = omega arith
not_field (B.Implements c) n e = omega arith
not_field (B.Field f t) n e = n _ _ refl
not_field (B.Local t) n e = omega arith
not_field (B.Uses c i) n e = omega arith
not_field (B.Builds c) n e = omega arith
not_field (B.Member f) n e = omega arith
not_field (B.Refers c i) n e = omega arith

pub not_uses : (b : Body) → ((c : ℕ) (i : ℕ) → b ≡ B.Uses c i → ⊥) → body_kind b ≡ 5 → ⊥
not_uses (B.Class h) n e = omega arith
not_uses (B.Implements c) n e = omega arith
not_uses (B.Field f t) n e = omega arith
not_uses (B.Local t) n e = omega arith
not_uses (B.Uses c i) n e = n _ _ refl
not_uses (B.Builds c) n e = omega arith
not_uses (B.Member f) n e = omega arith
not_uses (B.Refers c i) n e = omega arith

pub not_builds : (b : Body) → ((c : ℕ) → b ≡ B.Builds c → ⊥) → body_kind b ≡ 6 → ⊥
not_builds (B.Class h) n e = omega arith
not_builds (B.Implements c) n e = omega arith
not_builds (B.Field f t) n e = omega arith
not_builds (B.Local t) n e = omega arith
not_builds (B.Uses c i) n e = omega arith
not_builds (B.Builds c) n e = n _ refl
not_builds (B.Member f) n e = omega arith
not_builds (B.Refers c i) n e = omega arith

pub not_member : (b : Body) → ((f : ℕ) → b ≡ B.Member f → ⊥) → body_kind b ≡ 7 → ⊥
not_member (B.Class h) n e = omega arith
not_member (B.Implements c) n e = omega arith
not_member (B.Field f t) n e = omega arith
not_member (B.Local t) n e = omega arith
not_member (B.Uses c i) n e = omega arith
not_member (B.Builds c) n e = omega arith
not_member (B.Member f) n e = n _ refl
not_member (B.Refers c i) n e = omega arith
