-- What a record of each kind names.
-- Assumes nothing.
use mathlib.Core.Path.{◌≡◌, ap}
use mathlib.Core.List.{List, [], ◌∷◌, ◌++◌}
use Prim.Native.Nat.{ℕ}
use lib.Dec.{T, eqb→eq}
use lib.ListN.{get_or}
use Rattle.spec.specs.Record.{kind, is_kind, CLASS, IMPLEMENTS, FIELD, LOCAL, USES, BUILDS, MEMBER}
use Rattle.spec.specs.Record.{REFERS, by_kind, superclass, encloser, target, field_ty, local_ty, unless_none, ty_references, references}

pub by_kind_lem : {A : Type 0} (r : List ℕ) (d : A) (choices : List A) (k : ℕ) → T (is_kind k r) → by_kind r d choices ≡ get_or (d ∷ choices) k d
unfolding by_kind
by_kind_lem r d choices k t = ap (λ (n : ℕ). get_or (d ∷ choices) n d) (eqb→eq (kind r) k t)

module _ (r : List ℕ) where
  pub references_class : T (is_kind CLASS r) → references r ≡ unless_none (superclass r) ++ unless_none (encloser r)
  unfolding references
  references_class t = by_kind_lem r [] _ CLASS t

  pub references_implements : T (is_kind IMPLEMENTS r) → references r ≡ target r ∷ []
  unfolding references
  references_implements t = by_kind_lem r [] _ IMPLEMENTS t

  pub references_field : T (is_kind FIELD r) → references r ≡ ty_references (field_ty r)
  unfolding references
  references_field t = by_kind_lem r [] _ FIELD t

  pub references_local : T (is_kind LOCAL r) → references r ≡ ty_references (local_ty r)
  unfolding references
  references_local t = by_kind_lem r [] _ LOCAL t

  pub references_uses : T (is_kind USES r) → references r ≡ target r ∷ []
  unfolding references
  references_uses t = by_kind_lem r [] _ USES t

  pub references_builds : T (is_kind BUILDS r) → references r ≡ target r ∷ []
  unfolding references
  references_builds t = by_kind_lem r [] _ BUILDS t

  pub references_member : T (is_kind MEMBER r) → references r ≡ []
  unfolding references
  references_member t = by_kind_lem r [] _ MEMBER t

  pub references_refers : T (is_kind REFERS r) → references r ≡ target r ∷ []
  unfolding references
  references_refers t = by_kind_lem r [] _ REFERS t
