-- Kinds as an enum, and what a record says by its kind.
-- Assumes nothing.
use Rattle.std.specs.Prelude.{◌≡◌, true, false, Option, None, Some, Result, MatchResult, List, ℕ, ◌<◌, ◌⊎◌, T, eqb, length}
use Rattle.spec.specs.Sheet.{records_of, whole_end}
use Rattle.spec.specs.Refusals.{one_class}
use Rattle.laws.proofs.All.{All}
use Rattle.spec.specs.Record.{u16, kind, flags, own_markers, superclass, encloser, target, index, Ty as SpecTy, field_ty, local_ty, length_fits}
use Rattle.records.specs.declared.kind.Kind.{Kind}
use Rattle.records.specs.declared.kind.Kind.TheVariants.{Class, Implements, Field, Local, Uses, Builds, Member, Refers}
use Rattle.records.specs.declared.kind.UnknownKind.{UnknownKind}
use Rattle.records.specs.declared.record.Ty.{Ty}
use Rattle.records.specs.declared.record.Head.{Head}
use Rattle.records.specs.declared.record.Body.{Body}
use Rattle.records.specs.declared.record.Body.TheVariants as B

-- the number that stands for a kind
abbrev pub kind_number : Kind → ℕ
kind_number Class = 1
kind_number Implements = 2
kind_number Field = 3
kind_number Local = 4
kind_number Uses = 5
kind_number Builds = 6
kind_number Member = 7
kind_number Refers = 8

-- the kind with a number, or that no kind has it
abbrev pub Numbers : ℕ → Result Kind UnknownKind → Type 0
Numbers n r = MatchResult r (λ k. kind_number k ≡ n) (λ e. (e.0 ≡ n) × ((n ≡ 0) ⊎ (8 < n)))

-- bytes that are one record, of a length that its kind can have
pub record Fits (r : List ℕ) : Type 0 where
  pub whole : u16 r 0 ≡ length r
  pub fits : T (length_fits r)

-- a class that a record names, unless the number stands for none
abbrev pub optional : ℕ → Option ℕ
optional n = elim (eqb n 65535) [ true ↦ None | false ↦ Some n ]

abbrev pub ty_of : SpecTy → Ty
ty_of t = record { dims = t.dims; code = t.code; class = t.class }

-- and back
abbrev pub spec_ty : Ty → SpecTy
spec_ty t = record { dims = t.dims; code = t.code; class = t.class }

abbrev pub head_of : List ℕ → Head
head_of r = record { flags = flags r; markers = own_markers r; superclass = optional (superclass r); encloser = optional (encloser r) }

-- what a record says, by its kind
abbrev pub Reads : List ℕ → Body → Type 0
Reads r (B.Class h) = (kind r ≡ 1) × (h ≡ head_of r)
Reads r (B.Implements c) = (kind r ≡ 2) × (c ≡ target r)
Reads r (B.Field f t) = (kind r ≡ 3) × (f ≡ flags r) × (t ≡ ty_of (field_ty r))
Reads r (B.Local t) = (kind r ≡ 4) × (t ≡ ty_of (local_ty r))
Reads r (B.Uses c i) = (kind r ≡ 5) × (c ≡ target r) × (i ≡ index r)
Reads r (B.Builds c) = (kind r ≡ 6) × (c ≡ target r)
Reads r (B.Member f) = (kind r ≡ 7) × (f ≡ flags r)
Reads r (B.Refers c i) = (kind r ≡ 8) × (c ≡ target r) × (i ≡ index r)

-- bytes that are records end to end
pub record Lined (s : List ℕ) : Type 0 where
  pub whole : whole_end s ≡ length s
  pub fits : All Fits (records_of s)

-- bytes that are the records of one class, its CLASS record first
pub record OneClass (s : List ℕ) : Type 0 where
  pub lined : Lined s
  pub one : T (one_class (records_of s))
