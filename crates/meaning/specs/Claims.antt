-- What is claimed of the canonical form and of sheets that mean the same (document 02, C-15), for every accepted pair. Each claim is proved in `proofs/`.
-- Assumes nothing.
use Rattle.std.specs.Prelude.{◌≡◌, ◌↔◌, List, [], ℕ, suc, ◌≤◌, ◌<◌, T, length, get_or, take}
use Rattle.spec.specs.Sheet.{Group, class_count, total, groups_of, of_kind}
use Rattle.spec.specs.Relations.{At}
use Rattle.spec.specs.Refusals.{Accepted}
use Rattle.spec.specs.Verdicts.{verdict_at}
use Rattle.theory.specs.Claims.{Refuses, Blames}
use Rattle.meaning.specs.Canonical.{is_set, body_number, canonical, canonical_numbers, canonical_refusal}
use Rattle.meaning.specs.Meaning.{MeanSame}

-- "Two sheets over one library mean the same precisely when the tidied bytes are equal"
abbrev pub MeaningIsBytes : Type 0
MeaningIsBytes =
    (library user : List ℕ) (used : ℕ) → Accepted library user used → (user' : List ℕ) (used' : ℕ) → Accepted library user' used'
    → MeanSame (take used user) (take used' user') ↔ (canonical (take used user) ≡ canonical (take used' user'))

-- "in each group IMPLEMENTS, USES, BUILDS and REFERS ascend by their body's numbers without repeats": of two records of such a kind, one after the other, the later has the higher numbers
abbrev pub Ascending : Group → Type 0
Ascending g = (k : ℕ) → T (is_set k) → (i : ℕ) (r s : List ℕ) → At (of_kind k g) i r → At (of_kind k g) (suc i) s → body_number r < body_number s

pub record Canonicals (library user : List ℕ) (used : ℕ) : Type 0 where
  -- "tidying twice changes nothing"
  pub twice : canonical (canonical (take used user)) ≡ canonical (take used user)
  -- it is a sheet that every operation takes, with kinds in order among the rest (16), and not longer than the one that it is made from
  pub accepted : Accepted library (canonical (take used user)) (length (canonical (take used user)))
  pub short : length (canonical (take used user)) ≤ used
  pub means : MeanSame (take used user) (canonical (take used user))
  pub ascends : (i : ℕ) → Ascending (get_or (groups_of (canonical (take used user))) i [])

abbrev pub CanonicalHolds : Type 0
CanonicalHolds = (library user : List ℕ) (used : ℕ) → Accepted library user used → Canonicals library user used

-- "every class keeps its rule number, though a place may move": so it does in any two accepted sheets that mean the same
abbrev pub SameRules : Type 0
SameRules =
    (library user : List ℕ) (used : ℕ) → Accepted library user used → (user' : List ℕ) (used' : ℕ) → Accepted library user' used'
    → MeanSame (take used user) (take used' user')
    → (c : ℕ) → class_count library ≤ c → c < total library (take used user)
    → (verdict_at library (take used user) c).rule ≡ (verdict_at library (take used' user') c).rule

-- its refusals have its numbers, and blame what they may
abbrev pub CanonicalRefuses : Type 0
CanonicalRefuses =
    (library user : List ℕ) (used : ℕ) (out : List ℕ)
    → Refuses canonical_numbers (Blames library (take used user)) (canonical_refusal library user used out)
