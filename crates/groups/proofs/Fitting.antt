-- Which kinds of records the classes of a sheet have: the table of kinds leaves some to the other sheet.
-- Assumes nothing.
use mathlib.Core.Path.{◌≡◌, refl, ap, ◌∙◌, subst}
use mathlib.Core.Bool.{false}
use mathlib.Core.List.{List, [], ◌∷◌}
use Prim.Native.Nat.{ℕ, ◌≤◌, ◌<◌}
use lib.Dec.{T}
use lib.ListN.{length, get_or}
use Rattle.spec.specs.Record.{is_kind, kind_fits, LOCAL, MEMBER}
use Rattle.spec.specs.Sheet.{Group, records_of, groups_of, group, of_kind, located_in}
use Rattle.laws.proofs.All.{All, all_get, all_kept}
use Rattle.theory.proofs.Accept.{Clear, each_record}
use Rattle.theory.proofs.Cut.{in_groups}
use Rattle.theory.proofs.References.{by_kind_lem}
use Rattle.groups.specs.Groups.{Indexed}
use Rattle.groups.proofs.Held.{in_library, in_user}

-- of a kind that the sheet may have
abbrev pub Fitting : ℕ → List ℕ → Type 0
Fitting s r = T (kind_fits s r)

in_sheet : {sheet m : ℕ} {s : List ℕ} → Clear sheet m s → (i : ℕ) → All (Fitting sheet) (get_or (groups_of s) i [])
unfolding located_in
in_sheet {sheet} {m} {s} clear i =
    all_get {A = Group} (All (Fitting sheet)) [] (groups_of s)
    (in_groups (Fitting sheet) s (each_record (Fitting sheet) sheet (λ l e p. subst (λ (k : ℕ). Fitting k l.bytes) e p.kind_fits) 0 m 0 0 (records_of s) clear.passed)) tt i

none_of : (k s : ℕ) (h : Group) → All (Fitting s) h → ((r : List ℕ) → Fitting s r → T (is_kind k r) → ⊥) → length (of_kind k h) ≡ 0
unfolding of_kind
none_of k s h w bad = go (of_kind k h) (all_kept (Fitting s) (is_kind k) h w)
  where
    go : (rs : Group) → All (λ r. Fitting s r × T (is_kind k r)) rs → length rs ≡ 0
    go [] w = refl
    go (r ∷ rs) w = absurd (bad r w.0.0 w.0.1)

module _ {library user : List ℕ} {nlib n : ℕ} {row : List ℕ} (x : Indexed library user nlib n row) {c : ℕ} where
  -- of a kind that is left to the user sheet
  pub library_none : c < nlib → (k : ℕ) → ((r : List ℕ) → Fitting 0 r → T (is_kind k r) → ⊥) → length (of_kind k (group library user c)) ≡ 0
  library_none h k bad = ap (λ (q : Group). length (of_kind k q)) (in_library x h).its ∙ none_of k 0 _ (in_sheet x.library_clear c) bad

  pub library_locals : c < nlib → length (of_kind LOCAL (group library user c)) ≡ 0
  unfolding kind_fits
  library_locals h = library_none h LOCAL (λ r f t. subst T (by_kind_lem r false _ LOCAL t) f)

  pub user_members : nlib ≤ c → c < n → length (of_kind MEMBER (group library user c)) ≡ 0
  unfolding kind_fits
  user_members h l = ap (λ (q : Group). length (of_kind MEMBER q)) (in_user x h l).its ∙ none_of MEMBER 1 _ (in_sheet x.user_clear _) (λ r f t. subst T (by_kind_lem r false _ MEMBER t) f)
