-- The bytes of a class in the sheet that holds it.
-- Assumes nothing.
use mathlib.Core.Path.{◌≡◌, refl, sym, ap, ◌∙◌, subst}
use mathlib.Core.List.{List, [], append-nil}
use Prim.Native.Nat.{ℕ, ◌-◌, ◌≤◌, ◌<◌}
use native.Mathlib.Nat.{zero-add}
use native.Mathlib.Omega.{arith}
use lib.Dec.{T}
use lib.ListN.{length, take, drop}
use Rattle.spec.specs.Lists.{concat}
use Rattle.spec.specs.Record.{length_fits}
use Rattle.spec.specs.Sheet.{Group, group}
use Rattle.theory.specs.Claims.{sheet_of}
use Rattle.laws.proofs.All.{All}
use Rattle.laws.proofs.Parts.{part_length}
use Rattle.theory.proofs.Cut.{Whole, records_of_whole, join_records}
use Rattle.records.specs.Records.{between, Tiled, Carries}
use Rattle.records.proofs.Between.{placed}
use Rattle.groups.specs.Groups.{sheet_number, start_of, end_of, Indexed}
use Rattle.groups.proofs.Held.{in_library, in_user, group_lengths, group_tiled, group_between, end_small, class_there}

-- whole records are the bytes that they stand in
pub tiled_bytes : {s : List ℕ} {at end : ℕ} → Tiled s at end → concat (between s at end) ≡ take (end - at) (drop at s)
unfolding between
tiled_bytes {s} {at} {end} h = join_records (take (end - at) (drop at s)) (h.whole ∙ sym (part_length s at (end - at) (omega (arith, h.within, h.ordered))))

module _ {library user : List ℕ} {nlib n : ℕ} {row : List ℕ} (x : Indexed library user nlib n row) {c : ℕ} (hn : c < n)
    {start end : ℕ} (es : start ≡ start_of library user c) (ee : end ≡ end_of library user c) where
  part_is : take (end - start) (drop start (sheet_of library user (sheet_number nlib c))) ≡ concat (group library user c)
  part_is = rw (es, ee) (sym (tiled_bytes (group_tiled x hn)) ∙ ap concat (group_between x hn))

  pub some : start < end
  some = rw (es, ee) (class_there x hn)

  pub library_within : c < nlib → end ≤ length library
  library_within h = omega (arith, ee, (group_tiled x hn).within, ap length (in_library x h).is)

  pub library_bytes_lem : c < nlib → take (end - start) (drop start library) ≡ concat (group library user c)
  library_bytes_lem h = ap (λ (s : List ℕ). take (end - start) (drop start s)) (sym (in_library x h).is) ∙ part_is

  pub user_bytes_lem : nlib ≤ c → take (end - start) (drop start user) ≡ concat (group library user c)
  user_bytes_lem h = ap (λ (s : List ℕ). take (end - start) (drop start s)) (sym (in_user x h hn).is) ∙ part_is

-- ---- bytes that are a class's records end to end

pub carries_records : {bytes : List ℕ} {g : Group} → All Whole g → All (λ r. T (length_fits r)) g → length bytes ≤ 32768 → bytes ≡ concat g → Carries bytes g
carries_records {bytes} {g} w f l e =
    let p = placed bytes [] g [] 0 (length bytes) w (e ∙ sym (append-nil (concat g))) refl (zero-add (length (concat g)) ∙ ap length (sym e)) in
    record { place = record { tiled = p.0; small = l; sizes = subst (All (λ r. T (length_fits r))) (sym p.1) f }; records = p.1 }

pub carries : {library user : List ℕ} {nlib n : ℕ} {row : List ℕ} → Indexed library user nlib n row → {c : ℕ} → c < n
    → {bytes : List ℕ} → bytes ≡ concat (group library user c) → Carries bytes (group library user c)
carries {library} {user} x {c} h {bytes} e =
    carries_records (subst (All Whole) (group_between x h) (unfold between in records_of_whole _)) (group_lengths x c) (unfold end_of in omega (arith, end_small x h, ap length e)) e
