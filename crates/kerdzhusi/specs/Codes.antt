-- The two numbers that an answer is for C: `status`, 0 if the call is accepted, and `value`, 0 if it is refused.
-- Assumes nothing.
use Rattle.std.specs.Prelude.{◌≡◌, ℕ, ◌+◌, ◌*◌, ◌≤◌}
use Rattle.spec.specs.Refusals.{Refusal}
use Rattle.spec.specs.Promises.{Answer, refused, accepted, Counts, Part}
use Rattle.kerdzhusi.specs.declared.Reply.{Reply}

-- number | sheet << 8 | byte << 16
unfoldable pub refusal_code : Refusal → ℕ
refusal_code r = r.number + 256 * r.sheet + 65536 * r.byte

-- a class's number, a count, a set of markers
unfoldable pub plain_value : ℕ → ℕ
plain_value n = n

-- classes | faulted << 32
unfoldable pub counts_value : Counts → ℕ
counts_value c = c.classes + 4294967296 * c.faulted

-- sheet | offset << 8 | length << 32
unfoldable pub part_value : Part → ℕ
part_value p = p.sheet + 256 * p.start + 4294967296 * p.size

unfoldable pub reply_of : {A : Type 0} → (A → ℕ) → Answer A → Reply
reply_of value (refused r) = record { status = refusal_code r; value = 0 }
reply_of value (accepted a) = record { status = 0; value = value a }

-- a refusal's byte has room in its code
pub record Codable (answer : Answer ℕ) : Type 0 where
  pub low : {r : Refusal} → answer ≡ refused r → r.byte ≤ 32768

-- the reply of a call that keeps its promise: the code of the promised answer
pub record Replies {A : Type 0} (value : A → ℕ) (Promise : Answer A → Type 0) (reply : Reply) : Type 0 where
  pub answer : Answer A
  pub promised : Promise answer
  pub coded : reply ≡ reply_of value answer
