-- The numbers that stand for reasons and sheets, and answers that may be refusals.
-- Assumes nothing.
use Rattle.std.specs.Prelude.{◌≡◌, Bool, true, false, Result, Ok, Err, ℕ}
use Rattle.std.proofs.Math.Option.{Option, none, some}
use Rattle.spec.specs.Refusals as spec
use Rattle.spec.specs.Promises.{Answer, refused, accepted}
use Rattle.refusals.specs.declared.Side.{Side}
use Rattle.refusals.specs.declared.Side.TheVariants.{Library, User}
use Rattle.refusals.specs.declared.Reason.{Reason}
use Rattle.refusals.specs.declared.Reason.TheVariants.{TooLong, Torn, WrongKind, WrongLength, WrongBody, NoClassYet, WrongCount, WrongSort, NotThere}
use Rattle.refusals.specs.declared.Reason.TheVariants.{NameTwice, Deemed, TooShort, NoSuchClass, NoGroup, NoRoom, OutOfOrder, Named}
use Rattle.refusals.specs.declared.Refusal.{Refusal}

abbrev pub sheet_number : Side → ℕ
sheet_number Library = 0
sheet_number User = 1

abbrev pub reason_number : Reason → ℕ
reason_number TooLong = 1
reason_number Torn = 2
reason_number WrongKind = 3
reason_number WrongLength = 4
reason_number WrongBody = 5
reason_number NoClassYet = 6
reason_number WrongCount = 7
reason_number WrongSort = 8
reason_number NotThere = 9
reason_number NameTwice = 10
reason_number Deemed = 11
reason_number TooShort = 12
reason_number NoSuchClass = 13
reason_number NoGroup = 14
reason_number NoRoom = 15
reason_number OutOfOrder = 16
reason_number Named = 17

abbrev pub refusal_of : Refusal → spec.Refusal
refusal_of r = record { number = reason_number r.reason; sheet = sheet_number r.sheet; byte = r.byte }

-- the refusal for a reason, unless something holds
abbrev pub unless : Reason → Bool → Result (Unit {0}) Reason
unless reason true = Ok tt
unless reason false = Err reason

-- a refusal that blames no record
abbrev pub plain : Reason → Refusal
plain reason = record { reason = reason; sheet = Library; byte = 0 }

-- a result where o is the refusal that is due: a value with a property only if there is none, else just that refusal
abbrev pub Answers : {A : Type 0} → Option spec.Refusal → Result A Refusal → (A → Type 0) → Type 0
Answers o (Ok a) P = (o ≡ none) × P a
Answers o (Err r) P = o ≡ some (refusal_of r)

-- the answer that a result stands for, where f is what its value stands for
abbrev pub answer_in : {A B : Type 0} → (A → B) → Result A Refusal → Answer B
answer_in f (Ok a) = accepted (f a)
answer_in f (Err r) = refused (refusal_of r)
