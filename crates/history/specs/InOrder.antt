-- Document 02, C-13: "Lines and places are read from such sheets only": of every accepted call, what it reads and what it leaves. Stated over any verdict row.
-- Assumes nothing.
use Rattle.std.specs.Prelude.{◌≡◌, ◌≢◌, List, [], ℕ, take}
use Rattle.spec.specs.Verdicts.{VerdictRow}
use Rattle.spec.specs.Promises.{accepted, State, Marks, Part, Places, Names, Indexes, Finds}
use Rattle.theory.specs.Claims.{InOrder}
use Rattle.history.specs.Judged.{Accepts}
use Rattle.history.specs.Demand3.{Done, Promised}

module _ (row : VerdictRow) where
  -- both sheets as the program holds them are in order
  abbrev pub HeldInOrder : List ℕ → State row → Type 0
  HeldInOrder library s = InOrder library (take s.used s.user)

  pub record ReadsInOrder : Type 0 where
    pub judge : (library user : List ℕ) (used : ℕ) (after : row.Row) → Accepts row library user used after → InOrder library (take used user)
    -- adding, replacing and withdrawing write a sheet too
    pub change : (library : List ℕ) (before : State row) (d : Done row) (n : ℕ) → Promised row library before d → d.answer ≡ accepted n
        → HeldInOrder library before × HeldInOrder library d.after
    pub marks : (library user : List ℕ) (used c m : ℕ) → Marks library user used c (accepted m) → InOrder library (take used user)
    pub place : (library user : List ℕ) (used c : ℕ) (p : Part) → Places library user used c (accepted p) → InOrder library (take used user)
    -- the bytes of a name; those of a refused one are none
    pub name : (library user : List ℕ) (used c : ℕ) (bytes : List ℕ) → Names library user used c bytes → bytes ≢ [] → InOrder library (take used user)
    -- document 02, C-17: the places of the row before and after
    pub index : (library user : List ℕ) (used n : ℕ) (places places' : List ℕ) → Indexes library user used places (accepted n) places' → InOrder library (take used user)
    pub lookup : (library user : List ℕ) (used c : ℕ) (name places places' : List ℕ) → Finds library user used name places (accepted c) places' → InOrder library (take used user)
