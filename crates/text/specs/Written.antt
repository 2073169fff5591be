-- A text written into a buffer from a place on, and by a writer.
-- Assumes nothing.
use Rattle.std.specs.Prelude.{◌≡◌, List, ℕ, ◌+◌, length}
use Rattle.text.specs.Text.{put_all}
use Rattle.text.specs.declared.Writer.{Writer}

-- the buffer holds the text from `at` on, as far as it fits, and `after` is the place behind it
pub record Written (out : List ℕ) (at : ℕ) (text : List ℕ) (out' : List ℕ) (after : ℕ) : Type 0 where
  pub place : after ≡ at + length text
  pub bytes : out' ≡ put_all out at text

-- a writer has put the text, and its buffer is still the same one
pub record Writes (old : Writer) (text : List ℕ) (new : Writer) : Type 0 where
  pub same_reference : new.out.ghost_name ≡ old.out.ghost_name
  pub written : Written old.out.now old.at text new.out.now new.at
