-- The state of a writer: the text so far, which is known only while it isn't too long, and whether the form has a word yet.
use Rattle.std.specs.Prelude.{◌+◌, nat_le, Bool, true, false, not, ◌&&◌, is_some, if◌then◌else◌, List, [], ◌∷◌, ◌++◌, length, Option, Some, None}
use Rattle.tapa_base.specs.Gaps.{Bytes}
use Rattle.stream_arrays.specs.declared.writer.Writer.{Writer}
use Rattle.stream_arrays.specs.Written.{most}

pub record Writing : Type 0 where
  pub text : Option Bytes
  pub begun : Bool

abbrev pub writing : Writer → Writing
writing w = record { text = if w.is_over then None else Some w.bytes.items; begun = w.begun }

-- the text is too long and a word of the form is there, so that further words change nothing
abbrev pub is_full : Writing → Bool
is_full w = not (is_some w.text) && w.begun

-- the text so far and then these bytes; none once it is longer than the limit
abbrev pub more : Option Bytes → Bytes → Option Bytes
more None bytes = None
more (Some out) bytes = if nat_le (length out + length bytes) most then Some (out ++ bytes) else None

abbrev pub put : Writing → Bytes → Writing
put w bytes = record { text = more w.text bytes; begun = w.begun }

-- a form begins
abbrev pub begin : Writing → Writing
begin w = record { text = w.text; begun = false }

-- the next word of a form, with a space before it where it isn't the first
abbrev pub said_word : Writing → Bytes → Writing
said_word w word = record { text = more w.text (if w.begun then 32 ∷ word else word); begun = true }

abbrev pub said : Writing → List Bytes → Writing
said w [] = w
said w (word ∷ words) = said (said_word w word) words
