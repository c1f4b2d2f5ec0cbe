-- The text of a report: a line for each stream, a line for each memory, and a line that says how the run ended.
use Rattle.std.specs.Prelude.{◌≡◌, ◌≢◌, ℕ, List, [], ◌∷◌, ◌++◌, All, codes, decimal}
use Rattle.std.specs.List.{flat_map}
use Rattle.tapa_base.specs.declared.token.Token.{Token}
use Rattle.tapa_base.specs.declared.token.Token.TheVariants.{Datum, Eot}
use Rattle.run_data.specs.declared.lines.Last.{Last}
use Rattle.run_data.specs.declared.lines.Last.TheVariants.{Done, Stopped, Running}

-- a space, and a number in decimal
abbrev pub number_text : ℕ → List ℕ
number_text n = 32 ∷ decimal n

-- a space, and a token: the bits of a datum as an unsigned number, or the word for an end of transaction
abbrev pub token_text : Token → List ℕ
token_text (Datum n) = number_text n
token_text Eot = codes " eot"

abbrev pub tokens_text : List Token → List ℕ
tokens_text tokens = flat_map token_text tokens

abbrev pub numbers_text : List ℕ → List ℕ
numbers_text numbers = flat_map number_text numbers

-- the line of a stream with its label and its tokens
abbrev pub stream_line : List ℕ → List Token → List ℕ
stream_line label tokens = codes "stream " ++ (label ++ (codes ":" ++ (tokens_text tokens ++ 10 ∷ [])))

-- the line of a memory with its name and its cells
abbrev pub memory_line : List ℕ → List ℕ → List ℕ
memory_line name cells = codes "memory " ++ (name ++ (codes ":" ++ (numbers_text cells ++ 10 ∷ [])))

-- the last line: the ticks of a run, or the cycle of a simulation
abbrev pub last_line : Last → List ℕ
last_line (Done n) = codes "done " ++ (decimal n ++ 10 ∷ [])
last_line (Stopped n) = codes "stopped " ++ (decimal n ++ 10 ∷ [])
last_line (Running n) = codes "running " ++ (decimal n ++ 10 ∷ [])

-- a text has no end of line (LF)
abbrev pub HasNoLf : List ℕ → Type 0
HasNoLf text = All (λ b. b ≢ 10) text

-- one line: an end of line at its end, and nowhere before
abbrev pub IsOneLine : List ℕ → Type 0
IsOneLine line = (front : List ℕ) × (line ≡ front ++ 10 ∷ []) × HasNoLf front
