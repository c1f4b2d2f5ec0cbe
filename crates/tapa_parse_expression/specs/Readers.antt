-- Readers: a value and the symbols that are left, or a refusal and the symbols from the refused one on.
use Rattle.std.specs.Prelude.{◌≡◌, ℕ, zero, suc, Bool, true, false, if◌then◌else◌, List, [], ◌∷◌, ◌++◌, length, drop, Option, Some, None, Result, Ok, Err}
use denote.Enum.Bare.{sameb}
use Rattle.tapa_base.specs.declared.text.Place.{Place}
use Rattle.tapa_syntax.specs.contracts.terminal.Terminal.{the_type}
use Rattle.tapa_syntax.specs.declared.terminal.Terminal.{Terminal}
use Rattle.tapa_syntax.specs.declared.terminal.Terminal.TheVariants as terminal
use Rattle.tapa_syntax.specs.declared.tree.Name.{Name}
use Rattle.tapa_base.specs.declared.kind.Kind.{Kind}
use Rattle.tapa_base.specs.declared.kind.Kind.TheVariants as kind
use Rattle.tapa_syntax.specs.Symbols.{Symbol}
use Rattle.tapa_syntax.specs.Grammar.{is_name}
use Rattle.tapa_parse_expression.specs.declared.fault.ParseCode.{ParseCode}
use Rattle.tapa_parse_expression.specs.declared.fault.ParseCode.TheVariants.{P1}
use Rattle.tapa_parse_expression.specs.declared.fault.Fault.{Fault}
use Rattle.tapa_parse_expression.specs.declared.fault.Fault.TheVariants.{OutOfMemory, Refused}

abbrev pub Outcome : Type 0 → Type 0
Outcome A = Result (A × List Symbol) (ParseCode × List Symbol)

abbrev pub Reader : Type 0 → Type 0
Reader A = List Symbol → Outcome A

abbrev pub and_then : {A B : Type 0} → Outcome A → (A → Reader B) → Outcome B
and_then (Ok p) f = f p.0 p.1
and_then (Err e) f = Err e

infixl 10 ◌>>=◌
abbrev pub ◌>>=◌ : {A B : Type 0} → Reader A → (A → Reader B) → Reader B
p >>= f = λ i. and_then (p i) f

infixl 10 ◌>>◌
abbrev pub ◌>>◌ : {A B : Type 0} → Reader A → Reader B → Reader B
p >> q = p >>= (λ _. q)

abbrev pub pure : {A : Type 0} → A → Reader A
pure a = λ i. Ok (a, i)

abbrev pub refuse : {A : Type 0} → ParseCode → Reader A
refuse code = λ i. Err (code, i)

-- what a method returned, and left, is what the reader gives, unless memory ran out
abbrev pub Fails : {B : Type 0} → Fault → List Symbol → Outcome B → Type 0
Fails OutOfMemory left outcome = Unit {0}
Fails (Refused code) left outcome = outcome ≡ Err (code, left)

abbrev pub Gives : {A B : Type 0} → (A → B) → Result A Fault → List Symbol → Outcome B → Type 0
Gives view (Ok a) left outcome = outcome ≡ Ok (view a, left)
Gives view (Err e) left outcome = Fails e left outcome

-- ---- single symbols

abbrev pub next : List Symbol → Terminal
next [] = terminal.End
next (x ∷ rest) = x.terminal

abbrev pub no_place : Place
no_place = record { line = 0; col = 0 }

abbrev pub first_place : List Symbol → Place
first_place [] = no_place
first_place (x ∷ rest) = x.place

abbrev pub first_text : List Symbol → List ℕ
first_text [] = []
first_text (x ∷ rest) = x.text

abbrev pub first_literal : List Symbol → Kind × ℕ
first_literal [] = (kind.Bool, 0)
first_literal (x ∷ rest) = x.literal

unfoldable pub same : Terminal → Terminal → Bool
same = sameb the_type

unfoldable pub sees : Terminal → List Symbol → Bool
sees m i = same (next i) m

abbrev pub skip : Reader (Unit {0})
skip i = Ok (tt, drop 1 i)

abbrev pub here : Reader Place
here i = Ok (first_place i, i)

unfoldable pub expect : Terminal → Reader (Unit {0})
expect m i = if sees m i then Ok (tt, drop 1 i) else Err (P1, i)

unfoldable pub past : Terminal → List Symbol → List Symbol
past m i = if sees m i then drop 1 i else i

-- takes the terminal, if it comes next
abbrev pub eat : Terminal → Reader Bool
eat m i = Ok (sees m i, past m i)

-- what the next symbol means, if it means something
abbrev pub known : {A : Type 0} → Option A → Reader A
known None = refuse P1
known (Some a) = pure a

abbrev pub name_here : List Symbol → Name
name_here i = record { text = first_text i; place = first_place i }

unfoldable pub name : Reader Name
name i = if is_name (next i) then Ok (name_here i, drop 1 i) else Err (P1, i)

abbrev pub plain_by : Terminal → Reader Name
plain_by terminal.Name i = Ok (name_here i, drop 1 i)
plain_by _ i = Err (P1, i)

-- a name after `tapa ::` or a dot
unfoldable pub plain_name : Reader Name
plain_name i = plain_by (next i) i

unfoldable pub literal_value : Reader (Kind × ℕ)
literal_value i = if sees terminal.Literal i then Ok (first_literal i, drop 1 i) else Err (P1, i)

-- whether a symbol is left, and that none is
abbrev pub is_left : List Symbol → Bool
is_left [] = false
is_left (x ∷ rest) = true

abbrev pub ended : List Symbol → Outcome (Unit {0})
ended [] = Ok (tt, [])
ended (x ∷ rest) = Err (P1, x ∷ rest)

-- ---- lists. The number bounds the turns, and each turn takes a symbol.

unfoldable pub repeat_from : {A : Type 0} → (List Symbol → Bool) → Reader A → ℕ → List A → Reader (List A)
repeat_from goes item zero found = pure found
repeat_from goes item (suc turns) found = λ i. if goes i then and_then (item i) (λ x. repeat_from goes item turns (found ++ x ∷ [])) else Ok (found, i)

-- the entries so far and then every item that follows, as long as `goes` holds of the symbols that are left
unfoldable pub repeat_behind : {A : Type 0} → (List Symbol → Bool) → Reader A → List A → Reader (List A)
repeat_behind goes item found = λ i. repeat_from goes item (length i) found i

abbrev pub repeat : {A : Type 0} → (List Symbol → Bool) → Reader A → Reader (List A)
repeat goes item = repeat_behind goes item []

-- one or more items with this terminal between them
unfoldable pub separated : {A : Type 0} → Terminal → Reader A → Reader (List A)
separated between item = do
  x ← item
  repeat_behind (sees between) (skip >> item) (x ∷ [])

-- one or more items with this terminal between them, or none where `end` comes
unfoldable pub separated_until : {A : Type 0} → Terminal → Terminal → Reader A → Reader (List A)
separated_until end between item = λ i. if sees end i then Ok ([], i) else separated between item i
