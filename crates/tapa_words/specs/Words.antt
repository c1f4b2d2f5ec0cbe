-- Which words are a command: the lists of words that keep the rules below, without the program's name.
use Rattle.std.specs.Prelude.{◌≡◌, ◌≢◌, ◌⊎◌, ◌≤◌, ◌∷◌, ◌++◌, ◌&&◌, ◌==◌, if◌then◌else◌}
use Rattle.std.specs.Prelude.{ℕ, List, [], length, Option, Some, None, Bool, false, true, not, nat_le, codes, map}
use Rattle.std.specs.Prelude.{option_map, is_none, String, string_bytes, ⊤}
use Rattle.std.specs.List.{list_all, list_any}
use Rattle.std.specs.Str.{bytes_eq}
use Rattle.std.specs.Str.Parse.{digits_value}
use Rattle.std.specs.declared.alloc.Global.{Global}
use Rattle.tapa_words.specs.declared.verb.Verb.{Verb}
use Rattle.tapa_words.specs.declared.verb.Verb.TheVariants.{Running, Building, Planning, Simulating, Showing, Generating}
use Rattle.tapa_words.specs.declared.verb.OptionKind.{OptionKind}
use Rattle.tapa_words.specs.declared.verb.OptionKind.TheVariants as kind
use Rattle.tapa_words.specs.declared.command.CosimAim.{CosimAim}
use Rattle.tapa_words.specs.declared.command.CosimAim.TheVariants.{Report, Dump}
use Rattle.tapa_words.specs.declared.command.PlanAim.{PlanAim}
use Rattle.tapa_words.specs.declared.command.PlanAim.TheVariants.{Lines, Circuit}
use Rattle.tapa_words.specs.declared.command.PlanMode.{PlanMode}
use Rattle.tapa_words.specs.declared.command.PlanMode.TheVariants.{Exact, Fit, Split}

abbrev pub Word : Type 0
Word = List ℕ

-- what is asked for
pub data Command : Type 0 where
  -- a run of a task of a source, by a number of workers, for at most `limit` ticks, with a file of its data where one is named
  Run : (source top : Word) (input : Option Word) (workers limit : ℕ) → Command
  -- the circuit of a task of a source
  Build : (source top : Word) → Command
  -- a plan of the program of a source on the device of a file, by a mode: its lines, or the circuit by it
  Plan : (source top device : Word) (mode : PlanMode) (aim : PlanAim) → Command
  -- a simulation of the design of a Verilog text, for at most `limit` cycles, with a file of its data where one is named: its
  -- report, or its dump
  Cosim : (text : Word) (input : Option Word) (limit : ℕ) (aim : CosimAim) → Command
  -- the values of one net in the dump of a file
  Vcd : (file net : Word) → Command
  -- the generated network of a number of layers, run by a number of workers
  Gen : (layers workers : ℕ) → Command

-- the words as bytes
abbrev pub texts : List (String Global) → List Word
texts words = map string_bytes words

-- ---- the commands and their options

-- the first word is the command's name, spelled exactly
abbrev pub verb_of : Word → Option Verb
verb_of word =
    if bytes_eq word (codes "run") then Some Running else if bytes_eq word (codes "build") then Some Building else if bytes_eq word (codes "plan") then Some Planning
    else if bytes_eq word (codes "cosim") then Some Simulating else if bytes_eq word (codes "vcd") then Some Showing else if bytes_eq word (codes "gen") then Some Generating else None

-- whether the option of a name has a value, where a table of options has it
abbrev pub kind_in : List (Word × OptionKind) → Word → Option OptionKind
kind_in [] name = None
kind_in (option ∷ options) name = if bytes_eq name option.0 then Some option.1 else kind_in options name

-- the options of each command, and whether they have a value
abbrev pub options_of : Verb → List (Word × OptionKind)
options_of Running = (codes "--workers", kind.Valued) ∷ (codes "--steps", kind.Valued) ∷ []
options_of Building = (codes "--device", kind.Valued) ∷ (codes "--plan", kind.Valued) ∷ (codes "--no-balance", kind.Bare) ∷ []
options_of Planning = (codes "--plan", kind.Valued) ∷ []
options_of Simulating = (codes "--cycles", kind.Valued) ∷ (codes "--vcd", kind.Bare) ∷ []
options_of Showing = []
options_of Generating = (codes "--workers", kind.Valued) ∷ []

-- what the option of this name is, where the command has one, spelled whole
abbrev pub option_kind : Verb → Word → Option OptionKind
option_kind verb name = kind_in (options_of verb) name

-- ---- how a command's parts are written

-- what the words after the command's name are
pub data Item : Type 0 where
  Positional : (word : Word) → Item
  -- an option, and its value, which is empty where it has none
  Valued : (name value : Word) → Item

-- a word of more than one byte that begins with `-`; `--` is of this form too
abbrev pub is_option : Word → Bool
is_option [] = false
is_option (b ∷ []) = false
is_option (b ∷ c ∷ rest) = b == 45

-- `--`, after which every word is a positional
abbrev pub end_of_options : Word
end_of_options = codes "--"

-- An option that the command has. One with a value is written `--name V`, where V is no option and not `--`, or `--name=V` with V
-- not empty; one without is its name alone.
abbrev pub IsOptionWritten : Option OptionKind → Word → Word → List Word → Type 0
IsOptionWritten None name value words = ⊥
IsOptionWritten (Some kind.Valued) name value words = ((is_option value ≡ false) × (words ≡ name ∷ value ∷ [])) ⊎ ((value ≢ []) × (words ≡ (name ++ 61 ∷ value) ∷ []))
IsOptionWritten (Some kind.Bare) name value words = (value ≡ []) × (words ≡ name ∷ [])

-- how an item is written before `--`: a positional is a word that is no option
abbrev pub IsWritten : Verb → Item → List Word → Type 0
IsWritten verb (Positional word) words = (is_option word ≡ false) × (words ≡ word ∷ [])
IsWritten verb (Valued name value) words = IsOptionWritten (option_kind verb name) name value words

-- items one after the other, before `--`
abbrev pub AreWritten : Verb → List Item → List Word → Type 0
AreWritten verb [] words = words ≡ []
AreWritten verb (item ∷ items) words = (front : List Word) × (back : List Word) × (words ≡ front ++ back) × IsWritten verb item front × AreWritten verb items back

-- items of which the last are the words after `--`, which is dropped
pub record AreWrittenWithEnd (verb : Verb) (items : List Item) (words : List Word) : Type 0 where
  pub fore : List Item
  pub front : List Word
  pub behind : List Word
  pub are_written : AreWritten verb fore front
  pub words_are : words ≡ front ++ end_of_options ∷ behind
  pub items_are : items ≡ fore ++ map Positional behind

-- the words after a command's name are these items
abbrev pub HasItems : Verb → List Word → List Item → Type 0
HasItems verb words items = AreWritten verb items words ⊎ AreWrittenWithEnd verb items words

-- ---- what the items say

-- the positionals, in their order
abbrev pub positionals : List Item → List Word
positionals [] = []
positionals (Positional word ∷ items) = word ∷ positionals items
positionals (Valued name value ∷ items) = positionals items

-- the item is the option of this name
abbrev pub is_named : Word → Item → Bool
is_named name (Positional word) = false
is_named name (Valued other value) = bytes_eq other name

-- each option is given at most once
abbrev pub is_each_once : List Item → Bool
is_each_once [] = true
is_each_once (Positional word ∷ items) = is_each_once items
is_each_once (Valued name value ∷ items) = not (list_any (is_named name) items) && is_each_once items

-- the value of the option of a name, where it is given
abbrev pub value_or : Word → Item → Option Word → Option Word
value_or name (Positional word) rest = rest
value_or name (Valued other value) rest = if bytes_eq other name then Some value else rest

abbrev pub value_of : Word → List Item → Option Word
value_of name [] = None
value_of name (item ∷ items) = value_or name item (value_of name items)

abbrev pub is_digit : ℕ → Bool
is_digit b = nat_le 48 b && nat_le b 57

-- one to nineteen decimal digits, without a sign
abbrev pub is_number : Word → Bool
is_number word = nat_le 1 (length word) && (nat_le (length word) 19 && list_all is_digit word)

-- what it writes
abbrev pub number_of : Word → Option ℕ
number_of word = if is_number word then Some (digits_value 10 word) else None

-- a number from the least to the most
abbrev pub in_range : ℕ → ℕ → Option ℕ → Option ℕ
in_range least most None = None
in_range least most (Some n) = if nat_le least n && nat_le n most then Some n else None

-- the number of an option's value in its range, or the number where the option is not given
abbrev pub number_or : (default least most : ℕ) → Option Word → Option ℕ
number_or default least most None = Some default
number_or default least most (Some value) = in_range least most (number_of value)

-- the most ticks that a run may make, where the words give none
abbrev pub default_limit : ℕ
default_limit = 100000000

-- the most cycles that a simulation may go, where the words give none
abbrev pub default_cycles : ℕ
default_cycles = 10000000

-- the greatest limit of ticks or cycles that the words may give
abbrev pub most_limit : ℕ
most_limit = 1000000000000

-- the most workers
abbrev pub most_workers : ℕ
most_workers = 64

-- the most layers of the generated network
abbrev pub most_layers : ℕ
most_layers = 126

-- the workers that `--workers` gives, and one where it is not given
abbrev pub workers_or : Option Word → Option ℕ
workers_or value = number_or 1 1 most_workers value

-- what is made of two numbers that are both there
abbrev pub of_both : {A : Type 0} → (ℕ → ℕ → A) → Option ℕ → Option ℕ → Option A
of_both f (Some m) (Some n) = Some (f m n)
of_both f (Some m) None = None
of_both f None n = None

-- `run SRC TOP [DATA]`, by the workers that `--workers` gives, with the limit that `--steps` gives
abbrev pub run_by : List Word → Option ℕ → Option ℕ → Option Command
run_by (source ∷ top ∷ []) workers limit = of_both (Run source top None) workers limit
run_by (source ∷ top ∷ input ∷ []) workers limit = of_both (Run source top (Some input)) workers limit
run_by words workers limit = None

-- the mode that a word names, and first fit where none is given
abbrev pub mode_or : Option Word → Option PlanMode
mode_or None = Some Fit
mode_or (Some word) = if bytes_eq word (codes "exact") then Some Exact else if bytes_eq word (codes "fit") then Some Fit else if bytes_eq word (codes "split") then Some Split else None

-- `plan SRC TOP DEV`, by the mode that `--plan` gives
abbrev pub plan_by : List Word → Option PlanMode → Option Command
plan_by (source ∷ top ∷ device ∷ []) mode = option_map (λ by. Plan source top device by Lines) mode
plan_by words mode = None

-- a circuit by a mode, on the device that is named, balanced or not: without a device the mode and the balance are no matter
abbrev pub built_on : Word → Word → Option Word → Bool → PlanMode → Command
built_on source top None balanced mode = Build source top
built_on source top (Some device) balanced mode = Plan source top device mode (Circuit balanced)

-- `build SRC TOP`, on the device that `--device` names, by the mode that `--plan` gives, balanced without `--no-balance`
abbrev pub build_by : List Word → Option Word → Option PlanMode → Bool → Option Command
build_by (source ∷ top ∷ []) device mode balanced = option_map (built_on source top device balanced) mode
build_by words device mode balanced = None

-- a dump with `--vcd`, and else a report
abbrev pub aim_by : Option Word → CosimAim
aim_by None = Report
aim_by (Some value) = Dump

-- `cosim VTEXT [DATA]`, with the limit that `--cycles` gives
abbrev pub cosim_by : List Word → Option ℕ → CosimAim → Option Command
cosim_by (text ∷ []) limit aim = option_map (λ n. Cosim text None n aim) limit
cosim_by (text ∷ input ∷ []) limit aim = option_map (λ n. Cosim text (Some input) n aim) limit
cosim_by words limit aim = None

-- `vcd FILE NAME`
abbrev pub vcd_by : List Word → Option Command
vcd_by (file ∷ net ∷ []) = Some (Vcd file net)
vcd_by words = None

-- `gen N`, by the workers that `--workers` gives
abbrev pub gen_by : List Word → Option ℕ → Option Command
gen_by (layers ∷ []) workers = of_both Gen (in_range 0 most_layers (number_of layers)) workers
gen_by words workers = None

-- a command by its items: its positionals, no more and no fewer, in its order, and its options
abbrev pub command_by : Verb → List Item → Option Command
command_by Running items = run_by (positionals items) (workers_or (value_of (codes "--workers") items)) (number_or default_limit 1 most_limit (value_of (codes "--steps") items))
command_by Building items = build_by (positionals items) (value_of (codes "--device") items) (mode_or (value_of (codes "--plan") items)) (is_none (value_of (codes "--no-balance") items))
command_by Planning items = plan_by (positionals items) (mode_or (value_of (codes "--plan") items))
command_by Simulating items = cosim_by (positionals items) (number_or default_cycles 1 most_limit (value_of (codes "--cycles") items)) (aim_by (value_of (codes "--vcd") items))
command_by Showing items = vcd_by (positionals items)
command_by Generating items = gen_by (positionals items) (workers_or (value_of (codes "--workers") items))

-- ---- the words of a command

-- a command's name, followed by the items of a command, each option at most once
pub record IsAsked (name : Word) (words : List Word) (command : Command) : Type 0 where
  pub verb : Verb
  pub items : List Item
  pub named : verb_of name ≡ Some verb
  pub read : HasItems verb words items
  pub once : is_each_once items ≡ true
  pub says : command_by verb items ≡ Some command

-- the words ask for a command
abbrev pub Asks : List Word → Command → Type 0
Asks [] command = ⊥
Asks (name ∷ words) command = IsAsked name words command

-- the words are no command
abbrev pub AskNothing : List Word → Type 0
AskNothing words = (command : Command) → Asks words command → ⊥

-- words ask for one command at most
abbrev pub WordsAskOneThing : Type 0
WordsAskOneThing = (words : List Word) (one other : Command) → Asks words one → Asks words other → one ≡ other

-- the numbers of a command are in their ranges
abbrev pub IsInRange : Command → Type 0
IsInRange (Run source top input workers limit) = (1 ≤ workers) × (workers ≤ most_workers) × (limit ≤ most_limit)
IsInRange (Build source top) = ⊤
IsInRange (Plan source top device mode aim) = ⊤
IsInRange (Cosim text input limit aim) = limit ≤ most_limit
IsInRange (Vcd file net) = ⊤
IsInRange (Gen layers workers) = (layers ≤ most_layers) × (1 ≤ workers) × (workers ≤ most_workers)
