-- What the names of options are: words that look like options, are not `--`, and have no `=`.
use Rattle.std.proofs.Common.{◌≡◌, List, [], ◌∷◌, ◌++◌, Some, None, Bool, true, false, refl, sym, subst}
use Rattle.std.specs.Prelude.{codes, if◌then◌else◌, ⊤}
use Rattle.std.specs.Str.{bytes_eq}
use Rattle.std.proofs.lemmas.Slice.Eq.{bytes_eq-Decides}
use Rattle.tapa_words.specs.declared.verb.Verb.{Verb}
use Rattle.tapa_words.specs.declared.verb.Verb.TheVariants.{Running, Building, Planning, Simulating, Showing, Generating}
use Rattle.tapa_words.specs.declared.verb.OptionKind.{OptionKind}
use Rattle.tapa_words.specs.Words.{Word, kind_in, options_of, option_kind, is_option, end_of_options}
use Rattle.tapa_words.specs.Reading.{name_in, value_in}

pub record IsName (name : Word) : Type 0 where
  pub looks : is_option name ≡ true
  pub other : bytes_eq name end_of_options ≡ false
  pub whole : name_in name ≡ name
  pub alone : value_in name ≡ None
  pub looks_joined : (value : Word) → is_option (name ++ 61 ∷ value) ≡ true
  pub other_joined : (value : Word) → bytes_eq (name ++ 61 ∷ value) end_of_options ≡ false
  pub name_cut : (value : Word) → name_in (name ++ 61 ∷ value) ≡ name
  pub value_cut : (value : Word) → value_in (name ++ 61 ∷ value) ≡ Some value

abbrev AreNames : List (Word × OptionKind) → Type 0
AreNames [] = ⊤
AreNames (option ∷ options) = IsName option.0 × AreNames options

workers : IsName (codes "--workers")
workers = record { looks = refl; other = refl; whole = refl; alone = refl; looks_joined = λ v. refl; other_joined = λ v. refl; name_cut = λ v. refl; value_cut = λ v. refl }

steps : IsName (codes "--steps")
steps = record { looks = refl; other = refl; whole = refl; alone = refl; looks_joined = λ v. refl; other_joined = λ v. refl; name_cut = λ v. refl; value_cut = λ v. refl }

device : IsName (codes "--device")
device = record { looks = refl; other = refl; whole = refl; alone = refl; looks_joined = λ v. refl; other_joined = λ v. refl; name_cut = λ v. refl; value_cut = λ v. refl }

plan : IsName (codes "--plan")
plan = record { looks = refl; other = refl; whole = refl; alone = refl; looks_joined = λ v. refl; other_joined = λ v. refl; name_cut = λ v. refl; value_cut = λ v. refl }

no_balance : IsName (codes "--no-balance")
no_balance = record { looks = refl; other = refl; whole = refl; alone = refl; looks_joined = λ v. refl; other_joined = λ v. refl; name_cut = λ v. refl; value_cut = λ v. refl }

cycles : IsName (codes "--cycles")
cycles = record { looks = refl; other = refl; whole = refl; alone = refl; looks_joined = λ v. refl; other_joined = λ v. refl; name_cut = λ v. refl; value_cut = λ v. refl }

vcd : IsName (codes "--vcd")
vcd = record { looks = refl; other = refl; whole = refl; alone = refl; looks_joined = λ v. refl; other_joined = λ v. refl; name_cut = λ v. refl; value_cut = λ v. refl }

all_names : (verb : Verb) → AreNames (options_of verb)
all_names Running = (workers, (steps, tt))
all_names Building = (device, (plan, (no_balance, tt)))
all_names Planning = (plan, tt)
all_names Simulating = (cycles, (vcd, tt))
all_names Showing = tt
all_names Generating = (workers, tt)

first_or_later : (options : List (Word × OptionKind)) (other : Word) (this : OptionKind) (name : Word) (kind : OptionKind) (b : Bool) → bytes_eq name other ≡ b → IsName other → (kind_in options name ≡ Some kind → IsName name) → (if b then Some this else kind_in options name) ≡ Some kind → IsName name
first_or_later options other this name kind true e first later h = subst IsName (sym ((bytes_eq-Decides name other).0 e)) first
first_or_later options other this name kind false e first later h = later h

name_of_table : (options : List (Word × OptionKind)) → AreNames options → (name : Word) (kind : OptionKind) → kind_in options name ≡ Some kind → IsName name
name_of_table [] names name kind h = absurd cc
name_of_table (option ∷ options) names name kind h = first_or_later options option.0 option.1 name kind (bytes_eq name option.0) refl names.0 (name_of_table options names.1 name kind) h

pub is_name : (verb : Verb) (name : Word) (kind : OptionKind) → option_kind verb name ≡ Some kind → IsName name
is_name verb name kind h = name_of_table (options_of verb) (all_names verb) name kind h
