-- The names of a file are spelled as names: each is the text of a symbol, which comes from a word of the source.
use Rattle.std.proofs.Common.{◌≡◌, ℕ, Bool, true, false, not, ◌&&◌, nat_le, if◌then◌else◌, List, [], ◌∷◌, length, drop, refl, sym, subst, arith}
use Rattle.std.specs.Prelude.{slice_range}
use Rattle.std.specs.Char.{is_ascii}
use Rattle.std.specs.List.{list_all, AllByRecursion}
use Rattle.std.specs.Str.{bytes_eq}
use Rattle.tapa_syntax.specs.declared.lexeme.LexKind.{LexKind}
use Rattle.tapa_syntax.specs.declared.lexeme.LexKind.TheVariants as lex_kind
use Rattle.tapa_syntax.specs.declared.lexeme.Lexeme.{Lexeme}
use Rattle.tapa_syntax.specs.declared.terminal.Terminal.{Terminal}
use Rattle.tapa_syntax.specs.declared.terminal.Terminal.TheVariants as terminal
use Rattle.tapa_syntax.specs.declared.tree.Name.{Name}
use Rattle.tapa_syntax.specs.declared.tree.Parameter.{Parameter}
use Rattle.tapa_syntax.specs.declared.tree.Parameter.TheVariants as parameter
use Rattle.tapa_base.specs.Gaps.{Bytes}
use Rattle.tapa_syntax.specs.Grammar.{Part, is_name, IsName, IsParameter, IsStream, IsBody, IsTask, IsItem, IsTreeOf}
use Rattle.tapa_syntax.specs.Lexemes.{IsLexeme, IsSliceOf, HasLexemes}
use Rattle.tapa_base.specs.Spans.{◌⨾◌, Each, Separated, SeparatedOrNone}
use Rattle.tapa_syntax.specs.Symbols.{Symbol, signs, look_up, sign_terminal, terminal_of, text_of, symbol_of, symbols_of}
use Rattle.tapa_syntax.specs.Trees.{StreamTree, BodyTree, leaf, upper, TaskTree, ItemTree, constant, task}
use Rattle.tapa_lex.proofs.Whole.{are_slices}
use Rattle.command_source.specs.Labels.{IsPlainName}
use Rattle.command_source.specs.Named.{parameter_name, NamesStreams, IsNamedTask, IsNamedItem, AreNamed}
use Rattle.command_source.proofs.Kept.{IsSpelled, AreSpelled, Keeps, symbol, ◌then◌, maybe, when, each, separated_or_none, type_kept, count_kept, attribute_kept, parameter_kept, labelled_kept, stream_kept, item_kept}
use Rattle.tapa_base.proofs.Tests.{both_true as both}

-- ---- the symbols of a source

-- a table without names gives none
table_no_name : (otherwise : Terminal) (table : List (List ℕ × Terminal)) (text : List ℕ) → is_name otherwise ≡ false → list_all (λ (entry : List ℕ × Terminal). not (is_name entry.1)) table ≡ true → is_name (look_up otherwise table text) ≡ false
table_no_name otherwise [] text e h = e
table_no_name otherwise (entry ∷ table) text e h =
    let parts = both (not (is_name entry.1)) (list_all (λ (x : List ℕ × Terminal). not (is_name x.1)) table) h in
    by_entry (bytes_eq entry.0 text) entry.1 parts.0 (table_no_name otherwise table text e parts.1)
  where
    no : (b : Bool) → not b ≡ true → b ≡ false
    no true f = absurd cc
    no false f = refl

    by_entry : (b : Bool) (m : Terminal) → not (is_name m) ≡ true → is_name (look_up otherwise table text) ≡ false → is_name (if b then m else look_up otherwise table text) ≡ false
    by_entry true m f g = no (is_name m) f
    by_entry false m f g = g

sign_no_name : (text : List ℕ) → is_name (sign_terminal text) ≡ false
unfolding sign_terminal
sign_no_name text = table_no_name terminal.Reserved signs text refl refl

-- a lexeme whose terminal is a name is a word
word_plain : (k : LexKind) (ascii : Bool) (bytes rest : Bytes) → IsLexeme k bytes rest → is_name (if ascii then terminal_of k bytes else terminal.Reserved) ≡ true → IsPlainName bytes
word_plain lex_kind.Word true bytes rest h e = record { first = h.begun; all = h.word }
word_plain (lex_kind.Literal kind value) true bytes rest h e = absurd cc
word_plain lex_kind.Str true bytes rest h e = absurd cc
word_plain lex_kind.Punct true bytes rest h e = let f : is_name (sign_terminal bytes) ≡ false = sign_no_name bytes in absurd cc
word_plain k false bytes rest h e = absurd cc

text_is : (source : List ℕ) (l : Lexeme) → IsSliceOf source l → text_of source l ≡ slice_range source l.from l.to
unfolding text_of
text_is source l h =
    let ordered : nat_le l.from l.to ≡ true = grind (arith, h.some) in
    let within : nat_le l.to (length source) ≡ true = grind (arith, h.within) in
    rw (ordered, within) refl

symbol_spelled : (source : List ℕ) (l : Lexeme) → IsSliceOf source l → IsSpelled (symbol_of source l)
unfolding symbol_of
symbol_spelled source l h =
    let stands : IsLexeme l.kind (text_of source l) (drop l.to source) = subst (λ (bytes : Bytes). IsLexeme l.kind bytes (drop l.to source)) (sym (text_is source l h)) h.stands in
    record { plain = λ e. word_plain l.kind (list_all is_ascii (text_of source l)) (text_of source l) (drop l.to source) stands e }

symbols_spelled : (source : List ℕ) (ls : List Lexeme) → AllByRecursion (IsSliceOf source) ls → AreSpelled (symbols_of source ls)
symbols_spelled source [] h = tt
symbols_spelled source (l ∷ ls) h = (symbol_spelled source l h.0, symbols_spelled source ls h.1)

-- ---- what a part tells where it begins with spelled symbols

record Tells (P : Part) (T : Type 0) : Type 0 where
  told : (i j : List Symbol) → P i j → AreSpelled i → T

named_told : (x : Name) → Tells (IsName x) (IsPlainName x.text)
named_told x = record { told = λ i j h spelled. subst (λ (n : Name). IsPlainName n.text) h.1.1 ((subst AreSpelled h.2 spelled).0.plain h.1.0) }

first : {P Q : Part} {T : Type 0} → Tells P T → Tells (P ⨾ Q) T
first {P} {Q} {T} p = record { told = λ i k h spelled. p.told i h.0 h.1 spelled }

infixr 9 ◌before◌
◌before◌ : {P Q : Part} {T : Type 0} → Keeps P → Tells Q T → Tells (P ⨾ Q) T
◌before◌ {P} {Q} {T} p q = record { told = λ i k h spelled. q.told h.0 k h.2 (p.kept i h.0 h.1 spelled) }

together : {P Q : Part} {T U : Type 0} → Keeps P → Tells P T → Tells Q U → Tells (P ⨾ Q) (T × U)
together {P} {Q} {T} {U} keeps p q = record { told = λ i k h spelled. (p.told i h.0 h.1 spelled, q.told h.0 k h.2 (keeps.kept i h.0 h.1 spelled)) }

each_told : {A : Type 0} {P : A → Part} {T : A → Type 0} → ((x : A) → Keeps (P x)) → ((x : A) → Tells (P x) (T x)) → (xs : List A) → Tells (Each P xs) (AllByRecursion T xs)
each_told keeps tells [] = record { told = λ i j h spelled. tt }
each_told keeps tells (x ∷ xs) = together (keeps x) (tells x) (each_told keeps tells xs)

separated_told : {A : Type 0} {B : Part} {P : A → Part} {T : A → Type 0} → Keeps B → ((x : A) → Keeps (P x)) → ((x : A) → Tells (P x) (T x)) → (xs : List A) → Tells (Separated B P xs) (AllByRecursion T xs)
separated_told between keeps tells [] = record { told = λ i j h spelled. absurd h }
separated_told between keeps tells (x ∷ xs) = together (keeps x) (tells x) (each_told (λ y. between then keeps y) (λ y. between before tells y) xs)

separated_or_none_told : {A : Type 0} {B : Part} {P : A → Part} {T : A → Type 0} → Keeps B → ((x : A) → Keeps (P x)) → ((x : A) → Tells (P x) (T x)) → (xs : List A) → Tells (SeparatedOrNone B P xs) (AllByRecursion T xs)
separated_or_none_told between keeps tells [] = record { told = λ i j h spelled. tt }
separated_or_none_told between keeps tells (x ∷ xs) = separated_told between keeps tells (x ∷ xs)

-- ---- the names of a file

parameter_told : (p : Parameter) → Tells (IsParameter p) (IsPlainName (parameter_name p))
parameter_told (parameter.InputStream k x) = symbol before symbol before symbol before symbol before type_kept k before symbol before symbol before named_told x
parameter_told (parameter.OutputStream k x) = symbol before symbol before symbol before symbol before type_kept k before symbol before symbol before named_told x
parameter_told (parameter.Memory is_const k x) = symbol before symbol before symbol before symbol before when is_const symbol before type_kept k before symbol before named_told x
parameter_told (parameter.Scalar is_const k x) = when is_const symbol before type_kept k before named_told x

stream_told : (s : StreamTree) → Tells (IsStream s) (AllByRecursion (λ (x : Name). IsPlainName x.text) s.names)
stream_told s =
    symbol before symbol before symbol before symbol before type_kept s.kind before maybe (λ count. symbol then count_kept count) s.depth before symbol
    before first (separated_told symbol (λ x. symbol then labelled_kept) (λ x. first (named_told x)) s.names)

body_told : (b : BodyTree) → Tells (IsBody b) (NamesStreams b)
body_told (leaf ss) = record { told = λ i j h spelled. tt }
body_told (upper streams invocations) = first (each_told stream_kept stream_told streams)

task_told : (t : TaskTree) → Tells (IsTask t) (IsNamedTask t)
task_told t = record { told = λ i j h spelled. record { name = name.told i j h spelled; parameters = parameters.told i j h spelled; streams = streams.told i j h spelled } }
  where
    name : Tells (IsTask t) (IsPlainName t.name.text)
    name = each attribute_kept t.attributes before symbol before first (named_told t.name)

    parameters : Tells (IsTask t) (AllByRecursion (λ (p : Parameter). IsPlainName (parameter_name p)) t.parameters)
    parameters = each attribute_kept t.attributes before symbol before symbol before symbol before first (separated_or_none_told symbol parameter_kept parameter_told t.parameters)

    streams : Tells (IsTask t) (NamesStreams t.body)
    streams =
        each attribute_kept t.attributes before symbol before symbol before symbol before separated_or_none symbol parameter_kept t.parameters before symbol before symbol
        before first (body_told t.body)

item_told : (item : ItemTree) → Tells (IsItem item) (IsNamedItem item)
item_told (constant attributes k x e) = record { told = λ i j h spelled. tt }
item_told (task t) = task_told t

pub spelled_names : (text : List ℕ) (lexemes : List Lexeme) (items : List ItemTree) → HasLexemes text lexemes → IsTreeOf (symbols_of text lexemes) items → AreNamed items
spelled_names text lexemes items h tree = (each_told item_kept item_told items).told (symbols_of text lexemes) [] tree (symbols_spelled text lexemes (are_slices text lexemes h))
