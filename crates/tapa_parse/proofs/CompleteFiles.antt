-- What is spelled as a file is read, or refused at the first lexeme that passes a limit; so a list of symbols has one tree.
use Rattle.std.proofs.Common.{◌≡◌, ℕ, suc, max, ◌<◌, ◌≤◌, inl, inr, true, false, List, [], ◌∷◌, length, drop, Option, Result, Ok, Err, refl, sym, ap, ◌∙◌, arith}
use Rattle.std.specs.Prelude.{◌||◌}
use Rattle.tapa_base.specs.declared.text.Place.{Place}
use Rattle.tapa_syntax.specs.declared.terminal.Terminal.{Terminal}
use Rattle.tapa_syntax.specs.declared.terminal.Terminal.TheVariants as terminal
use Rattle.tapa_syntax.specs.declared.tree.File.{File}
use Rattle.tapa_base.specs.Spans.{◌∣◌, Each}
use Rattle.tapa_syntax.specs.Trees.{AttributeTree, Statements, no_statement, statement_then, StreamTree, BodyTree, leaf, upper, TaskTree, ItemTree, constant, task, file_of}
use Rattle.tapa_syntax.specs.Grammar.{Takes, TakesAt, AreStatements, IsAttribute, IsParameter, IsStream, IsInvocation, IsBody, IsItem, IsTreeOf, HaveOneTree, expression_level}
use Rattle.tapa_syntax.specs.Limits.{most, item_nesting, item_operators, most_levels, most_operators, IsWithinLimits}
use Rattle.tapa_parse.specs.declared.fault.ParseFault.{ParseFault}
use Rattle.tapa_parse.specs.declared.fault.ParseFault.TheVariants.{At, OutOfMemory}
use Rattle.tapa_parse.specs.Answers.{ParserAnswers, stopped_at}
use Rattle.tapa_parse_expression.specs.Readers.{Outcome, is_left, next, first_place, same, sees}
use Rattle.tapa_parse_expression.specs.Reading.{Readers, attribute, attributes, below_levels, below}
use Rattle.tapa_parse_expression.specs.Passing.{over_each}
use Rattle.tapa_parse.specs.Reading.{constant_word, body, task_behind, constant_behind, item, file}
use Rattle.tapa_parse.specs.Passing.{over_attribute, over_body, over_item}
use Rattle.tapa_base.specs.Gaps.{Bytes}
use Rattle.tapa_parse_expression.proofs.Parts.{Symbols, done, ok_is, then_is, if_true, next_is, seen_is, dropped, expect_is, name_is, told, Told, told_true, told_false, told_behind, told_then, told_after}
use Rattle.tapa_parse_expression.proofs.CompleteLists.{TellsAll, repeat_told}
use Rattle.tapa_parse_expression.proofs.CompleteTypes.{type_complete, type_longer, takes_longer, sees_other}
use Rattle.tapa_parse_expression.proofs.CompleteLevels.{stops, expression_longer}
use Rattle.tapa_parse.proofs.CompleteActions.{LevelMayTell, name_behind, name_longer, whole_expression_told}
use Rattle.tapa_parse.proofs.CompleteLengths.{each_longer, some_longer, listed_longer, attribute_longer, statements_longer}
use Rattle.tapa_parse.proofs.CompleteStatements.{list_of, of_list, statement_other, attributes_read, statements_told, below_tells}
use Rattle.tapa_parse.proofs.CompleteTasks.{third, parameter_longer, stream_longer, invocation_longer, parameters_complete, streams_told, invocations_told}
use Rattle.tapa_parse.proofs.Passing.{none_over_items}

-- ---- each item has symbols

body_longer : (b : BodyTree) (i r : Symbols) → IsBody b i r → length r ≤ length i
body_longer (leaf ss) i r all = statements_longer ss i r all
body_longer (upper streams invocations) i r (j, declared, (a, tapa, (b, scope, (c, word, (d, begin, (e, close, (f, all, end))))))) =
    omega (arith, each_longer IsStream stream_longer streams i j declared, takes_longer terminal.Tapa j a tapa, takes_longer terminal.Scope a b scope, takes_longer terminal.Task b c word, takes_longer terminal.LeftParen c d begin, takes_longer terminal.RightParen d e close, some_longer IsInvocation invocation_longer invocations e f all, takes_longer terminal.Semicolon f r end)

constant_word_longer : (i r : Symbols) → (Takes terminal.Const ∣ Takes terminal.Constexpr) i r → length r < length i
constant_word_longer i r (inl t) = takes_longer terminal.Const i r t
constant_word_longer i r (inr t) = takes_longer terminal.Constexpr i r t

pub item_longer : (x : ItemTree) (i r : Symbols) → IsItem x i r → length r < length i
item_longer (constant found k x e) i r (j, all, (a, word, (b, type, (c, named, (d, sign, (f, value, end)))))) =
    omega (arith, each_longer IsAttribute attribute_longer found i j all, constant_word_longer j a word, type_longer k a b type, name_longer x b c named, takes_longer terminal.Assign c d sign, expression_longer expression_level e d f value, takes_longer terminal.Semicolon f r end)
item_longer (task t) i r (j, all, (a, void, (b, named, (c, begin, (d, parameters, (e, close, (f, brace, (g, inside, (x, h, is))))))))) =
    omega (arith, each_longer IsAttribute attribute_longer t.attributes i j all, takes_longer terminal.Void j a void, name_longer t.name a b named, takes_longer terminal.LeftParen b c begin, listed_longer terminal.Comma IsParameter parameter_longer t.parameters c d parameters, takes_longer terminal.RightParen d e close, takes_longer terminal.LeftBrace e f brace, body_longer t.body f g inside, ap length is)

some_left : (i r : Symbols) → length r < length i → is_left i ≡ true
some_left [] r h = absurd (omega arith)
some_left (x ∷ i) r h = refl

-- ---- bodies and items

statements_no_stream : (ss : Statements) (i r : Symbols) → AreStatements ss i r → next r ≡ terminal.RightBrace → sees terminal.Tapa i ≡ false
unfolding sees same
statements_no_stream no_statement i r is ends = rw (is, ends) refl
statements_no_stream (statement_then s ss) i r (j, first, rest) ends = statement_other terminal.Tapa s i j first refl

streams_begin : (streams : List StreamTree) (i j r : Symbols) → Each IsStream streams i j → Takes terminal.Tapa j r → sees terminal.Tapa i ≡ true
streams_begin [] i j r is tapa = rw is (seen_is terminal.Tapa j r tapa)
streams_begin (s ∷ streams) i j r (a, (b, first, rest), more) tapa = seen_is terminal.Tapa i b first

stands_at : (m : Terminal) (at : Place) (i r : Symbols) → TakesAt m at i r → first_place i ≡ at
stands_at m at i r (x, h, is) = rw is h.1

abbrev task_tree : TaskTree → Place → TaskTree
task_tree t at = record { attributes = t.attributes; name = t.name; parameters = t.parameters; body = t.body; end = at }

constant_word_complete : (i r : Symbols) → (Takes terminal.Const ∣ Takes terminal.Constexpr) i r → constant_word i ≡ Ok (tt, r)
unfolding constant_word same
constant_word_complete i r (inl t) =
    let seen : (sees terminal.Const i || sees terminal.Constexpr i) ≡ true = rw (seen_is terminal.Const i r t) refl in
    if_true _ seen (ap (λ (j : Symbols). done (tt, j)) (dropped terminal.Const i r t))
constant_word_complete i r (inr t) =
    let seen : (sees terminal.Const i || sees terminal.Constexpr i) ≡ true = rw (sees_other terminal.Constexpr terminal.Const i r t refl) (seen_is terminal.Constexpr i r t) in
    if_true _ seen (ap (λ (j : Symbols). done (tt, j)) (dropped terminal.Constexpr i r t))

-- no attribute and no task begins with it
constant_word_other : (m : Terminal) (i r : Symbols) → (Takes terminal.Const ∣ Takes terminal.Constexpr) i r → same terminal.Const m ≡ false → same terminal.Constexpr m ≡ false → sees m i ≡ false
constant_word_other m i r (inl t) e f = sees_other terminal.Const m i r t e
constant_word_other m i r (inr t) e f = sees_other terminal.Constexpr m i r t f

module _ (limit levels : ℕ) (inner : Option Readers) (h : LevelMayTell limit levels inner) where
  body_told : (b : BodyTree) (i r : Symbols) (k : IsBody b i r) → next r ≡ terminal.RightBrace → Told (over_body limit levels b i r k) (b, r) (body limit inner i)
  unfolding body same over_body
  body_told (leaf ss) i r k ends =
      told_false _ (statements_no_stream ss i r k ends) (told_after _ (list_of ss) r (statements_told limit levels inner h ss i r k ends) (ap (λ xs. done (leaf xs, r)) (of_list ss)))
  body_told (upper streams invocations) i r (j, declared, (a, tapa, (b, scope, (c, word, (d, begin, (e, close, (f, all, end))))))) ends =
      let stop : sees terminal.Stream (drop 2 j) ≡ false = rw (third j a b tapa scope) (sees_other terminal.Task terminal.Stream b c word refl) in
      told_true _ (streams_begin streams i j a declared tapa)
      (told_then _ streams j (streams_told limit levels inner h streams i j declared stop)
      (told_after _ invocations r (invocations_told limit levels inner h invocations j a b c d e f r tapa scope word begin close all end) refl))

  attributes_told : (found : List AttributeTree) (i r : Symbols) (k : Each IsAttribute found i r) → sees terminal.LeftBracket r ≡ false
      → Told (over_each IsAttribute (over_attribute limit levels) found i r k) (found, r) (attributes inner i)
  attributes_told found i r k stop =
      repeat_told IsAttribute (over_attribute limit levels) (sees terminal.LeftBracket) (attribute inner) (λ r. Unit {0}) (attributes_read limit levels inner h) found i r k stop tt

  item_told : (x : ItemTree) (i r : Symbols) (k : IsItem x i r) → Told (over_item limit levels x i r k) (x, r) (item limit inner i)
  unfolding item task_behind constant_behind same over_item
  item_told (constant found kind x e) i r (j, all, (a, word, (b, type, (c, named, (d, sign, (f, value, end)))))) =
      told_then _ found j (attributes_told found i j all (constant_word_other terminal.LeftBracket j a word refl refl))
      (told_false _ (constant_word_other terminal.Void j a word refl refl)
      (told_behind _ tt a (constant_word_complete j a word)
      (told_behind _ kind b (type_complete kind a b type (name_behind x b c named))
      (told_behind _ x c (name_is x b c named)
      (told_behind _ tt d (expect_is terminal.Assign c d sign)
      (told_after _ e f (whole_expression_told limit levels inner h e d f value (ap stops (next_is terminal.Semicolon f r end)))
      (then_is _ tt r (expect_is terminal.Semicolon f r end) refl)))))))
  item_told (task t) i r (j, all, (a, void, (b, named, (c, begin, (d, parameters, (e, close, (f, brace, (g, inside, end)))))))) =
      let end_brace : Takes terminal.RightBrace g r = (end.0, end.1.0, end.2) in
      told_then _ t.attributes j (attributes_told t.attributes i j all (sees_other terminal.Void terminal.LeftBracket j a void refl))
      (told_true _ (seen_is terminal.Void j a void)
      (told_after _ t r
      (told_behind _ tt a (expect_is terminal.Void j a void)
      (told_behind _ t.name b (name_is t.name a b named)
      (told_behind _ t.parameters e (parameters_complete t.parameters b c d e begin parameters close)
      (told_behind _ tt f (expect_is terminal.LeftBrace e f brace)
      (told_after _ t.body g (body_told t.body f g inside (next_is terminal.RightBrace g r end_brace))
      (then_is _ tt r (expect_is terminal.RightBrace g r end_brace) (ap (λ p. done (task_tree t p, r)) (stands_at terminal.RightBrace t.end g r end))))))))
      refl))

  items_read : TellsAll IsItem (over_item limit levels) is_left (item limit inner) (λ r. Unit {0})
  items_read = record {
    reads = λ x i r k free. item_told x i r k;
    begins = λ x i r k. (some_left i r (item_longer x i r k), tt);
    longer = item_longer;
  }

-- ---- files

pub file_told : (limit levels : ℕ) (i : Symbols) (items : List ItemTree) (h : IsTreeOf i items)
    → file limit (below_levels limit levels) i ≡ told (over_each IsItem (over_item limit levels) items i [] h) (items, [])
unfolding file
file_told limit levels i items h = reads.is
  where
    reads : Told (over_each IsItem (over_item limit levels) items i [] h) (items, []) (file limit (below_levels limit levels) i)
    reads =
        told_after _ items []
        (repeat_told IsItem (over_item limit levels) is_left (item limit (below_levels limit levels)) (λ r. Unit {0})
        (items_read limit levels (below_levels limit levels) (below_tells limit levels)) items i [] h refl tt) refl

pub file_complete : (limit levels : ℕ) (i : Symbols) (trees : List ItemTree) → IsTreeOf i trees → most item_nesting trees ≤ levels → most item_operators trees ≤ limit → 1 ≤ levels → file limit (below_levels limit levels) i ≡ Ok (trees, [])
file_complete limit levels i trees h deep few one = file_told limit levels i trees h ∙ ap (λ w. told w (trees, [])) (none_over_items limit levels one trees i h deep few)

-- the levels that both trees need tells them apart, if they differ
pub one_tree : HaveOneTree
one_tree symbols a b h k =
    let levels = suc (max (most item_nesting a) (most item_nesting b)) in
    let limit = max (most item_operators a) (most item_operators b) in
    let first = file_complete limit levels symbols a h (omega arith) (omega arith) (omega arith) in
    let second = file_complete limit levels symbols b k (omega arith) (omega arith) (omega arith) in
    ap (λ (x : List ItemTree × Symbols). x.0) (ok_is (a, []) (b, []) (sym first ∙ second))

-- the answer is what reading gives, unless memory ran out
abbrev pub Reads : Bytes → Result File ParseFault → Outcome (List ItemTree) → Type 0
Reads text (Ok file) outcome = (left : Symbols) × (outcome ≡ Ok (file_of file, left))
Reads text (Err OutOfMemory) outcome = Unit {0}
Reads text (Err (At code place)) outcome = (left : Symbols) × (place ≡ stopped_at text left) × (outcome ≡ Err (code, left))

-- what is read is what the symbols have
pub answered : (text : Bytes) (result : Result File ParseFault) (i : Symbols) → Reads text result (file most_operators (below most_levels) i) → (trees : List ItemTree) → IsTreeOf i trees → IsWithinLimits trees → ParserAnswers result trees
answered text (Ok found) i (left, is) trees h k = ap (λ (x : List ItemTree × Symbols). x.0) (ok_is (file_of found, left) (trees, []) (sym is ∙ file_complete most_operators most_levels i trees h k.levels k.longest (omega arith)))
answered text (Err OutOfMemory) i is trees h k = refl
answered text (Err (At code place)) i (left, at, is) trees h k = absurd (let read = file_complete most_operators most_levels i trees h k.levels k.longest (omega arith) in cc)
