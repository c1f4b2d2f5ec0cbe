-- The judgement on modules whose numbers are cut is that on the tree of the text.
use Rattle.std.proofs.Common.{◌≡◌, ℕ, ◌≤◌, List, [], ◌∷◌, None, length, map, sym, ap, subst, ◌∙◌, arith}
use Rattle.vlog_tree.specs.declared.fault.VFault.{VFault}
use Rattle.vlog_tree.specs.declared.fault.VFault.TheVariants.{V1, V2, V3, V4, V5, V6, OutOfMemory}
use Rattle.vlog_tree.specs.Form.{ModuleTree}
use Rattle.vlog_tree.specs.Spelling.{Word}
use Rattle.vlog_tree.specs.Table.{first_violation}
use Rattle.vlog_tree.specs.V3.{v3_uses}
use Rattle.vlog_tree.specs.Refused.{Refuses, IsDesign}
use Rattle.vlog_tree.specs.Clamped.{clamped}
use Rattle.vlog_tree.proofs.ClampedModules.{widths_same}
use Rattle.tapa_base.specs.Gaps.{Bytes}
use Rattle.vlog_lex.specs.Grammar.{SpellsDesign, HasTree}
use Rattle.vlog_lex.specs.declared.lexer.Lexeme.{Lexeme}
use Rattle.vlog_lex.specs.Scanned.{IsScan, words_at}
use Rattle.vlog_read.specs.Texts.{RefusesText}
use Rattle.vlog_read.proofs.CutNames.{names_cut}
use Rattle.vlog_read.proofs.Uncut.{modules_are}
use Rattle.vlog_read.proofs.Stopped.{scan_words}

-- where the rule on widths holds of them
uncut : (ms : List ModuleTree) → first_violation (v3_uses (map clamped ms)) ≡ None → map clamped ms ≡ ms
uncut ms h = modules_are ms (ap first_violation (sym (widths_same ms)) ∙ h)

pub refuses_text : (text : Bytes) (ms : List ModuleTree) (e : VFault) → HasTree text ms → Refuses (map clamped ms) e → RefusesText text e
refuses_text text ms (V1 place) tree r = absurd r
refuses_text text ms (V2 x) tree r = (ms, tree, ap first_violation (sym (names_cut ms)) ∙ r)
refuses_text text ms (V3 x) tree r = (ms, tree, (ap first_violation (sym (names_cut ms)) ∙ r.0, ap first_violation (sym (widths_same ms)) ∙ r.1))
refuses_text text ms (V4 x) tree r = (ms, tree, subst (λ (l : List ModuleTree). Refuses l (V4 x)) (uncut ms r.1) r)
refuses_text text ms (V5 x) tree r = (ms, tree, subst (λ (l : List ModuleTree). Refuses l (V5 x)) (uncut ms r.0.widths) r)
refuses_text text ms (V6 x) tree r = (ms, tree, subst (λ (l : List ModuleTree). Refuses l (V6 x)) (uncut ms r.0.widths) r)
refuses_text text ms OutOfMemory tree r = tt

pub tree_uncut : (text : Bytes) (ms : List ModuleTree) (top : ℕ) → HasTree text ms → IsDesign (map clamped ms) top → HasTree text (map clamped ms)
tree_uncut text ms top tree d = subst (HasTree text) (sym (uncut ms d.sound.widths)) tree

-- the tree of a text whose words are all scanned
pub scan_tree : (text : Bytes) (lexemes : List Lexeme) (end : ℕ) (ms : List ModuleTree) → IsScan text lexemes end → length text ≤ end → SpellsDesign ms (words_at text lexemes) → HasTree text ms
scan_tree text lexemes end ms s h d = (words_at text lexemes, scan_words text lexemes end s h, d)

pub some_modules : (words : List Word) (ms : List ModuleTree) → SpellsDesign ms words → 1 ≤ length (map clamped ms)
some_modules words [] none = absurd none
some_modules words (m ∷ ms) d = omega arith
