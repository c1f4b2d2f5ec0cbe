-- A reader behind words: they go on to a whole design as it goes on.
use Rattle.std.proofs.Common.{◌≡◌, ℕ, zero, suc, ◌+◌, ◌<◌, ◌≤◌, List, [], ◌∷◌, ◌++◌, append_assoc, length, take, map, get_or, Some, None, refl, sym, ap, subst, ◌∙◌, arith}
use Rattle.std.proofs.lemmas.List.{append-nil, take_all, take_more}
use Rattle.vlog_tree.specs.Form.{ModuleTree}
use Rattle.vlog_tree.specs.Spelling.{Word}
use Rattle.vlog_tree.specs.Clamped.{clamped}
use Rattle.vlog_lex.specs.Grammar.{SpellsDesign}
use Rattle.tapa_base.specs.Gaps.{Bytes}
use Rattle.vlog_lex.specs.declared.lexer.Lexeme.{Lexeme}
use Rattle.vlog_lex.specs.Scanned.{word_of, words_at}
use Rattle.vlog_read.specs.declared.state.HeadState.TheVariants.{Between}
use Rattle.vlog_read.specs.declared.state.State.TheVariants.{Head}
use Rattle.vlog_read.specs.declared.state.Reader.{Reader}
use Rattle.vlog_read.specs.ValueReading.{at}
use Rattle.vlog_read.specs.BlockReading.{next, whole}
use Rattle.vlog_read.specs.Finishing.{Finishes}
use Rattle.vlog_read.specs.Refused.{Begins, IsFirstRefused}
use Rattle.vlog_read.proofs.IsRead.{Follows}
use Rattle.vlog_read.proofs.Folded.{all_modules}
use Rattle.vlog_read.proofs.ReaderReads.{reader_read, whole_ends, none_ends}
use Rattle.vlog_read.proofs.Alive.{reader_on}

abbrev pub start : Reader
start = at (Head (Between []))

-- these modules, cut, are those of the words
pub design_to : (words : List Word) (ms : List ModuleTree) → SpellsDesign ms words → Finishes (map clamped ms) start words
design_to words [] none = absurd none
design_to words (m ∷ ms) all = (m ∷ ms, all, sym (all_modules (m ∷ ms)), omega arith)

pub design_of : (words : List Word) (cs : List ModuleTree) → Finishes cs start words → (ms : List ModuleTree) × SpellsDesign ms words × (cs ≡ map clamped ms)
design_of words cs ([], e, is, one) = absurd (omega (arith, ap length is, one))
design_of words cs (m ∷ ms, all, is, one) = (m ∷ ms, all, is ∙ all_modules (m ∷ ms))

pub record IsBehind (words : List Word) (r : Reader) : Type 0 where
  pub to : (cs : List ModuleTree) (rest : List Word) → Finishes cs start (words ++ rest) → Finishes cs r rest
  pub from : (cs : List ModuleTree) (rest : List Word) → Finishes cs r rest → Finishes cs start (words ++ rest)

pub behind_none : IsBehind [] start
behind_none = record { to = λ cs rest h. h; from = λ cs rest h. h }

pub behind_more : (words : List Word) (w : Word) (r s : Reader) → IsBehind words r → next r w ≡ Some s → IsBehind (words ++ w ∷ []) s
behind_more words w r s b e =
    record {
      to = λ cs rest h.
          subst (λ n. Follows cs n rest) e ((reader_read cs r).to (w ∷ rest) (b.to cs (w ∷ rest) (subst (Finishes cs start) (append_assoc words (w ∷ []) rest) h)));
      from = λ cs rest h.
          subst (Finishes cs start) (sym (append_assoc words (w ∷ []) rest)) (b.from cs (w ∷ rest) ((reader_read cs r).from (w ∷ rest) (subst (λ n. Follows cs n rest) (sym e) h)));
    }

-- where it refuses a word, that is the first one
pub refused_there : (words : List Word) (k : ℕ) (w : Word) (r : Reader) → k < length words → take (k + 1) words ≡ take k words ++ w ∷ [] → IsBehind (take k words) r → next r w ≡ None → IsFirstRefused words k
refused_there words k w r lt more b e =
    record {
      within = omega arith;
      begun = let a = reader_on r in let d = design_of (take k words ++ a.1) a.0 (b.from a.0 a.1 a.2) in (a.1, d.0, d.1);
      next = λ _ h. stops h.0 h.1 h.2;
      end = λ same ms h. absurd (omega (arith, same, lt));
    }
  where
    stops : (rest : List Word) (ms : List ModuleTree) → SpellsDesign ms (take (k + 1) words ++ rest) → ⊥
    stops rest ms h =
        let one : SpellsDesign ms (take k words ++ w ∷ rest) = subst (SpellsDesign ms) (ap (λ l. l ++ rest) more ∙ append_assoc (take k words) (w ∷ []) rest) h in
        subst (λ n. Follows (map clamped ms) n rest) e ((reader_read (map clamped ms) r).to (w ∷ rest) (b.to (map clamped ms) (w ∷ rest) (design_to (take k words ++ w ∷ rest) ms one)))

-- where more would have to come, all words are passed
pub refused_end : (words : List Word) (r : Reader) → IsBehind words r → whole r ≡ None → IsFirstRefused words (length words)
refused_end words r b e =
    record {
      within = omega arith;
      begun = subst Begins (sym (take_all (length words) words (omega arith))) (let a = reader_on r in let d = design_of (words ++ a.1) a.0 (b.from a.0 a.1 a.2) in (a.1, d.0, d.1));
      next = λ lt h. absurd (omega (arith, lt));
      end = λ _ ms h. none_ends (map clamped ms) r e ((reader_read (map clamped ms) r).to [] (b.to (map clamped ms) [] (design_to (words ++ []) ms (subst (SpellsDesign ms) (sym (append-nil words)) h))));
    }

-- where nothing has to come, the modules are those of the words
pub found_whole : (words : List Word) (r : Reader) (cs : List ModuleTree) → IsBehind words r → whole r ≡ Some cs → (ms : List ModuleTree) × SpellsDesign ms words × (cs ≡ map clamped ms)
found_whole words r cs b e = design_of words cs (subst (Finishes cs start) (append-nil words) (b.from cs [] ((reader_read cs r).from [] (whole_ends cs r e))))

-- ---- words one by one

pub behind_begun : (words : List Word) (r : Reader) → r ≡ start → IsBehind (take 0 words) r
behind_begun [] r e = subst (IsBehind []) (sym e) behind_none
behind_begun (w ∷ words) r e = subst (IsBehind []) (sym e) behind_none

pub length_words : (text : Bytes) (ls : List Lexeme) → length (words_at text ls) ≡ length ls
length_words text [] = refl
length_words text (l ∷ ls) = ap suc (length_words text ls)

got_word : (text : Bytes) (ls : List Lexeme) (k : ℕ) (l : Lexeme) → get_or (words_at text ls) k (word_of text l) ≡ word_of text (get_or ls k l)
got_word text [] k l = refl
got_word text (m ∷ ls) zero l = refl
got_word text (m ∷ ls) (suc k) l = got_word text ls k l

-- l stands past the end of the list
words_more : (text : Bytes) (ls : List Lexeme) (k : ℕ) (l : Lexeme) → k < length ls → take (k + 1) (words_at text ls) ≡ take k (words_at text ls) ++ word_of text (get_or ls k l) ∷ []
words_more text ls k l lt =
    take_more (words_at text ls) k (word_of text l) (omega (arith, lt, length_words text ls)) ∙ ap (λ w. take k (words_at text ls) ++ w ∷ []) (got_word text ls k l)

pub behind_next : (text : Bytes) (ls : List Lexeme) (k : ℕ) (l : Lexeme) (r s : Reader) → k < length ls → IsBehind (take k (words_at text ls)) r → next r (word_of text (get_or ls k l)) ≡ Some s → IsBehind (take (k + 1) (words_at text ls)) s
behind_next text ls k l r s lt b is = subst (λ (ws : List Word). IsBehind ws s) (sym (words_more text ls k l lt)) (behind_more (take k (words_at text ls)) (word_of text (get_or ls k l)) r s b is)

pub refused_next : (text : Bytes) (ls : List Lexeme) (k : ℕ) (l : Lexeme) (r : Reader) → k < length ls → IsBehind (take k (words_at text ls)) r → next r (word_of text (get_or ls k l)) ≡ None → IsFirstRefused (words_at text ls) k
refused_next text ls k l r lt b is = refused_there (words_at text ls) k (word_of text (get_or ls k l)) r (omega (arith, lt, length_words text ls)) (words_more text ls k l lt) b is

all_words : (text : Bytes) (ls : List Lexeme) (k : ℕ) → length ls ≤ k → take k (words_at text ls) ≡ words_at text ls
all_words text ls k h = take_all k (words_at text ls) (omega (arith, h, length_words text ls))

pub refused_last : (text : Bytes) (ls : List Lexeme) (k : ℕ) (r : Reader) → length ls ≤ k → k ≤ length ls → IsBehind (take k (words_at text ls)) r → whole r ≡ None → IsFirstRefused (words_at text ls) k
refused_last text ls k r h le b e =
    subst (IsFirstRefused (words_at text ls)) (omega (arith, h, le, length_words text ls)) (refused_end (words_at text ls) r (subst (λ (ws : List Word). IsBehind ws r) (all_words text ls k h) b) e)

pub found_last : (text : Bytes) (ls : List Lexeme) (k : ℕ) (r : Reader) (cs : List ModuleTree) → length ls ≤ k → IsBehind (take k (words_at text ls)) r → whole r ≡ Some cs → (ms : List ModuleTree) × SpellsDesign ms (words_at text ls) × (cs ≡ map clamped ms)
found_last text ls k r cs h b e = found_whole (words_at text ls) r cs (subst (λ (ws : List Word). IsBehind ws r) (all_words text ls k h) b) e
