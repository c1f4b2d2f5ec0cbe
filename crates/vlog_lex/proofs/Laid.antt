-- Words that stand alone, laid on a page, are the words of its text.
use Rattle.std.proofs.Common.{◌≡◌, inl, inr, ℕ, zero, suc, ◌-◌, Bool, true, false, if◌then◌else◌, List, [], ◌∷◌, ◌++◌, fold, refl, sym, ap, subst, ◌∙◌}
use Rattle.std.specs.List.{AllByRecursion}
use Rattle.std.proofs.lemmas.List.{append_assoc, append-nil}
use Rattle.vlog_tree.specs.Spelling.{Word, Page, lay_word, indent, ends_line, closes}
use Rattle.tapa_base.specs.Gaps.{Bytes, is_blank}
use Rattle.vlog_lex.specs.Lexemes.{IsGap, IsWord, gap, word, HasWords}
use Rattle.vlog_lex.proofs.Alone.{IsApart, StandsAlone}

-- ---- one piece in front of a text

pub no_words : HasWords [] []
no_words = record { pieces = []; is = refl; standing = tt; told = refl }

pub gap_first : (bytes text : Bytes) (ws : List Word) → IsGap bytes text → HasWords text ws → HasWords (bytes ++ text) ws
gap_first bytes text ws is h =
    record { pieces = gap bytes ∷ h.pieces; is = ap (λ t. bytes ++ t) h.is; standing = (subst (λ (t : Bytes). IsGap bytes t) (sym h.is) is, h.standing); told = h.told }

blank_first : (b : ℕ) (text : Bytes) (ws : List Word) → is_blank b ≡ true → HasWords text ws → HasWords (b ∷ text) ws
blank_first b text ws blank h = gap_first (b ∷ []) text ws (inl (b, refl, blank)) h

pub word_first : (w : Word) (text : Bytes) (ws : List Word) → IsWord w text → HasWords text ws → HasWords (w ++ text) (w ∷ ws)
word_first w text ws is h =
    record { pieces = word w ∷ h.pieces; is = ap (λ t. w ++ t) h.is; standing = (subst (λ (t : Bytes). IsWord w t) (sym h.is) is, h.standing); told = ap (λ l. w ∷ l) h.told }

indent_first : (n : ℕ) (text : Bytes) (ws : List Word) → HasWords text ws → HasWords (indent n ++ text) ws
indent_first zero text ws h = h
indent_first (suc n) text ws h = blank_first 32 _ ws refl (blank_first 32 _ ws refl (indent_first n text ws h))

-- ---- a page, word by word

abbrev before : Bool → ℕ → Bytes
before begun n = if begun then 32 ∷ [] else indent n

abbrev behind : Word → Bytes
behind w = if ends_line w then 10 ∷ [] else []

abbrev inner : Page → Word → ℕ
inner page w = if closes w then page.depth - 1 else page.depth

-- what words add to a page
laid : Page → List Word → Bytes
laid page [] = []
laid page (w ∷ ws) = before page.begun (inner page w) ++ (w ++ (behind w ++ laid (lay_word page w) ws))

grouped : (t a w b l : Bytes) → ((t ++ a) ++ (w ++ b)) ++ l ≡ t ++ (a ++ (w ++ (b ++ l)))
grouped t a w b l = simp append_assoc

laid_text : (ws : List Word) (page : Page) → (fold lay_word page ws).text ≡ page.text ++ laid page ws
unfolding laid lay_word
laid_text [] page = sym (append-nil page.text)
laid_text (w ∷ ws) page = laid_text ws (lay_word page w) ∙ grouped page.text (before page.begun (inner page w)) w (behind w) (laid (lay_word page w) ws)

before_first : (begun : Bool) (n : ℕ) (text : Bytes) (ws : List Word) → HasWords text ws → HasWords (before begun n ++ text) ws
before_first true n text ws h = blank_first 32 text ws refl h
before_first false n text ws h = indent_first n text ws h

-- behind a word a line has begun, unless it ends there
begun_behind : (page : Page) (w : Word) → (lay_word page w).begun ≡ (if ends_line w then false else true)
unfolding lay_word
begun_behind page w = refl

begun_apart : (page : Page) (ws : List Word) → page.begun ≡ true → IsApart (laid page ws)
unfolding laid
begun_apart page [] e = tt
begun_apart page (w ∷ ws) e = rw e (inl refl)

word_behind : (ends : Bool) (w : Word) (text : Bytes) (ws : List Word) → StandsAlone w → (ends ≡ false → IsApart text) → HasWords text ws → HasWords (w ++ ((if ends then 10 ∷ [] else []) ++ text)) (w ∷ ws)
word_behind true w text ws alone apart h = word_first w (10 ∷ text) ws (alone.on (10 ∷ text) (inr refl)) (blank_first 10 text ws refl h)
word_behind false w text ws alone apart h = word_first w text ws (alone.on text (apart refl)) h

laid_words : (ws : List Word) (page : Page) → AllByRecursion StandsAlone ws → HasWords (laid page ws) ws
unfolding laid
laid_words [] page h = no_words
laid_words (w ∷ ws) page (alone, more) =
    before_first page.begun (inner page w) _ (w ∷ ws)
    (word_behind (ends_line w) w (laid (lay_word page w) ws) ws alone
    (λ e. begun_apart (lay_word page w) ws (begun_behind page w ∙ ap (λ (b : Bool). if b then false else true) e))
    (laid_words ws (lay_word page w) more))

pub page_words : (ws : List Word) (page : Page) → page.text ≡ [] → AllByRecursion StandsAlone ws → HasWords (fold lay_word page ws).text ws
page_words ws page e h = subst (λ (t : Bytes). HasWords t ws) (sym (laid_text ws page ∙ ap (λ t. t ++ laid page ws) e)) (laid_words ws page h)
