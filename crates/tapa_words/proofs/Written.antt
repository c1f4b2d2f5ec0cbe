-- What is read from left to right are the items that the words are.
use Rattle.std.proofs.Common.{◌≡◌, ◌≢◌, ℕ, List, [], ◌∷◌, ◌++◌, Option, Some, None, option_map, map, Bool, true, false, refl, sym, ap, ◌∙◌, subst, inl, inr, append_assoc, arith}
use Rattle.std.proofs.lemmas.Bool.Decides.{nat_tests}
use Rattle.std.specs.Prelude.{if◌then◌else◌, ◌==◌}
use Rattle.std.specs.Str.{bytes_eq}
use Rattle.std.proofs.lemmas.Slice.Eq.{bytes_eq-Decides}
use Rattle.tapa_words.specs.declared.verb.Verb.{Verb}
use Rattle.tapa_words.specs.declared.verb.OptionKind.{OptionKind}
use Rattle.tapa_words.specs.declared.verb.OptionKind.TheVariants as kind
use Rattle.tapa_words.specs.Words.{Word, Item, Positional, Valued, option_kind, is_option, end_of_options, IsOptionWritten, IsWritten, AreWritten, HasItems}
use Rattle.tapa_words.specs.Reading.{name_in, value_in, Next, AnyWord, ValueOf, OnlyPositionals, Step, Gives, Moves, Breaks, option_step, step_of, then_items, items_from, items_of}
use Rattle.tapa_words.proofs.Names.{is_name}

-- ---- items that are written are read

no_end_by : (word : Word) (b : Bool) → bytes_eq word end_of_options ≡ b → is_option word ≡ false → b ≡ false
no_end_by word false e h = refl
no_end_by word true e h = let same : is_option end_of_options ≡ false = subst (λ (w : Word). is_option w ≡ false) ((bytes_eq-Decides word end_of_options).0 e) h in absurd cc

no_end : (word : Word) → is_option word ≡ false → bytes_eq word end_of_options ≡ false
no_end word h = no_end_by word (bytes_eq word end_of_options) refl h

step_of_option : (verb : Verb) (word name : Word) (kind : Option OptionKind) (value : Option Word) → bytes_eq word end_of_options ≡ false → is_option word ≡ true → name_in word ≡ name → value_in word ≡ value → option_kind verb name ≡ kind → step_of verb AnyWord word ≡ option_step kind name value
step_of_option verb word name kind value other looks names values is =
    subst (λ (v : Option Word). step_of verb AnyWord word ≡ option_step kind name v) values
    (subst (λ (k : Option OptionKind). step_of verb AnyWord word ≡ option_step k name (value_in word)) is
    (subst (λ (n : Word). step_of verb AnyWord word ≡ option_step (option_kind verb n) n (value_in word)) names (rw (other, looks) refl)))

step_of_positional : (verb : Verb) (word : Word) → is_option word ≡ false → step_of verb AnyWord word ≡ Gives (Positional word) AnyWord
step_of_positional verb word h = rw (no_end word h, h) refl

-- what is read from one word on, by its step
then_by : (verb : Verb) (words : List Word) (word : Word) (step : Step) → step_of verb AnyWord word ≡ step → items_from verb AnyWord (word ∷ words) ≡ then_items step (λ later. items_from verb later words)
then_by verb words word step e = ap (λ (s : Step). then_items s (λ later. items_from verb later words)) e

value_step : (verb : Verb) (name value : Word) (words : List Word) → is_option value ≡ false → items_from verb (ValueOf name) (value ∷ words) ≡ option_map (λ items. Valued name value ∷ items) (items_from verb AnyWord words)
value_step verb name value words h = ap (λ (b : Bool). then_items (if b then Breaks else Gives (Valued name value) AnyWord) (λ later. items_from verb later words)) h

abbrev IsReadAs : Verb → Item → List Word → List Word → Type 0
IsReadAs verb item front words = items_from verb AnyWord (front ++ words) ≡ option_map (λ items. item ∷ items) (items_from verb AnyWord words)

joined_read : (verb : Verb) (name value : Word) (words : List Word) → option_kind verb name ≡ Some kind.Valued → value ≢ [] → IsReadAs verb (Valued name value) ((name ++ 61 ∷ value) ∷ []) words
joined_read verb name [] words is some = absurd (some refl)
joined_read verb name (b ∷ value) words is some =
    let n = is_name verb name kind.Valued is in
    then_by verb words (name ++ 61 ∷ b ∷ value) (Gives (Valued name (b ∷ value)) AnyWord)
    (step_of_option verb (name ++ 61 ∷ b ∷ value) name (Some kind.Valued) (Some (b ∷ value)) (n.other_joined (b ∷ value)) (n.looks_joined (b ∷ value)) (n.name_cut (b ∷ value)) (n.value_cut (b ∷ value)) is)

option_read : (verb : Verb) (name value : Word) (front words : List Word) (k : Option OptionKind) → option_kind verb name ≡ k → IsOptionWritten k name value front → IsReadAs verb (Valued name value) front words
option_read verb name value front words None is h = absurd h
option_read verb name value front words (Some kind.Valued) is (inl h) =
    let n = is_name verb name kind.Valued is in
    subst (λ (f : List Word). IsReadAs verb (Valued name value) f words) (sym h.1)
    (then_by verb (value ∷ words) name (Moves (ValueOf name)) (step_of_option verb name name (Some kind.Valued) None n.other n.looks n.whole n.alone is) ∙ value_step verb name value words h.0)
option_read verb name value front words (Some kind.Valued) is (inr h) =
    subst (λ (f : List Word). IsReadAs verb (Valued name value) f words) (sym h.1) (joined_read verb name value words is h.0)
option_read verb name value front words (Some kind.Bare) is h =
    let n = is_name verb name kind.Bare is in
    subst (λ (f : List Word). IsReadAs verb (Valued name value) f words) (sym h.1)
    (subst (λ (v : Word). IsReadAs verb (Valued name v) (name ∷ []) words) (sym h.0)
    (then_by verb words name (Gives (Valued name []) AnyWord) (step_of_option verb name name (Some kind.Bare) None n.other n.looks n.whole n.alone is)))

item_read : (verb : Verb) (item : Item) (front words : List Word) → IsWritten verb item front → IsReadAs verb item front words
item_read verb (Positional word) front words h =
    subst (λ (f : List Word). IsReadAs verb (Positional word) f words) (sym h.1) (then_by verb words word (Gives (Positional word) AnyWord) (step_of_positional verb word h.0))
item_read verb (Valued name value) front words h = option_read verb name value front words (option_kind verb name) refl h

same_map : (o : Option (List Item)) → o ≡ option_map (λ (z : List Item). [] ++ z) o
same_map None = refl
same_map (Some z) = refl

both_maps : (item : Item) (items : List Item) (o : Option (List Item)) → option_map (λ (z : List Item). item ∷ z) (option_map (λ (z : List Item). items ++ z) o) ≡ option_map (λ (z : List Item). (item ∷ items) ++ z) o
both_maps item items None = refl
both_maps item items (Some z) = refl

items_read : (verb : Verb) (items : List Item) (words behind : List Word) → AreWritten verb items words → items_from verb AnyWord (words ++ behind) ≡ option_map (λ z. items ++ z) (items_from verb AnyWord behind)
items_read verb [] words behind h = subst (λ (w : List Word). items_from verb AnyWord (w ++ behind) ≡ option_map (λ (z : List Item). [] ++ z) (items_from verb AnyWord behind)) (sym h) (same_map (items_from verb AnyWord behind))
items_read verb (item ∷ items) words behind (front, back, are, first, rest) =
    ap (λ (w : List Word). items_from verb AnyWord (w ++ behind)) are ∙ (ap (λ (w : List Word). items_from verb AnyWord w) (append_assoc front back behind)
    ∙ (item_read verb item front (back ++ behind) first ∙ (ap (λ (o : Option (List Item)). option_map (λ (z : List Item). item ∷ z) o) (items_read verb items back behind rest) ∙ both_maps item items (items_from verb AnyWord behind))))

positionals_read : (verb : Verb) (words : List Word) → items_from verb OnlyPositionals words ≡ Some (map Positional words)
positionals_read verb [] = refl
positionals_read verb (word ∷ words) = ap (λ (o : Option (List Item)). option_map (λ (z : List Item). Positional word ∷ z) o) (positionals_read verb words)

none_behind : {A : Type 0} (l : List A) → l ++ [] ≡ l
none_behind [] = refl
none_behind (x ∷ l) = ap (λ z. x ∷ z) (none_behind l)

pub are_read : (verb : Verb) (words : List Word) (items : List Item) → HasItems verb words items → items_of verb words ≡ Some items
are_read verb words items (inl h) = ap (λ (w : List Word). items_from verb AnyWord w) (sym (none_behind words)) ∙ (items_read verb items words [] h ∙ ap Some (none_behind items))
are_read verb words items (inr h) =
    ap (λ (w : List Word). items_from verb AnyWord w) h.words_are
    ∙ (items_read verb h.fore h.front (end_of_options ∷ h.behind) h.are_written
    ∙ (ap (λ (o : Option (List Item)). option_map (λ (z : List Item). h.fore ++ z) o) (positionals_read verb h.behind) ∙ ap Some (sym h.items_are)))

-- ---- items that are read are written

whole_by : (b : ℕ) (rest : Word) (c : Bool) → (value_in rest ≡ None → name_in rest ≡ rest) → (if c then Some rest else value_in rest) ≡ None → (if c then [] else (b ∷ name_in rest)) ≡ b ∷ rest
whole_by b rest true later h = absurd cc
whole_by b rest false later h = ap (λ (w : Word). b ∷ w) (later h)

name_whole : (word : Word) → value_in word ≡ None → name_in word ≡ word
name_whole [] h = refl
name_whole (b ∷ rest) h = whole_by b rest (b == 61) (name_whole rest) h

joined_by : (b : ℕ) (rest value : Word) (c : Bool) → (c ≡ true → b ≡ 61) → (value_in rest ≡ Some value → rest ≡ name_in rest ++ 61 ∷ value) → (if c then Some rest else value_in rest) ≡ Some value → b ∷ rest ≡ (if c then [] else (b ∷ name_in rest)) ++ 61 ∷ value
joined_by b rest value true is later h = let one : rest ≡ value = cc in let two : b ≡ 61 = is refl in ap (λ (w : Word). b ∷ w) one ∙ ap (λ (n : ℕ). n ∷ value) two
joined_by b rest value false is later h = ap (λ (w : Word). b ∷ w) (later h)

name_joined : (word value : Word) → value_in word ≡ Some value → word ≡ name_in word ++ 61 ∷ value
name_joined [] value h = absurd cc
name_joined (b ∷ rest) value h = joined_by b rest value (b == 61) (λ e. grind (arith, nat_tests)) (name_joined rest value) h

-- one more item in front
one_more : (verb : Verb) (item : Item) (front back : List Word) (items : List Item) → IsWritten verb item front → HasItems verb back items → HasItems verb (front ++ back) (item ∷ items)
one_more verb item front back items first (inl h) = inl (front, back, refl, first, h)
one_more verb item front back items first (inr h) = inr (record {
  fore = item ∷ h.fore;
  front = front ++ h.front;
  behind = h.behind;
  are_written = (front, h.front, refl, first, h.are_written);
  words_are = ap (λ (w : List Word). front ++ w) h.words_are ∙ sym (append_assoc front h.front (end_of_options ∷ h.behind));
  items_are = ap (λ (z : List Item). item ∷ z) h.items_are;
})

-- what words say, where the first may be `next`
abbrev Says : Verb → Next → List Word → List Item → Type 0
Says verb AnyWord words items = HasItems verb words items
Says verb (ValueOf name) words items = (value : Word) × (rest : List Word) × (later : List Item) × (words ≡ value ∷ rest) × (is_option value ≡ false) × (items ≡ Valued name value ∷ later) × HasItems verb rest later
Says verb OnlyPositionals words items = items ≡ map Positional words

-- the items behind one
one_then : (item : Item) (items : List Item) (o : Option (List Item)) → option_map (λ (z : List Item). item ∷ z) o ≡ Some items → (later : List Item) × (o ≡ Some later) × (items ≡ item ∷ later)
one_then item items None h = absurd cc
one_then item items (Some later) h = let e : item ∷ later ≡ items = cc in (later, refl, sym e)

module _ (verb : Verb) (words : List Word) (later : (next : Next) (items : List Item) → items_from verb next words ≡ Some items → Says verb next words items) where
  abbrev rest : Next → Option (List Item)
  rest next = items_from verb next words

  given : (item : Item) (front : List Word) (items : List Item) → IsWritten verb item front → option_map (λ (z : List Item). item ∷ z) (rest AnyWord) ≡ Some items → HasItems verb (front ++ words) items
  given item front items written h =
      let t = one_then item items (rest AnyWord) h in
      subst (λ (z : List Item). HasItems verb (front ++ words) z) (sym t.2) (one_more verb item front words t.0 written (later AnyWord t.0 t.1))

  written_as : (name value : Word) (front : List Word) (k : Option OptionKind) → option_kind verb name ≡ k → IsOptionWritten k name value front → IsWritten verb (Valued name value) front
  written_as name value front k is h = subst (λ (o : Option OptionKind). IsOptionWritten o name value front) (sym is) h

  option : (word : Word) (items : List Item) (k : Option OptionKind) (v : Option Word) → option_kind verb (name_in word) ≡ k → value_in word ≡ v → then_items (option_step k (name_in word) v) rest ≡ Some items → HasItems verb (word ∷ words) items
  option word items None v is cut h = absurd cc
  option word items (Some kind.Valued) None is cut h =
      let s = later (ValueOf (name_in word)) items h in
      let same : name_in word ≡ word = name_whole word cut in
      let front : IsWritten verb (Valued (name_in word) s.0) (word ∷ s.0 ∷ []) = written_as (name_in word) s.0 (word ∷ s.0 ∷ []) (Some kind.Valued) is (inl (s.4, ap (λ (w : Word). w ∷ s.0 ∷ []) (sym same))) in
      subst (λ (z : List Item). HasItems verb (word ∷ words) z) (sym s.5)
      (subst (λ (w : List Word). HasItems verb (word ∷ w) (Valued (name_in word) s.0 ∷ s.2)) (sym s.3) (one_more verb (Valued (name_in word) s.0) (word ∷ s.0 ∷ []) s.1 s.2 front s.6))
  option word items (Some kind.Valued) (Some []) is cut h = absurd cc
  option word items (Some kind.Valued) (Some (b ∷ value)) is cut h =
      given (Valued (name_in word) (b ∷ value)) (word ∷ []) items (written_as (name_in word) (b ∷ value) (word ∷ []) (Some kind.Valued) is (inr ((λ e. cc), ap (λ (w : Word). w ∷ []) (name_joined word (b ∷ value) cut)))) h
  option word items (Some kind.Bare) None is cut h =
      given (Valued (name_in word) []) (word ∷ []) items (written_as (name_in word) [] (word ∷ []) (Some kind.Bare) is (refl, ap (λ (w : Word). w ∷ []) (sym (name_whole word cut)))) h
  option word items (Some kind.Bare) (Some value) is cut h = absurd cc

  any_word : (word : Word) (items : List Item) (b c : Bool) → bytes_eq word end_of_options ≡ b → is_option word ≡ c →
      then_items (if b then Moves OnlyPositionals else if c then option_step (option_kind verb (name_in word)) (name_in word) (value_in word) else Gives (Positional word) AnyWord) rest ≡ Some items → HasItems verb (word ∷ words) items
  any_word word items true c is looks h = inr (record {
    fore = [];
    front = [];
    behind = words;
    are_written = refl;
    words_are = ap (λ (w : Word). w ∷ words) ((bytes_eq-Decides word end_of_options).0 is);
    items_are = later OnlyPositionals items h;
  })
  any_word word items false true is looks h = option word items (option_kind verb (name_in word)) (value_in word) refl refl h
  any_word word items false false is looks h = given (Positional word) (word ∷ []) items (looks, refl) h

  value_word : (name word : Word) (items : List Item) (c : Bool) → is_option word ≡ c → then_items (if c then Breaks else Gives (Valued name word) AnyWord) rest ≡ Some items → Says verb (ValueOf name) (word ∷ words) items
  value_word name word items true looks h = absurd cc
  value_word name word items false looks h =
      let t = one_then (Valued name word) items (rest AnyWord) h in
      (word, words, t.0, refl, looks, t.2, later AnyWord t.0 t.1)

says : (verb : Verb) (words : List Word) (next : Next) (items : List Item) → items_from verb next words ≡ Some items → Says verb next words items
says verb [] AnyWord items h = let e : [] ≡ items = cc in subst (λ (z : List Item). HasItems verb [] z) e (inl refl)
says verb [] (ValueOf name) items h = absurd cc
says verb [] OnlyPositionals items h = let e : [] ≡ items = cc in sym e
says verb (word ∷ words) AnyWord items h = any_word verb words (says verb words) word items (bytes_eq word end_of_options) (is_option word) refl refl h
says verb (word ∷ words) (ValueOf name) items h = value_word verb words (says verb words) name word items (is_option word) refl h
says verb (word ∷ words) OnlyPositionals items h =
    let t = one_then (Positional word) items (items_from verb OnlyPositionals words) h in
    t.2 ∙ ap (λ (z : List Item). Positional word ∷ z) (says verb words OnlyPositionals t.0 t.1)

pub are_written : (verb : Verb) (words : List Word) (items : List Item) → items_of verb words ≡ Some items → HasItems verb words items
are_written verb words items h = says verb words AnyWord items h
