-- What the printer spells has its tree.
use Rattle.std.proofs.Common.{◌≡◌, inl, inr, ℕ, ◌-◌, ◌^◌, ◌<◌, ◌≤◌, Bool, true, false, ◌&&◌, nat_le, nat_eq, List, [], ◌∷◌, ◌++◌, map, length, codes, decimal, if◌then◌else◌, refl, sym, ap, subst, ◌∙◌, arith}
use Rattle.std.specs.List.{AllByRecursion, list_all, flat_map}
use Rattle.std.proofs.lemmas.List.{append_assoc, append-nil}
use Rattle.std.proofs.lemmas.List.Concat.{flat_map-append}
use Rattle.std.proofs.lemmas.List.Folds.{list_all-append}
use Rattle.vlog_tree.specs.declared.tree.Atom.{Atom}
use Rattle.vlog_tree.specs.declared.tree.Atom.TheVariants.{Net, Part as PartSelect, Literal}
use Rattle.vlog_tree.specs.declared.tree.BinaryOp.{BinaryOp}
use Rattle.vlog_tree.specs.declared.tree.BinaryOp.TheVariants.{Plus, Minus, Times, Divide, Remainder, And, Or, Xor, ShiftLeft, ShiftRight, Equals, Differs, Less}
use Rattle.vlog_tree.specs.declared.tree.Value.{Value}
use Rattle.vlog_tree.specs.declared.tree.Value.TheVariants.{Plain, Invert, Binary, Choose, Concat, Repeat, Cell}
use Rattle.vlog_tree.specs.declared.tree.Step.{Step}
use Rattle.vlog_tree.specs.declared.tree.Step.TheVariants.{If, Else, End}
use Rattle.vlog_tree.specs.declared.tree.Connection.{Connection}
use Rattle.vlog_tree.specs.declared.tree.Item.{Item}
use Rattle.vlog_tree.specs.declared.tree.Item.TheVariants.{Wire, Reg, Memory, Assign, Always, Instance}
use Rattle.vlog_tree.specs.declared.tree.PortDecl.{PortDecl}
use Rattle.vlog_tree.specs.Names.{IsName, has_name_form, starts_name, goes_on}
use Rattle.vlog_tree.specs.Form.{ModuleTree, nested, is_atom, is_value, is_step, is_connection, is_item, is_port, IsModule, is_input}
use Rattle.vlog_tree.specs.Spelling.{Word, range_words, port_words, atom_words, op_word, more_words, with_commas, value_words, step_words, connection_words, item_words, module_words, blank_page, spelling}
use Rattle.tapa_base.specs.Spans.{◌⨾◌, ◌∣◌, Is, Each, Separated}
use Rattle.vlog_lex.specs.Spans.{Part, Takes, SeparatedTwo}
use Rattle.vlog_lex.specs.Numerals.{IsNumber, IsLiteral}
use Rattle.vlog_lex.specs.Lexemes.{signs, is_sign, is_sign_or_mark}
use Rattle.vlog_lex.specs.Grammar.{SpellsName, SpellsNumber, SpellsLastOf, SpellsRange, SpellsAtom, SpellsOperator, SpellsValue, Steps, no_step, if_only, if_else, assign, store, flat, SpellsCondition, SpellsSteps, SpellsBlock, SpellsConnection, SpellsItem, SpellsPort, SpellsModule, SpellsDesign, HasTree}
use Rattle.vlog_lex.specs.Numbers.{atom_numbers, value_numbers, step_numbers, item_numbers, HasWrittenNumbers}
use Rattle.vlog_lex.proofs.Alone.{both, StandsAlone, name_form_alone, name_alone, number_alone, is_fixed_sign, sign_alone, decimal_number, decimal_alone, written, written_literal, written_alone}
use Rattle.vlog_lex.proofs.Laid.{page_words}
use Rattle.vlog_lex.proofs.Nests.{nests}
use Rattle.tapa_base.proofs.Tests.{below as at_least}

-- these words stand alone, and spell the part whatever is behind them
pub record Spelled (P : Part) (ws : List Word) : Type 0 where
  pub alone : AllByRecursion StandsAlone ws
  pub spells : (j : List Word) → P (ws ++ j) j

-- ---- how parts join

both_lists : {A : Type 0} (P : A → Type 0) (xs ys : List A) → AllByRecursion P xs → AllByRecursion P ys → AllByRecursion P (xs ++ ys)
both_lists P [] ys h k = k
both_lists P (x ∷ xs) ys h k = (h.0, both_lists P xs ys h.1 k)

first_list : {A : Type 0} (P : A → Type 0) (xs ys : List A) → AllByRecursion P (xs ++ ys) → AllByRecursion P xs
first_list P [] ys h = tt
first_list P (x ∷ xs) ys h = (h.0, first_list P xs ys h.1)

second_list : {A : Type 0} (P : A → Type 0) (xs ys : List A) → AllByRecursion P (xs ++ ys) → AllByRecursion P ys
second_list P [] ys h = h
second_list P (x ∷ xs) ys h = second_list P xs ys h.1

takes : {w : Word} → StandsAlone w → Spelled (Takes w) (w ∷ [])
takes h = record { alone = (h, tt); spells = λ j. refl }

takes_some : (P : Word → Type 0) (w : Word) → StandsAlone w → P w → Spelled (Is P) (w ∷ [])
takes_some P w h p = record { alone = (h, tt); spells = λ j. (w, p, refl) }

infixr 9 ◌then◌
◌then◌ : {P Q : Part} {ws vs : List Word} → Spelled P ws → Spelled Q vs → Spelled (P ⨾ Q) (ws ++ vs)
◌then◌ {P} {Q} {ws} {vs} h k = record {
  alone = both_lists StandsAlone ws vs h.alone k.alone;
  spells = λ j. (vs ++ j, subst (λ (i : List Word). P i (vs ++ j)) (sym (append_assoc ws vs j)) (h.spells (vs ++ j)), k.spells j);
}

sign : (w : Word) → is_fixed_sign w ≡ true → Spelled (Takes w) (w ∷ [])
sign w h = takes (sign_alone w h)

keyword : (w : Word) → has_name_form w ≡ true → Spelled (Takes w) (w ∷ [])
keyword w h = takes (name_form_alone w h)

other : {P Q : Part} {ws : List Word} → Spelled Q ws → Spelled (P ∣ Q) ws
other h = record { alone = h.alone; spells = λ j. inr (h.spells j) }

-- ---- names and numbers

abbrev pub Small : List ℕ → Type 0
Small ns = AllByRecursion (λ n. n < 10 ^ 64) ns

name : (x : List ℕ) → IsName x → Spelled (SpellsName x) (x ∷ [])
name x h = record { alone = (name_alone x h, tt); spells = λ j. (h, refl) }

number : (n : ℕ) → n < 10 ^ 64 → Spelled (SpellsNumber n) (decimal n ∷ [])
number n small = takes_some (IsNumber n) (decimal n) (decimal_alone n small) (decimal_number n small)

zero_word : Spelled (Takes (codes "0")) (codes "0" ∷ [])
zero_word = takes (number_alone (codes "0") (omega arith, (omega arith, tt)))

last_of : (n : ℕ) → 1 ≤ n → n < 10 ^ 64 → Spelled (SpellsLastOf n) (decimal (n - 1) ∷ [])
last_of n some small =
    let below : n - 1 < 10 ^ 64 = omega arith in
    record { alone = (decimal_alone (n - 1) below, tt); spells = λ j. (n - 1, omega arith, (decimal (n - 1), decimal_number (n - 1) below, refl)) }

range : (w : ℕ) → 1 ≤ w → w < 10 ^ 64 → Spelled (SpellsRange w) (range_words w)
unfolding is_fixed_sign is_sign signs is_sign_or_mark
range w some small = pick (nat_eq w 1) refl
  where
    wide : Spelled (Takes (codes "[") ⨾ SpellsLastOf w ⨾ Takes (codes ":") ⨾ Takes (codes "0") ⨾ Takes (codes "]")) (codes "[" ∷ decimal (w - 1) ∷ codes ":" ∷ codes "0" ∷ codes "]" ∷ [])
    wide = sign (codes "[") refl then last_of w some small then sign (codes ":") refl then zero_word then sign (codes "]") refl

    pick : (b : Bool) → nat_eq w 1 ≡ b → Spelled (SpellsRange w) (if b then [] else codes "[" ∷ decimal (w - 1) ∷ codes ":" ∷ codes "0" ∷ codes "]" ∷ [])
    pick true e = record { alone = tt; spells = λ j. inl (grind arith, refl) }
    pick false e = other wide

-- ---- atoms and values

atom : (a : Atom) → is_atom a ≡ true → Small (atom_numbers a) → Spelled (SpellsAtom a) (atom_words a)
unfolding is_fixed_sign is_sign signs is_sign_or_mark
atom (Net x) h small = name x h
atom (PartSelect x high low) h small = name x h then sign (codes "[") refl then number high small.0 then sign (codes ":") refl then number low small.1.0 then sign (codes "]") refl
atom (Literal width value) h small = takes_some (IsLiteral width value) (written width value) (written_alone width value small.0 small.1.0) (written_literal width value small.0 small.1.0)

operator : (op : BinaryOp) → Spelled (SpellsOperator op) (op_word op ∷ [])
unfolding is_fixed_sign is_sign signs is_sign_or_mark
operator Plus = sign (codes "+") refl
operator Minus = sign (codes "-") refl
operator Times = sign (codes "*") refl
operator Divide = sign (codes "/") refl
operator Remainder = sign (codes "%") refl
operator And = sign (codes "&") refl
operator Or = sign (codes "|") refl
operator Xor = sign (codes "^") refl
operator ShiftLeft = sign (codes "<<") refl
operator ShiftRight = sign (codes ">>") refl
operator Equals = sign (codes "==") refl
operator Differs = sign (codes "!=") refl
operator Less = sign (codes "<") refl

-- parts of a list, with a comma between each two
module _ {A : Type 0} (test : A → Bool) (numbers : A → List ℕ) (P : A → Part) (words : A → List Word) (each : (x : A) → test x ≡ true → Small (numbers x) → Spelled (P x) (words x)) where
  more : (xs : List A) → list_all test xs ≡ true → Small (flat_map numbers xs) → Spelled (Each (λ x. Takes (codes ",") ⨾ P x) xs) (more_words (map words xs))
  unfolding is_fixed_sign is_sign signs is_sign_or_mark
  more [] h small = record { alone = tt; spells = λ j. refl }
  more (x ∷ xs) h small =
      let k = both (test x) (list_all test xs) h in
      (sign (codes ",") refl then each x k.0 (first_list _ (numbers x) (flat_map numbers xs) small)) then more xs k.1 (second_list _ (numbers x) (flat_map numbers xs) small)

  separated : (xs : List A) → 1 ≤ length xs → list_all test xs ≡ true → Small (flat_map numbers xs) → Spelled (Separated (Takes (codes ",")) P xs) (with_commas (map words xs))
  separated [] some h small = absurd (omega arith)
  separated (x ∷ xs) some h small =
      let k = both (test x) (list_all test xs) h in each x k.0 (first_list _ (numbers x) (flat_map numbers xs) small) then more xs k.1 (second_list _ (numbers x) (flat_map numbers xs) small)

  separated_two : (xs : List A) → 2 ≤ length xs → list_all test xs ≡ true → Small (flat_map numbers xs) → Spelled (SeparatedTwo (Takes (codes ",")) P xs) (with_commas (map words xs))
  separated_two [] some h small = absurd (omega arith)
  separated_two (x ∷ []) some h small = absurd (omega arith)
  separated_two (x ∷ y ∷ zs) some h small = separated (x ∷ y ∷ zs) (omega arith) h small

  listed : (xs : List A) → list_all test xs ≡ true → Small (flat_map numbers xs) → Spelled (Each P xs) (flat_map words xs)
  listed [] h small = record { alone = tt; spells = λ j. refl }
  listed (x ∷ xs) h small =
      let k = both (test x) (list_all test xs) h in each x k.0 (first_list _ (numbers x) (flat_map numbers xs) small) then listed xs k.1 (second_list _ (numbers x) (flat_map numbers xs) small)

value : (e : Value) → is_value e ≡ true → Small (value_numbers e) → Spelled (SpellsValue e) (value_words e)
unfolding is_fixed_sign is_sign signs is_sign_or_mark
value (Plain a) h small = atom a h small
value (Invert a) h small = sign (codes "~") refl then atom a h small
value (Binary a op b) h small =
    let k = both (is_atom a) (is_atom b) h in
    atom a k.0 (first_list _ (atom_numbers a) (atom_numbers b) small) then operator op then atom b k.1 (second_list _ (atom_numbers a) (atom_numbers b) small)
value (Choose c a b) h small =
    let k = both (is_atom c && is_atom a) (is_atom b) h in let l = both (is_atom c) (is_atom a) k.0 in let rest = second_list _ (atom_numbers c) (atom_numbers a ++ atom_numbers b) small in
    atom c l.0 (first_list _ (atom_numbers c) (atom_numbers a ++ atom_numbers b) small) then sign (codes "?") refl then atom a l.1 (first_list _ (atom_numbers a) (atom_numbers b) rest)
    then sign (codes ":") refl then atom b k.1 (second_list _ (atom_numbers a) (atom_numbers b) rest)
value (Concat atoms) h small =
    let k = both (nat_le 2 (length atoms)) (list_all is_atom atoms) h in
    sign (codes "{") refl then separated_two is_atom atom_numbers SpellsAtom atom_words atom atoms (at_least 2 (length atoms) k.0) k.1 small then sign (codes "}") refl
value (Repeat n a) h small = sign (codes "{") refl then number n small.0 then sign (codes "{") refl then atom a h small.1 then sign (codes "}") refl then sign (codes "}") refl
value (Cell memory x) h small = let k = both _ _ h in name memory k.0 then sign (codes "[") refl then name x k.1 then sign (codes "]") refl

-- ---- blocks

condition : (c : List ℕ) → IsName c → Spelled (SpellsCondition c) (codes "if" ∷ codes "(" ∷ c ∷ codes ")" ∷ [])
unfolding is_fixed_sign is_sign signs is_sign_or_mark starts_name goes_on
condition c h = keyword (codes "if") refl then sign (codes "(") refl then name c h then sign (codes ")") refl

abbrev WellFormed : List Step → Type 0
WellFormed steps = (list_all is_step steps ≡ true) × Small (flat_map step_numbers steps)

-- the parts of well-formed steps
parted : (p q : List Step) → WellFormed (p ++ q) → WellFormed p × WellFormed q
parted p q (h, small) =
    let k = both (list_all is_step p) (list_all is_step q) (sym (list_all-append is_step p q) ∙ h) in
    let all = subst Small (flat_map-append step_numbers p q) small in
    ((k.0, first_list _ (flat_map step_numbers p) (flat_map step_numbers q) all), (k.1, second_list _ (flat_map step_numbers p) (flat_map step_numbers q) all))

steps : (s : Steps) → WellFormed (flat s) → Spelled (SpellsSteps s) (flat_map step_words (flat s))
unfolding is_fixed_sign is_sign signs is_sign_or_mark starts_name goes_on
steps no_step h = record { alone = tt; spells = λ j. refl }
steps (if_only c p rest) (h, small) =
    let k = both _ _ h in let l = parted (flat p) (End ∷ flat rest) (k.1, small) in
    subst (λ (ws : List Word). Spelled (SpellsSteps (if_only c p rest)) (step_words (If c) ++ ws)) (sym (flat_map-append step_words (flat p) (End ∷ flat rest)))
    (condition c k.0 then keyword (codes "begin") refl then steps p l.0 then keyword (codes "end") refl then steps rest l.1)
steps (if_else c p q rest) (h, small) =
    let k = both _ _ h in let l = parted (flat p) (Else ∷ (flat q ++ End ∷ flat rest)) (k.1, small) in let m = parted (flat q) (End ∷ flat rest) l.1 in
    subst (λ (ws : List Word). Spelled (SpellsSteps (if_else c p q rest)) (step_words (If c) ++ ws))
    (sym (flat_map-append step_words (flat p) (Else ∷ (flat q ++ End ∷ flat rest)) ∙ ap (λ ws. flat_map step_words (flat p) ++ (step_words Else ++ ws)) (flat_map-append step_words (flat q) (End ∷ flat rest))))
    (condition c k.0 then keyword (codes "begin") refl then steps p l.0 then keyword (codes "end") refl then keyword (codes "else") refl then keyword (codes "begin") refl
    then steps q m.0 then keyword (codes "end") refl then steps rest m.1)
steps (assign x a rest) (h, small) =
    let k = both _ _ h in let l = both _ _ k.0 in
    subst (λ (ws : List Word). Spelled (SpellsSteps (assign x a rest)) ws) (after x (atom_words a) (flat_map step_words (flat rest)))
    (name x l.0 then sign (codes "<=") refl then atom a l.1 (first_list _ (atom_numbers a) (flat_map step_numbers (flat rest)) small) then sign (codes ";") refl
    then steps rest (k.1, second_list _ (atom_numbers a) (flat_map step_numbers (flat rest)) small))
  where
    after : (x : Word) (a ws : List Word) → x ∷ codes "<=" ∷ (a ++ codes ";" ∷ ws) ≡ (x ∷ codes "<=" ∷ (a ++ codes ";" ∷ [])) ++ ws
    after x a ws = ap (λ l. x ∷ codes "<=" ∷ l) (sym (append_assoc a (codes ";" ∷ []) ws))
steps (store m x a rest) (h, small) =
    let k = both _ _ h in let l = both _ _ k.0 in let n = both _ _ l.0 in
    subst (λ (ws : List Word). Spelled (SpellsSteps (store m x a rest)) ws) (ap (λ w. m ∷ codes "[" ∷ x ∷ codes "]" ∷ codes "<=" ∷ w) (sym (append_assoc (atom_words a) (codes ";" ∷ []) (flat_map step_words (flat rest)))))
    (name m n.0 then sign (codes "[") refl then name x n.1 then sign (codes "]") refl then sign (codes "<=") refl then atom a l.1 (first_list _ (atom_numbers a) (flat_map step_numbers (flat rest)) small)
    then sign (codes ";") refl then steps rest (k.1, second_list _ (atom_numbers a) (flat_map step_numbers (flat rest)) small))

block : (b : List Step) → nested [] b ≡ true → WellFormed b → Spelled (SpellsBlock b) (codes "begin" ∷ (flat_map step_words b ++ codes "end" ∷ []))
unfolding starts_name goes_on
block b nests_well h = at (nests b nests_well)
  where
    at : (s : Steps) × (flat s ≡ b) → Spelled (SpellsBlock b) (codes "begin" ∷ (flat_map step_words b ++ codes "end" ∷ []))
    at (s, e) = subst (λ (b : List Step). Spelled (SpellsBlock b) (codes "begin" ∷ (flat_map step_words b ++ codes "end" ∷ []))) e (record { alone = inside.alone; spells = λ j. (s, refl, inside.spells j) })
      where
        inside : Spelled (Takes (codes "begin") ⨾ SpellsSteps s ⨾ Takes (codes "end")) (codes "begin" ∷ (flat_map step_words (flat s) ++ codes "end" ∷ []))
        inside = keyword (codes "begin") refl then steps s (subst WellFormed (sym e) h) then keyword (codes "end") refl

-- ---- items and modules

connection : (l : Connection) → is_connection l ≡ true → Small [] → Spelled (SpellsConnection l) (connection_words l)
unfolding is_fixed_sign is_sign signs is_sign_or_mark
connection l h small = let k = both _ _ h in sign (codes ".") refl then name l.port k.0 then sign (codes "(") refl then name l.net k.1 then sign (codes ")") refl

no_numbers : {A : Type 0} (xs : List A) → Small (flat_map (λ x. []) xs)
no_numbers [] = tt
no_numbers (x ∷ xs) = no_numbers xs

item : (x : Item) → is_item x ≡ true → Small (item_numbers x) → Spelled (SpellsItem x) (item_words x)
unfolding is_fixed_sign is_sign signs is_sign_or_mark starts_name goes_on
item (Wire bits x) h small = let k = both _ _ h in keyword (codes "wire") refl then range bits (at_least 1 bits k.0) small.0 then name x k.1 then sign (codes ";") refl
item (Reg bits x) h small = let k = both _ _ h in keyword (codes "reg") refl then range bits (at_least 1 bits k.0) small.0 then name x k.1 then sign (codes ";") refl
item (Memory bits x cells) h small =
    let k = both _ _ h in let l = both _ _ k.0 in
    keyword (codes "reg") refl then range bits (at_least 1 bits l.0) small.0 then name x l.1 then sign (codes "[") refl then zero_word then sign (codes ":") refl then last_of cells (at_least 1 cells k.1) small.1.0
    then sign (codes "]") refl then sign (codes ";") refl
item (Assign x e) h small = let k = both _ _ h in keyword (codes "assign") refl then name x k.0 then sign (codes "=") refl then value e k.1 small then sign (codes ";") refl
item (Always b) h small =
    let k = both _ _ h in
    keyword (codes "always") refl then sign (codes "@") refl then sign (codes "(") refl then keyword (codes "posedge") refl then keyword (codes "clk") refl then sign (codes ")") refl then block b k.0 (k.1, small)
item (Instance m x connections) h small =
    let k = both _ _ h in let l = both _ _ k.0 in let n = both _ _ l.0 in
    name m n.0 then name x n.1 then sign (codes "(") refl then separated is_connection (λ l. []) SpellsConnection connection_words connection connections (at_least 1 (length connections) l.1) k.1 (no_numbers connections)
    then sign (codes ")") refl then sign (codes ";") refl

direction : (input : Bool) → Spelled (Takes (if input then codes "input" else codes "output")) ((if input then codes "input" else codes "output") ∷ [])
unfolding starts_name goes_on
direction true = keyword (codes "input") refl
direction false = keyword (codes "output") refl

port : (p : PortDecl) → is_port p ≡ true → Small (p.width ∷ []) → Spelled (SpellsPort p) (port_words p)
port p h small = let k = both _ _ h in direction (is_input p.direction) then range p.width (at_least 1 p.width k.0) small.0 then name p.name k.1

whole : (m : ModuleTree) → IsModule m → HasWrittenNumbers m → Spelled (SpellsModule m) (module_words m)
unfolding is_fixed_sign is_sign signs is_sign_or_mark starts_name goes_on IsModule
whole m h small =
    let k = both _ _ h in let l = both _ _ k.0 in let n = both _ _ l.0 in let ports = flat_map (λ p. p.width ∷ []) m.ports in let items = flat_map item_numbers m.items in
    keyword (codes "module") refl then name m.name n.0 then sign (codes "(") refl
    then separated is_port (λ p. p.width ∷ []) SpellsPort port_words port m.ports (at_least 1 (length m.ports) n.1) l.1 (first_list _ ports items small)
    then sign (codes ")") refl then sign (codes ";") refl then listed is_item item_numbers SpellsItem item_words item m.items k.1 (second_list _ ports items small) then keyword (codes "endmodule") refl

wholes : (ms : List ModuleTree) → AllByRecursion IsModule ms → AllByRecursion HasWrittenNumbers ms → Spelled (Each SpellsModule ms) (flat_map module_words ms)
wholes [] h small = record { alone = tt; spells = λ j. refl }
wholes (m ∷ ms) h small = whole m h.0 small.0 then wholes ms h.1 small.1

pub spelling_has_tree : (ms : List ModuleTree) → AllByRecursion IsModule ms → AllByRecursion HasWrittenNumbers ms → 1 ≤ length ms → HasTree (spelling ms) ms
spelling_has_tree [] h small some = absurd (omega arith)
spelling_has_tree (m ∷ ms) h small some =
    let ws = flat_map module_words (m ∷ ms) in let s = wholes (m ∷ ms) h small in
    (ws, page_words ws blank_page refl s.alone, subst (λ (l : List Word). SpellsDesign (m ∷ ms) l) (append-nil ws) (s.spells []))
