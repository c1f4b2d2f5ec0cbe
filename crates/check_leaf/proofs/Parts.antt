-- What statements without faults mean is code of a leaf.
use Rattle.std.proofs.Common.{◌≡◌, inl, inr, ◌≤◌, ℕ, List, [], ◌∷◌, ◌++◌, length, Bool, true, false, not, ◌&&◌, Some, None, refl, sym, ap, subst, arith, lit<, length-append}
use Rattle.std.specs.Prelude.{Option, option_map, nat_le}
use Rattle.std.proofs.lemmas.Nat.{pow_pos}
use Rattle.std.proofs.lemmas.Bool.{leb-true, leb-false}
use Rattle.tapa_base.specs.declared.kind.Kind.{Kind}
use Rattle.tapa_base.specs.declared.kind.Kind.TheVariants as kind
use Rattle.tapa_base.specs.declared.text.Place.{Place}
use Rattle.tapa_base.specs.Kinds.{bits_of}
use Rattle.tapa_syntax.specs.declared.program.Array.{Array}
use Rattle.tapa_syntax.specs.declared.tree.Name.{Name}
use Rattle.tapa_syntax.specs.Trees as tree
use Rattle.tapa_syntax.specs.Trees.{ExpressionTree, ActionTree, DeclaratorTree, DeclarationTree, StartTree, StatementTree, Statements, CountTree}
use Rattle.tapa_syntax.specs.Flat as flat
use Rattle.tapa_syntax.specs.Flat.{FlatExpression, literal, FlatStatement, set, clear, branch, loop, in_row, FlatLeaf}
use Rattle.check_scope.specs.declared.fault.Broken.{Broken}
use Rattle.check_scope.specs.declared.entity.Entity.TheVariants as entity
use Rattle.check_scope.specs.Faults.{name_faults, where_so, over, doubled}
use Rattle.check_scope.specs.Scopes.{Scope, entity_of, kind_of_entity, number_of, is_input}
use Rattle.check_expression.specs.Expressions.{kind_of, value_of, wanted, faults_of}
use Rattle.check_expression.specs.Counts.{count_of, count_faults, form_faults, most_of_count}
use Rattle.check_leaf.specs.Statements.{Frame, opened, closed, variable_faults, with_variable, with_array, array_faults, declarator_faults, after_declarator, declarator_code, after_declarators, declarators_faults, declarators_code, after_declaration, declaration_faults, declaration_code, action_faults, action_code, after_start, start_faults, start_code, test_faults, test_of, next_faults, next_code, in_head, after, after_all, jump_faults, statement_faults, statements_faults, code_of, codes_of}
use Rattle.check_leaf.proofs.Flats.{IsValue, AreSteps, IsCode}
use Rattle.check_leaf.proofs.Conversions.{cast_value}
use Rattle.check_leaf.proofs.Meanings.{not_so, KnownScope, meaning_good}
use Rattle.check_leaf.proofs.Frames.{Within, within_more, each_more, Grows, Reaches, Few, stays, grows_on, scope_more, scope_declared, scope_opened, covers_all, clears_all, code_row, Runs, runs_none, runs_on, leaves, single}
use Rattle.check_leaf.proofs.Actions.{acts_code, acts_straight, input_good, action_good}
use Rattle.tapa_base.proofs.Tests.{both_true}
use Rattle.check_expression.proofs.Constants.{left_empty, right_empty}
use Rattle.tapa_base.proofs.Got.{last_at}

-- ---- declarations

not_full : (b : Bool) (x : Broken) (xs : List Broken) → where_so b (x ∷ xs) ≡ [] → b ≡ false
not_full false x xs h = refl
not_full true x xs h = absurd (cc)

-- a variable more is one of at most 1,024
pub variable_few : (free : Bool) (k : Kind) (f : Frame) (x : Name) → variable_faults f x ≡ [] → Few f → Few (with_variable free k x f)
variable_few free k f x h p =
    let b = not_full (nat_le 1024 (length f.vars)) _ [] (right_empty (doubled f.scope x) (where_so (nat_le 1024 (length f.vars)) (over 1024 x.place)) h) in
    let l = leb-false 1024 (length f.vars) b in
    let n = length-append f.vars (k ∷ []) in
    record { vars = omega arith; cells = p.cells }

pub variable_grows : (free : Bool) (k : Kind) (f : Frame) (x : Name) → Grows f (with_variable free k x f)
variable_grows free k f x = record { vars = within_more f.vars (k ∷ []); arrays = λ n x h. h }

pub variable_scope : (free : Bool) (k : Kind) (f : Frame) (x : Name) (W : FlatLeaf) (S : List ℕ) → Within (with_variable free k x f).vars W.vars → KnownScope W S f.scope → KnownScope W S (with_variable free k x f).scope
variable_scope free k f x W S r i = scope_declared W S x.text (entity.Variable free k (length f.vars)) f.scope i (r (length f.vars) k (last_at f.vars k))

-- a variable that is set where it is declared
set_runs : (l free : Bool) (k : Kind) (f : Frame) (x : Name) (e : FlatExpression) → variable_faults f x ≡ [] → ((W : FlatLeaf) (S : List ℕ) → KnownScope W S f.scope → IsValue W S e k) → Runs l f (with_variable free k x f) (set (length f.vars) e ∷ [])
set_runs l free k f x e h v = record {
  grows = variable_grows free k f x;
  few = variable_few free k f x h;
  sound = λ W S r i. record {
    code = ((k, r.vars (length f.vars) k (last_at f.vars k), v W S i), tt);
    straight = λ e. (tt, tt);
    scope = variable_scope free k f x W S r.vars i;
  };
}

-- an array is cleared where it is declared
clear_runs : (l free : Bool) (k : Kind) (f : Frame) (x : Name) (cells : ℕ) → (1 ≤ cells) × (cells ≤ 4096) → Runs l f (with_array free k x cells f) (clear (length f.arrays) ∷ [])
clear_runs l free k f x cells h =
    let r : Array = record { kind = k; cells = cells } in
    let n = length f.arrays in
    record {
      grows = record { vars = λ n x h. h; arrays = within_more f.arrays (r ∷ []) };
      few = λ p. record { vars = p.vars; cells = each_more (λ (r : Array). (1 ≤ r.cells) × (r.cells ≤ 4096)) f.arrays r p.cells h };
      sound = λ W S reach i.
          let at = reach.arrays n r (last_at f.arrays r) in
          record {
            code = ((r, at), tt);
            straight = λ e. (tt, tt);
            scope = scope_declared W (n ∷ S) x.text (entity.Array free k n) f.scope (scope_more W S (n ∷ S) (λ a p. inr p) f.scope i) (inl refl, ap (option_map (λ (r : Array). r.kind)) at);
          };
    }

count_few : (E : Scope) (c : CountTree) → count_faults E c ≡ [] → (1 ≤ count_of E c) × (count_of E c ≤ 4096)
count_few E c h =
    let n = count_of E c in
    let b = not_so (nat_le 1 n && nat_le n most_of_count) _ [] (right_empty (form_faults E c.form) (where_so (not (nat_le 1 n && nat_le n most_of_count)) (over most_of_count c.place)) h) in
    let p = both_true (nat_le 1 n) (nat_le n most_of_count) b in
    (leb-true 1 n p.0, leb-true n 4096 p.1)

declarator_runs : (l free : Bool) (k : Kind) (f : Frame) (d : DeclaratorTree) → declarator_faults f d ≡ [] → Runs l f (after_declarator free k f d) (declarator_code k f d ∷ [])
declarator_runs l free k f (tree.plain x) h = set_runs l free k f x (literal k 0) h (λ W S i. (refl, pow_pos (bits_of k)))
declarator_runs l free k f (tree.initialized x e) h =
    set_runs l free k f x (wanted f.scope k e) (left_empty (variable_faults f x) (faults_of f.scope false e) h)
    (λ W S i. cast_value W S (kind_of f.scope e) k (value_of f.scope e) (meaning_good W S f.scope i false e (right_empty (variable_faults f x) (faults_of f.scope false e) h)))
declarator_runs l free k f (tree.array x count) h =
    let n = count_of f.scope count in
    let p = left_empty (doubled f.scope x ++ count_faults f.scope count) (array_faults f n count.place) h in
    clear_runs l free k f x n (count_few f.scope count (right_empty (doubled f.scope x) (count_faults f.scope count) p))

declarators_runs : (l free : Bool) (k : Kind) (f : Frame) (ds : List DeclaratorTree) → declarators_faults free k f ds ≡ [] → Runs l f (after_declarators free k f ds) (declarators_code free k f ds)
declarators_runs l free k f [] h = runs_none l f
declarators_runs l free k f (d ∷ ds) h =
    let g = after_declarator free k f d in
    let first = declarator_faults f d in
    let rest = declarators_faults free k g ds in
    runs_on l f g (after_declarators free k g ds) (declarator_code k f d ∷ []) (declarators_code free k g ds)
    (declarator_runs l free k f d (left_empty first rest h)) (declarators_runs l free k g ds (right_empty first rest h))

declaration_runs : (l : Bool) (f : Frame) (d : DeclarationTree) → declaration_faults f d ≡ [] → Runs l f (after_declaration f d) (declaration_code f d)
declaration_runs l f d h = declarators_runs l (not d.constant) d.kind f d.names h

-- ---- actions, tests and heads

act_runs : (l : Bool) (f : Frame) (a : ActionTree) → action_faults f.scope a ≡ [] → Runs l f f (action_code f.scope a)
act_runs l f a h = record {
  grows = stays f;
  few = λ p. p;
  sound = λ W S r i.
      let g = action_good W S f.scope i a h in
      let xs = action_code f.scope a in
      record {
        code = acts_code W S xs g;
        straight = λ e. acts_straight W S xs g;
        scope = scope_more W S (clears_all xs S) (covers_all xs S) f.scope i;
      };
}

start_runs : (l : Bool) (f : Frame) (s : StartTree) → start_faults f s ≡ [] → Runs l f (after_start f s) (start_code f s)
start_runs l f tree.no_start h = runs_none l f
start_runs l f (tree.declare_start d) h = declaration_runs l f d h
start_runs l f (tree.act_start a) h = act_runs l f a h

wanted_good : (W : FlatLeaf) (S : List ℕ) (E : Scope) → KnownScope W S E → (k : Kind) (e : ExpressionTree) → faults_of E false e ≡ [] → IsValue W S (wanted E k e) k
wanted_good W S E i k e h = cast_value W S (kind_of E e) k (value_of E e) (meaning_good W S E i false e h)

test_good : (W : FlatLeaf) (S : List ℕ) (E : Scope) → KnownScope W S E → (t : Option ExpressionTree) → test_faults E t ≡ [] → IsValue W S (test_of E t) kind.Bool
test_good W S E i None h = (refl, lit< tt)
test_good W S E i (Some e) h = wanted_good W S E i kind.Bool e h

next_good : (W : FlatLeaf) (S : List ℕ) (E : Scope) → KnownScope W S E → (a : Option ActionTree) → next_faults E a ≡ [] → IsCode W S (next_code E a)
next_good W S E i None h = tt
next_good W S E i (Some a) h = acts_code W S (action_code E a) (action_good W S E i a h)

-- ---- statements

-- a substatement within a statement, which is a block of its own
inner_row : (l : Bool) (f g : Frame) (xs : List FlatStatement) → Runs l (opened f) g xs → (W : FlatLeaf) (S : List ℕ) → Reaches g W → KnownScope W S f.scope → AreSteps W S (in_row xs)
inner_row l f g xs a W S r i = code_row W S xs (a.sound W S r (scope_opened W S f.scope i)).code

inner_grows : (l : Bool) (f g : Frame) (xs : List FlatStatement) → Runs l (opened f) g xs → Grows f g
inner_grows l f g xs a = record { vars = a.grows.vars; arrays = a.grows.arrays }

inner_few : (l : Bool) (f g : Frame) (xs : List FlatStatement) → Runs l (opened f) g xs → Few f → Few g
inner_few l f g xs a p = a.few (record { vars = p.vars; cells = p.cells })

-- a loop with a body and a step
loop_runs : (l : Bool) (f g : Frame) (test : FlatExpression) (xs step : List FlatStatement) → Runs true (opened f) g xs → ((W : FlatLeaf) (S : List ℕ) → KnownScope W S f.scope → IsValue W S test kind.Bool) → ((W : FlatLeaf) (S : List ℕ) → KnownScope W S f.scope → IsCode W S step) → Runs l f (closed f g) (loop test (in_row xs) (in_row step) ∷ [])
loop_runs l f g test xs step a t n =
    single l f g (loop test (in_row xs) (in_row step)) (inner_grows true f g xs a) (inner_few true f g xs a) tt
    (λ W S r i. (t W S i, inner_row true f g xs a W S r i, code_row W S step (n W S i)))

for_runs : (l : Bool) (f h g : Frame) (start xs step : List FlatStatement) (test : FlatExpression) → Runs l (opened f) h start → Runs true (opened h) g xs → ((W : FlatLeaf) (S : List ℕ) → KnownScope W S h.scope → IsValue W S test kind.Bool) → ((W : FlatLeaf) (S : List ℕ) → KnownScope W S h.scope → IsCode W S step) → Runs l f (closed f g) (start ++ loop test (in_row xs) (in_row step) ∷ [])
for_runs l f h g start xs step test a b t n =
    leaves l f (closed h g) (start ++ loop test (in_row xs) (in_row step) ∷ []) (runs_on l (opened f) h (closed h g) start (loop test (in_row xs) (in_row step) ∷ []) a (loop_runs l h g test xs step b t n))

jump_runs : (l : Bool) (f : Frame) (at : Place) (s : FlatStatement) → jump_faults l at ≡ [] → ((W : FlatLeaf) (S : List ℕ) → IsCode W S (s ∷ [])) → ((S : List ℕ) → clears_all (s ∷ []) S ≡ S) → Runs l f f (s ∷ [])
jump_runs true f at s h c e = record {
  grows = stays f;
  few = λ p. p;
  sound = λ W S r i. record { code = c W S; straight = λ q. absurd (cc); scope = subst (λ T. KnownScope W T f.scope) (sym (e S)) i };
}
jump_runs false f at s h c e = absurd (cc)

mutual
  statement_runs : (l : Bool) (f : Frame) (s : StatementTree) → statement_faults l f s ≡ [] → Runs l f (after f s) (code_of f s)
  statement_runs l f (tree.attributed attributes s) h = statement_runs l f s h
  statement_runs l f tree.empty h = runs_none l f
  statement_runs l f (tree.block ss) h = leaves l f (after_all (opened f) ss) (codes_of (opened f) ss) (statements_runs l (opened f) ss h)
  statement_runs l f (tree.declare d) h = declaration_runs l f d h
  statement_runs l f (tree.act a) h = act_runs l f a h
  statement_runs l f (tree.if_only c s) h =
      let g = after (opened f) s in
      let xs = code_of (opened f) s in
      let p = faults_of f.scope false c in
      let q = statement_faults l (opened f) s in
      let a = statement_runs l (opened f) s (right_empty p q h) in
      single l f g (branch (wanted f.scope kind.Bool c) (in_row xs) (in_row [])) (inner_grows l f g xs a) (inner_few l f g xs a) tt
      (λ W S r i. (wanted_good W S f.scope i kind.Bool c (left_empty p q h), inner_row l f g xs a W S r i, tt))
  statement_runs l f (tree.if_else c s t) h =
      let g = after (opened f) s in
      let xs = code_of (opened f) s in
      let k = closed f g in
      let m = after (opened k) t in
      let ys = code_of (opened k) t in
      let p = faults_of f.scope false c in
      let q = statement_faults l (opened f) s in
      let u = statement_faults l (opened k) t in
      let rest = right_empty p (q ++ u) h in
      let a = statement_runs l (opened f) s (left_empty q u rest) in
      let b = statement_runs l (opened k) t (right_empty q u rest) in
      let grown : Grows f k = record { vars = a.grows.vars; arrays = a.grows.arrays } in
      let few : Few f → Few k = λ d. let e = inner_few l f g xs a d in record { vars = e.vars; cells = e.cells } in
      let onward : Grows k m = inner_grows l k m ys b in
      single l f m (branch (wanted f.scope kind.Bool c) (in_row xs) (in_row ys)) (grows_on f k m grown onward) (λ d. inner_few l k m ys b (few d)) tt
      (λ W S r i. (
        wanted_good W S f.scope i kind.Bool c (left_empty p (q ++ u) h),
        inner_row l f g xs a W S (record { vars = λ n x e. r.vars n x (onward.vars n x e); arrays = λ n x e. r.arrays n x (onward.arrays n x e) }) i,
        inner_row l k m ys b W S r i,
      ))
  statement_runs l f (tree.while c s) h =
      let p = faults_of f.scope false c in
      let q = statement_faults true (opened f) s in
      loop_runs l f (after (opened f) s) (wanted f.scope kind.Bool c) (code_of (opened f) s) [] (statement_runs true (opened f) s (right_empty p q h))
      (λ W S i. wanted_good W S f.scope i kind.Bool c (left_empty p q h)) (λ W S i. tt)
  statement_runs l f (tree.for head s) h =
      let g = in_head f head in
      let p = start_faults (opened f) head.start in
      let q = test_faults g.scope head.test in
      let u = next_faults g.scope head.step in
      let v = statement_faults true (opened g) s in
      let d = left_empty (p ++ q ++ u) v h in
      let e = left_empty (p ++ q) u d in
      for_runs l f g (after (opened g) s) (start_code (opened f) head.start) (code_of (opened g) s) (next_code g.scope head.step) (test_of g.scope head.test)
      (start_runs l (opened f) head.start (left_empty p q e))
      (statement_runs true (opened g) s (right_empty (p ++ q ++ u) v h))
      (λ W S i. test_good W S g.scope i head.test (right_empty p q e))
      (λ W S i. next_good W S g.scope i head.step (right_empty (p ++ q) u d))
  statement_runs l f (tree.while_not_eot stream s) h =
      let p = name_faults f.scope is_input stream in
      let q = statement_faults true (opened f) s in
      loop_runs l f (after (opened f) s) (flat.negation (flat.is_end (number_of (entity_of stream.text f.scope)))) (code_of (opened f) s) [] (statement_runs true (opened f) s (right_empty p q h))
      (λ W S i. (refl, (kind_of_entity (entity_of stream.text f.scope), input_good W S f.scope i stream (left_empty p q h), refl))) (λ W S i. tt)
  statement_runs l f (tree.break at) h = jump_runs l f at flat.break h (λ W S. (tt, tt)) (λ S. refl)
  statement_runs l f (tree.continue at) h = jump_runs l f at flat.continue h (λ W S. (tt, tt)) (λ S. refl)

  pub statements_runs : (l : Bool) (f : Frame) (ss : Statements) → statements_faults l f ss ≡ [] → Runs l f (after_all f ss) (codes_of f ss)
  statements_runs l f tree.no_statement h = runs_none l f
  statements_runs l f (tree.statement_then s ss) h =
      let g = after f s in
      let p = statement_faults l f s in
      let q = statements_faults l g ss in
      runs_on l f g (after_all g ss) (code_of f s) (codes_of g ss) (statement_runs l f s (left_empty p q h)) (statements_runs l g ss (right_empty p q h))
