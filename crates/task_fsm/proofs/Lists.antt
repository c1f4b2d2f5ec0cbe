-- The code of blocks, as that of the lists that the program has.
use Rattle.std.proofs.Common.{◌≡◌, ℕ, ◌+◌, ◌-◌, List, length, refl, sym, ap, ◌∙◌}
use Rattle.std.specs.Prelude.{Vec, map, reverse}
use Rattle.std.proofs.lemmas.List.{length-reverse, length-map}
use Rattle.task_fsm.specs.declared.machine.State.{State}
use Rattle.task_fsm.specs.Machine.{form_of}
use Rattle.task_fsm.proofs.Simulates.{two}
use Rattle.std.specs.declared.alloc.Global.{Global}
use Rattle.tapa_syntax.specs.declared.program.Expr.{Expr}
use Rattle.tapa_syntax.specs.declared.program.Stmt.{Stmt, Row_of-Stmt, end_of-Stmt, more_of-Stmt, If, Loop, items-the_row-Stmt, items_hidden-the_row-Stmt-0}
use Rattle.tapa_syntax.specs.declared.program.Stmt.TheVariants.{If', Loop'}
use Rattle.tapa_syntax.specs.LeafKinds.{Kinds}
use Rattle.task_fsm.specs.Code.{Emitted, going_to, test_code, stmt_code, block_code, list_code}
use Rattle.tapa_syntax.specs.TickPlaces.{operation_count, size_of, size_of_block, size_of_list}

pub block_is : (K : Kinds) (N c : ℕ) (l : _) (row : Row_of-Stmt l) (out again : ℕ) (B : Emitted) → block_code K N c row out again B ≡ list_code K N c (items-the_row-Stmt l row) out again B
block_is K N c l end_of-Stmt out again B = refl
block_is K N c l (more_of-Stmt s rest) out again B = ap (stmt_code K N c s out again) (block_is K N c _ rest out again B)

pub size_is : (l : _) (row : Row_of-Stmt l) → size_of_block row ≡ size_of_list (items-the_row-Stmt l row)
size_is l end_of-Stmt = refl
size_is l (more_of-Stmt s rest) = ap (λ n. n + size_of s) (size_is _ rest)

abbrev first_row : Stmt → (l : _) × Row_of-Stmt l
first_row (If' e p left q right) = (_, left)
first_row (Loop' e p left q right) = (_, left)
first_row _ = (_, end_of-Stmt)

abbrev second_row : Stmt → (l : _) × Row_of-Stmt l
second_row (If' e p left q right) = (_, right)
second_row (Loop' e p left q right) = (_, right)
second_row _ = (_, end_of-Stmt)

-- a vector's row has its statements
row_code : (K : Kinds) (N c : ℕ) (r : (l : _) × Row_of-Stmt l) (v : List Stmt) (out again : ℕ) (B : Emitted) → items-the_row-Stmt r.0 r.1 ≡ v → block_code K N c r.1 out again B ≡ list_code K N c v out again B
row_code K N c r v out again B e = block_is K N c r.0 r.1 out again B ∙ ap (λ l. list_code K N c l out again B) e

row_size : (r : (l : _) × Row_of-Stmt l) (v : List Stmt) → items-the_row-Stmt r.0 r.1 ≡ v → size_of_block r.1 ≡ size_of_list v
row_size r v e = size_is r.0 r.1 ∙ ap size_of_list e

-- a choice
abbrev pub if_code : Kinds → ℕ → ℕ → Expr → List Stmt → List Stmt → ℕ → ℕ → Emitted → Emitted
if_code K N c e left right out again B =
    test_code K N e (list_code K N c right out again B).entry (list_code K N c left out again (going_to B.entry (list_code K N c right out again B)))

pub stmt_if : (K : Kinds) (N c : ℕ) (e : Expr) (left right : Vec Stmt Global) (out again : ℕ) (B : Emitted) → stmt_code K N c (If e left right) out again B ≡ if_code K N c e left.items right.items out again B
stmt_if K N c e left right out again B =
    let l = first_row (If e left right) in
    let r = second_row (If e left right) in
    let er = row_code K N c r right.items out again B (items_hidden-the_row-Stmt-0 right) in
    ap (λ (R : Emitted). test_code K N e R.entry (block_code K N c l.1 out again (going_to B.entry R))) er
    ∙ ap (λ L. test_code K N e (list_code K N c right.items out again B).entry L) (row_code K N c l left.items out again (going_to B.entry (list_code K N c right.items out again B)) (items_hidden-the_row-Stmt-0 left))

abbrev pub loop_list : Kinds → ℕ → ℕ → Expr → ℕ → List Stmt → List Stmt → Emitted → Emitted
loop_list K N c e head body step B =
    test_code K N e B.entry (list_code K N c body B.entry (list_code K N c step B.entry head (going_to head B)).entry (list_code K N c step B.entry head (going_to head B)))

pub stmt_loop : (K : Kinds) (N c : ℕ) (e : Expr) (body step : Vec Stmt Global) (out again : ℕ) (B : Emitted) → stmt_code K N c (Loop e body step) out again B ≡ loop_list K N c e (N - (length B.places + (size_of_list step.items + size_of_list body.items + (1 + operation_count e)))) body.items step.items B
stmt_loop K N c e body step out again B =
    let b = first_row (Loop e body step) in
    let s = second_row (Loop e body step) in
    let head = N - (length B.places + (size_of_list step.items + size_of_list body.items + (1 + operation_count e))) in
    let es = row_size s step.items (items_hidden-the_row-Stmt-0 step) in
    let eb = row_size b body.items (items_hidden-the_row-Stmt-0 body) in
    let at = λ (head : ℕ). test_code K N e B.entry (block_code K N c b.1 B.entry (block_code K N c s.1 B.entry head (going_to head B)).entry (block_code K N c s.1 B.entry head (going_to head B))) in
    ap (λ z. at (N - (length B.places + (z + size_of_block b.1 + (1 + operation_count e))))) es
    ∙ ap (λ z. at (N - (length B.places + (size_of_list step.items + z + (1 + operation_count e))))) eb
    ∙ ap (λ (S : Emitted). test_code K N e B.entry (block_code K N c b.1 B.entry S.entry S)) (row_code K N c s step.items B.entry head (going_to head B) (items_hidden-the_row-Stmt-0 step))
    ∙ ap (λ L. test_code K N e B.entry L) (row_code K N c b body.items B.entry (list_code K N c step.items B.entry head (going_to head B)).entry (list_code K N c step.items B.entry head (going_to head B)) (items_hidden-the_row-Stmt-0 body))

pub size_if : (e : Expr) (left right : Vec Stmt Global) → size_of (If e left right) ≡ size_of_list right.items + size_of_list left.items + (1 + operation_count e)
size_if e left right =
    let l = first_row (If e left right) in
    let r = second_row (If e left right) in
    ap (λ z. z + size_of_block l.1 + (1 + operation_count e)) (row_size r right.items (items_hidden-the_row-Stmt-0 right))
    ∙ ap (λ z. size_of_list right.items + z + (1 + operation_count e)) (row_size l left.items (items_hidden-the_row-Stmt-0 left))

pub size_loop : (e : Expr) (body step : Vec Stmt Global) → size_of (Loop e body step) ≡ size_of_list step.items + size_of_list body.items + (1 + operation_count e)
size_loop e body step =
    let b = first_row (Loop e body step) in
    let s = second_row (Loop e body step) in
    ap (λ z. z + size_of_block b.1 + (1 + operation_count e)) (row_size s step.items (items_hidden-the_row-Stmt-0 step))
    ∙ ap (λ z. size_of_list step.items + z + (1 + operation_count e)) (row_size b body.items (items_hidden-the_row-Stmt-0 body))

pub if_sum : (s : Stmt) (e : Expr) (left right : Vec Stmt Global) (ls rs : List Stmt) (r l a k b : ℕ) → s ≡ If e left right → rs ≡ right.items → ls ≡ left.items → r ≡ size_of_list rs → l ≡ size_of_list ls → a ≡ r + l → k ≡ operation_count e → b ≡ 1 + k → a + b ≡ size_of s
if_sum s e left right ls rs r l a k b is er el rr ll aa kk bb =
    two (λ x y. x + y) a (size_of_list right.items + size_of_list left.items) b (1 + operation_count e)
    (aa ∙ two (λ x y. x + y) r (size_of_list right.items) l (size_of_list left.items) (rr ∙ ap size_of_list er) (ll ∙ ap size_of_list el)) (bb ∙ ap (λ x. 1 + x) kk)
    ∙ sym (size_if e left right)
    ∙ ap size_of (sym is)

pub loop_sum : (s : Stmt) (e : Expr) (body step : Vec Stmt Global) (bs ss : List Stmt) (r l a k b : ℕ) → s ≡ Loop e body step → ss ≡ step.items → bs ≡ body.items → r ≡ size_of_list ss → l ≡ size_of_list bs → a ≡ r + l → k ≡ operation_count e → b ≡ 1 + k → a + b ≡ size_of s
loop_sum s e body step bs ss r l a k b is er el rr ll aa kk bb =
    two (λ x y. x + y) a (size_of_list step.items + size_of_list body.items) b (1 + operation_count e)
    (aa ∙ two (λ x y. x + y) r (size_of_list step.items) l (size_of_list body.items) (rr ∙ ap size_of_list er) (ll ∙ ap size_of_list el)) (bb ∙ ap (λ x. 1 + x) kk)
    ∙ sym (size_loop e body step)
    ∙ ap size_of (sym is)

-- what was emitted of a choice
pub if_written : (K : Kinds) (N c : ℕ) (s : Stmt) (e : Expr) (left right : Vec Stmt Global) (rs ls : List Stmt) (out again : ℕ) (B R L W : Emitted) → s ≡ If e left right → rs ≡ right.items → ls ≡ left.items → R ≡ list_code K N c rs out again B → L ≡ list_code K N c ls out again (going_to B.entry R) → W ≡ test_code K N e R.entry L → W ≡ stmt_code K N c s out again B
if_written K N c s e left right rs ls out again B R L W is er el rr ll ww =
    ww
    ∙ ap (λ x. test_code K N e R.entry x) (ll ∙ ap (λ x. list_code K N c x out again (going_to B.entry R)) el)
    ∙ ap (λ (x : Emitted). test_code K N e x.entry (list_code K N c left.items out again (going_to B.entry x))) (rr ∙ ap (λ x. list_code K N c x out again B) er)
    ∙ sym (stmt_if K N c e left right out again B)
    ∙ ap (λ x. stmt_code K N c x out again B) (sym is)

-- and of a loop
pub loop_written : (K : Kinds) (N c : ℕ) (s : Stmt) (e : Expr) (body step : Vec Stmt Global) (ss bs ss' bs' : List Stmt) (out again head others size r l a k b : ℕ) (B S L W : Emitted) → s ≡ Loop e body step → ss ≡ step.items → bs ≡ body.items → r ≡ size_of_list ss → l ≡ size_of_list bs → a ≡ r + l → k ≡ operation_count e → b ≡ 1 + k → size ≡ a + b → others ≡ length B.places → head ≡ N - (others + size) → ss' ≡ step.items → bs' ≡ body.items → S ≡ list_code K N c ss' B.entry head (going_to head B) → L ≡ list_code K N c bs' B.entry S.entry S → W ≡ test_code K N e B.entry L → W ≡ stmt_code K N c s out again B
loop_written K N c s e body step ss bs ss' bs' out again head others size r l a k b B S L W is es eb rr ll aa kk bb zz oo hh es' eb' sw lw ww =
    let z : size ≡ size_of_list step.items + size_of_list body.items + (1 + operation_count e) =
    zz
    ∙ two (λ x y. x + y) a (size_of_list step.items + size_of_list body.items) b (1 + operation_count e)
    (aa ∙ two (λ x y. x + y) r (size_of_list step.items) l (size_of_list body.items) (rr ∙ ap size_of_list es) (ll ∙ ap size_of_list eb)) (bb ∙ ap (λ x. 1 + x) kk) in
    let h : head ≡ N - (length B.places + (size_of_list step.items + size_of_list body.items + (1 + operation_count e))) =
    hh ∙ ap (λ x. N - x) (two (λ x y. x + y) others (length B.places) size (size_of_list step.items + size_of_list body.items + (1 + operation_count e)) oo z) in
    ww
    ∙ ap (λ x. test_code K N e B.entry x) (lw ∙ ap (λ x. list_code K N c x B.entry S.entry S) eb')
    ∙ ap (λ (x : Emitted). test_code K N e B.entry (list_code K N c body.items B.entry x.entry x)) (sw ∙ ap (λ x. list_code K N c x B.entry head (going_to head B)) es')
    ∙ ap (λ x. loop_list K N c e x body.items step.items B) h
    ∙ sym (stmt_loop K N c e body step out again B)
    ∙ ap (λ x. stmt_code K N c x out again B) (sym is)

pub length_written : (l : List State) → length (reverse (map form_of l)) ≡ length l
length_written l = length-reverse (map form_of l) ∙ length-map l form_of
