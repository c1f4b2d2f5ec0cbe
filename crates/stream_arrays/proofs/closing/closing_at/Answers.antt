use Rattle.std.proofs.Common.{◌≡◌, ◌+◌, ◌<◌, ◌≤◌, ◌^◌, false, true, Some, None, length, drop, sym, ◌∙◌, arith, rules}
use Rattle.tapa_syntax.specs.declared.terminal.Terminal.TheVariants as terminal
use Rattle.stream_arrays.specs.Standing.{is}
use Rattle.stream_arrays.specs.Forms.{inside_size}
use Rattle.stream_arrays.proofs.Closings.{table_at, at_none, open_none, open_some, inside_bound, two_bounds}
use Rattle.stream_arrays.proofs.closing.closing_at.Goals as goal

pub returns-in_err-first : goal.returns-in_err-first
returns-in_err-first c =
    let text = c.args.text.now in
    let rest = c.args.rest.now in
    let r : is text terminal.RightParen c.args.lexeme.now ≡ false = sym c.is.ensures ∙ c.if-is.false in
    let f : inside_size text 0 rest ≡ None = sym (table_at text rest c.args.behind.now 0 c.requires.closings) ∙ sym c.next_closing.ensures ∙ c.in_err-first.was in
    let n : c.from_residual.result ≡ None = search rules in
    n ∙ sym (at_none text c.args.lexeme.now rest r f)

pub overflow_add-first : goal.overflow_add-first
overflow_add-first c =
    let f : inside_size c.args.text.now 0 c.args.rest.now ≡ Some c.in_ok-first.first = sym (table_at c.args.text.now c.args.rest.now c.args.behind.now 0 c.requires.closings) ∙ sym c.next_closing.ensures ∙ c.in_ok-first.was in
    let b : c.in_ok-first.first < length c.args.rest.now = inside_bound c.args.text.now 0 c.args.rest.now c.in_ok-first.first f in
    let l : length c.args.rest.now < 2 ^ 64 = c.requires.room in
    omega arith

pub returns-in_err-second : goal.returns-in_err-second
returns-in_err-second c =
    let text = c.args.text.now in
    let rest = c.args.rest.now in
    let r : is text terminal.RightParen c.args.lexeme.now ≡ false = sym c.is.ensures ∙ c.if-is.false in
    let p : is text terminal.LeftParen c.args.lexeme.now ≡ true = sym c.is-2.ensures ∙ c.if-is-2.true in
    let f : inside_size text 0 rest ≡ Some c.in_ok-first.first = sym (table_at text rest c.args.behind.now 0 c.requires.closings) ∙ sym c.next_closing.ensures ∙ c.in_ok-first.was in
    let g : inside_size text 0 (drop (c.in_ok-first.first + 1) rest) ≡ None = sym (table_at text rest c.args.behind.now (c.in_ok-first.first + 1) c.requires.closings) ∙ sym c.next_closing-then-is-2.ensures ∙ c.in_err-second.was in
    let n : c.from_residual-in_err-second.result ≡ None = search rules in
    n ∙ sym (open_none text c.args.lexeme.now rest c.in_ok-first.first r p f g)

pub overflow_add-result : goal.overflow_add-result
overflow_add-result c =
    let text = c.args.text.now in
    let rest = c.args.rest.now in
    let f : inside_size text 0 rest ≡ Some c.in_ok-first.first = sym (table_at text rest c.args.behind.now 0 c.requires.closings) ∙ sym c.next_closing.ensures ∙ c.in_ok-first.was in
    let g : inside_size text 0 (drop (c.in_ok-first.first + 1) rest) ≡ Some c.in_ok-second.second = sym (table_at text rest c.args.behind.now (c.in_ok-first.first + 1) c.requires.closings) ∙ sym c.next_closing-then-is-2.ensures ∙ c.in_ok-second.was in
    let b : c.in_ok-first.first + c.in_ok-second.second + 2 ≤ length rest = two_bounds text rest c.in_ok-first.first c.in_ok-second.second f g in
    let l : length rest < 2 ^ 64 = c.requires.room in
    omega arith

pub overflow_add-result-then-is-2 : goal.overflow_add-result-then-is-2
overflow_add-result-then-is-2 c =
    let text = c.args.text.now in
    let rest = c.args.rest.now in
    let f : inside_size text 0 rest ≡ Some c.in_ok-first.first = sym (table_at text rest c.args.behind.now 0 c.requires.closings) ∙ sym c.next_closing.ensures ∙ c.in_ok-first.was in
    let g : inside_size text 0 (drop (c.in_ok-first.first + 1) rest) ≡ Some c.in_ok-second.second = sym (table_at text rest c.args.behind.now (c.in_ok-first.first + 1) c.requires.closings) ∙ sym c.next_closing-then-is-2.ensures ∙ c.in_ok-second.was in
    let b : c.in_ok-first.first + c.in_ok-second.second + 2 ≤ length rest = two_bounds text rest c.in_ok-first.first c.in_ok-second.second f g in
    let l : length rest < 2 ^ 64 = c.requires.room in
    omega arith

pub overflow_add-result-else-is-2 : goal.overflow_add-result-else-is-2
overflow_add-result-else-is-2 c =
    let f : inside_size c.args.text.now 0 c.args.rest.now ≡ Some c.in_ok-first.first = sym (table_at c.args.text.now c.args.rest.now c.args.behind.now 0 c.requires.closings) ∙ sym c.next_closing.ensures ∙ c.in_ok-first.was in
    let b : c.in_ok-first.first < length c.args.rest.now = inside_bound c.args.text.now 0 c.args.rest.now c.in_ok-first.first f in
    let l : length c.args.rest.now < 2 ^ 64 = c.requires.room in
    omega arith

pub returns-in_ok-second : goal.returns-in_ok-second
returns-in_ok-second c =
    let text = c.args.text.now in
    let rest = c.args.rest.now in
    let r : is text terminal.RightParen c.args.lexeme.now ≡ false = sym c.is.ensures ∙ c.if-is.false in
    let p : is text terminal.LeftParen c.args.lexeme.now ≡ true = sym c.is-2.ensures ∙ c.if-is-2.true in
    let f : inside_size text 0 rest ≡ Some c.in_ok-first.first = sym (table_at text rest c.args.behind.now 0 c.requires.closings) ∙ sym c.next_closing.ensures ∙ c.in_ok-first.was in
    let g : inside_size text 0 (drop (c.in_ok-first.first + 1) rest) ≡ Some c.in_ok-second.second = sym (table_at text rest c.args.behind.now (c.in_ok-first.first + 1) c.requires.closings) ∙ sym c.next_closing-then-is-2.ensures ∙ c.in_ok-second.was in
    sym (open_some text c.args.lexeme.now rest c.in_ok-first.first c.in_ok-second.second r p f g)
