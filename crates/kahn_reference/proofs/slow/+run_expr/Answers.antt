use Rattle.std.proofs.Common.{◌<◌, sym, subst}
use Rattle.std.proofs.lemmas.Result.{err_from_is_err_and}
use Rattle.tapa_base.specs.declared.kind.Kind.{Kind}
use Rattle.tapa_base.specs.Kinds.{values_of}
use Rattle.tapa_syntax.specs.declared.program.Expr.{Expr}
use Rattle.tapa_syntax.specs.Typed.{HasKind, MayDivide, right_kind, result_kind}
use Rattle.tapa_syntax.proofs.Values.{applied_fits}
use Rattle.kahn_reference.specs.Kept.{IsValueOf}
use Rattle.kahn_reference.specs.Slow.{point, numbers, state_of}
use Rattle.kahn_reference.proofs.Kept.{given, still, can_apply, value_constant}
use Rattle.kahn_model.proofs.Fits.{of_kind}
use Rattle.kahn_reference.proofs.slow.+run_expr.Goals as goal

pub returns-in_ok-ask_at-in-Read-clause-fits : goal.returns-in_ok-ask_at-in-Read-clause-fits
returns-in_ok-ask_at-in-Read-clause-fits t c = λ K k h g.
    let same = subst (λ e. HasKind K e k) c.in-Read.is h in
    subst (λ (j : Kind). IsValueOf j c.in_ok-ask_at-in-Read.field-0) same (c.in_ok-ask_at-in-Read.ensures.fits (K.streams c.in-Read.p) (g.tokens c.in-Read.p))

pub returns-in_ok-ask_at-in-Peek-clause-fits : goal.returns-in_ok-ask_at-in-Peek-clause-fits
returns-in_ok-ask_at-in-Peek-clause-fits t c = λ K k h g.
    let same = subst (λ e. HasKind K e k) c.in-Peek.is h in
    subst (λ (j : Kind). IsValueOf j c.in_ok-ask_at-in-Peek.field-0) same (c.in_ok-ask_at-in-Peek.ensures.fits (K.streams c.in-Peek.p) (g.tokens c.in-Peek.p))

pub returns-in_ok-ask_at-in-Eot-clause-fits : goal.returns-in_ok-ask_at-in-Eot-clause-fits
returns-in_ok-ask_at-in-Eot-clause-fits t c = λ K k h g.
    let same = subst (λ e. HasKind K e k) c.in-Eot.is h in
    subst (λ (j : Kind). IsValueOf j c.in_ok-ask_at-in-Eot.field-0) same (c.in_ok-ask_at-in-Eot.ensures.fits (K.streams c.in-Eot.p) (g.tokens c.in-Eot.p))

pub returns-in_err-apply_values-in-Given-5-clause-cause : goal.returns-in_err-apply_values-in-Given-5-clause-cause
returns-in_err-apply_values-in-Given-5-clause-cause t c =
    let p = err_from_is_err_and c.from_residual-in_err-apply_values-in-Given-5.result c.from_residual-in_err-apply_values-in-Given-5.ensures.1 in rw (p.1, p.2) (λ K k h g e.
    let o = c.in-Apply.op in
    let j = c.in-Apply.kind in
    let w = subst (λ e. HasKind K e k) c.in-Apply.is h in
    let left = subst (λ e. HasKind K e j) (sym c.deref-in-Apply.ensures) w.1 in
    let right = subst (λ e. HasKind K e (right_kind o j)) (sym c.deref-in-Given-4.ensures) w.2 in
    let g2 = still K c.args.streams.now c.args.lists.now c.args.run.now.state c.run_expr-in-Apply.new.run.state c.in_ok-m-in-Apply.ensures.state g in
    let a : c.in-Given-4.a < values_of j = given j c.in_ok-m-in-Apply.field-0 c.in-Given-4.a c.in-Given-4.is (c.in_ok-m-in-Apply.ensures.fits K j left g) in
    let b : c.in-Given-5.b < values_of (right_kind o j) = given (right_kind o j) c.in_ok-m-in-Given-4.field-0 c.in-Given-5.b c.in-Given-5.is (c.in_ok-m-in-Given-4.ensures.fits K (right_kind o j) right g2) in
    c.in_err-apply_values-in-Given-5.ensures.err a
    (can_apply o j c.deref-in-Given-4.result.now c.in-Given-5.b (subst (λ (e : Expr). MayDivide o e) (sym c.deref-in-Given-4.ensures) w.3) (value_constant (numbers c.args.streams.now) (point c.args.lists.now c.run_expr-in-Apply.new.run) (point c.args.lists.now c.run_expr-in-Given-4.new.run) c.deref-in-Given-4.result.now (state_of c.run_expr-in-Apply.new.run.state) c.in_ok-m-in-Given-4.field-0 c.in-Given-5.b c.in-Given-5.is c.in_ok-m-in-Given-4.ensures.value) b))

pub returns-in_ok-apply_values-in-Given-5-clause-fits : goal.returns-in_ok-apply_values-in-Given-5-clause-fits
returns-in_ok-apply_values-in-Given-5-clause-fits t c = λ K k h g.
    let o = c.in-Apply.op in
    let j = c.in-Apply.kind in
    let w = subst (λ e. HasKind K e k) c.in-Apply.is h in
    let left = subst (λ e. HasKind K e j) (sym c.deref-in-Apply.ensures) w.1 in
    let right = subst (λ e. HasKind K e (right_kind o j)) (sym c.deref-in-Given-4.ensures) w.2 in
    let g2 = still K c.args.streams.now c.args.lists.now c.args.run.now.state c.run_expr-in-Apply.new.run.state c.in_ok-m-in-Apply.ensures.state g in
    let a : c.in-Given-4.a < values_of j = given j c.in_ok-m-in-Apply.field-0 c.in-Given-4.a c.in-Given-4.is (c.in_ok-m-in-Apply.ensures.fits K j left g) in
    let b : c.in-Given-5.b < values_of (right_kind o j) = given (right_kind o j) c.in_ok-m-in-Given-4.field-0 c.in-Given-5.b c.in-Given-5.is (c.in_ok-m-in-Given-4.ensures.fits K (right_kind o j) right g2) in
    of_kind (result_kind o j) k c.in_ok-apply_values-in-Given-5.field-0 w.0 (subst (λ x. x < values_of (result_kind o j)) (sym c.in_ok-apply_values-in-Given-5.ensures.ok) (applied_fits o j c.in-Given-4.a c.in-Given-5.b a b))
