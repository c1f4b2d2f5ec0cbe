use Rattle.std.proofs.Common.{◌≡◌, suc, ◌-◌, ◌++◌, ◌∷◌, length, get_or, drop, sym, ap, ◌∙◌, arith, drop-cons}
use Rattle.std.proofs.lemmas.List.{drop_all}
use Rattle.tapa_base.specs.declared.token.Token.TheVariants.{Datum}
use Rattle.run_data.specs.Report.{token_text, tokens_text}
use Rattle.run_data.proofs.lines.write_tokens.Goals as goal

pub back-init : goal.back-init
back-init c =
    record {
      room = omega arith;
      end = omega arith;
      within = omega arith;
      text = drop_all 1344 c.args.buffer.now (omega arith) ∙ sym (ap tokens_text (drop_all (length c.args.tokens.now) c.args.tokens.now (omega arith)));
    }

pub back-preserved : goal.back-preserved
back-preserved c =
    let inv = c.back.invariant in
    let t = c.back-test.true in
    let tokens = c.args.tokens.now in
    let next = c.back.left - 1 in
    let here : drop next tokens ≡ get_or tokens next (Datum 0) ∷ drop c.back.left tokens = drop-cons tokens next (Datum 0) (omega arith) ∙ ap (λ k. get_or tokens next (Datum 0) ∷ drop k tokens) (let e : suc next ≡ c.back.left = omega arith in e) in
    record {
      room = omega arith;
      end = omega arith;
      within = omega arith;
      text = c.write_token-at.ensures.text ∙ ap (λ l. token_text (get_or tokens next (Datum 0)) ++ l) inv.text ∙ sym (ap tokens_text here);
    }
