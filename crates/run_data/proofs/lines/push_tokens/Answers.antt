use Rattle.std.proofs.Common.{◌≡◌, ℕ, ◌+◌, ◌-◌, List, ◌++◌, take, drop, take_all, length-drop, sym, ap, ◌∙◌, arith, append_assoc, append-nil}
use Rattle.std.proofs.lemmas.List.{take-append-drop, drop_all, drop-drop}
use Rattle.std.proofs.lemmas.Grind.{flat_map-append}
use Rattle.tapa_base.specs.declared.token.Token.{Token}
use Rattle.run_data.specs.Report.{token_text, tokens_text}
use Rattle.run_data.proofs.lines.push_tokens.Goals as goal

-- the text of some tokens is that of a front part and of the rest
in_two : (k : ℕ) (tokens : List Token) → tokens_text tokens ≡ tokens_text (take k tokens) ++ tokens_text (drop k tokens)
in_two k tokens = ap tokens_text (sym (take-append-drop k tokens)) ∙ flat_map-append token_text (take k tokens) (drop k tokens)

pub parts-preserved : goal.parts-preserved
parts-preserved c =
    let t = c.parts-test.true in
    let inv = c.parts.invariant in
    let w = c.write_tokens-start in
    let line = c.parts.line.items in
    let rest = drop c.parts.done c.args.tokens.now in
    let end = c.parts.done + c.min.result in
    let k = end - c.parts.done in
    let all = take_all (1344 - w.result) (drop w.result w.new.buffer) (omega (arith, length-drop w.result w.new.buffer)) in
    let far : drop k rest ≡ drop end c.args.tokens.now = drop-drop k c.parts.done c.args.tokens.now ∙ ap (λ n. drop n c.args.tokens.now) (let q : c.parts.done + k ≡ end = omega arith in q) in
    record {
      within = omega arith;
      text =
          ap (λ l. l ++ tokens_text (drop end c.args.tokens.now)) (c.in_ok-extend_from_slice.ensures.items ∙ ap (λ l. line ++ l) (all ∙ w.ensures.text))
          ∙ append_assoc line (tokens_text (take k rest)) (tokens_text (drop end c.args.tokens.now))
          ∙ ap (λ l. line ++ (tokens_text (take k rest) ++ tokens_text l)) (sym far)
          ∙ ap (λ l. line ++ l) (sym (in_two k rest))
          ∙ inv.text;
    }

pub returns : goal.returns
returns c =
    let t = c.parts-test.false in
    let inv = c.parts.invariant in
    let none = drop_all c.parts.done c.args.tokens.now (omega arith) in
    sym (append-nil c.parts.line.items) ∙ ap (λ l. c.parts.line.items ++ tokens_text l) (sym none) ∙ inv.text
