-- Numbers on a stream as tokens.
use Rattle.std.proofs.Common.{◌≡◌, ℕ, suc, ◌-◌, ◌^◌, ◌<◌, ◌≤◌, [], ◌∷◌, ◌++◌, Some, None, map, sym, ap, ◌∙◌, arith}
use Rattle.std.proofs.lemmas.List.{map-append}
use Rattle.std.specs.Option.{option_to_list}
use Rattle.tapa_base.specs.declared.token.Token.{Token}
use Rattle.vlog_tree.specs.Table.{Name}
use Rattle.vlog_tree.specs.Environment.{carried, token_of, tokens}
use Rattle.vlog_values.specs.declared.moment.Circuit.{Circuit}
use Rattle.vlog_values.specs.declared.moment.Moment.{Moment}
use Rattle.vlog_ref_cycle.specs.Moments.{InEachRun}

module _ (c : Circuit) (now : Moment) (w : ℕ) (x : Name) where
  pub one_token : (din : ℕ) (t : Token) → t ≡ token_of w din
      → InEachRun c now (λ env nets. (k : ℕ) → now.cycle ≡ suc k → carried (λ n. nets n []) x (suc k) ≡ carried (λ n. nets n []) x k ++ option_to_list (Some din))
      → InEachRun c now (λ env nets. (k : ℕ) → now.cycle ≡ suc k → tokens w (λ n. nets n []) x (suc k) ≡ tokens w (λ n. nets n []) x k ++ option_to_list (Some t))
  one_token din t e f = λ env nets q k is.
      ap (map (token_of w)) (f env nets q k is) ∙ map-append (token_of w) (carried (λ n. nets n []) x k) (din ∷ []) ∙ ap (λ z. tokens w (λ n. nets n []) x k ++ z ∷ []) (sym e)

  pub no_token :
      InEachRun c now (λ env nets. (k : ℕ) → now.cycle ≡ suc k → carried (λ n. nets n []) x (suc k) ≡ carried (λ n. nets n []) x k ++ option_to_list None)
      → InEachRun c now (λ env nets. (k : ℕ) → now.cycle ≡ suc k → tokens w (λ n. nets n []) x (suc k) ≡ tokens w (λ n. nets n []) x k ++ option_to_list None)
  no_token f = λ env nets q k is. ap (map (token_of w)) (f env nets q k is) ∙ map-append (token_of w) (carried (λ n. nets n []) x k) []
