-- Tokens of one kind in lists and ports.
use Rattle.std.proofs.Common.{◌≡◌, ℕ, zero, suc, ◌+◌, List, [], ◌∷◌, ◌++◌, map, drop, Some, sym, ap, ◌∙◌, subst, arith}
use Rattle.std.specs.Prelude.{slice_get, option_map, Bool, true, false, if◌then◌else◌}
use Rattle.std.proofs.lemmas.Option.{slice_get-map}
use Rattle.tapa_syntax.specs.declared.program.End.{End}
use Rattle.tapa_syntax.specs.LeafKinds.{writes_of}
use Rattle.tapa_base.specs.declared.kind.Kind.{Kind}
use Rattle.tapa_base.specs.declared.token.Token.{Token}
use Rattle.tapa_base.specs.declared.token.Token.TheVariants.{Datum, Eot}
use Rattle.kahn_model.specs.Fits.{IsTokenOf}
use Rattle.net_core.specs.declared.port.Port.{Port}
use Rattle.net_core.specs.declared.ports.Ports.{Ports}
use Rattle.net_core.specs.Kinds.{AreTokensOf, kind_in}
use Rattle.net_core.specs.Ports.{waiting, waiting_in, ends_of, kind_at}

get_map : (xs : List Port) (s : ℕ) (q : Port) → slice_get xs s ≡ Some q → kind_in (map (λ (p : Port). p.end) xs) s ≡ q.end.kind
get_map [] s q e = cc
get_map (x ∷ xs) zero q e = let w : x ≡ q = cc in ap (λ (p : Port). p.end.kind) w
get_map (x ∷ xs) (suc s) q e = get_map xs s q e

-- the kind of a port that is there
pub kind_here : (ports : Ports) (s : ℕ) (q : Port) → slice_get ports.ports.items s ≡ Some q → kind_at ports s ≡ q.end.kind
kind_here ports s q e = get_map ports.ports.items s q e

-- whether it writes
pub writes_here : (ports : Ports) (s : ℕ) (q : Port) → slice_get ports.ports.items s ≡ Some q → writes_of (ends_of ports) s ≡ Some q.end.writes
writes_here ports s q e =
    ap (option_map (λ (x : End). x.writes)) (slice_get-map (λ (p : Port). p.end) ports.ports.items s ∙ ap (option_map (λ (p : Port). p.end)) e)

pub one_token : (k : Kind) (ts : List Token) (n : ℕ) (t : Token) → AreTokensOf k ts → slice_get ts n ≡ Some t → IsTokenOf k t
one_token k ts n (Datum v) h e = h n v e
one_token k ts n Eot h e = tt

get_drop : (m : ℕ) (ts : List Token) (n : ℕ) (t : Token) → slice_get (drop m ts) n ≡ Some t → slice_get ts (m + n) ≡ Some t
get_drop zero ts n t e = let q : 0 + n ≡ n = omega arith in subst (λ z. slice_get ts z ≡ Some t) (sym q) e
get_drop (suc m) [] n t e = cc
get_drop (suc m) (x ∷ ts) n t e = let q : suc (m + n) ≡ suc m + n = omega arith in subst (λ z. slice_get (x ∷ ts) z ≡ Some t) q (get_drop m ts n t e)

pub tokens_drop : (k : Kind) (m : ℕ) (ts : List Token) → AreTokensOf k ts → AreTokensOf k (drop m ts)
tokens_drop k m ts h n v e = h (m + n) v (get_drop m ts n (Datum v) e)

pub tokens_push : (k : Kind) (ts us : List Token) (t : Token) → us ≡ ts ++ t ∷ [] → AreTokensOf k ts → IsTokenOf k t → AreTokensOf k us
tokens_push k ts us t e h g = subst (AreTokensOf k) (sym e) (go ts t h g)
  where
    go : (ts : List Token) (t : Token) → AreTokensOf k ts → IsTokenOf k t → AreTokensOf k (ts ++ t ∷ [])
    go [] t h g zero v e = let q : t ≡ Datum v = cc in subst (IsTokenOf k) q g
    go [] t h g (suc n) v e = cc
    go (x ∷ ts) t h g zero v e = h 0 v e
    go (x ∷ ts) t h g (suc n) v e = go ts t (λ n v e. h (suc n) v e) g n v e

-- the next token of a port
pub front_token : (ports : Ports) (s : ℕ) (q : Port) (t : Token) → slice_get ports.ports.items s ≡ Some q → slice_get (waiting ports s) 0 ≡ Some t → IsTokenOf (kind_at ports s) t
front_token ports s q t e g =
    let w : slice_get (drop q.head q.tokens.items) 0 ≡ Some t = ap (λ o. slice_get (waiting_in o) 0) (sym e) ∙ g in
    subst (λ k. IsTokenOf k t) (sym (kind_here ports s q e)) (one_token q.end.kind q.tokens.items (q.head + 0) t q.tokens_fit (get_drop q.head q.tokens.items 0 t w))

pub tokens_append : (k : Kind) (ts us : List Token) → AreTokensOf k ts → AreTokensOf k us → AreTokensOf k (ts ++ us)
tokens_append k [] us h g n v e = g n v e
tokens_append k (t ∷ ts) us h g zero v e = h zero v e
tokens_append k (t ∷ ts) us h g (suc n) v e = tokens_append k ts us (λ m. h (suc m)) g n v e

-- the tokens of a list from an index on join others, where memory allows
pub tokens_extended : (b : Bool) (k : Kind) (ts us list : List Token) (m : ℕ) → us ≡ (if b then ts ++ drop m list else ts) → AreTokensOf k ts → AreTokensOf k list → AreTokensOf k us
tokens_extended true k ts us list m e h g = subst (AreTokensOf k) (sym e) (tokens_append k ts (drop m list) h (tokens_drop k m list g))
tokens_extended false k ts us list m e h g = subst (AreTokensOf k) (sym e) h
