-- Graphs that grow by the edges of a list's elements.
use Rattle.std.proofs.Common.{◌≡◌, ℕ, ◌+◌, ◌<◌, ◌≤◌, List, [], ◌∷◌, ◌++◌, length, get_or, drop, refl, sym, ap, subst, ◌∙◌, append_assoc, map}
use Rattle.std.proofs.lemmas.List.{append-nil}
use Rattle.vlog_tree.specs.Table.{Name}
use Rattle.vlog_tree.specs.Loops.{Edges, port_of}
use Rattle.vlog_tree.proofs.Walks.{grows, over}
use Rattle.vlog_net_graph.specs.declared.names.GraphDraft.{GraphDraft}
use Rattle.vlog_net_graph.specs.Names.{IsDraftOf}
use Rattle.vlog_net_graph.specs.Growth.{Adds}
use Rattle.vlog_net_graph.specs.Merged.{port_pair, under}
use Rattle.std.proofs.lemmas.Grind.{flat_map-append}
use Rattle.tapa_base.proofs.Got.{map_append as map-append}

pub adds_nothing : (a : GraphDraft) → Adds a a []
adds_nothing a = record { graph = λ edges g. subst (λ e. IsDraftOf e a) (sym (append-nil edges)) g; listed = λ h. h }

pub adds_both : (a b c : GraphDraft) (xs ys : Edges) → Adds a b xs → Adds b c ys → Adds a c (xs ++ ys)
adds_both a b c xs ys l r = record {
  graph = λ edges g. subst (λ e. IsDraftOf e c) (append_assoc edges xs ys) (r.graph (edges ++ xs) (l.graph edges g));
  listed = λ h. r.listed (l.listed h);
}

pub adds_mapped : {A : Type 0} (f : A → Name × Name) (a b c : GraphDraft) (xs ys : List A) → Adds a b (map f xs) → Adds b c (map f ys) → Adds a c (map f (xs ++ ys))
adds_mapped f a b c xs ys l r = subst (λ e. Adds a c e) (sym (map-append f xs ys)) (adds_both a b c (map f xs) (map f ys) l r)

-- the elements that were gone over have added their edges
pub record AddsSoFar {A : Type 0} (f : List A → Edges) (xs : List A) (i : ℕ) (a b : GraphDraft) : Type 0 where
  pub done : Edges
  pub adds : Adds a b done
  pub rest : done ++ f (drop i xs) ≡ f xs

pub so_far_start : {A : Type 0} (f : List A → Edges) (xs : List A) (a : GraphDraft) → AddsSoFar f xs 0 a a
so_far_start f xs a = record { done = []; adds = adds_nothing a; rest = refl }

pub so_far_step : {A : Type 0} (f : List A → Edges) (xs : List A) (i : ℕ) (x : A) (a b c : GraphDraft) (piece : Edges) → ((rest : List A) → f (x ∷ rest) ≡ piece ++ f rest)
    → i < length xs → x ≡ get_or xs i x → AddsSoFar f xs i a b → Adds b c piece → AddsSoFar f xs (i + 1) a c
so_far_step f xs i x a b c piece cons h e s step = record {
  done = s.done ++ piece;
  adds = adds_both a b c s.done piece s.adds step;
  rest = grows f xs i x s.done (s.done ++ piece) piece (f xs) cons h e refl s.rest;
}

pub so_far_end : {A : Type 0} (f : List A → Edges) (xs : List A) (i : ℕ) (a b : GraphDraft) → f [] ≡ [] → length xs ≤ i → AddsSoFar f xs i a b → Adds a b (f xs)
so_far_end f xs i a b none h s =
    let all : s.done ≡ f xs = sym (append-nil s.done) ∙ ap (λ l. s.done ++ l) (sym none) ∙ ap (λ l. s.done ++ f l) (sym (over xs i h)) ∙ s.rest in
    subst (λ e. Adds a b e) all s.adds

-- ---- names with bytes in front

pub fused : {A : Type 0} (front : Name) (f : A → Name × Name) (xs : List A) → map (λ x. under front (f x)) xs ≡ map (under front) (map f xs)
fused front f [] = refl
fused front f (x ∷ xs) = ap (λ l. under front (f x) ∷ l) (fused front f xs)

pub under_none : (edges : Edges) → map (under []) edges ≡ edges
under_none [] = refl
under_none ((a, b) ∷ edges) = ap (λ l. (a, b) ∷ l) (under_none edges)

pub under_named : (m : Name) (edges : Edges) → map (under (port_of m [])) edges ≡ map (port_pair m) edges
unfolding port_of
under_named m [] = refl
under_named m ((a, b) ∷ edges) =
    ap (λ l. under (m ++ 46 ∷ []) (a, b) ∷ l) (under_named m edges)
    ∙ ap (λ e. e ∷ map (port_pair m) edges) (ap (λ x. (x, (m ++ 46 ∷ []) ++ b)) (append_assoc m (46 ∷ []) a) ∙ ap (λ y. (m ++ 46 ∷ a, y)) (append_assoc m (46 ∷ []) b))
