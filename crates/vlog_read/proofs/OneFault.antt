-- A text is refused with one fault.
use Rattle.std.proofs.Common.{◌≡◌, List, [], ◌∷◌, ◌++◌, Option, Some, None, inl, inr, refl, sym, ap, subst, ◌∙◌}
use Rattle.std.proofs.lemmas.Option.{same_Some}
use Rattle.tapa_base.specs.Lists.{Has}
use Rattle.tapa_base.proofs.Lists.{has_right}
use Rattle.tapa_base.specs.Gaps.{Bytes}
use Rattle.vlog_tree.specs.declared.fault.VFault.{VFault}
use Rattle.vlog_tree.specs.declared.fault.VFault.TheVariants.{V1, V2, V3, V4, V5, V6, OutOfMemory}
use Rattle.vlog_tree.specs.Form.{ModuleTree}
use Rattle.vlog_tree.specs.Loops.{TextPlace, text_places, place_name, LiesOnLoop, IsFirstIn, TellsLoop, IsLoopless}
use Rattle.vlog_tree.specs.Refused.{Refuses}
use Rattle.vlog_tree.specs.Table.{Name}
use Rattle.vlog_tree.specs.V6.{is_top}
use Rattle.vlog_lex.specs.Grammar.{HasTree}
use Rattle.vlog_read.specs.Texts.{RefusesText, RefusesTree}
use Rattle.vlog_read.proofs.OnePlace.{one_refused_place}

-- ---- the first of a list is one

module _ {A : Type 0} (P : A → Type 0) where
  firsts : (before after : List A) (x : A) (other rest : List A) (y : A) → before ++ x ∷ after ≡ other ++ y ∷ rest
      → ((z : A) → Has before z → P z → ⊥) → ((z : A) → Has other z → P z → ⊥) → P x → P y → x ≡ y
  firsts [] after x [] rest y e free clear p q = cc
  firsts [] after x (z ∷ other) rest y e free clear p q = let same : x ≡ z = cc in absurd (clear z (inl refl) (subst P same p))
  firsts (z ∷ before) after x [] rest y e free clear p q = let same : z ≡ y = cc in absurd (free z (inl refl) (subst P (sym same) q))
  firsts (z ∷ before) after x (u ∷ other) rest y e free clear p q =
      let behind : before ++ x ∷ after ≡ other ++ y ∷ rest = cc in
      firsts before after x other rest y behind (λ v has. free v (inr has)) (λ v has. clear v (inr has)) p q

  one_first : (xs : List A) (x y : A) → IsFirstIn P xs x → IsFirstIn P xs y → x ≡ y
  one_first xs x y f g = firsts f.before f.after x g.before g.after y (sym f.split ∙ g.split) f.none_before g.none_before f.this g.this

  in_list : (xs : List A) (x : A) → IsFirstIn P xs x → Has xs x
  in_list xs x f = subst (λ l. Has l x) (sym f.split) (has_right f.before (x ∷ f.after) x (inl refl))

-- ---- faults of modules

module _ (ms : List ModuleTree) where
  abbrev OnLoop : TextPlace → Type 0
  OnLoop = LiesOnLoop ms (is_top ms)

  one_loop : (x y : Name) → TellsLoop ms (is_top ms) x → TellsLoop ms (is_top ms) y → x ≡ y
  one_loop x y (s, f, e) (t, g, h) = sym e ∙ ap place_name (one_first OnLoop (text_places ms) s t f g) ∙ h

  no_loop : (x : Name) → TellsLoop ms (is_top ms) x → IsLoopless ms (is_top ms) → ⊥
  no_loop x (s, f, e) none = none s (in_list OnLoop (text_places ms) s f) f.this

  apart : (o : Option Name) (x : Name) → o ≡ Some x → o ≡ None → ⊥
  apart o x e n = cc

  abbrev IsFault : VFault → Type 0
  IsFault e = e ≡ OutOfMemory → ⊥

  one_fault : (e f : VFault) → Refuses ms e → Refuses ms f → IsFault e → IsFault f → e ≡ f
  one_fault (V1 p) f r s a b = absurd r
  one_fault e (V1 p) r s a b = absurd s
  one_fault OutOfMemory f r s a b = absurd (a refl)
  one_fault e OutOfMemory r s a b = absurd (b refl)
  one_fault (V2 x) (V2 y) r s a b = ap V2 (same_Some x y (sym r ∙ s))
  one_fault (V2 x) (V3 y) r s a b = absurd (apart _ x r s.0)
  one_fault (V2 x) (V4 y) r s a b = absurd (apart _ x r s.0)
  one_fault (V2 x) (V5 y) r s a b = absurd (apart _ x r s.0.names)
  one_fault (V2 x) (V6 y) r s a b = absurd (apart _ x r s.0.names)
  one_fault (V3 x) (V2 y) r s a b = absurd (apart _ y s r.0)
  one_fault (V3 x) (V3 y) r s a b = ap V3 (same_Some x y (sym r.1 ∙ s.1))
  one_fault (V3 x) (V4 y) r s a b = absurd (apart _ x r.1 s.1)
  one_fault (V3 x) (V5 y) r s a b = absurd (apart _ x r.1 s.0.widths)
  one_fault (V3 x) (V6 y) r s a b = absurd (apart _ x r.1 s.0.widths)
  one_fault (V4 x) (V2 y) r s a b = absurd (apart _ y s r.0)
  one_fault (V4 x) (V3 y) r s a b = absurd (apart _ y s.1 r.1)
  one_fault (V4 x) (V4 y) r s a b = ap V4 (same_Some x y (sym r.2 ∙ s.2))
  one_fault (V4 x) (V5 y) r s a b = absurd (apart _ x r.2 s.0.drivers)
  one_fault (V4 x) (V6 y) r s a b = absurd (apart _ x r.2 s.0.drivers)
  one_fault (V5 x) (V2 y) r s a b = absurd (apart _ y s r.0.names)
  one_fault (V5 x) (V3 y) r s a b = absurd (apart _ y s.1 r.0.widths)
  one_fault (V5 x) (V4 y) r s a b = absurd (apart _ y s.2 r.0.drivers)
  one_fault (V5 x) (V5 y) r s a b = ap V5 (one_loop x y r.1 s.1)
  one_fault (V5 x) (V6 y) r s a b = absurd (no_loop x r.1 s.1)
  one_fault (V6 x) (V2 y) r s a b = absurd (apart _ y s r.0.names)
  one_fault (V6 x) (V3 y) r s a b = absurd (apart _ y s.1 r.0.widths)
  one_fault (V6 x) (V4 y) r s a b = absurd (apart _ y s.2 r.0.drivers)
  one_fault (V6 x) (V5 y) r s a b = absurd (no_loop y s.1 r.1)
  one_fault (V6 x) (V6 y) r s a b = ap V6 (same_Some x y (sym r.2 ∙ s.2))

-- ---- faults of texts

abbrev IsOne : Bytes → Type 0
IsOne text = (ms ns : List ModuleTree) → HasTree text ms → HasTree text ns → ms ≡ ns

module _ (text : Bytes) (one : IsOne text) where
  -- a text with a tree that its fault is of
  of_tree : (e f : VFault) → RefusesTree text e → RefusesTree text f → (e ≡ OutOfMemory → ⊥) → (f ≡ OutOfMemory → ⊥) → e ≡ f
  of_tree e f (ms, tree, r) (ns, other, s) a b = one_fault ms e f r (subst (λ l. Refuses l f) (one ns ms other tree) s) a b

  data Kind (e : VFault) : Type 0 where
    unread : (p : _) → e ≡ V1 p → Kind e
    broken : ((t : RefusesText text e) → RefusesTree text e) → Kind e
    short : e ≡ OutOfMemory → Kind e

  kind_of : (e : VFault) → Kind e
  kind_of (V1 p) = unread p refl
  kind_of (V2 x) = broken (λ t. t)
  kind_of (V3 x) = broken (λ t. t)
  kind_of (V4 x) = broken (λ t. t)
  kind_of (V5 x) = broken (λ t. t)
  kind_of (V6 x) = broken (λ t. t)
  kind_of OutOfMemory = short refl

  unread_broken : (p : _) (e f : VFault) → e ≡ V1 p → RefusesText text e → RefusesTree text f → ⊥
  unread_broken p e f is r (ms, tree, s) = (subst (RefusesText text) is r).none ms tree

  by_kind : (e f : VFault) → Kind e → Kind f → RefusesText text e → RefusesText text f → (e ≡ OutOfMemory → ⊥) → (f ≡ OutOfMemory → ⊥) → e ≡ f
  by_kind e f (short is) k r s a b = absurd (a is)
  by_kind e f k (short is) r s a b = absurd (b is)
  by_kind e f (unread p is) (unread q also) r s a b =
      is ∙ ap V1 (one_refused_place text p q (subst (RefusesText text) is r).there (subst (RefusesText text) also s).there) ∙ sym also
  by_kind e f (unread p is) (broken t) r s a b = absurd (unread_broken p e f is r (t s))
  by_kind e f (broken t) (unread q is) r s a b = absurd (unread_broken q f e is s (t r))
  by_kind e f (broken t) (broken u) r s a b = of_tree e f (t r) (u s) a b

  pub refused_once : (e f : VFault) → RefusesText text e → RefusesText text f → (e ≡ OutOfMemory → ⊥) → (f ≡ OutOfMemory → ⊥) → e ≡ f
  refused_once e f = by_kind e f (kind_of e) (kind_of f)

-- what is refused of a text is refused of its modules
pub of_modules : (text : Bytes) (ms : List ModuleTree) (e : VFault) → ((ns : List ModuleTree) → HasTree text ns → ns ≡ ms) → HasTree text ms → (Refuses ms e → e ≡ OutOfMemory) → RefusesText text e → e ≡ OutOfMemory
of_modules text ms (V1 place) same tree none r = absurd (r.none ms tree)
of_modules text ms (V2 x) same tree none r = none (subst (λ (l : List ModuleTree). Refuses l (V2 x)) (same r.0 r.1) r.2)
of_modules text ms (V3 x) same tree none r = none (subst (λ (l : List ModuleTree). Refuses l (V3 x)) (same r.0 r.1) r.2)
of_modules text ms (V4 x) same tree none r = none (subst (λ (l : List ModuleTree). Refuses l (V4 x)) (same r.0 r.1) r.2)
of_modules text ms (V5 x) same tree none r = none (subst (λ (l : List ModuleTree). Refuses l (V5 x)) (same r.0 r.1) r.2)
of_modules text ms (V6 x) same tree none r = none (subst (λ (l : List ModuleTree). Refuses l (V6 x)) (same r.0 r.1) r.2)
of_modules text ms OutOfMemory same tree none r = none tt
