-- The places of inputs by their nodes.
use Rattle.std.proofs.Common.{◌≡◌, ℕ, ◌+◌, ◌<◌, ◌≤◌, List, [], ◌∷◌, length, get_or, take, Option, Some, None, inl, inr, refl, sym, ap, subst, ◌∙◌, map}
use Rattle.std.specs.Prelude.{◌⊎◌, ◌≢◌, slice_get, slice_set}
use Rattle.std.proofs.lemmas.Bool.{cases_eq}
use Rattle.std.proofs.lemmas.List.{take_all, get_or-set_same, get_or-set_other, length-set}
use Rattle.vlog_tree.specs.declared.table.Declaration.{Declaration}
use Rattle.vlog_tree.specs.declared.table.NetKind.TheVariants.{Unknown, Input}
use Rattle.tapa_base.specs.Lists.{Has}
use Rattle.vlog_tree.specs.Table.{Name, declaration_name, net_kind_of}
use Rattle.vlog_comb_loops.specs.Places.{ArePlaces, PlacesInput}
use Rattle.vlog_tree.proofs.Lists.{known}
use Rattle.tapa_base.proofs.Lists.{taken_mapped, got_index}

-- nothing was noted
pub places_same : (ports : List Declaration) (number : Name → Option ℕ) (at : ℕ) (name : Name) (old : List (Option ℕ)) → ((k : ℕ) → k < length old → net_kind_of ports name ≡ Input → number name ≡ Some k → ⊥) → PlacesInput ports number at name old old
places_same ports number at name old none = record {
  len = refl;
  right = λ k i h. inl h;
  kept = λ k i h. (i, h);
  there = λ k low into num. absurd (none k low into num);
}

-- a place was noted
module _ (ports : List Declaration) (number : Name → Option ℕ) (at : ℕ) (name : Name) (old : List (Option ℕ)) (n : ℕ) (low : n < length old) (into : net_kind_of ports name ≡ Input) (num : number name ≡ Some n) where
  right_of : (k i : ℕ) → (k ≡ n) ⊎ (k ≢ n) → get_or (slice_set old n (Some at)) k None ≡ Some i → (get_or old k None ≡ Some i) ⊎ ((i ≡ at) × (net_kind_of ports name ≡ Input) × (number name ≡ Some k))
  right_of k i (inl e) h =
      let here : Some at ≡ Some i = sym (get_or-set_same old n (Some at) None low) ∙ ap (λ z. get_or (slice_set old n (Some at)) z None) (sym e) ∙ h in
      let same : i ≡ at = cc in
      inr (same, into, num ∙ ap (λ z. Some z) (sym e))
  right_of k i (inr ne) h = inl (sym (get_or-set_other old n k (Some at) None ne) ∙ h)

  kept_of : (k i : ℕ) → (k ≡ n) ⊎ (k ≢ n) → get_or old k None ≡ Some i → (j : ℕ) × (get_or (slice_set old n (Some at)) k None ≡ Some j)
  kept_of k i (inl e) h = (at, ap (λ z. get_or (slice_set old n (Some at)) z None) e ∙ get_or-set_same old n (Some at) None low)
  kept_of k i (inr ne) h = (i, get_or-set_other old n k (Some at) None ne ∙ h)

  there_of : (k : ℕ) → number name ≡ Some k → (j : ℕ) × (get_or (slice_set old n (Some at)) k None ≡ Some j)
  there_of k f =
      let same : k ≡ n = cc (num, f) in
      (at, ap (λ z. get_or (slice_set old n (Some at)) z None) same ∙ get_or-set_same old n (Some at) None low)

  pub places_set : PlacesInput ports number at name old (slice_set old n (Some at))
  places_set = record {
    len = length-set old n (Some at);
    right = λ k i h. right_of k i (cases_eq k n) h;
    kept = λ k i h. kept_of k i (cases_eq k n) h;
    there = λ k l i f. there_of k f;
  }

no_input : Unknown ≡ Input → ⊥
no_input e = cc

-- the ports before a place were gone over
pub record PlacesSoFar (ports xs : List Declaration) (number : Name → Option ℕ) (at : ℕ) (places : List (Option ℕ)) : Type 0 where
  pub right : (k i : ℕ) → get_or places k None ≡ Some i → (d : Declaration) × (slice_get xs i ≡ Some d) × (net_kind_of ports d.name ≡ Input) × (number d.name ≡ Some k)
  pub there : (y : Name) (k : ℕ) → Has (map declaration_name (take at xs)) y → net_kind_of ports y ≡ Input → number y ≡ Some k → (i : ℕ) × (get_or places k None ≡ Some i)

pub no_places_yet : (ports xs : List Declaration) (number : Name → Option ℕ) (places : List (Option ℕ)) → ((k : ℕ) → get_or places k None ≡ None) → PlacesSoFar ports xs number 0 places
no_places_yet ports xs number places none = record {
  right = λ k i h. let clash : None ≡ Some i = sym (none k) ∙ h in cc;
  there = λ y k h into num. absurd (none_taken xs y h);
} where
  none_taken : (xs : List Declaration) (y : Name) → Has (map declaration_name (take 0 xs)) y → ⊥
  none_taken [] y h = h
  none_taken (x ∷ xs) y h = h

module _ (ports xs : List Declaration) (number : Name → Option ℕ) (at : ℕ) (d : Declaration) (low : at < length xs) (is : d ≡ get_or xs at d) (old new : List (Option ℕ))
    (below : (y : Name) (k : ℕ) → number y ≡ Some k → k < length old) (step : PlacesInput ports number at d.name old new) (before : PlacesSoFar ports xs number at old) where
  next_right : (k i : ℕ) → (get_or old k None ≡ Some i) ⊎ ((i ≡ at) × (net_kind_of ports d.name ≡ Input) × (number d.name ≡ Some k))
      → (e : Declaration) × (slice_get xs i ≡ Some e) × (net_kind_of ports e.name ≡ Input) × (number e.name ≡ Some k)
  next_right k i (inl h) = before.right k i h
  next_right k i (inr p) = (d, ap (λ z. slice_get xs z) p.0 ∙ got_index xs at d low is, p.1, p.2)

  next_there : (y : Name) (k : ℕ) → Has (map declaration_name (take at xs)) y ⊎ (d.name ≡ y) → net_kind_of ports y ≡ Input → number y ≡ Some k → (i : ℕ) × (get_or new k None ≡ Some i)
  next_there y k (inl h) into num = let p = before.there y k h into num in step.kept k p.0 p.1
  next_there y k (inr e) into num = step.there k (below y k num) (subst (λ z. net_kind_of ports z ≡ Input) (sym e) into) (subst (λ z. number z ≡ Some k) (sym e) num)

  pub next_places : PlacesSoFar ports xs number (at + 1) new
  next_places = record {
    right = λ k i h. next_right k i (step.right k i h);
    there = λ y k h into num. next_there y k (taken_mapped declaration_name xs at d y low is h) into num;
  }

pub all_places : (ports xs : List Declaration) (number : Name → Option ℕ) (at : ℕ) (places : List (Option ℕ)) → length xs ≤ at → xs ≡ ports → PlacesSoFar ports xs number at places → ArePlaces ports number places
all_places ports xs number at places over same so = record {
  right = λ k i h. let t = so.right k i h in (t.0, subst (λ (l : List Declaration). slice_get l i ≡ Some t.0) same t.1, t.2, t.3);
  there = λ y k into num. so.there y k (subst (λ (l : List Declaration). Has (map declaration_name l) y) (sym (take_all at xs over ∙ same)) (known ports y Input no_input into)) into num;
}
