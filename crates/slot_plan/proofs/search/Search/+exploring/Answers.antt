use Rattle.std.proofs.Common.{◌≡◌, ◌<◌, ◌≤◌, ◌+◌, ◌-◌, ◌*◌, ℕ, List, [], ◌∷◌, ◌++◌, length, get_or, set, arith, sym, ap, subst, length-append, refl, true, false, ◌∙◌}
use Rattle.std.proofs.lemmas.List.{get_or_read}
use Rattle.std.proofs.lemmas.Bool.{false≢true}
use Rattle.task_graph.specs.declared.Use.{Use}
use Rattle.task_graph.specs.Streams.{amount_at}
use Rattle.slot_plan.specs.Amounts.{IsAtMost}
use Rattle.slot_plan.specs.Search.{IsAt, IsAtPlace, Explored, ExploredBelow, AreRows, IsBelowRest}
use Rattle.slot_plan.specs.Tables.{items, places, beside}
use Rattle.slot_plan.proofs.Exploring.{at_child, at_place, prune_low, prune_place, dear_any, explored_leaf, below_more, below_all, too_much, beside_low, unsuited}
use Rattle.slot_plan.proofs.Filling.{written_back}
use Rattle.slot_plan.proofs.Uses.{restored, amount_read, amount_left, amounts_at_most}
use Rattle.slot_plan.proofs.search.Search.+exploring.Goals as goal

pub explore-returns-then-is_no_better-clause-explored : goal.explore-returns-then-is_no_better-clause-explored
explore-returns-then-is_no_better-clause-explored t c =
    prune_low c.args.tables.now c.args.self.now.places.items c.args.self.now.left.items c.args.spent c.args.low c.args.self.now.best c.requires.at c.requires.low c.if-is_no_better.ensures

pub explore-returns-then-len-clause-explored : goal.explore-returns-then-len-clause-explored
explore-returns-then-len-clause-explored t c =
    let p = c.args.self.now.places.items in
    let whole : length p ≡ items c.args.tables.now = (let k = c.args.self.now.places.ok.0 in let o = c.args.tables.now.needs.ok.0 in let e = c.len.ensures in let f = c.len-2.ensures in let g = c.if-len.true in omega arith) in
    let same : c.in_ok-places.places.items ≡ p = c.in_ok-places.ensures ∙ c.deref.ensures.value in
    explored_leaf c.args.tables.now p c.args.self.now.left.items c.args.spent c.args.low c.args.self.now.best (record { places = c.in_ok-places.places; cost = c.args.spent }) c.requires.at whole
    (dear_any (c.args.spent + c.args.low) c.args.self.now.best c.if-is_no_better.ensures) same refl

pub explore-explore_place-requires : goal.explore-explore_place-requires
explore-explore_place-requires t c =
    let tables = c.args.tables.now in
    let p = c.args.self.now.places.items in
    let inv = c.loop-place.invariant in
    let l : length p < items tables = (let k = c.args.self.now.places.ok.0 in let o = tables.needs.ok.0 in let e = c.len.ensures in let f = c.len-2.ensures in let g = c.if-len.false in let s = c.requires.at.short in omega arith) in
    let inside : c.loop-place.place < places tables = (let k = tables.room.ok.0 in let e = c.len-place-end.ensures in let f = c.loop-place-test.true in omega arith) in
    let at = at_place tables p c.args.self.now.left.items c.args.spent c.loop-place.place c.args.self.now.best c.loop-place.self.best c.requires.at l inside inv.below in
    let P : List ℕ → Type 0 = λ x. IsAtPlace tables x c.args.self.now.left.items c.args.spent c.loop-place.self.best c.loop-place.place in
    let Q : List Use → Type 0 = λ x. IsAtPlace tables c.loop-place.self.places.items x c.args.spent c.loop-place.self.best c.loop-place.place in
    let R : List ℕ → Type 0 = λ x. AreRows tables x c.args.rows.now in
    let n : length c.loop-place.self.places.items ≡ length p = ap length inv.same_places in
    let fall : 2 * (items tables - length p) + 1 ≡ t = c.decreases in
    (omega arith, (c.requires.tables, (subst R (sym inv.same_places) c.requires.rows, (ap length c.deref_mut.ensures.value ∙ inv.same_length, subst Q (sym inv.same_left) (subst P (sym inv.same_places) at)))))

pub explore-loop-place-preserved : goal.explore-loop-place-preserved
explore-loop-place-preserved t c =
    let inv = c.loop-place.invariant in
    let e = c.in_ok-explore_place.ensures in
    let a = c.explore_place.auto.next in
    let b = ap length c.deref_mut.ensures.value in
    let k = c.loop-place.next.ok.0 in
    let s = inv.same_length in
    record {
      same_places = e.places ∙ inv.same_places;
      same_left = e.left ∙ inv.same_left;
      same_length = ap length (written_back c.loop-place.next.len c.explore_place.new.next c.loop-place.next.items (omega arith)) ∙ omega arith;
      below = below_more c.args.tables.now c.args.self.now.places.items c.loop-place.place c.args.self.now.best c.loop-place.self.best c.explore_place.new.self.best inv.below
          (subst (λ (x : List ℕ). Explored c.args.tables.now (x ++ c.loop-place.place ∷ []) c.loop-place.self.best c.explore_place.new.self.best) inv.same_places e.explored);
    }

pub explore-returns-clause-explored : goal.explore-returns-clause-explored
explore-returns-clause-explored t c =
    let tables = c.args.tables.now in
    let p = c.args.self.now.places.items in
    let l : length p < items tables = (let k = c.args.self.now.places.ok.0 in let o = tables.needs.ok.0 in let e = c.len.ensures in let f = c.len-2.ensures in let g = c.if-len.false in let s = c.requires.at.short in omega arith) in
    let all : c.loop-place.place ≡ places tables = (let k = tables.room.ok.0 in let e = c.len-place-end.ensures in let f = c.loop-place-test.false in let h = c.loop-place.auto.place-end in omega arith) in
    below_all tables p c.args.self.now.best c.loop-place.self.best l
    (subst (λ n. ExploredBelow tables p n c.args.self.now.best c.loop-place.self.best) all c.loop-place.invariant.below)

pub explore_place-returns-then-index-clause-explored : goal.explore_place-returns-then-index-clause-explored
explore_place-returns-then-index-clause-explored t c =
    let tables = c.args.tables.now in
    let p = c.args.self.now.places.items in
    let s = c.args.place in
    let at = c.requires.at in
    let n : c.len-item.result ≡ length p = c.len-item.ensures ∙ c.args.self.now.places.ok.0 in
    let home = get_or_read tables.homes.items c.len-item.result c.index-2.result.now (let a = c.requires.tables.homes in let m = at.more in omega arith) c.index-2.ensures 0 in
    let region = get_or_read tables.regions.items s c.index.result.now (let a = c.requires.tables.regions in let m = at.place in omega arith) c.index.ensures 0 in
    unsuited tables p c.args.self.now.left.items c.args.spent s c.args.self.now.best at
    (λ suits. c.if-index.true (region ∙ (sym suits ∙ (ap (λ (i : ℕ). get_or tables.homes.items i 0) (sym n) ∙ sym home))))

pub explore_place-returns-then-not-is_at_most-clause-explored : goal.explore_place-returns-then-not-is_at_most-clause-explored
explore_place-returns-then-not-is_at_most-clause-explored t c =
    let tables = c.args.tables.now in
    let p = c.args.self.now.places.items in
    let left = c.args.self.now.left.items in
    let s = c.args.place in
    let at = c.requires.at in
    let n : c.len-item.result ≡ length p = c.len-item.ensures ∙ c.args.self.now.places.ok.0 in
    too_much tables p left c.args.spent s c.args.self.now.best at
    (λ all. false≢true (sym c.if-not-is_at_most.true ∙ c.is_at_most.ensures.1 (amounts_at_most _ _ (λ k.
    (let a = amount_read tables.needs.items c.len-item.result c.index-need.result.now (let m = at.more in omega arith) c.index-need.ensures k in
    let b = amount_read left s c.index-left.result.now (let m = at.left_is.long in let o = at.place in omega arith) c.index-left.ensures k in
    let e = ap (λ v. amount_at tables.needs.items v k) n in
    let h = all k in omega arith)))))

pub explore_place-overflow_add-cost-2 : goal.explore_place-overflow_add-cost-2
explore_place-overflow_add-cost-2 t c =
    let tables = c.args.tables.now in
    let p = c.args.self.now.places.items in
    let at = c.requires.at in
    let n : c.len-item.result ≡ length p = c.len-item.ensures ∙ c.args.self.now.places.ok.0 in
    let m : c.len.result ≡ places tables = c.len.ensures ∙ tables.room.ok.0 in
    let entry : get_or c.args.rows.now (c.len-item.result * c.len.result + c.args.place) 0 ≡ beside tables p (length p) c.args.place =
    ap (λ (x : ℕ). get_or c.args.rows.now (x * c.len.result + c.args.place) 0) n
    ∙ (ap (λ (x : ℕ). get_or c.args.rows.now (length p * x + c.args.place) 0) m ∙ c.requires.rows.value (length p) c.args.place (omega arith) at.more at.place) in
    let a = beside_low tables p (length p) c.args.place c.requires.tables in
    let b = at.bounded in
    let o = c.requires.tables.few_items in
    let r = at.more in
    omega arith

pub explore_place-returns-then-is_no_better-clause-explored : goal.explore_place-returns-then-is_no_better-clause-explored
explore_place-returns-then-is_no_better-clause-explored t c =
    let tables = c.args.tables.now in
    let p = c.args.self.now.places.items in
    let at = c.requires.at in
    let n : c.len-item.result ≡ length p = c.len-item.ensures ∙ c.args.self.now.places.ok.0 in
    let m : c.len.result ≡ places tables = c.len.ensures ∙ tables.room.ok.0 in
    let entry : get_or c.args.rows.now (c.len-item.result * c.len.result + c.args.place) 0 ≡ beside tables p (length p) c.args.place =
    ap (λ (x : ℕ). get_or c.args.rows.now (x * c.len.result + c.args.place) 0) n
    ∙ (ap (λ (x : ℕ). get_or c.args.rows.now (length p * x + c.args.place) 0) m ∙ c.requires.rows.value (length p) c.args.place (omega arith) at.more at.place) in
    prune_place tables p c.args.self.now.left.items c.args.spent (c.args.spent + get_or c.args.rows.now (c.len-item.result * c.len.result + c.args.place) 0) c.args.place c.args.self.now.best at
    (ap (λ (x : ℕ). c.args.spent + x) entry) c.if-is_no_better.ensures

pub explore_place-explore-requires : goal.explore_place-explore-requires
explore_place-explore-requires t c =
    let tables = c.args.tables.now in
    let p = c.args.self.now.places.items in
    let left = c.args.self.now.left.items in
    let s = c.args.place in
    let at = c.requires.at in
    let n : c.len-item.result ≡ length p = c.len-item.ensures ∙ c.args.self.now.places.ok.0 in
    let m : c.len.result ≡ places tables = c.len.ensures ∙ tables.room.ok.0 in
    let more = get_or c.args.rows.now (c.len-item.result * c.len.result + s) 0 in
    let entry : more ≡ beside tables p (length p) s =
    ap (λ (x : ℕ). get_or c.args.rows.now (x * c.len.result + s) 0) n
    ∙ (ap (λ (x : ℕ). get_or c.args.rows.now (length p * x + s) 0) m ∙ c.requires.rows.value (length p) s (omega arith) at.more at.place) in
    let pushed = c.in_ok-push.ensures.items in
    let low : more ≤ 2731622400 = (let a = beside_low tables p (length p) s c.requires.tables in let o = c.requires.tables.few_items in let r = at.more in omega arith) in
    let within : IsAtMost c.index-need.result.now c.index-left.result.now = c.is_at_most.ensures.0 c.if-not-is_at_most.false in
    let home = get_or_read tables.homes.items c.len-item.result c.index-2.result.now (let a = c.requires.tables.homes in let m = at.more in omega arith) c.index-2.ensures 0 in
    let region = get_or_read tables.regions.items s c.index.result.now (let a = c.requires.tables.regions in let m = at.place in omega arith) c.index.ensures 0 in
    let suits : get_or tables.homes.items (length p) 0 ≡ get_or tables.regions.items s 0 = ap (λ (i : ℕ). get_or tables.homes.items i 0) (sym n) ∙ (sym home ∙ (sym c.if-index.false ∙ region)) in
    let child = at_child tables p left c.args.spent c.args.self.now.best s c.difference.result more at suits
    (λ k.
    (let a = amount_read tables.needs.items c.len-item.result c.index-need.result.now (let m = at.more in omega arith) c.index-need.ensures k in
    let b = amount_read left s c.index-left.result.now (let m = at.left_is.long in let o = at.place in omega arith) c.index-left.ensures k in
    let e = ap (λ v. amount_at tables.needs.items v k) n in
    let h = amount_left c.index-left.result.now c.index-need.result.now c.difference.result within c.difference.ensures k in omega arith))
    entry low in
    let e : c.deref.result.now ++ s ∷ [] ≡ c.push.new.self.items = ap (λ (x : List ℕ). x ++ s ∷ []) c.deref.ensures.value ∙ sym pushed in
    let P : List ℕ → Type 0 = λ x. IsAt tables x (set left s c.difference.result) (c.args.spent + more) c.args.self.now.best in
    let R : List ℕ → Type 0 = λ x. AreRows tables x c.lower_rows-low.new.next in
    let B : List ℕ → Type 0 = λ x. IsBelowRest tables x c.lower_rows-low.result in
    let long : length c.push.new.self.items ≡ length p + 1 = ap length pushed ∙ length-append p (s ∷ []) in
    let r = at.more in
    let fall : 2 * (items tables - length p) ≡ t = c.decreases in
    (omega arith, (c.requires.tables, (subst R e c.lower_rows-low.ensures.rows, (subst B e c.lower_rows-low.ensures.low, (c.lower_rows-low.ensures.small, subst P (sym pushed) child)))))

pub explore_place-returns-clause-left : goal.explore_place-returns-clause-left
explore_place-returns-clause-left t c =
    restored c.args.self.now.left.items c.explore.new.self.left.items c.args.place c.difference.result c.index-left.result.now c.in_ok-explore.ensures.left c.index-left.ensures
