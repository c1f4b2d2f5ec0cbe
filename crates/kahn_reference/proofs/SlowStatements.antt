-- A run's statements that set and store.
use Rattle.std.proofs.Common.{◌≡◌, ℕ, [], ◌∷◌, ◌++◌, replicate, refl, sym, ap, ◌∙◌}
use Rattle.tapa_base.specs.declared.kind.Kind.{Kind}
use Rattle.tapa_base.specs.declared.op.Op.{Op}
use Rattle.tapa_base.specs.Kinds.{converted}
use Rattle.tapa_base.specs.Operators.{applied}
use Rattle.tapa_syntax.specs.declared.program.Expr.{Expr}
use Rattle.tapa_syntax.specs.declared.program.Stmt.{Stmt}
use Rattle.tapa_syntax.specs.declared.program.Stmt.TheVariants.{SetCell, SetCellBy, Store as StoreCell, StoreBy, ReadVar, ReadCell, ReadStore, Open as OpenIt, Clear}
use Rattle.tapa_syntax.specs.LeafKinds.{Kinds}
use Rattle.kahn_reference.specs.declared.slow.Value.{Value}
use Rattle.kahn_reference.specs.declared.slow.Value.TheVariants.{Given, Stopped}
use Rattle.kahn_reference.specs.declared.slow.Pair.{Pair}
use Rattle.kahn_reference.specs.declared.slow.Pair.TheVariants.{Given as GivenPair, Stopped as StoppedPair}
use Rattle.kahn_model.specs.Behavior.{Behavior, Act, Await}
use Rattle.kahn_model.specs.declared.tick.TraceEnd.{TraceEnd}
use Rattle.kahn_model.specs.declared.tick.Action.TheVariants.{Local, Load, Store}
use Rattle.kahn_model.specs.declared.tick.Tick.TheVariants.{Did}
use Rattle.kahn_model.specs.declared.tick.StreamOperation.TheVariants.{Read as ByRead, Open as ByOpen}
use Rattle.kahn_model.specs.Trace.{State, cell, set_var, set_cell, store_cell, cells_of, cleared, expr, stmt}
use Rattle.kahn_reference.specs.Slow.{Point, GivesValue, GivesPair}
use Rattle.kahn_reference.proofs.SlowFlows.{Goes, Ends, trans, same, tick, tick_times, pair_tick, pair_stops, value_tick, value_stops, value_goes}

-- what a cell gets by `op=`
abbrev pub by : Kind → Kind → Op → ℕ → ℕ → ℕ
by own kind op old v = converted kind own (applied op kind (converted own kind old) v)

pub set_cell_goes : (f : ℕ → ℕ) (K : Kinds) (n : ℕ) (st : Stmt) (a : ℕ) (i e : Expr) (P M Q : Point) (x : Pair) (v j : ℕ) → st ≡ SetCell a i e → x ≡ GivenPair v j → GivesPair f x P (λ go. expr e P.state (λ p. expr i P.state (go p))) M → M.state ≡ P.state → Q.ticks ≡ M.ticks ++ Did Local ∷ [] → Q.ins ≡ M.ins → Q.state ≡ set_cell M.state a j v → (go out again : State → Behavior) → Goes f P (stmt K n st P.state go out again) Q (go Q.state)
set_cell_goes f K n st a i e P M Q x v j is ex given em et ei es go out again =
    pair_tick f P M Q _ _ (λ go. expr e P.state (λ p. expr i P.state (go p))) (λ v j. Act Local (go (set_cell P.state a j v))) x v j Local (go (set_cell P.state a j v)) (ap (λ q. stmt K n q P.state go out again) is) ex given refl et ei
    (ap go (sym (es ∙ ap (λ s. set_cell s a j v) em)))

pub set_cell_stops : (f : ℕ → ℕ) (K : Kinds) (n : ℕ) (st : Stmt) (a : ℕ) (i e : Expr) (P M : Point) (x : Pair) (m : TraceEnd) → st ≡ SetCell a i e → x ≡ StoppedPair m → GivesPair f x P (λ go. expr e P.state (λ p. expr i P.state (go p))) M → (go out again : State → Behavior) → Ends f P (stmt K n st P.state go out again) M m
set_cell_stops f K n st a i e P M x m is ex given go out again = pair_stops f P M _ (λ go. expr e P.state (λ p. expr i P.state (go p))) (λ v j. Act Local (go (set_cell P.state a j v))) x m (ap (λ q. stmt K n q P.state go out again) is) ex given

pub set_cell_by_goes : (f : ℕ → ℕ) (K : Kinds) (n : ℕ) (st : Stmt) (a : ℕ) (i : Expr) (op : Op) (kind : Kind) (e : Expr) (P M Q : Point) (x : Pair) (v j : ℕ) (own : Kind) (old new : ℕ) → st ≡ SetCellBy a i op kind e → x ≡ GivenPair v j → GivesPair f x P (λ go. expr e P.state (λ p. expr i P.state (go p))) M → M.state ≡ P.state → own ≡ K.arrays a → old ≡ cell M.state.arrays a j → new ≡ by own kind op old v → Q.ticks ≡ M.ticks ++ Did Local ∷ [] → Q.ins ≡ M.ins → Q.state ≡ set_cell M.state a j new → (go out again : State → Behavior) → Goes f P (stmt K n st P.state go out again) Q (go Q.state)
set_cell_by_goes f K n st a i op kind e P M Q x v j own old new is ex given em eo ec en et ei es go out again =
    let k = λ (v j : ℕ). Act Local (go (set_cell P.state a j (by (K.arrays a) kind op (cell P.state.arrays a j) v))) in
    let here : new ≡ (by (K.arrays a) kind op (cell P.state.arrays a j) v) = en ∙ ap (λ o. by o kind op old v) eo ∙ ap (λ c. by (K.arrays a) kind op c v) (ec ∙ ap (λ (s : State). cell s.arrays a j) em) in
    pair_tick f P M Q _ _ (λ go. expr e P.state (λ p. expr i P.state (go p))) k x v j Local (go (set_cell P.state a j (by (K.arrays a) kind op (cell P.state.arrays a j) v))) (ap (λ q. stmt K n q P.state go out again) is) ex given refl et ei
    (ap go (sym (es ∙ ap (λ s. set_cell s a j new) em ∙ ap (set_cell P.state a j) here)))

pub set_cell_by_stops : (f : ℕ → ℕ) (K : Kinds) (n : ℕ) (st : Stmt) (a : ℕ) (i : Expr) (op : Op) (kind : Kind) (e : Expr) (P M : Point) (x : Pair) (m : TraceEnd) → st ≡ SetCellBy a i op kind e → x ≡ StoppedPair m → GivesPair f x P (λ go. expr e P.state (λ p. expr i P.state (go p))) M → (go out again : State → Behavior) → Ends f P (stmt K n st P.state go out again) M m
set_cell_by_stops f K n st a i op kind e P M x m is ex given go out again = pair_stops f P M _ (λ go. expr e P.state (λ p. expr i P.state (go p))) (λ v j. Act Local (go (set_cell P.state a j (by (K.arrays a) kind op (cell P.state.arrays a j) v)))) x m (ap (λ q. stmt K n q P.state go out again) is) ex given

pub store_goes : (f : ℕ → ℕ) (K : Kinds) (n : ℕ) (st : Stmt) (m : ℕ) (i e : Expr) (P M Q : Point) (x : Pair) (v j : ℕ) → st ≡ StoreCell m i e → x ≡ GivenPair v j → GivesPair f x P (λ go. expr e P.state (λ p. expr i P.state (go p))) M → M.state ≡ P.state → Q.ticks ≡ M.ticks ++ Did (Store m j v) ∷ [] → Q.ins ≡ M.ins → Q.state ≡ store_cell M.state m j v → (go out again : State → Behavior) → Goes f P (stmt K n st P.state go out again) Q (go Q.state)
store_goes f K n st m i e P M Q x v j is ex given em et ei es go out again =
    pair_tick f P M Q _ _ (λ go. expr e P.state (λ p. expr i P.state (go p))) (λ v j. Act (Store m j v) (go (store_cell P.state m j v))) x v j (Store m j v) (go (store_cell P.state m j v)) (ap (λ q. stmt K n q P.state go out again) is) ex given refl et ei
    (ap go (sym (es ∙ ap (λ s. store_cell s m j v) em)))

pub store_stops : (f : ℕ → ℕ) (K : Kinds) (n : ℕ) (st : Stmt) (r : ℕ) (i e : Expr) (P M : Point) (x : Pair) (m : TraceEnd) → st ≡ StoreCell r i e → x ≡ StoppedPair m → GivesPair f x P (λ go. expr e P.state (λ p. expr i P.state (go p))) M → (go out again : State → Behavior) → Ends f P (stmt K n st P.state go out again) M m
store_stops f K n st r i e P M x m is ex given go out again = pair_stops f P M _ (λ go. expr e P.state (λ p. expr i P.state (go p))) (λ v j. Act (Store r j v) (go (store_cell P.state r j v))) x m (ap (λ q. stmt K n q P.state go out again) is) ex given

pub store_by_goes : (f : ℕ → ℕ) (K : Kinds) (n : ℕ) (st : Stmt) (m : ℕ) (i : Expr) (op : Op) (kind : Kind) (e : Expr) (P M N Q : Point) (x : Pair) (v j : ℕ) (own : Kind) (old new : ℕ) → st ≡ StoreBy m i op kind e → x ≡ GivenPair v j → GivesPair f x P (λ go. expr e P.state (λ p. expr i P.state (go p))) M → M.state ≡ P.state → own ≡ K.memories m → old ≡ cell M.state.cells m j → new ≡ by own kind op old v → N.ticks ≡ M.ticks ++ Did (Load m j) ∷ [] → N.ins ≡ M.ins → N.state ≡ M.state → Q.ticks ≡ N.ticks ++ Did (Store m j new) ∷ [] → Q.ins ≡ N.ins → Q.state ≡ store_cell N.state m j new → (go out again : State → Behavior) → Goes f P (stmt K n st P.state go out again) Q (go Q.state)
store_by_goes f K n st m i op kind e P M N Q x v j own old new is ex given em eo ec en lt li ls et ei es go out again =
    let here : new ≡ (by (K.memories m) kind op (cell P.state.cells m j) v) = en ∙ ap (λ o. by o kind op old v) eo ∙ ap (λ c. by (K.memories m) kind op c v) (ec ∙ ap (λ (s : State). cell s.cells m j) em) in
    let rest = λ (z : ℕ). Act (Store m j z) (go (store_cell P.state m j z)) in
    let k = λ (v j : ℕ). Act (Load m j) (Act (Store m j (by (K.memories m) kind op (cell P.state.cells m j) v)) (go (store_cell P.state m j (by (K.memories m) kind op (cell P.state.cells m j) v)))) in
    trans f P N Q _ (rest new) _
    (pair_tick f P M N _ (rest new) (λ go. expr e P.state (λ p. expr i P.state (go p))) k x v j (Load m j) (rest (by (K.memories m) kind op (cell P.state.cells m j) v)) (ap (λ q. stmt K n q P.state go out again) is) ex given refl lt li (ap rest (sym here)))
    (trans f N Q Q (rest new) (go (store_cell P.state m j new)) _ (tick f N Q (Store m j new) (go (store_cell P.state m j new)) et ei)
    (same f Q _ _ (ap go (sym (es ∙ ap (λ s. store_cell s m j new) (ls ∙ em))))))

pub store_by_stops : (f : ℕ → ℕ) (K : Kinds) (n : ℕ) (st : Stmt) (r : ℕ) (i : Expr) (op : Op) (kind : Kind) (e : Expr) (P M : Point) (x : Pair) (m : TraceEnd) → st ≡ StoreBy r i op kind e → x ≡ StoppedPair m → GivesPair f x P (λ go. expr e P.state (λ p. expr i P.state (go p))) M → (go out again : State → Behavior) → Ends f P (stmt K n st P.state go out again) M m
store_by_stops f K n st r i op kind e P M x m is ex given go out again = pair_stops f P M _ (λ go. expr e P.state (λ p. expr i P.state (go p))) (λ v j. Act (Load r j) (Act (Store r j (by (K.memories r) kind op (cell P.state.cells r j) v)) (go (store_cell P.state r j (by (K.memories r) kind op (cell P.state.cells r j) v))))) x m (ap (λ q. stmt K n q P.state go out again) is) ex given

pub read_var_goes : (f : ℕ → ℕ) (K : Kinds) (n : ℕ) (st : Stmt) (s y : ℕ) (P M Q : Point) (x : Value) (v : ℕ) (from to : Kind) (new : ℕ) → st ≡ ReadVar s y → x ≡ Given v → GivesValue f x P (λ go. Await s ByRead go) M → M.state ≡ P.state → from ≡ K.streams s → to ≡ K.vars y → new ≡ converted from to v → Q.ticks ≡ M.ticks ++ Did Local ∷ [] → Q.ins ≡ M.ins → Q.state ≡ set_var M.state y new → (go out again : State → Behavior) → Goes f P (stmt K n st P.state go out again) Q (go Q.state)
read_var_goes f K n st s y P M Q x v from to new is ex given em ef eo en et ei es go out again =
    let here : new ≡ converted (K.streams s) (K.vars y) v = en ∙ ap (λ k. converted k to v) ef ∙ ap (λ k. converted (K.streams s) k v) eo in
    value_tick f P M Q _ _ (λ go. Await s ByRead go) (λ v. Act Local (go (set_var P.state y (converted (K.streams s) (K.vars y) v)))) x v Local (go (set_var P.state y (converted (K.streams s) (K.vars y) v))) (ap (λ q. stmt K n q P.state go out again) is) ex given refl et ei
    (ap go (sym (es ∙ ap (λ z. set_var z y new) em ∙ ap (set_var P.state y) here)))

pub read_var_stops : (f : ℕ → ℕ) (K : Kinds) (n : ℕ) (st : Stmt) (s y : ℕ) (P M : Point) (x : Value) (m : TraceEnd) → st ≡ ReadVar s y → x ≡ Stopped m → GivesValue f x P (λ go. Await s ByRead go) M → (go out again : State → Behavior) → Ends f P (stmt K n st P.state go out again) M m
read_var_stops f K n st s y P M x m is ex given go out again = value_stops f P M _ (λ go. Await s ByRead go) (λ v. Act Local (go (set_var P.state y (converted (K.streams s) (K.vars y) v)))) x m (ap (λ q. stmt K n q P.state go out again) is) ex given

pub read_cell_goes : (f : ℕ → ℕ) (K : Kinds) (n : ℕ) (st : Stmt) (s a : ℕ) (i : Expr) (P M Q : Point) (x : Pair) (j v : ℕ) (from to : Kind) (new : ℕ) → st ≡ ReadCell s a i → x ≡ GivenPair j v → GivesPair f x P (λ go. expr i P.state (λ p. Await s ByRead (go p))) M → M.state ≡ P.state → from ≡ K.streams s → to ≡ K.arrays a → new ≡ converted from to v → Q.ticks ≡ M.ticks ++ Did Local ∷ [] → Q.ins ≡ M.ins → Q.state ≡ set_cell M.state a j new → (go out again : State → Behavior) → Goes f P (stmt K n st P.state go out again) Q (go Q.state)
read_cell_goes f K n st s a i P M Q x j v from to new is ex given em ef eo en et ei es go out again =
    let here : new ≡ converted (K.streams s) (K.arrays a) v = en ∙ ap (λ k. converted k to v) ef ∙ ap (λ k. converted (K.streams s) k v) eo in
    pair_tick f P M Q _ _ (λ go. expr i P.state (λ p. Await s ByRead (go p))) (λ j v. Act Local (go (set_cell P.state a j (converted (K.streams s) (K.arrays a) v)))) x j v Local (go (set_cell P.state a j (converted (K.streams s) (K.arrays a) v))) (ap (λ q. stmt K n q P.state go out again) is) ex given refl et ei
    (ap go (sym (es ∙ ap (λ z. set_cell z a j new) em ∙ ap (set_cell P.state a j) here)))

pub read_cell_stops : (f : ℕ → ℕ) (K : Kinds) (n : ℕ) (st : Stmt) (s a : ℕ) (i : Expr) (P M : Point) (x : Pair) (m : TraceEnd) → st ≡ ReadCell s a i → x ≡ StoppedPair m → GivesPair f x P (λ go. expr i P.state (λ p. Await s ByRead (go p))) M → (go out again : State → Behavior) → Ends f P (stmt K n st P.state go out again) M m
read_cell_stops f K n st s a i P M x m is ex given go out again = pair_stops f P M _ (λ go. expr i P.state (λ p. Await s ByRead (go p))) (λ j v. Act Local (go (set_cell P.state a j (converted (K.streams s) (K.arrays a) v)))) x m (ap (λ q. stmt K n q P.state go out again) is) ex given

pub read_store_goes : (f : ℕ → ℕ) (K : Kinds) (n : ℕ) (st : Stmt) (s r : ℕ) (i : Expr) (P M Q : Point) (x : Pair) (j v : ℕ) (from to : Kind) (new : ℕ) → st ≡ ReadStore s r i → x ≡ GivenPair j v → GivesPair f x P (λ go. expr i P.state (λ p. Await s ByRead (go p))) M → M.state ≡ P.state → from ≡ K.streams s → to ≡ K.memories r → new ≡ converted from to v → Q.ticks ≡ M.ticks ++ Did (Store r j new) ∷ [] → Q.ins ≡ M.ins → Q.state ≡ store_cell M.state r j new → (go out again : State → Behavior) → Goes f P (stmt K n st P.state go out again) Q (go Q.state)
read_store_goes f K n st s r i P M Q x j v from to new is ex given em ef eo en et ei es go out again =
    let here : new ≡ (converted (K.streams s) (K.memories r) v) = en ∙ ap (λ k. converted k to v) ef ∙ ap (λ k. converted (K.streams s) k v) eo in
    pair_tick f P M Q _ _ (λ go. expr i P.state (λ p. Await s ByRead (go p))) (λ j v. Act (Store r j (converted (K.streams s) (K.memories r) v)) (go (store_cell P.state r j (converted (K.streams s) (K.memories r) v)))) x j v (Store r j (converted (K.streams s) (K.memories r) v)) (go (store_cell P.state r j (converted (K.streams s) (K.memories r) v))) (ap (λ q. stmt K n q P.state go out again) is) ex given refl
    (et ∙ ap (λ z. M.ticks ++ Did (Store r j z) ∷ []) here) ei
    (ap go (sym (es ∙ ap (λ z. store_cell z r j new) em ∙ ap (store_cell P.state r j) here)))

pub read_store_stops : (f : ℕ → ℕ) (K : Kinds) (n : ℕ) (st : Stmt) (s r : ℕ) (i : Expr) (P M : Point) (x : Pair) (m : TraceEnd) → st ≡ ReadStore s r i → x ≡ StoppedPair m → GivesPair f x P (λ go. expr i P.state (λ p. Await s ByRead (go p))) M → (go out again : State → Behavior) → Ends f P (stmt K n st P.state go out again) M m
read_store_stops f K n st s r i P M x m is ex given go out again = pair_stops f P M _ (λ go. expr i P.state (λ p. Await s ByRead (go p))) (λ j v. Act (Store r j (converted (K.streams s) (K.memories r) v)) (go (store_cell P.state r j (converted (K.streams s) (K.memories r) v)))) x m (ap (λ q. stmt K n q P.state go out again) is) ex given

pub open_goes : (f : ℕ → ℕ) (K : Kinds) (n : ℕ) (st : Stmt) (s : ℕ) (P Q : Point) (x : Value) (v : ℕ) → st ≡ OpenIt s → x ≡ Given v → GivesValue f x P (λ go. Await s ByOpen go) Q → Q.state ≡ P.state → (go out again : State → Behavior) → Goes f P (stmt K n st P.state go out again) Q (go Q.state)
open_goes f K n st s P Q x v is ex given em go out again = value_goes f P Q _ _ (λ go. Await s ByOpen go) (λ v. go P.state) x v (ap (λ q. stmt K n q P.state go out again) is) ex given (ap go (sym em))

pub open_stops : (f : ℕ → ℕ) (K : Kinds) (n : ℕ) (st : Stmt) (s : ℕ) (P M : Point) (x : Value) (m : TraceEnd) → st ≡ OpenIt s → x ≡ Stopped m → GivesValue f x P (λ go. Await s ByOpen go) M → (go out again : State → Behavior) → Ends f P (stmt K n st P.state go out again) M m
open_stops f K n st s P M x m is ex given go out again = value_stops f P M _ (λ go. Await s ByOpen go) (λ v. go P.state) x m (ap (λ q. stmt K n q P.state go out again) is) ex given

pub clear_goes : (f : ℕ → ℕ) (K : Kinds) (n : ℕ) (st : Stmt) (a : ℕ) (P Q : Point) → st ≡ Clear a → Q.ticks ≡ P.ticks ++ replicate (cells_of P.state a) (Did Local) → Q.ins ≡ P.ins → Q.state ≡ cleared P.state a → (go out again : State → Behavior) → Goes f P (stmt K n st P.state go out again) Q (go Q.state)
clear_goes f K n st a P Q is et ei es go out again =
    trans f P P Q _ _ _ (same f P _ _ (ap (λ q. stmt K n q P.state go out again) is))
    (trans f P Q Q _ (go (cleared P.state a)) _ (tick_times f P Q (cells_of P.state a) (go (cleared P.state a)) et ei) (same f Q _ _ (ap go (sym es))))
