-- The tokens that are taken and put.
use Rattle.std.proofs.Common.{◌≡◌, ℕ, ◌+◌, ◌-◌, ◌^◌, ◌<◌, Bool, true, false, cond, eqb, ◌&&◌, List, [], ◌∷◌, Some, inl, inr, refl, sym, ap, subst, ◌∙◌, arith, ⊎_elim}
use Rattle.std.specs.Prelude.{nat_lt, slice_get}
use Rattle.std.proofs.lemmas.Bool.{cases_eq, eq-eqb, ne_eqb, lt-ltb, le-ltb}
use Rattle.tapa_base.specs.declared.token.Token.{Token}
use Rattle.tapa_base.specs.declared.token.Token.TheVariants.{Datum as DatumToken, Eot as EotToken}
use Rattle.tapa_base.specs.Kinds.{bits_of}
use Rattle.tapa_syntax.specs.LeafKinds.{writes_of}
use Rattle.kahn_model.specs.Trace.{State}
use Rattle.vlog_tree.specs.declared.tree.Atom.{Atom}
use Rattle.vlog_tree.specs.declared.tree.Atom.TheVariants.{Literal}
use Rattle.vlog_tree.specs.declared.tree.Value.TheVariants.{Concat}
use Rattle.vlog_tree.specs.Environment.{token_of}
use Rattle.tapa_base.specs.Lists.{Has}
use Rattle.vlog_tree.specs.Table.{Name, one_if}
use Rattle.vlog_tree.specs.Cycle.{Cycle, Follows, atom_value, atom_width}
use Rattle.tapa_base.proofs.Lists.{has_right}
use Rattle.hw_build.specs.Elements.{Element, Wire, Output, built}
use Rattle.hw_build.proofs.Driven.{wire_driven}
use Rattle.hw_build.specs.Fits.{IsAmong}
use Rattle.task_fsm.specs.Machine.{Expression, StateForm, SetAt, CellAt, TestAt, ReadAt, WriteAt, PeekAt, EotAt, OpenAt, CloseAt, LoadAt, StoreAt, ClearAt, EndAt, TrapAt}
use Rattle.task_fsm.specs.MachineKinds.{IsTypedState}
use Rattle.task_fsm.specs.Run.{value, step, is_last, clear_step}
use Rattle.task_fsm.proofs.Steps.{value_fits}
use Rattle.hw_lines.specs.declared.nets.Choice.TheVariants.{Puts, Token as TokenChoice, Takes}
use Rattle.hw_lines.specs.declared.nets.Net.TheVariants.{Taken, Din, Wr, Rdy, Datum as DatumNet, Eot as EotNet, At, Go, Packed}
use Rattle.hw_lines.specs.Nets.{name}
use Rattle.hw_lines.specs.Shape.{Shape, kinds_in, stream_kind, form_at}
use Rattle.hw_lines.specs.States.{net, value_of, value_wires, more_wires}
use Rattle.hw_lines.specs.Effects.{entry, at, end_token, tokens, takings}
use Rattle.hw_lines.specs.Texts.{by_end, any, pick, result, written, taken, task_elements}
use Rattle.hw_lines.specs.Machine.{takes_of, puts_of, put_in}
use Rattle.hw_lines.specs.Runs.{number_at, bit_at, token_bits, streams_at}
use Rattle.hw_lines.proofs.Members.{all, more_in, among_left}
use Rattle.hw_lines.proofs.Decodes.{at_here}
use Rattle.hw_task_laws.proofs.acts.Answered.{among_three, value_shown}
use Rattle.hw_task_laws.specs.steps.Steps.{ranges_in, allowed, IsAt}
use Rattle.hw_task_laws.proofs.steps.Allowed.{bit_back, stream_there, side_is, go_is}
use Rattle.hw_task_laws.specs.effects.Outputs.{TakesAreMade, PutsAreMade}
use Rattle.hw_task_laws.proofs.effects.Outs.{and_false, at_same, at_other, stream_outs, out_none, out_value, out_at}
use Rattle.hw_task_laws.proofs.wires.Shown.{zero_front}
use Rattle.vlog_tree.proofs.Nesting.{same_both as same_cond}

clear_takes : (S : Shape) (run : ℕ → Cycle) (n k a c next s : ℕ) (σ : State) (b : Bool) → false ≡ (allowed S run n (clear_step b a c k next σ) && takes_of (λ p. p) s (clear_step b a c k next σ))
clear_takes S run n k a c next s σ true = refl
clear_takes S run n k a c next s σ false = refl

clear_puts : (S : Shape) (run : ℕ → Cycle) (n k a c next s : ℕ) (σ : State) (b : Bool) → [] ≡ cond (allowed S run n (clear_step b a c k next σ)) (puts_of (λ p. p) s (clear_step b a c k next σ)) []
clear_puts S run n k a c next s σ true = refl
clear_puts S run n k a c next s σ false = refl

no_put : (w r : Bool) (t : Token) → w ≡ false → cond (w && r) (t ∷ []) [] ≡ []
no_put w r t e = ap (λ z. cond (z && r) (t ∷ []) []) e

module _ (S : Shape) (title : Name) (run : ℕ → Cycle) (f : Follows (built title (task_elements S)) run) (cells : ℕ → List (List ℕ)) (n k : ℕ) (σ : State) (is : IsAt S run f.sizes cells n k σ) where
  at_one : (run n).net (name (At k)) ≡ 1
  at_one = at_here S title run f n k is.shows.low is.shows.here

  -- ---- a stream that is read
  module _ (s : ℕ) (reads : writes_of S.streams s ≡ Some false) where
    taken_among : IsAmong (taken S s) (all S)
    taken_among e h =
        stream_outs S s (stream_there S.streams s false reads) e (subst (λ b. Has (by_end (written S s) (taken S s) b) e) (sym (side_is (slice_get S.streams s) false reads)) h)

    taken_there : Has (all S) (Output 1 (name (Taken s)) (result S 1 (Takes s)))
    taken_there = taken_among (Output 1 (name (Taken s)) (result S 1 (Takes s))) (has_right (any S (Takes s)) (Output 1 (name (Taken s)) (result S 1 (Takes s)) ∷ []) (Output 1 (name (Taken s)) (result S 1 (Takes s))) (inl refl))

    any_among : IsAmong (any S (Takes s)) (all S)
    any_among = among_left (any S (Takes s)) (Output 1 (name (Taken s)) (result S 1 (Takes s)) ∷ []) (all S) taken_among

    no_take : (g : StateForm) → form_at S k ≡ g → takings S s k g ≡ [] → (run n).net (name (Taken s)) ≡ 0
    no_take g same none = out_none S title run f n k is.shows.here is.shows.low 1 (name (Taken s)) (Takes s) taken_there any_among (ap (takings S s k) same ∙ none)

    takes_at : (g : StateForm) → form_at S k ≡ g → (x : ℕ) (b : Bool) → takings S s k g ≡ at x s (entry (Go k) (Literal 1 1)) → (run n).net (name (Go k)) ≡ one_if b
        → (run n).net (name (Taken s)) ≡ one_if (b && eqb x s)
    takes_at g same x b some on =
        out_at S title run f n k is.shows.here is.shows.low 1 (name (Taken s)) (Takes s) taken_there any_among x s (Go k) (Literal 1 1) (ap (takings S s k) same ∙ some) b on

    taken_is : (g : StateForm) → form_at S k ≡ g → (run n).net (name (Taken s)) ≡ one_if (allowed S run n (step g k σ) && takes_of (λ p. p) s (step g k σ))
    taken_is (ReadAt x into next) same =
        takes_at (ReadAt x into next) same x (allowed S run n (step (ReadAt x into next) k σ)) refl (go_is S title run f cells n k σ is (ReadAt x into next) same (DatumNet x) refl refl)
    taken_is (WriteAt x e next) same = no_take (WriteAt x e next) same refl ∙ ap one_if (and_false (bit_at run (Rdy x) n))
    taken_is (PeekAt x into next) same = no_take (PeekAt x into next) same refl ∙ ap one_if (and_false (allowed S run n (step (PeekAt x into next) k σ)))
    taken_is (EotAt x into next) same = no_take (EotAt x into next) same refl ∙ ap one_if (and_false (allowed S run n (step (EotAt x into next) k σ)))
    taken_is (OpenAt x next) same =
        takes_at (OpenAt x next) same x (allowed S run n (step (OpenAt x next) k σ)) refl (go_is S title run f cells n k σ is (OpenAt x next) same (EotNet x) refl refl)
    taken_is (CloseAt x next) same = no_take (CloseAt x next) same refl ∙ ap one_if (and_false (bit_at run (Rdy x) n))
    taken_is (LoadAt m i into next) same = no_take (LoadAt m i into next) same refl ∙ ap one_if (and_false (allowed S run n (step (LoadAt m i into next) k σ)))
    taken_is (StoreAt m i e next) same = no_take (StoreAt m i e next) same refl ∙ ap one_if (and_false (allowed S run n (step (StoreAt m i e next) k σ)))
    taken_is (ClearAt a c next) same = no_take (ClearAt a c next) same refl ∙ ap one_if (clear_takes S run n k a c next s σ (is_last σ a c))
    taken_is g same = no_take g same refl

  -- ---- a stream that is written
  module _ (s : ℕ) (writes : writes_of S.streams s ≡ Some true) where
    abbrev bits : ℕ
    bits = bits_of (stream_kind S s)

    abbrev ports : List Element
    ports = Output 1 (name (Wr s)) (result S 1 (Puts s)) ∷ Output (bits + 1) (name (Din s)) (result S (bits + 1) (TokenChoice s)) ∷ []

    written_among : IsAmong (written S s) (all S)
    written_among e h =
        stream_outs S s (stream_there S.streams s true writes) e (subst (λ b. Has (by_end (written S s) (taken S s) b) e) (sym (side_is (slice_get S.streams s) true writes)) h)

    parts : IsAmong (any S (Puts s)) (all S) × IsAmong (pick S (bits + 1) (TokenChoice s)) (all S) × IsAmong ports (all S)
    parts = among_three (any S (Puts s)) (pick S (bits + 1) (TokenChoice s)) ports (all S) written_among

    wr_there : Has (all S) (Output 1 (name (Wr s)) (result S 1 (Puts s)))
    wr_there = parts.2 (Output 1 (name (Wr s)) (result S 1 (Puts s))) (inl refl)

    din_there : Has (all S) (Output (bits + 1) (name (Din s)) (result S (bits + 1) (TokenChoice s)))
    din_there = parts.2 (Output (bits + 1) (name (Din s)) (result S (bits + 1) (TokenChoice s))) (inr (inl refl))

    abbrev ready : Bool
    ready = bit_at run (Rdy s) n

    abbrev din : Token
    din = token_of (token_bits S s) (number_at run (Din s) n)

    -- no token
    none_put : (g : StateForm) → form_at S k ≡ g → tokens S s k g ≡ [] → put_in (streams_at S run) s n ≡ []
    none_put g same none =
        no_put (bit_at run (Wr s) n) ready din
        (ap (λ z. eqb z 1) (out_none S title run f n k is.shows.here is.shows.low 1 (name (Wr s)) (Puts s) wr_there parts.0 (ap (tokens S s k) same ∙ none)))

    -- the token t at stream x, by an atom that shows it
    put_at : (g : StateForm) → form_at S k ≡ g → (x : ℕ) (a : Atom) (t : Token) → tokens S s k g ≡ at x s (entry (At k) a) → (x ≡ s → token_of (token_bits S s) (atom_value (run n) a) ≡ t)
        → put_in (streams_at S run) s n ≡ cond (bit_at run (Rdy x) n) (cond (eqb x s) (t ∷ []) []) []
    put_at g same x a t some shows =
        ⊎_elim
        (λ (e : x ≡ s).
        let wr : bit_at run (Wr s) n ≡ true =
        ap (λ z. eqb z 1) (out_at S title run f n k is.shows.here is.shows.low 1 (name (Wr s)) (Puts s) wr_there parts.0 x s (At k) a (ap (tokens S s k) same ∙ some) true at_one)
        ∙ bit_back (eqb x s) ∙ eq-eqb x s e in
        let value : number_at run (Din s) n ≡ atom_value (run n) a =
        out_value S title run f n k is.shows.here is.shows.low (bits + 1) (name (Din s)) (TokenChoice s) din_there parts.1 (record { condition = name (At k); value = a }) (ap (tokens S s k) same ∙ some ∙ at_same x s (entry (At k) a) e) at_one in
        ap (λ z. cond (z && ready) (din ∷ []) []) wr ∙ ap (λ z. cond ready (token_of (token_bits S s) z ∷ []) []) value ∙ ap (λ z. cond ready (z ∷ []) []) (shows e)
        ∙ ap (λ z. cond ready (cond z (t ∷ []) []) []) (sym (eq-eqb x s e)) ∙ ap (λ z. cond (bit_at run (Rdy z) n) (cond (eqb x s) (t ∷ []) []) []) (sym e))
        (λ (e : x ≡ s → ⊥).
        none_put g same (some ∙ at_other x s (entry (At k) a) e) ∙ sym (same_cond (bit_at run (Rdy x) n) []) ∙ ap (λ z. cond (bit_at run (Rdy x) n) (cond z (t ∷ []) []) []) (sym (ne_eqb x s e)))
        (cases_eq x s)

    -- a datum behind the bit that says that it is no end
    datum_token : (v : ℕ) → v < 2 ^ bits → token_of (token_bits S s) v ≡ DatumToken v
    datum_token v h = let e : bits + 1 - 1 ≡ bits = omega arith in ap (λ z. cond (nat_lt v (2 ^ z)) (DatumToken v) EotToken) e ∙ ap (λ b. cond b (DatumToken v) EotToken) (lt-ltb v (2 ^ bits) h)

    end_is_token : token_of (token_bits S s) (2 ^ bits) ≡ EotToken
    end_is_token =
        let e : bits + 1 - 1 ≡ bits = omega arith in
        ap (λ z. cond (nat_lt (2 ^ bits) (2 ^ z)) (DatumToken (2 ^ bits)) EotToken) e ∙ ap (λ b. cond b (DatumToken (2 ^ bits)) EotToken) (le-ltb (2 ^ bits) (2 ^ bits) (omega arith))

    packed_is : (x : ℕ) (e : Expression) (next : ℕ) → form_at S k ≡ WriteAt x e next → (run n).net (name (Packed k)) ≡ value e σ
    packed_is x e next same =
        let a = (value_wires S k).atom in
        let there : Has (more_wires S k (WriteAt x e next)) (Wire (bits_of (stream_kind S x) + 1) (name (Packed k)) (Concat (Literal 1 0 ∷ a ∷ []))) = inl refl in
        wire_driven title (task_elements S) run f (bits_of (stream_kind S x) + 1) (name (Packed k)) (Concat (Literal 1 0 ∷ a ∷ []))
        (more_in S k is.shows.low (Wire (bits_of (stream_kind S x) + 1) (name (Packed k)) (Concat (Literal 1 0 ∷ a ∷ [])))
        (subst (λ z. Has (more_wires S k z) (Wire (bits_of (stream_kind S x) + 1) (name (Packed k)) (Concat (Literal 1 0 ∷ a ∷ [])))) (sym same) there))
        n
        ∙ zero_front (2 ^ 1) (2 ^ atom_width f.sizes a) (atom_value (run n) a) ∙ (value_shown S title run f n (ranges_in S) σ k is.shows).value ∙ ap (λ z. value (value_of z) σ) same

    written_low : (x : ℕ) (e : Expression) (next : ℕ) → form_at S k ≡ WriteAt x e next → x ≡ s → value e σ < 2 ^ bits
    written_low x e next same here =
        let t : IsTypedState (kinds_in S) (WriteAt x e next) = subst (IsTypedState (kinds_in S)) same is.shows.typed in
        subst (λ z. value e σ < 2 ^ bits_of (stream_kind S z)) here (value_fits (kinds_in S) e (stream_kind S x) σ t is.shows.fits)

    put_is : (g : StateForm) → form_at S k ≡ g → put_in (streams_at S run) s n ≡ cond (allowed S run n (step g k σ)) (puts_of (λ p. p) s (step g k σ)) []
    put_is (SetAt r e next) same = none_put (SetAt r e next) same refl
    put_is (CellAt a i e next) same = none_put (CellAt a i e next) same refl
    put_is (TestAt e y m) same = none_put (TestAt e y m) same refl
    put_is (WriteAt x e next) same =
        put_at (WriteAt x e next) same x (net (Packed k)) (DatumToken (value e σ)) refl
        (λ here. ap (token_of (token_bits S s)) (packed_is x e next same) ∙ datum_token (value e σ) (written_low x e next same here))
    put_is (CloseAt x next) same = put_at (CloseAt x next) same x (end_token S s) EotToken refl (λ here. end_is_token)
    put_is (ClearAt a c next) same = none_put (ClearAt a c next) same refl ∙ clear_puts S run n k a c next s σ (is_last σ a c)
    put_is EndAt same = none_put EndAt same refl
    put_is TrapAt same = none_put TrapAt same refl
    put_is g same = none_put g same refl ∙ sym (same_cond (allowed S run n (step g k σ)) [])

pub takes_are_made : TakesAreMade
takes_are_made S title run f cells n k σ is s reads =
    ap (λ z. eqb z 1) (taken_is S title run f cells n k σ is s reads (form_at S k) refl) ∙ bit_back (allowed S run n (step (form_at S k) k σ) && takes_of (λ p. p) s (step (form_at S k) k σ))

pub puts_are_made : PutsAreMade
puts_are_made S title run f cells n k σ is s writes = put_is S title run f cells n k σ is s writes (form_at S k) refl
