-- The modules of all channels together.
use Rattle.std.proofs.Common.{◌≡◌, ℕ, zero, suc, ◌+◌, ◌*◌, ◌/◌, ◌%◌, ◌^◌, ◌<◌, ◌≤◌, Bool, true, false, cond, eqb, List, [], ◌∷◌, ◌++◌, Option, Some, None, refl, sym, subst, arith, ⊎_elim, length}
use Rattle.std.specs.Prelude.{codes, slice_get, slice_index}
use Rattle.std.proofs.lemmas.Bool.{cases_eq, eqb-true, eqb-false}
use Rattle.tapa_base.specs.declared.kind.Kind.{Kind}
use Rattle.tapa_base.specs.declared.kind.Kind.TheVariants as kind
use Rattle.tapa_base.specs.Kinds.{bits_of}
use Rattle.tapa_syntax.specs.declared.program.Program.{Program}
use Rattle.tapa_syntax.specs.declared.program.Stream.{Stream}
use Rattle.tapa_syntax.specs.WellFormed.{IsWellFormed}
use Rattle.vlog_tree.specs.Form.{ModuleTree, IsModule}
use Rattle.tapa_base.specs.Lists.{Has}
use Rattle.vlog_tree.specs.Table.{Name}
use Rattle.hw_channel_lines.specs.Texts.{step_tree, even_tree, odd_tree, row_tree, fifo_tree, plain_tree, relayed_tree, AreRelays, One, More, AreModules, Alone, Relayed}
use Rattle.hw_channel_laws.proofs.modules.Forms.{step_form, even_form, odd_form, fifo_form, plain_form, relayed_form}
use Rattle.hw_channel_laws.proofs.modules.Parts.{IsPart, Outer, Queue, Part, part_of, no_tasks, names_tell}
use Rattle.hw_channel_laws.proofs.modules.Together.{AreApart}
use Rattle.hw_top_lines.specs.Channels.{relays_below, relays, channel_modules}
use Rattle.hw_top_lines.specs.Designs.{AreShort, stream_modules, channels_before}
use Rattle.hw_top_lines.specs.Texts.{token_bits}
use Rattle.hw_top_laws.proofs.modules.Added.{new_of, new_keeps, new_apart, new_has}
use Rattle.tapa_base.proofs.Tests.{few_bits}
use Rattle.tapa_base.proofs.Got.{got_low as some_index}

-- ---- the modules of one channel

relays_by : (levels bits steps : ℕ) → 0 < steps → steps ≤ suc levels → (0 < steps / 2 → steps / 2 ≤ levels → AreRelays bits (steps / 2) (relays_below levels bits (steps / 2))) → (b : Bool) → eqb steps 1 ≡ b
    → AreRelays bits steps (cond b (step_tree bits ∷ []) (row_tree bits steps ∷ relays_below levels bits (steps / 2)))
relays_by levels bits steps s l rest true e = One steps (eqb-true steps 1 e)
relays_by levels bits steps s l rest false e =
    let n = eqb-false steps 1 e in
    let more : 1 < steps = ⊎_elim (λ q. absurd (n q)) (λ q. omega (arith, s, q)) (cases_eq steps 1) in
    More steps (relays_below levels bits (steps / 2)) more (rest (omega (arith, more)) (omega (arith, more, l)))

relays_are : (levels bits steps : ℕ) → 0 < steps → steps ≤ levels → AreRelays bits steps (relays_below levels bits steps)
relays_are zero bits steps s l = absurd (omega arith)
relays_are (suc levels) bits steps s l = relays_by levels bits steps s l (λ a b. relays_are levels bits (steps / 2) a b) (eqb steps 1) refl

pub channel_are : (bits depth late : ℕ) → AreModules bits depth late (channel_modules bits depth late)
channel_are bits depth late = by (eqb late 0) refl where
  by : (b : Bool) → eqb late 0 ≡ b
      → AreModules bits depth late (cond b (plain_tree bits depth ∷ fifo_tree bits depth depth ∷ []) (relayed_tree bits depth late ∷ fifo_tree bits depth (depth + 2 * late) ∷ relays bits late))
  by true e = Alone late (eqb-true late 0 e)
  by false e =
      let n = eqb-false late 0 e in
      let some : 0 < late = ⊎_elim (λ q. absurd (n q)) (λ q. omega (arith, q)) (cases_eq late 0) in
      Relayed late (relays bits late) some (relays_are late bits late some (omega arith))

relay_form : (bits steps : ℕ) (a b : Bool) → 2 ≤ bits → bits < 2 ^ 32 → steps < 2 ^ 32 → IsModule (cond a (step_tree bits) (cond b (even_tree bits steps (steps / 2)) (odd_tree bits steps (steps / 2))))
relay_form bits steps true b l h s = step_form bits l h
relay_form bits steps false true l h s = even_form bits steps (steps / 2) l h s (omega (arith, s))
relay_form bits steps false false l h s = odd_form bits steps (steps / 2) l h s (omega (arith, s))

outer_form : (bits depth late : ℕ) (a : Bool) → 2 ≤ bits → bits < 2 ^ 32 → depth ≤ 4096 → late ≤ 500000 → IsModule (cond a (plain_tree bits depth) (relayed_tree bits depth late))
outer_form bits depth late true l h d s = plain_form bits depth l h (omega (arith, d))
outer_form bits depth late false l h d s = relayed_form bits depth late l h d (omega (arith, s))

part_form : (bits depth late : ℕ) (m : ModuleTree) → 2 ≤ bits → bits < 2 ^ 32 → 0 < depth → depth ≤ 4096 → late ≤ 500000 → IsPart bits depth late m → IsModule m
part_form bits depth late m l h p d s (Outer e) = subst IsModule (sym e) (outer_form bits depth late (eqb late 0) l h d s)
part_form bits depth late m l h p d s (Queue e) = subst IsModule (sym e) (fifo_form bits depth (depth + 2 * late) l h (omega (arith, d)) (omega (arith, d, s)) (omega (arith, p)))
part_form bits depth late m l h p d s (Part r) =
    let few : r.steps ≤ late = r.few in
    subst IsModule (sym r.is) (relay_form bits r.steps (eqb r.steps 1) (eqb (r.steps % 2) 0) l h (omega (arith, few, s)))

-- ---- the channels of a program

-- the numbers of a stream's channel
pub record HasSizes (program : Program) (added : List ℕ) (s : ℕ) (r : Stream) : Type 0 where
  pub least : 2 ≤ token_bits r.kind
  pub most : token_bits r.kind ≤ 65
  pub some : 0 < r.depth
  pub deep : r.depth ≤ 4096
  pub late : slice_index added s ≤ 500000

pub some_bit : (k : Kind) → 1 ≤ bits_of k
some_bit kind.Bool = omega arith
some_bit _ = omega arith

module _ (program : Program) (ok : IsWellFormed program) (added : List ℕ) (short : AreShort added) where
  pub sizes : (s : ℕ) (r : Stream) → slice_get program.streams.items s ≡ Some r → HasSizes program added s r
  sizes s r e =
      let i = ok.streams s r e in
      let a = some_bit r.kind in
      let b = few_bits r.kind in
      let d = i.some_depth in
      record { least = omega (arith, a); most = omega (arith, b); some = omega (arith, d); deep = i.within; late = short s }

  abbrev pub modules_at : ℕ → List ModuleTree
  modules_at s = stream_modules (slice_index added s) (slice_get program.streams.items s)

  -- a module of a stream's channel
  pub record IsOfStream (m : ModuleTree) : Type 0 where
    pub number : ℕ
    pub stream : Stream
    pub got : slice_get program.streams.items number ≡ Some stream
    pub has : Has (channel_modules (token_bits stream.kind) stream.depth (slice_index added number)) m

  of_stream : (s : ℕ) (o : Option Stream) → slice_get program.streams.items s ≡ o → (m : ModuleTree) → Has (stream_modules (slice_index added s) o) m → IsOfStream m
  of_stream s None e m h = absurd h
  of_stream s (Some r) e m h = record { number = s; stream = r; got = e; has = h }

  -- two modules of channels with one name are one
  pub tell : (m n : ModuleTree) → IsOfStream m → IsOfStream n → m.name ≡ n.name → m ≡ n
  tell m n a b e =
      let u = sizes a.number a.stream a.got in
      let v = sizes b.number b.stream b.got in
      let um = u.most in
      let ud = u.deep in
      let ul = u.late in
      let vm = v.most in
      let vd = v.deep in
      let vl = v.late in
      names_tell (token_bits a.stream.kind) a.stream.depth (slice_index added a.number) (token_bits b.stream.kind) b.stream.depth (slice_index added b.number) _ _
      (channel_are (token_bits a.stream.kind) a.stream.depth (slice_index added a.number)) (channel_are (token_bits b.stream.kind) b.stream.depth (slice_index added b.number))
      (omega (arith, um)) (omega (arith, ud, ul)) (omega (arith, vm)) (omega (arith, vd, vl)) m n a.has b.has e

  pub in_channels : (n : ℕ) (m : ModuleTree) → Has (channels_before program added n) m → IsOfStream m
  in_channels zero m h = absurd h
  in_channels (suc n) m h =
      ⊎_elim (λ l. in_channels n m l) (λ r. of_stream n (slice_get program.streams.items n) refl m r) (new_of (channels_before program added n) (modules_at n) m h)

  pub channels_apart : (n : ℕ) → AreApart (channels_before program added n)
  channels_apart zero = tt
  channels_apart (suc n) = new_apart (channels_before program added n) (modules_at n) (channels_apart n)

  pub has_channel : (n s : ℕ) → s < n → (m : ModuleTree) → Has (modules_at s) m → Has (channels_before program added n) m
  has_channel zero s l m h = absurd (omega arith)
  has_channel (suc n) s l m h =
      ⊎_elim
      (λ e.
      new_has (channels_before program added n) (modules_at n)
      (λ k j i q same. tell k j (in_channels (suc n) k i) (of_stream n (slice_get program.streams.items n) refl j q) same) m (subst (λ t. Has (modules_at t) m) e h))
      (λ e. new_keeps (channels_before program added n) (modules_at n) m (has_channel n s (omega (arith, l, e)) m h))
      (cases_eq s n)

  abbrev pub channels : List ModuleTree
  channels = channels_before program added (length program.streams.items)

  pub stream_there : (s : ℕ) (r : Stream) → slice_get program.streams.items s ≡ Some r → (m : ModuleTree) → Has (channel_modules (token_bits r.kind) r.depth (slice_index added s)) m → Has channels m
  stream_there s r e m h =
      has_channel (length program.streams.items) s (some_index program.streams.items s r e) m (subst (λ o. Has (stream_modules (slice_index added s) o) m) (sym e) h)

  -- what a module of a channel keeps by itself
  pub channel_form : (m : ModuleTree) → IsOfStream m → IsModule m
  channel_form m i =
      let u = sizes i.number i.stream i.got in
      let um = u.most in
      part_form (token_bits i.stream.kind) i.stream.depth (slice_index added i.number) m u.least (omega (arith, um)) u.some u.deep u.late
      (part_of (token_bits i.stream.kind) i.stream.depth (slice_index added i.number) _ (channel_are (token_bits i.stream.kind) i.stream.depth (slice_index added i.number)) m i.has)

  pub channel_no_task : (m : ModuleTree) → IsOfStream m → (x : Name) → m.name ≡ codes "t_" ++ x → ⊥
  channel_no_task m i x e =
      no_tasks (token_bits i.stream.kind) i.stream.depth (slice_index added i.number) _ (channel_are (token_bits i.stream.kind) i.stream.depth (slice_index added i.number)) m i.has x e
