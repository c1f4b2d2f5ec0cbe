-- How long the text of the network is.
use Rattle.std.proofs.Common.{ℕ, zero, suc, ◌+◌, ◌*◌, ◌%◌, ◌<◌, ◌≤◌, List, ◌++◌, length, length-append, arith, le_trans, lit≤}
use Rattle.std.specs.Prelude.{codes, decimal}
use Rattle.std.proofs.lemmas.Fmt.{length-decimal-le}
use Rattle.command_gen.specs.Layers.{each_below, source_task, middle_task, sink_task, line_of, row_of, network_text, most_bytes}
use Rattle.command_gen.specs.declared.layers.Part.{Part}
use Rattle.command_gen.specs.declared.layers.Part.TheVariants.{Streams, Sources, Middles, Sinks}

-- texts of at most m bytes each
each_short : (n m : ℕ) (text : ℕ → List ℕ) → ((k : ℕ) → k < n → length (text k) ≤ m) → length (each_below n text) ≤ n * m
each_short zero m text short = omega arith
each_short (suc k) m text short =
    let before = each_short k m text (λ i h. short i (omega arith)) in
    let one = short k (omega arith) in
    omega (arith, before, one, length-append (each_below k text) (text k))

number_short : (n : ℕ) → n < 1000 → length (decimal n) ≤ 3
number_short n h = length-decimal-le 3 n (omega arith) h (omega arith)

before_short : (place : ℕ) → (place + 3) % 4 < 1000
before_short place = omega arith

line_short : (part : Part) (layer place : ℕ) → layer < 999 → place < 1000 → length (line_of part layer place) ≤ 64
line_short Streams layer place l p =
    let a = number_short layer (omega arith) in
    let b = number_short place p in
    simp length-append (omega (arith, a, b))
line_short Sources layer place l p =
    let a = number_short layer (omega arith) in
    let b = number_short place p in
    simp length-append (omega (arith, a, b))
line_short Middles layer place l p =
    let a = number_short layer (omega arith) in
    let b = number_short place p in
    let c = number_short ((place + 3) % 4) (before_short place) in
    let d = number_short (layer + 1) (omega arith) in
    simp length-append (omega (arith, a, b, c, d))
line_short Sinks layer place l p =
    let a = number_short layer (omega arith) in
    let b = number_short place p in
    let c = number_short ((place + 3) % 4) (before_short place) in
    simp length-append (omega (arith, a, b, c))

row_short : (part : Part) (layer : ℕ) → layer < 999 → length (row_of part layer) ≤ 256
row_short part layer h = each_short 4 64 (line_of part layer) (λ place p. line_short part layer place h (omega arith))

rows_short : (part : Part) (n : ℕ) → n < 999 → length (each_below n (row_of part)) ≤ n * 256
rows_short part n h = each_short n 256 (row_of part) (λ layer l. row_short part layer (omega arith))

-- ten texts, one after another
all_short : (a b c d e f g h i j : List ℕ) (m : ℕ) → length e ≤ m → length h ≤ m → length g ≤ m → length i ≤ m → length (a ++ b ++ c ++ d ++ e ++ f ++ g ++ h ++ i ++ j) ≤ 4 * m + (length (a ++ b ++ c ++ d) + length f + length j)
all_short a b c d e f g h i j m one two three four =
    let front = a ++ b ++ c ++ d in
    omega (arith, one, two, three, four, length-append (front ++ e ++ f ++ g ++ h ++ i) j, length-append (front ++ e ++ f ++ g ++ h) i, length-append (front ++ e ++ f ++ g) h, length-append (front ++ e ++ f) g, length-append (front ++ e) f, length-append front e)

-- the text of the greatest network is no longer than a source may be
pub text_short : (n : ℕ) → n ≤ 126 → length (network_text n) ≤ most_bytes
text_short n h =
    let streams = rows_short Streams (n + 1) (omega arith) in
    let sources = row_short Sources 0 (omega arith) in
    let middles = rows_short Middles n (omega arith) in
    let sinks = row_short Sinks n (omega arith) in
    let all =
    all_short source_task middle_task sink_task (codes "void Gen() {\n") (each_below (n + 1) (row_of Streams)) (codes "  tapa::task()\n") (row_of Sources 0) (each_below n (row_of Middles)) (row_of Sinks n) (codes "  ;\n}\n") 32512
    (omega arith) (omega arith) (omega arith) (omega arith) in
    le_trans all (lit≤ tt)
