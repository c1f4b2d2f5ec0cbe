-- The text of the generated network: four tasks that write, layers of four tasks that each read two streams and write two, and four tasks
-- that read.
use Rattle.std.specs.Prelude.{ℕ, zero, suc, ◌+◌, ◌%◌, List, [], ◌++◌, codes, decimal}
use Rattle.command_gen.specs.declared.layers.Part.{Part}
use Rattle.command_gen.specs.declared.layers.Part.TheVariants.{Streams, Sources, Middles, Sinks}

-- texts with the numbers below n, one after another
abbrev pub each_below : ℕ → (ℕ → List ℕ) → List ℕ
each_below zero text = []
each_below (suc k) text = each_below k text ++ text k

-- a task that writes the numbers from 0 to 99 to two streams
abbrev pub source_task : List ℕ
source_task = codes "void Src(tapa::ostream<uint64_t>& a, tapa::ostream<uint64_t>& b) {\n  for (uint64_t i = 0; i < 100; ++i) { a << i; b << i; } }\n"

-- one that writes the sums of what it reads
abbrev pub middle_task : List ℕ
middle_task = codes "void Mid(tapa::istream<uint64_t>& x, tapa::istream<uint64_t>& y, tapa::ostream<uint64_t>& a, tapa::ostream<uint64_t>& b) {\n  for (uint64_t i = 0; i < 100; ++i) { uint64_t t = x.read() + y.read(); a << t; b << t; } }\n"

-- one that reads
abbrev pub sink_task : List ℕ
sink_task = codes "void Dst(tapa::istream<uint64_t>& x, tapa::istream<uint64_t>& y) {\n  uint64_t t = 0; for (uint64_t i = 0; i < 100; ++i) { t += x.read() + y.read(); } }\n"

-- a stream's name: its letter, its layer and its position there
abbrev pub stream_name : List ℕ → ℕ → ℕ → List ℕ
stream_name letter layer place = letter ++ (decimal layer ++ (codes "_" ++ decimal place))

-- the two streams of a position, and the one of the position before it, around the layer
abbrev pub ahead : ℕ → ℕ → List ℕ
ahead layer place = stream_name (codes "a") layer place

abbrev pub aside : ℕ → ℕ → List ℕ
aside layer place = stream_name (codes "b") layer place

abbrev pub across : ℕ → ℕ → List ℕ
across layer place = aside layer ((place + 3) % 4)

-- a line of the top task at a position of a layer: the declaration of its streams; a task that writes them; one that reads them, and
-- writes those of the next layer; one that reads them
abbrev pub line_of : Part → ℕ → ℕ → List ℕ
line_of Streams layer place = codes "  tapa::stream<uint64_t> " ++ (ahead layer place ++ (codes ", " ++ (aside layer place ++ codes ";\n")))
line_of Sources layer place = codes "    .invoke(Src, " ++ (ahead layer place ++ (codes ", " ++ (aside layer place ++ codes ")\n")))
line_of Middles layer place =
    codes "    .invoke(Mid, " ++ (ahead layer place ++ (codes ", " ++ (across layer place ++ (codes ", " ++ (ahead (layer + 1) place ++ (codes ", " ++ (aside (layer + 1) place ++ codes ")\n")))))))
line_of Sinks layer place = codes "    .invoke(Dst, " ++ (ahead layer place ++ (codes ", " ++ (across layer place ++ codes ")\n")))

-- the lines of the four positions of a layer
abbrev pub row_of : Part → ℕ → List ℕ
row_of part layer = each_below 4 (line_of part layer)

-- the network of n layers
abbrev pub network_text : ℕ → List ℕ
network_text n =
    source_task ++ middle_task ++ sink_task
    ++ codes "void Gen() {\n" ++ each_below (n + 1) (row_of Streams) ++ codes "  tapa::task()\n" ++ row_of Sources 0 ++ each_below n (row_of Middles) ++ row_of Sinks n
    ++ codes "  ;\n}\n"

-- the name of its top task
abbrev pub network_top : List ℕ
network_top = codes "Gen"

-- the most bytes that it may have, as a source
abbrev pub most_bytes : ℕ
most_bytes = 262144
