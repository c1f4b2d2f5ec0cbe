-- Which texts are names.
use Rattle.std.specs.Prelude.{ℕ, Bool, true, false, ◌&&◌, ◌||◌, List, [], ◌∷◌, codes, nat_le, ◌==◌, if◌then◌else◌, bytes_eq, IsTrue}
use Rattle.std.specs.List.{list_any, list_all}

abbrev pub within : ℕ → ℕ → ℕ → Bool
within low high c = nat_le low c && nat_le c high

-- a letter or `_`
unfoldable pub starts_name : ℕ → Bool
starts_name c = within 97 122 c || within 65 90 c || (c == 95)

-- a letter, a digit, `_` or `$`
unfoldable pub goes_on : ℕ → Bool
goes_on c = starts_name c || within 48 57 c || (c == 36)

-- the keywords of IEEE 1364-2005, annex B, in the order of the alphabet
unfoldable pub always_to_default : List (List ℕ)
always_to_default =
    codes "always" ∷ codes "and" ∷ codes "assign" ∷ codes "automatic" ∷ codes "begin" ∷ codes "buf" ∷ codes "bufif0" ∷ codes "bufif1" ∷ codes "case" ∷ codes "casex"
    ∷ codes "casez" ∷ codes "cell" ∷ codes "cmos" ∷ codes "config" ∷ codes "deassign" ∷ codes "default" ∷ []

unfoldable pub defparam_to_event : List (List ℕ)
defparam_to_event =
    codes "defparam" ∷ codes "design" ∷ codes "disable" ∷ codes "edge" ∷ codes "else" ∷ codes "end" ∷ codes "endcase" ∷ codes "endconfig" ∷ codes "endfunction"
    ∷ codes "endgenerate" ∷ codes "endmodule" ∷ codes "endprimitive" ∷ codes "endspecify" ∷ codes "endtable" ∷ codes "endtask" ∷ codes "event" ∷ []

unfoldable pub for_to_input : List (List ℕ)
for_to_input =
    codes "for" ∷ codes "force" ∷ codes "forever" ∷ codes "fork" ∷ codes "function" ∷ codes "generate" ∷ codes "genvar" ∷ codes "highz0" ∷ codes "highz1" ∷ codes "if"
    ∷ codes "ifnone" ∷ codes "incdir" ∷ codes "include" ∷ codes "initial" ∷ codes "inout" ∷ codes "input" ∷ []

unfoldable pub instance_to_not : List (List ℕ)
instance_to_not =
    codes "instance" ∷ codes "integer" ∷ codes "join" ∷ codes "large" ∷ codes "liblist" ∷ codes "library" ∷ codes "localparam" ∷ codes "macromodule" ∷ codes "medium"
    ∷ codes "module" ∷ codes "nand" ∷ codes "negedge" ∷ codes "nmos" ∷ codes "nor" ∷ codes "noshowcancelled" ∷ codes "not" ∷ []

unfoldable pub notif0_to_real : List (List ℕ)
notif0_to_real =
    codes "notif0" ∷ codes "notif1" ∷ codes "or" ∷ codes "output" ∷ codes "parameter" ∷ codes "pmos" ∷ codes "posedge" ∷ codes "primitive" ∷ codes "pull0"
    ∷ codes "pull1" ∷ codes "pulldown" ∷ codes "pullup" ∷ codes "pulsestyle_ondetect" ∷ codes "pulsestyle_onevent" ∷ codes "rcmos" ∷ codes "real" ∷ []

unfoldable pub realtime_to_strong0 : List (List ℕ)
realtime_to_strong0 =
    codes "realtime" ∷ codes "reg" ∷ codes "release" ∷ codes "repeat" ∷ codes "rnmos" ∷ codes "rpmos" ∷ codes "rtran" ∷ codes "rtranif0" ∷ codes "rtranif1"
    ∷ codes "scalared" ∷ codes "showcancelled" ∷ codes "signed" ∷ codes "small" ∷ codes "specify" ∷ codes "specparam" ∷ codes "strong0" ∷ []

unfoldable pub strong1_to_unsigned : List (List ℕ)
strong1_to_unsigned =
    codes "strong1" ∷ codes "supply0" ∷ codes "supply1" ∷ codes "table" ∷ codes "task" ∷ codes "time" ∷ codes "tran" ∷ codes "tranif0" ∷ codes "tranif1" ∷ codes "tri"
    ∷ codes "tri0" ∷ codes "tri1" ∷ codes "triand" ∷ codes "trior" ∷ codes "trireg" ∷ codes "unsigned" ∷ []

unfoldable pub use_to_xor : List (List ℕ)
use_to_xor =
    codes "use" ∷ codes "uwire" ∷ codes "vectored" ∷ codes "wait" ∷ codes "wand" ∷ codes "weak0" ∷ codes "weak1" ∷ codes "while"
    ∷ codes "wire" ∷ codes "wor" ∷ codes "xnor" ∷ codes "xor" ∷ []

-- whether a text is one of a list of words
abbrev pub is_among : List (List ℕ) → List ℕ → Bool
is_among words x = list_any (bytes_eq x) words

unfoldable pub is_keyword : List ℕ → Bool
is_keyword x =
    is_among always_to_default x || is_among defparam_to_event x || is_among for_to_input x || is_among instance_to_not x || is_among notif0_to_real x
    || is_among realtime_to_strong0 x || is_among strong1_to_unsigned x || is_among use_to_xor x

abbrev pub has_name_form : List ℕ → Bool
has_name_form [] = false
has_name_form (c ∷ cs) = starts_name c && list_all goes_on cs

-- a simple identifier that is no keyword (IEEE 1364-2005, 3.7 and 3.7.2)
abbrev pub is_name : List ℕ → Bool
is_name x = has_name_form x && (if is_keyword x then false else true)

abbrev pub IsName : List ℕ → Type 0
IsName x = IsTrue (is_name x)
