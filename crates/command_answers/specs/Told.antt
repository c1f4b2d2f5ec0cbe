-- How an end is reported: its lines, and the status.
use Rattle.std.specs.Prelude.{◌≡◌, ◌⊎◌, ℕ, List, [], ◌++◌, codes, decimal, Option, Some, None, ⊤}
use Rattle.std.specs.Io.KnownBytes.{Appends}
use Rattle.tapa_files.specs.Outside.{Rose, AppendsPart}
use Rattle.run_data.specs.Lines.{joined}
use Rattle.command_answers.specs.Ends.{End, Done, Refused, Unwritten, NoMemory, Usage}
use Rattle.command_answers.specs.Files.{Held, name_in, most_of}
use Rattle.command_answers.specs.Outside.{Written}
use Rattle.command_answers.specs.Refusal.{Refusal, Read, TooLong, Source, Data, Device, Verilog, Dump, Ticks, Stopped, TooManyPlans, NoPlan, NoRoom, NoHalving, Undone}
use Rattle.command_answers.specs.Refusal.{V1, V2, V3, V4, V5, V6, NoDump, NoNet, code_text, data_text, device_text}
use Rattle.command_answers.specs.declared.file.File.{File}
use Rattle.command_answers.specs.declared.file.File.TheVariants as role
use Rattle.command_answers.specs.declared.status.Status.{Status}
use Rattle.command_answers.specs.declared.status.Status.TheVariants as status

-- the file that a refusal is of
abbrev pub file_of : Refusal → Option File
file_of (Read file) = Some file
file_of (TooLong file) = Some file
file_of (Source place code) = Some role.Source
file_of (Data fault) = Some role.Data
file_of (Device fault) = Some role.Device
file_of (Verilog fault) = Some role.Text
file_of (Dump fault) = Some role.Dump
file_of _ = None

abbrev pub file_in : End → Option File
file_in (Refused why) = file_of why
file_in _ = None

abbrev pub name_for : (File → Held) → Option File → List ℕ
name_for held None = []
name_for held (Some file) = name_in (held file)

-- the name that the lines of an end have, of the file that it is of
abbrev pub name_at : (File → Held) → End → List ℕ
name_at held end = name_for held (file_in end)

-- the lines that report a refusal, of a file of this name
abbrev pub refusal_text : List ℕ → Refusal → List ℕ
refusal_text name (Read file) = codes "tapa: cannot read " ++ (name ++ codes "\n")
refusal_text name (TooLong file) = codes "tapa: " ++ (name ++ (codes " is longer than " ++ (decimal (most_of file) ++ codes " bytes\n")))
refusal_text name (Source place code) =
    codes "tapa: " ++ (name ++ (codes ":" ++ (decimal place.line ++ (codes ":" ++ (decimal place.col ++ (codes ": " ++ (code_text code ++ codes "\n")))))))
refusal_text name (Data fault) = codes "tapa: " ++ (name ++ (codes ": " ++ (data_text fault ++ codes "\n")))
refusal_text name (Device fault) = codes "tapa: " ++ (name ++ (codes ": " ++ (device_text fault ++ codes "\n")))
refusal_text name (Verilog (V1 place)) = codes "tapa: " ++
    (name ++ (codes ":" ++ (decimal place.line ++ (codes ":" ++ (decimal place.col ++ (codes ": " ++ (codes "V1 no text of the subset" ++ codes "\n")))))))
refusal_text name (Verilog (V2 key)) = codes "tapa: " ++ (name ++ (codes ": " ++ ((codes "V2 " ++ key) ++ codes "\n")))
refusal_text name (Verilog (V3 key)) = codes "tapa: " ++ (name ++ (codes ": " ++ ((codes "V3 " ++ key) ++ codes "\n")))
refusal_text name (Verilog (V4 key)) = codes "tapa: " ++ (name ++ (codes ": " ++ ((codes "V4 " ++ key) ++ codes "\n")))
refusal_text name (Verilog (V5 key)) = codes "tapa: " ++ (name ++ (codes ": " ++ ((codes "V5 " ++ key) ++ codes "\n")))
refusal_text name (Verilog (V6 key)) = codes "tapa: " ++ (name ++ (codes ": " ++ ((codes "V6 " ++ key) ++ codes "\n")))
refusal_text name (Dump (NoDump place)) = codes "tapa: " ++ (name ++ (codes ":" ++ (decimal place.line ++ (codes ":" ++ (decimal place.col ++ (codes ": " ++ (codes "X1 no dump" ++ codes "\n")))))))
refusal_text name (Dump (NoNet key)) = codes "tapa: " ++ (name ++ (codes ": " ++ ((codes "X2 " ++ key) ++ codes "\n")))
refusal_text name (Ticks limit) = codes "tapa: more than " ++ (decimal limit ++ codes " ticks\n")
refusal_text name (Stopped lines) = joined lines
refusal_text name (TooManyPlans slots free) = codes "tapa: too many plans: " ++ (decimal slots ++ (codes " slots, " ++ (decimal free ++ codes " free groups\n")))
refusal_text name NoPlan = codes "tapa: no plan within capacity\n"
refusal_text name (NoRoom label) = codes "tapa: no room for " ++ (label ++ codes "\n")
refusal_text name (NoHalving level) = codes "tapa: no halving at level " ++ (decimal level ++ codes "\n")
refusal_text name (Undone limit) = codes "tapa: not done after " ++ (decimal limit ++ codes " cycles\n")

-- the lines that report an end
abbrev pub message_of : List ℕ → End → List ℕ
message_of name Done = []
message_of name (Refused why) = refusal_text name why
message_of name Unwritten = codes "tapa: cannot write\n"
message_of name NoMemory = codes "tapa: out of memory\n"
message_of name Usage = codes "tapa: usage: tapa build|run|cosim|plan|gen|vcd\n"

-- the status of a refusal, and of an end
abbrev pub refusal_status : Refusal → Status
refusal_status (Read file) = status.Read
refusal_status (TooLong file) = status.Limit
refusal_status (Source place code) = status.Source
refusal_status (Data fault) = status.Data
refusal_status (Device fault) = status.Data
refusal_status (Verilog fault) = status.Source
refusal_status (Dump fault) = status.Source
refusal_status (Ticks limit) = status.Limit
refusal_status (Stopped lines) = status.Stopped
refusal_status (TooManyPlans slots free) = status.Data
refusal_status NoPlan = status.NoPlan
refusal_status (NoRoom label) = status.NoPlan
refusal_status (NoHalving level) = status.NoPlan
refusal_status (Undone limit) = status.Limit

abbrev pub status_of : End → Status
status_of Done = status.Ok
status_of (Refused why) = refusal_status why
status_of Unwritten = status.Write
status_of NoMemory = status.Memory
status_of Usage = status.Usage

-- the exit code of a status
abbrev pub code_of : Status → ℕ
code_of status.Ok = 0
code_of status.Source = 1
code_of status.Usage = 2
code_of status.Data = 3
code_of status.NoPlan = 4
code_of status.Read = 5
code_of status.Write = 6
code_of status.Limit = 7
code_of status.Stopped = 8
code_of status.Memory = 9

-- its lines name nothing that is read or made while the program runs
abbrev pub IsFixed : End → Type 0
IsFixed (Refused (Stopped lines)) = ⊤
IsFixed (Refused NoPlan) = ⊤
IsFixed (Refused _) = ⊥
IsFixed _ = ⊤

-- the status is that of the end, and its lines were written whole
abbrev pub IsTold : List ℕ → End → Status → Written → Written → Type 0
IsTold name end s old new = (s ≡ status_of end) × Appends old.bytes new.bytes (message_of name end)

-- so it is, or a write failed after a prefix of the lines
abbrev pub IsToldAs : List ℕ → End → Status → Written → Written → Type 0
IsToldAs name end s old new =
    IsTold name end s old new
    ⊎ ((s ≡ status.Write) × Rose old.failed new.failed × AppendsPart old.bytes new.bytes (message_of name end))
