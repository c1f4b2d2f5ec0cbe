-- A file gives this, and the others what they gave.
use Rattle.command_answers.specs.Files.{Given}
use Rattle.command_answers.specs.declared.file.File.{File}
use Rattle.command_answers.specs.declared.file.File.TheVariants.{Source, Text, Dump, Data, Device}

abbrev pub put : File → Given → (File → Given) → File → Given
put Source g gives Source = g
put Text g gives Text = g
put Dump g gives Dump = g
put Data g gives Data = g
put Device g gives Device = g
put file g gives other = gives other
