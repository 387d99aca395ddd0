-- What the sources of texts are called.
use Rattle.std.specs.Prelude.{ℕ, List, codes, string_bytes}
use Rattle.inputs.specs.declared.files.Source.{Source}
use Rattle.inputs.specs.declared.files.Source.TheVariants.{Input, File}

abbrev pub source_name : Source → List ℕ
source_name Input = codes "standard input"
source_name (File path) = string_bytes path
