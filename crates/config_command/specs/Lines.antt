-- The lines of `config`.
use Rattle.std.specs.Prelude.{ℕ, List, ◌++◌, codes, decimal}
use Rattle.topology.specs.Networks.{Network}
use Rattle.dest_classes.specs.declared.Class.{Class}
use Rattle.config_check.specs.declared.How.{How}
use Rattle.command_base.specs.Lines.{class_text, how_text}

-- on a configuration whose paths are all good
abbrev pub holds_line : ℕ → List ℕ
holds_line classes = codes "holds: " ++ decimal classes ++ codes " classes\n"

-- on a class whose path isn't good
abbrev pub breaks_line : Network → Class → How → List ℕ
breaks_line net class how = codes "breaks: at " ++ class_text net class ++ codes " " ++ how_text net how ++ codes "\n"
