use Rattle.tables_command.specs.Tabled.{meaning_of}
use Rattle.tables_command.proofs.ReadBackLaws.{reads_back}
use Rattle.tables_command.proofs.replying.text_is_read_back.Goals as goal

pub returns : goal.returns
returns c = reads_back (meaning_of c.args.files.now) c.keeps_rules.ensures c.requires.user c.requires.valid
