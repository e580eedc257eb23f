use Rattle.flow_stats.proofs.EntryLaws.{fill_law}
use Rattle.flow_stats.proofs.laws.entries_fill_their_message.Goals as goal

pub returns : goal.returns
returns c = λ bytes entries room. fill_law bytes entries room
