use Rattle.two_way_replay.proofs.ReadAlike.{read_alike}
use Rattle.two_way_replay.proofs.laws.schedules_are_read_alike.Goals as goal

pub returns : goal.returns
returns c = read_alike
