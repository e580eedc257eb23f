use Rattle.two_way_replay.proofs.PutBackLaws.{put_back_same}
use Rattle.two_way_replay.proofs.laws.put_back_as_taken_back.Goals as goal

pub returns : goal.returns
returns c = λ before rules key table. put_back_same before rules key table
