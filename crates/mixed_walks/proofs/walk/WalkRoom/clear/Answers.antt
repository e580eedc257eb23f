use Rattle.mixed_walks.proofs.TogetherLaws.{together_none}
use Rattle.mixed_walks.proofs.walk.WalkRoom.clear.Goals as goal

pub returns-clause-together : goal.returns-clause-together
returns-clause-together c u k dst vlan = together_none u k dst vlan c.clear.new.self c.clear.ensures
