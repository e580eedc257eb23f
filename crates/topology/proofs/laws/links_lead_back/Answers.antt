use Rattle.topology.proofs.LinkLaws.{link_back}
use Rattle.topology.proofs.laws.links_lead_back.Goals as goal

pub returns : goal.returns
returns c = λ net port far is leads. link_back net is port far leads
