use Rattle.std.proofs.Common.{◌↔◌, subst}
use Rattle.net_base.specs.Members.{IsIn}
use Rattle.mixed_walks.specs.Walks.{WalkState, switches_of}
use Rattle.mixed_walks.proofs.noted.WalkNotes.switches.Goals as goal

pub returns-clause-seen : goal.returns-clause-seen
returns-clause-seen c s = subst (λ (w : WalkState). IsIn s c.switches.result.now ↔ IsIn s (switches_of w.places)) c.self.view_is (c.switches.ensures.seen s)
