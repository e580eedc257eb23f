use Rattle.std.proofs.Common.{IsTrue, sym, ◌∙◌}
use Rattle.net_base.specs.Members.{IsIn}
use Rattle.net_base.specs.declared.ids.SwitchId.{SwitchId}
use Rattle.demands.specs.Duties.{duties_of}
use Rattle.check_reasons.proofs.LeastLaws.{least_iff}
use Rattle.ordered_check.proofs.judging.least_drop.Goals as goal

pub returns-then-must_arrive : goal.returns-then-must_arrive
returns-then-must_arrive c =
    let arrive : IsTrue (duties_of c.args.duties.now.demands c.args.numbered.class.entry c.args.numbered.class.first).arrive = sym (c.must_arrive.ensures.arrive c.args.numbered.class c.requires.class) ∙ c.if-must_arrive.true in
    least_iff (λ (s : SwitchId). IsIn s c.args.dropping.now) (λ (s : SwitchId). IsTrue (duties_of c.args.duties.now.demands c.args.numbered.class.entry c.args.numbered.class.first).arrive × IsIn s c.args.dropping.now) c.least_of.result
    (λ s i. (arrive, i)) (λ s w. w.1) c.least_of.ensures
