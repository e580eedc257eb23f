use Rattle.std.proofs.Common.{◌^◌, ◌<◌, arith, ◌∙◌}
use Rattle.net_base.proofs.MemberLaws.{each_get_or}
use Rattle.dest_classes.proofs.RisingLaws.{few_below}
use Rattle.dest_classes.proofs.Atoms.count.Goals as goal

pub returns-clause-few : goal.returns-clause-few
returns-clause-few c =
    let xs = c.self.inside.firsts.items in
    let few = few_below xs (2 ^ 32) c.self.invariant.rise (λ k. each_get_or (λ a. a < 2 ^ 32) xs k 0 c.self.invariant.fit (omega arith)) in
    let e = c.len.ensures ∙ c.self.inside.firsts.ok.0 in
    omega arith
