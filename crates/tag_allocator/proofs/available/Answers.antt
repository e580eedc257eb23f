use Rattle.tag_allocator.proofs.TagLaws.{tags_few}
use Rattle.tag_allocator.proofs.available.Goals as goal

pub returns-in-Some-clause-few : goal.returns-in-Some-clause-few
returns-in-Some-clause-few c = tags_few c.args.net.now c.keeps_rules.ensures
