use Rattle.std.proofs.Common.{◌≡◌, take, length}
use Rattle.tag_allocator.specs.Tags.{available_tags}
use Rattle.tag_allocator.proofs.TagLaws.{firsts_worth}
use Rattle.tag_allocator.proofs.allot.Goals as goal

pub returns-clause-value : goal.returns-clause-value
returns-clause-value c =
    let first : c.truncate.new.self.items ≡ take (length c.args.net.now.vlans) (available_tags c.args.net.now) = cc (c.truncate.ensures.items, c.in_ok-tags.ensures.value, c.vlans-need.ensures) in
    (firsts_worth c.args.net.now _ first).0

pub returns-clause-available : goal.returns-clause-available
returns-clause-available c =
    let first : c.truncate.new.self.items ≡ take (length c.args.net.now.vlans) (available_tags c.args.net.now) = cc (c.truncate.ensures.items, c.in_ok-tags.ensures.value, c.vlans-need.ensures) in
    (firsts_worth c.args.net.now _ first).1

pub returns-clause-distinct : goal.returns-clause-distinct
returns-clause-distinct c =
    let first : c.truncate.new.self.items ≡ take (length c.args.net.now.vlans) (available_tags c.args.net.now) = cc (c.truncate.ensures.items, c.in_ok-tags.ensures.value, c.vlans-need.ensures) in
    (firsts_worth c.args.net.now _ first).2
