use Rattle.std.proofs.Common.{◌∙◌, not}
use Rattle.std.specs.List.{list_any}
use Rattle.tag_allocator.specs.Tags.{has_id}
use Rattle.tag_allocator.proofs.TagLaws.{one_more}
use Rattle.tag_allocator.proofs.free_ids.Goals as goal

pub loop-id-preserved : goal.loop-id-preserved
loop-id-preserved c =
    c.in_ok-add_free.ensures ∙ one_more (λ n. not (list_any (has_id n) c.args.net.now.vlans)) c.args.first c.loop-id.id c.loop-id.tags.items c.loop-id.auto.id c.loop-id.invariant
