use Rattle.std.proofs.Common.{◌≡◌, ◌-◌}
use Rattle.std.specs.Prelude.{filter, not}
use Rattle.std.specs.List.{list_any}
use Rattle.net_base.specs.Numbers.{numbers_from}
use Rattle.tag_allocator.specs.Tags.{has_id}
use Rattle.tag_allocator.proofs.free_ids.Given as goal

abbrev pub invariant-loop-id : goal.invariant-loop-id
invariant-loop-id l = l.tags.items ≡ filter (λ n. not (list_any (has_id n) l.net.vlans)) (numbers_from l.first (l.id - l.first))
