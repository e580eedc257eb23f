use Rattle.std.proofs.Common.{◌≡◌, take}
use Rattle.tag_allocator.specs.Tags.{tags_of}
use Rattle.two_phase.proofs.vlan_tags.vlan_tags.Given as goal

abbrev pub invariant-loop-i : goal.invariant-loop-i
invariant-loop-i l = l.pairs.items ≡ take l.i (tags_of l.net)
