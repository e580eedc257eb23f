use Rattle.std.proofs.Common.{◌≡◌, take}
use Rattle.std.specs.Prelude.{flat_map}
use Rattle.tag_allocator.specs.Tags.{tags_of}
use Rattle.two_phase.proofs.LabelLaws.{both_of}
use Rattle.two_phase.proofs.labels.list_labels.Given as goal

abbrev pub invariant-loop-i : goal.invariant-loop-i
invariant-loop-i l = l.list.items ≡ flat_map (both_of l.net l.version) (take l.i (tags_of l.net))
