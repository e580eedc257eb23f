-- Why declared VLANs get no tags.
use Rattle.std.specs.Prelude.{◌≡◌, ◌<◌, length}
use Rattle.topology.specs.Networks.{Network}
use Rattle.tag_allocator.specs.Tags.{available_tags}
use Rattle.tag_allocator.specs.declared.TagFault.{TagFault}
use Rattle.tag_allocator.specs.declared.TagFault.TheVariants.{TooFew, Memory}

-- more VLANs are declared than tags are available, with both numbers
abbrev pub IsTagCause : Network → TagFault → Type 0
IsTagCause net (TooFew need has) = (need ≡ length net.vlans) × (has ≡ length (available_tags net)) × (has < need)
IsTagCause net Memory = Unit {0}
