use Rattle.openflow10.proofs.MatchLaws.{match_passes}
use Rattle.openflow10.proofs.ofp_match.MatchFields.pattern.Goals as goal

pub prefix_of-requires : goal.prefix_of-requires
prefix_of-requires c =
    let written = match_passes c.args.self.now c.requires in
    rw c.ignored_bits.ensures.value (record { few = written.few; aligned = written.address })
