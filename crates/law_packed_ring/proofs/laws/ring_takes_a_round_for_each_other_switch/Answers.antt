use Rattle.law_packed_trees.proofs.NeverStuck.{never_stuck}
use Rattle.command_base.specs.Updates.{meaning_of}
use Rattle.ring_sample.proofs.Tree.{ring_task}
use Rattle.law_packed_ring.proofs.RingRead.{read_ring}
use Rattle.law_packed_ring.proofs.RingRounds.{ring_rounds}
use Rattle.law_packed_ring.proofs.laws.ring_takes_a_round_for_each_other_switch.Goals as goal

pub returns-clause-rounds : goal.returns-clause-rounds
returns-clause-rounds c =
    ring_rounds c.args.size.switches c.args.size.least
    (read_ring c.args.size.switches c.args.size.least (meaning_of c.args.update.now) c.requires.meaning c.keeps_rules.ensures c.requires.old_user c.requires.new_user)

pub returns-clause-stuck : goal.returns-clause-stuck
returns-clause-stuck c =
    never_stuck (ring_task c.args.size.switches)
    (read_ring c.args.size.switches c.args.size.least (meaning_of c.args.update.now) c.requires.meaning c.keeps_rules.ensures c.requires.old_user c.requires.new_user)
