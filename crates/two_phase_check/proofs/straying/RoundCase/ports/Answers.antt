use Rattle.std.proofs.Common.{length, ap, arith}
use Rattle.dest_classes.proofs.MapLaws.{few_hosts}
use Rattle.two_phase_check.proofs.straying.RoundCase.ports.Goals as goal

pub overflow_cast-result : goal.overflow_cast-result
overflow_cast-result c =
    let few = few_hosts c.case.inside.net.now c.keeps_rules.ensures in
    let same = ap length c.hosts.ensures in
    omega arith
