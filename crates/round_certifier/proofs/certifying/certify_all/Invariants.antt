use Rattle.certificates.specs.Updates.{rollout}
use Rattle.round_tables.specs.PreparedTables.{HasTableRoom, StandsBefore}
use Rattle.round_certifier.specs.Standing.{IsCertifiedTo}
use Rattle.round_certifier.proofs.certifying.certify_all.Given as goal

abbrev pub invariant-loop-k : goal.invariant-loop-k
invariant-loop-k l = record {
  room : HasTableRoom (rollout l.case.task) l.tables;
  tables : StandsBefore (rollout l.case.task) l.k l.tables;
  so_far : IsCertifiedTo l.case l.k l.so_far.store l.so_far.watch.came.items l.so_far.looked;
}
