use Rattle.std.proofs.Common.{◌≡◌, ◌+◌, ◌*◌, ◌≤◌, length, take, sum_by}
use Rattle.two_phase.proofs.CountedLaws.{at_host, ports_of}
use Rattle.two_phase.proofs.needs.count_ingress.Given as goal

abbrev pub invariant-loop-stop : goal.invariant-loop-stop
invariant-loop-stop l = record {
  sum : l.count ≡ sum_by (at_host l.net l.s l.rules) (ports_of l.s (take l.stop-index l.stop-items)) + length (ports_of l.s (take l.stop-index l.stop-items));
  few : l.count ≤ length (ports_of l.s (take l.stop-index l.stop-items)) * (1 + 64 * 8192);
}
