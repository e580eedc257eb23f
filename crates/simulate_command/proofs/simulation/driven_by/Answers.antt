use Rattle.std.proofs.Common.{◌≤◌, length, subst, arith, rules}
use Rattle.topology.specs.Networks.{IsNetwork}
use Rattle.simulate_command.specs.Simulations.{Names}
use Rattle.simulate_command.proofs.CourseLaws.{both, run_lines, run_as}
use Rattle.simulate_command.proofs.simulation.driven_by.Goals as goal

pub returns-clause-run : goal.returns-clause-run
returns-clause-run c =
    both c.drive_safely.result _ _ _ c.drive_safely.ensures.run c.drive_safely.ensures.ends (λ d run ends.
    let short : length d.events ≤ 4000000 = (let few = ends.short in omega arith) in
    run_as c.args.world c.requires.safely.begun c.requires.changes _ c.args.entries.now d.events d.world run short (Names c.args.start) (λ m k i step some count named. search rules))

pub returns-clause-lines : goal.returns-clause-lines
returns-clause-lines c =
    both c.drive_safely.result _ _ _ c.drive_safely.ensures.run c.drive_safely.ensures.ends (λ d run ends.
    let short : length d.events ≤ 4000000 = (let few = ends.short in omega arith) in
    run_lines c.args.world c.requires.safely.begun c.requires.changes _ c.args.entries.now d.events d.world run short (subst IsNetwork c.net.ensures c.keeps_rules.ensures))
