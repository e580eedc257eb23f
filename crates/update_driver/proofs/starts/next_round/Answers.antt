use Rattle.std.proofs.Common.{◌≡◌, ◌≤◌, length, sym, subst, ◌∙◌}
use Rattle.std.specs.Prelude.{Some, None}
use Rattle.update_driver.specs.Inside.{IsPhaseWithin}
use Rattle.update_driver.proofs.StartLaws.{start_is, less_from}
use Rattle.update_driver.proofs.starts.next_round.Goals as goal

pub returns-in-Some-clause-refused : goal.returns-in-Some-clause-refused
returns-in-Some-clause-refused c = λ log.
    start_is c.args.net.now c.args.rounds.now c.args.channels.now c.args.phase c.in-Settled.k c.in-Settled.is (λ e. c.if-k-count.false (e ∙ sym c.count.ensures)) c.round-round.result.now c.round-round.ensures c.changed_switches.result
    c.changed_switches.ensures c.requires.switches log (Some c.in-Some.switch) c.in-Some.ensures

pub returns-in-None-clause-ok : goal.returns-in-None-clause-ok
returns-in-None-clause-ok c =
    let differs : c.in-Settled.k ≡ length c.args.rounds.now → ⊥ = λ e. c.if-k-count.false (e ∙ sym c.count.ensures) in
    let within : c.in-Settled.k ≤ length c.args.rounds.now = subst (IsPhaseWithin c.args.rounds.now) c.in-Settled.is c.requires.within in
    record {
      k = c.in-Settled.k;
      settled = c.in-Settled.is;
      more = less_from c.in-Settled.k (length c.args.rounds.now) within differs;
      round_is = c.round-round.ensures;
      no_fault = λ log.
          start_is c.args.net.now c.args.rounds.now c.args.channels.now c.args.phase c.in-Settled.k c.in-Settled.is differs c.round-round.result.now c.round-round.ensures c.changed_switches.result
          c.changed_switches.ensures c.requires.switches log None c.in-None.ensures;
    }
