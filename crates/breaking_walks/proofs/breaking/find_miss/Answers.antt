use Rattle.std.proofs.Common.{◌≡◌, ◌≤◌, length, subst, arith}
use Rattle.std.specs.Prelude.{Option, IfSome}
use Rattle.net_base.specs.Members.{IsIn}
use Rattle.net_base.proofs.ItemLaws.{in_from_get}
use Rattle.demands.specs.Duties.{PacketDuties, duties_of}
use Rattle.breaking_walks.specs.Rounds.{round_rollout}
use Rattle.breaking_walks.specs.declared.BreakingWalk.{BreakingWalk}
use Rattle.breaking_walks.specs.Broken.{IsBroken}
use Rattle.breaking_walks.proofs.BreakLaws.{none_unmet_all}
use Rattle.breaking_walks.proofs.breaking.find_miss.Goals as goal

pub returns-in-Some-clause-some : goal.returns-in-Some-clause-some
returns-in-Some-clause-some c =
    let u = round_rollout c.args.round in
    let k = c.args.round.number in
    let entry = c.args.numbered.class.entry in
    let dst = c.args.numbered.class.first in
    let chain = c.chain.result.now in
    let duties = duties_of c.args.duties.now.demands entry dst in
    let asked : IsIn chain duties.chains = in_from_get duties.chains c.loop-i.i chain (c.chain.ensures.chain c.args.numbered.class c.requires.class) in
    let broken : (d : PacketDuties) → IsIn chain d.chains → IsBroken u k dst entry d c.in-Some.walk.rest c.in-Some.walk.end =
    subst (λ (o : Option BreakingWalk). IfSome o (λ w. (d : PacketDuties) → IsIn chain d.chains → IsBroken u k dst entry d w.rest w.end)) c.in-Some.is c.in_ok-found.ensures.some in
    broken duties asked

pub returns-clause-none : goal.returns-clause-none
returns-clause-none c =
    let entry = c.args.numbered.class.entry in
    let dst = c.args.numbered.class.first in
    let duties = duties_of c.args.duties.now.demands entry dst in
    let count : c.chains-i-end.result ≡ length duties.chains = c.chains-i-end.ensures.count c.args.numbered.class c.requires.class in
    let all : length duties.chains ≤ c.loop-i.i = (let past = c.loop-i-test.false in omega arith) in
    none_unmet_all (round_rollout c.args.round) c.args.round.number dst entry duties c.loop-i.i all (c.loop-i.invariant)
