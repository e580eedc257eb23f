use Rattle.std.proofs.Common.{◌≡◌, Bool, length, List, ap, ◌∙◌, arith}
use Rattle.net_base.specs.declared.ids.SwitchId.{SwitchId}
use Rattle.demands.specs.Duties.{duties_of, PacketDuties, DemandView}
use Rattle.demands.proofs.RowLaws.{few_chains, arrive_is}
use Rattle.demands.proofs.stored.duty_of.Goals as goal

pub invariant_of-result : goal.invariant_of-result
invariant_of-result c =
    let e : length c.in_ok-chains.chains.items ≡ length (duties_of c.list-list.result.now c.args.class.entry c.args.class.first).chains = ap length c.in_ok-chains.ensures in
    let few = few_chains c.args.class.entry c.args.class.first c.list-list.result.now in
    let most = c.list-list.ensures.few in
    omega arith

pub returns : goal.returns
returns c =
    let list = c.list-list.result.now in
    ap (λ (cs : List (List SwitchId)). let x : PacketDuties = record { chains = cs; arrive = c.must_arrive-arrive.result } in x) c.in_ok-chains.ensures
    ∙ ap (λ (b : Bool). let x : PacketDuties = record { chains = (duties_of list c.args.class.entry c.args.class.first).chains; arrive = b } in x)
    (c.must_arrive-arrive.ensures ∙ arrive_is c.args.class.entry c.args.class.first list)
    ∙ ap (λ (ds : List DemandView). duties_of ds c.args.class.entry c.args.class.first) c.list-list.ensures.all
