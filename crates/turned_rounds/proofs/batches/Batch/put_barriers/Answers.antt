use Rattle.std.proofs.Common.{◌≡◌, ◌<◌, ◌++◌, cond, length, ap, ◌∙◌, arith}
use Rattle.std.specs.Prelude.{[], ◌∷◌}
use Rattle.round_messages.specs.Requests.{is_changed, switch_numbered}
use Rattle.turned_rounds.specs.Batches.{xid_behind, barrier_messages}
use Rattle.turned_rounds.proofs.BatchLaws.{barriers_step, barriers_xid, few_switches}
use Rattle.turned_rounds.proofs.batches.Batch.put_barriers.Goals as goal

pub changed_switches-changed-requires : goal.changed_switches-changed-requires
changed_switches-changed-requires c = few_switches c.args.net.now c.args.round.now c.keeps_rules.ensures.few c.requires

pub loop-number-preserved : goal.loop-number-preserved
loop-number-preserved c =
    let now = c.loop-number.self in
    let round = c.args.round.now in
    let n = c.loop-number.number in
    let m = c.switches-number-end.result in
    let lt : n < m = omega arith in
    let put = c.in_ok-put_if_changed.ensures in
    let same : c.has.result ≡ is_changed round (switch_numbered n) = c.has.ensures ∙ c.changed_switches-changed.ensures (switch_numbered n) in
    let list = put.list ∙ ap (λ t. now.list.items ++ barrier_messages now.xid (cond t (switch_numbered n ∷ []) [])) same in
    let xid = put.xid ∙ ap (λ t. xid_behind now.xid (length (cond t (switch_numbered n ∷ []) []))) same in
    record {
      list = barriers_step round n m lt now.list.items c.put_if_changed.new.self.list.items _ now.xid c.put_if_changed.new.self.xid list xid c.loop-number.invariant.list;
      xid = barriers_xid round n m lt now.xid c.put_if_changed.new.self.xid _ xid c.loop-number.invariant.xid;
    }
