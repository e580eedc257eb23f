use Rattle.std.proofs.Common.{◌≡◌, List, ◌++◌, length, sym, ap, ◌∙◌, subst}
use Rattle.round_messages.specs.Requests.{switches_changed}
use Rattle.turned_rounds.specs.Batches.{xid_behind, change_messages, barrier_messages, batch_of, AreToSwitches}
use Rattle.turned_rounds.specs.declared.outgoing.Outgoing.{Outgoing}
use Rattle.turned_rounds.proofs.BatchLaws.{batch_within, batch_xid}
use Rattle.turned_rounds.proofs.batches.round_batch.Goals as goal

pub returns-clause-within : goal.returns-clause-within
returns-clause-within c =
    let net = c.args.net.now in
    let round = c.args.round.now in
    let changes = c.in_ok-put_changes.ensures in
    let barriers = c.in_ok-put_barriers.ensures in
    let first : c.put_changes.new.self.list.items ≡ change_messages c.args.xid round = changes.list ∙ ap (λ (l : List Outgoing). l ++ change_messages c.args.xid round) c.new.ensures.items in
    let list : c.put_barriers.new.self.list.items ≡ batch_of net c.args.xid round =
    barriers.list ∙ ap (λ (l : List Outgoing). l ++ barrier_messages c.put_changes.new.self.xid (switches_changed net round)) first
    ∙ ap (λ x. change_messages c.args.xid round ++ barrier_messages x (switches_changed net round)) changes.xid in
    subst (AreToSwitches net) (sym list) (batch_within net c.args.xid round c.requires)

pub returns-clause-xid : goal.returns-clause-xid
returns-clause-xid c =
    let switches = switches_changed c.args.net.now c.args.round.now in
    c.in_ok-put_barriers.ensures.xid ∙ ap (λ x. xid_behind x (length switches)) c.in_ok-put_changes.ensures.xid ∙ sym (batch_xid c.args.net.now c.args.xid c.args.round.now)
