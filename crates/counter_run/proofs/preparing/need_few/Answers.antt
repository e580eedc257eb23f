use Rattle.std.proofs.Common.{◌<◌, ◌≤◌, subst}
use Rattle.net_base.specs.declared.ids.SwitchId.{SwitchId}
use Rattle.topology.specs.Networks.{switch_count}
use Rattle.update_model.specs.Mixtures.{Rollout, need_of}
use Rattle.counter_run.specs.Updates.{rollout_of}
use Rattle.round_tables.proofs.SoundLaws.{are_loaded}
use Rattle.counter_run.proofs.PrepareLaws.{count_old}
use Rattle.counter_run.proofs.preparing.need_few.Goals as goal

pub returns : goal.returns
returns c on =
    let u = rollout_of c.args.update in
    let k = c.args.k in
    let few : (s : SwitchId) → s.0 < switch_count u.net → need_of u k s ≤ 8192 =
    subst (λ (v : Rollout). (s : SwitchId) → s.0 < switch_count v.net → need_of v k s ≤ 8192) c.rollout.ensures (c.need_at_most.ensures.0 on) in
    are_loaded u k c.args.tables.now c.requires.prepared (count_old c.args.update c.requires.classed) few
