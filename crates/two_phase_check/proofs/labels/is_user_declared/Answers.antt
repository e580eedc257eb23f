use Rattle.std.proofs.Common.{sym}
use Rattle.topology.specs.Networks.{vlan_eq}
use Rattle.topology.proofs.EntryLaws.{vlan_eq-true, vlan_eq-refl}
use Rattle.two_phase_check.proofs.AgreeLaws.{any_is_in}
use Rattle.two_phase_check.proofs.labels.is_user_declared.Goals as goal

pub returns : goal.returns
returns c =
    any_is_in (vlan_eq c.args.label.user) c.args.label.user c.args.net.now.vlans c.is_declared.result c.is_declared.ensures (λ y e. sym (vlan_eq-true c.args.label.user y e)) (vlan_eq-refl c.args.label.user)
