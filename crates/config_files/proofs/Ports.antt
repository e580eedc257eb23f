-- Used ports by their numbers.
use Rattle.std.proofs.Common.{◌≡◌, ℕ, ◌<◌, true, false, length, sym, subst, arith}
use Rattle.std.proofs.lemmas.Bool.{false_from_ne_true}
use Rattle.net_base.specs.Members.{IsIn}
use Rattle.net_base.specs.declared.ids.SwitchId.{SwitchId}
use Rattle.net_base.specs.declared.ids.Stop.{Stop}
use Rattle.net_base.proofs.ListLaws.{in_from_any}
use Rattle.net_base.proofs.MemberLaws.{each_at}
use Rattle.topology.specs.Networks.{Network, IsNetwork, IsUsed, IsPortNumber, is_used, used_ports, stop_eq}
use Rattle.topology.proofs.LinkLaws.{stop_eq-true}

pub used_shown : (net : Network) (stop : Stop) → is_used net stop ≡ true → IsUsed net stop
used_shown net stop e =
    let (x, i, same) = in_from_any (stop_eq stop) (used_ports net) e in
    subst (λ y. IsIn y (used_ports net)) (sym (stop_eq-true stop x same)) i

-- no used port has a number above the greatest
pub great_unused : (net : Network) (s : SwitchId) (n : ℕ) → IsNetwork net → 65279 < n → is_used net (record { switch = s; port = record { 0 = n } }) ≡ false
great_unused net s n kept great =
    let stop : Stop = record { switch = s; port = record { 0 = n } } in
    false_from_ne_true (is_used net stop) (λ e.
    let ports = each_at (λ (t : Stop). (t.switch.0 < length net.names) × IsPortNumber t.port.0) (used_ports net) stop kept.ports (used_shown net stop e) in
    let high = ports.1.1 in
    omega arith)
