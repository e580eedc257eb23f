-- A port and a switch are their numbers.
use Rattle.std.proofs.Common.{◌≡◌, ℕ, ap}
use Rattle.net_base.specs.declared.ids.SwitchId.{SwitchId}
use Rattle.net_base.specs.declared.ids.Port.{Port}

pub same_port : (p q : Port) → p.0 ≡ q.0 → p ≡ q
same_port p q e = ap (λ (n : ℕ). let x : Port = record { 0 = n } in x) e

pub same_switch : (p q : SwitchId) → p.0 ≡ q.0 → p ≡ q
same_switch p q e = ap (λ (n : ℕ). let x : SwitchId = record { 0 = n } in x) e
