-- A worked run: the net of four switches, two rounds of one change, two packets.
use Rattle.std.proofs.Common.{◌≡◌, ℕ, List, [], ◌∷◌, refl, inl, lit<}
use Rattle.std.specs.Prelude.{false, None}
use Rattle.net_base.specs.declared.ids.Port.{Port}
use Rattle.net_base.specs.declared.ids.SwitchId.{SwitchId}
use Rattle.net_base.specs.declared.ids.Stop.{Stop}
use Rattle.net_base.specs.declared.ids.Place.{Place}
use Rattle.net_base.specs.declared.ids.Vlan.TheVariants as vlan
use Rattle.topology.specs.Networks.{Network}
use Rattle.topology.specs.declared.net.Link.{Link}
use Rattle.flow_rules.specs.declared.rules.VlanTest.TheVariants as test
use Rattle.flow_rules.specs.declared.rules.Rewrite.TheVariants.{Keep}
use Rattle.flow_rules.specs.declared.rules.Action.TheVariants as action
use Rattle.flow_rules.specs.declared.rules.Rule.{Rule}
use Rattle.path_walk.specs.declared.Ended.TheVariants.{UnderWay, Left, Dropped}
use Rattle.update_model.specs.Mixtures.{Rollout}
use Rattle.update_model.specs.Runs.{IsRun, state_after_run}
use Rattle.update_model.specs.declared.Change.TheVariants.{Replace}
use Rattle.update_model.specs.declared.Phase.TheVariants.{Settled}
use Rattle.update_model.specs.declared.Event.{Event}
use Rattle.update_model.specs.declared.Event.TheVariants as event

abbrev sw : ℕ → SwitchId
sw n = record { 0 = n }

abbrev stop : ℕ → ℕ → Stop
stop s p = record { switch = sw s; port = record { 0 = p } }

abbrev link : ℕ → ℕ → ℕ → ℕ → Link
link s p t q = record { one = stop s p; other = stop t q }

abbrev to : ℕ → Rule
to n = record { key = record { priority = 100; pattern = record { in_port = None; vlan = test.Any; dst = record { base = 167772160; len = 24 } } }; action = action.Out (record { 0 = n }) Keep }

abbrev place : ℕ → ℕ → Place
place s p = record { switch = sw s; port = record { 0 = p }; vlan = vlan.Untagged }

-- switches s1 to s4
abbrev net_S : Network
net_S = record {
  names = (49 ∷ []) ∷ (50 ∷ []) ∷ (51 ∷ []) ∷ (52 ∷ []) ∷ [];
  capacities = 8 ∷ 8 ∷ 8 ∷ 8 ∷ [];
  links = link 0 2 1 1 ∷ link 1 2 2 1 ∷ link 2 2 3 1 ∷ link 0 3 2 3 ∷ link 0 4 3 2 ∷ [];
  hosts = stop 0 1 ∷ stop 1 3 ∷ stop 2 4 ∷ stop 3 3 ∷ [];
  vlans = vlan.Untagged ∷ [];
  tags = None;
  wide = false;
}

abbrev two_rounds : Rollout
two_rounds = record {
  net = net_S;
  old = (to 2 ∷ []) ∷ (to 2 ∷ []) ∷ (to 2 ∷ []) ∷ (to 3 ∷ []) ∷ [];
  rounds = (Replace (sw 0) (to 4) ∷ []) ∷ (Replace (sw 2) (to 3) ∷ []) ∷ [];
}

abbrev eleven : List Event
eleven =
    event.Start ∷ event.Enter (place 0 1) 0 ∷ event.Hop 0 ∷ event.Enter (place 0 1) 167772160 ∷ event.Change 0 ∷ event.Hop 1 ∷ event.Settle ∷ event.Hop 1
    ∷ event.Start ∷ event.Change 0 ∷ event.Settle ∷ []

-- the first packet is dropped at once; the second takes the way of the new tables
both_packets : (state_after_run two_rounds eleven).packets ≡
    record { entry = place 0 1; dst = 0; at = place 0 1; born = 0; visits = stop 0 1 ∷ []; ended = Dropped (sw 0) }
    ∷ record { entry = place 0 1; dst = 167772160; at = place 3 2; born = 0; visits = stop 0 1 ∷ stop 3 2 ∷ []; ended = Left (sw 3) (record { 0 = 3 }) vlan.Untagged } ∷ []
both_packets = refl

two_settled : (state_after_run two_rounds eleven).phase ≡ Settled 2
two_settled = refl

dropped_ended : (s : SwitchId) → Dropped s ≡ UnderWay → ⊥
dropped_ended s e = cc

left_ended : (s : SwitchId) (p : Port) → Left s p vlan.Untagged ≡ UnderWay → ⊥
left_ended s p e = cc

is_run : IsRun two_rounds eleven
is_run = (
  record { k = 0; settled = refl; more = lit< tt; none_older = tt },
  (
    (record { host = inl refl; declared = inl refl }, lit< tt),
    (
      (record { entry = place 0 1; dst = 0; at = place 0 1; born = 0; visits = stop 0 1 ∷ []; ended = UnderWay }, refl, refl),
      (
        (record { host = inl refl; declared = inl refl }, lit< tt),
        (
          record { k = 0; running = refl; change = Replace (sw 0) (to 4); is = refl; pending = refl; applies = (lit< tt, inl refl) },
          (
            (record { entry = place 0 1; dst = 167772160; at = place 0 1; born = 0; visits = stop 0 1 ∷ []; ended = UnderWay }, refl, refl),
            (
              record { k = 1; running = refl; none_pending = (refl, tt) },
              (
                (record { entry = place 0 1; dst = 167772160; at = place 3 2; born = 0; visits = stop 0 1 ∷ stop 3 2 ∷ []; ended = UnderWay }, refl, refl),
                (
                  record { k = 1; settled = refl; more = lit< tt; none_older = ((λ e. absurd (dropped_ended _ e)), ((λ e. absurd (left_ended _ _ e)), tt)) },
                  (
                    record { k = 1; running = refl; change = Replace (sw 2) (to 3); is = refl; pending = refl; applies = (lit< tt, inl refl) },
                    (record { k = 2; running = refl; none_pending = (refl, tt) }, tt),
                  ),
                ),
              ),
            ),
          ),
        ),
      ),
    ),
  ),
)
