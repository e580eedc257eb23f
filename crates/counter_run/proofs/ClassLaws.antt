-- Whether a class breaks in a round, by what is known of the round and of those before it.
use Rattle.std.proofs.Common.{◌≡◌, ℕ, zero, suc, ◌+◌, ◌<◌, false, List, length, sym, ◌∙◌, subst, ap, inl, inr, arith}
use Rattle.std.proofs.lemmas.Bool.{cases_lt}
use Rattle.net_base.specs.declared.ids.Place.{Place}
use Rattle.net_base.specs.declared.ids.Stop.{Stop}
use Rattle.net_base.specs.Places.{stop_of}
use Rattle.net_base.proofs.MemberLaws.{each_at, in_append_left}
use Rattle.topology.specs.Networks.{Network, IsNetwork, IsEntry, IsPortNumber, switch_count, used_ports}
use Rattle.dest_classes.specs.Classes.{ClassList, IsClass, classes_of}
use Rattle.dest_classes.specs.declared.Class.{Class}
use Rattle.dest_classes.proofs.EntryLaws.{class_entry}
use Rattle.demands.specs.Duties.{DemandView, duties_of}
use Rattle.update_model.specs.Changes.{round_after}
use Rattle.update_model.specs.Mixtures.{Rollout, AreGoodRounds, AreClearRounds}
use Rattle.check_reasons.specs.Touched.{touches}
use Rattle.counter_run.specs.Explaining.{ClassBreaks, NoneBreaks}
use Rattle.counter_run.proofs.TouchLaws.{has_before}

-- a class whose address no change covers breaks only if it does in the round before
pub class_unchanged : (u : Rollout) → AreGoodRounds u → AreClearRounds u → (demands : List DemandView) (k : ℕ) (class : Class) → k < length u.rounds → 0 < k
    → touches (round_after k u.rounds) class.first ≡ false → ((j : ℕ) → j < k → ¬ ClassBreaks u demands j class) → ¬ ClassBreaks u demands k class
class_unchanged u good clear demands zero class less some off before breaks = absurd (omega arith)
class_unchanged u good clear demands (suc j) class less some off before breaks =
    before j (omega arith) (has_before u good clear j class.first less off class.entry (duties_of demands class.entry class.first) breaks)

-- an entry is at a switch of the network
pub entry_within : (net : Network) → IsNetwork net → (place : Place) → IsEntry net place → place.switch.0 < switch_count net
entry_within net valid place entry =
    (each_at (λ (stop : Stop). (stop.switch.0 < switch_count net) × IsPortNumber stop.port.0) (used_ports net) (stop_of place) valid.ports
    (in_append_left (stop_of place) net.hosts _ entry.host)).0

-- a class of the network's host ports and VLANs enters at an entry
pub class_enters : (net : Network) (classes : ClassList) → classes.hosts ≡ net.hosts → classes.vlans ≡ net.vlans → (n : ℕ) (class : Class) → IsClass classes n class → IsEntry net class.entry
class_enters net classes hosts vlans n class is =
    class_entry net classes.prefixes n class (subst (λ (c : ClassList). IsClass c n class) same is)
  where
    same : classes ≡ classes_of net classes.prefixes
    same = ap (λ h. let c : ClassList = record { hosts = h; vlans = classes.vlans; prefixes = classes.prefixes } in c) hosts
        ∙ ap (λ v. let c : ClassList = record { hosts = net.hosts; vlans = v; prefixes = classes.prefixes } in c) vlans

-- one more class that doesn't break
pub classes_more : (u : Rollout) (classes : ClassList) (demands : List DemandView) (k number : ℕ)
    → ((n : ℕ) (class : Class) → n < number → IsClass classes n class → ¬ ClassBreaks u demands k class) → ((class : Class) → IsClass classes number class → ¬ ClassBreaks u demands k class)
    → (n : ℕ) (class : Class) → n < number + 1 → IsClass classes n class → ¬ ClassBreaks u demands k class
classes_more u classes demands k number before here n class less is =
    elim (cases_lt n number) [
      | inl lower ↦ before n class lower is
      | inr more ↦ (let e : n ≡ number = omega arith in here class (subst (λ (m : ℕ). IsClass classes m class) e is))
    ]

-- one more round in which none breaks
pub rounds_more : (u : Rollout) (classes : ClassList) (demands : List DemandView) (number : ℕ) → ((k : ℕ) → k < number → NoneBreaks u classes demands k) → NoneBreaks u classes demands number
    → (k : ℕ) → k < number + 1 → NoneBreaks u classes demands k
rounds_more u classes demands number before none k less =
    elim (cases_lt k number) [
      | inl lower ↦ before k lower
      | inr more ↦ (let e : k ≡ number = omega arith in subst (NoneBreaks u classes demands) (sym e) none)
    ]
