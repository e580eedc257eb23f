-- The two rounds can be turned.
use Rattle.std.proofs.Common.{◌≡◌, ℕ, zero, suc, ◌<◌, ◌≤◌, eqb, ◌||◌, Bool, true, false, refl, sym, subst, List, arith}
use Rattle.topology.specs.Networks.{Network, switch_count}
use Rattle.update_model.specs.Changes.{round_after}
use Rattle.update_model.specs.Ranges.{IsPlanChange}
use Rattle.update_model.specs.declared.Change.{Change}
use Rattle.update_model.specs.declared.Change.TheVariants.{Insert, Delete, Replace}
use Rattle.net_base.specs.declared.ids.SwitchId.{SwitchId}
use Rattle.round_messages.specs.Requests.{is_changed}
use Rattle.two_way_driver.specs.Calls.{AreTurnable}
use Rattle.two_way_tests.specs.Fixture.{rule_out, switch, two_rounds, two_inverses}

module _ (net : Network) (two : switch_count net ≡ 2) where
  inserted : (n port : ℕ) → n < 2 → 1 ≤ port → port ≤ 2 → IsPlanChange net (Insert (switch n) (rule_out port))
  inserted n port less some few = record { switch = omega arith; priority = omega arith; priority_most = omega arith; port = tt; vlan = tt; dst = record { length = omega arith; base = omega arith; aligned = refl }; action = ((omega arith, omega arith), tt) }

  deleted : (n port : ℕ) → n < 2 → 1 ≤ port → port ≤ 2 → IsPlanChange net (Delete (switch n) (rule_out port))
  deleted n port less some few = record { switch = omega arith; priority = omega arith; priority_most = omega arith; port = tt; vlan = tt; dst = record { length = omega arith; base = omega arith; aligned = refl }; action = ((omega arith, omega arith), tt) }

  replaced : (n port : ℕ) → n < 2 → 1 ≤ port → port ≤ 2 → IsPlanChange net (Replace (switch n) (rule_out port))
  replaced n port less some few = record { switch = omega arith; priority = omega arith; priority_most = omega arith; port = tt; vlan = tt; dst = record { length = omega arith; base = omega arith; aligned = refl }; action = ((omega arith, omega arith), tt) }

  either : (a b : Bool) → (a || (b || false)) ≡ (b || (a || false))
  either true true = refl
  either true false = refl
  either false true = refl
  either false false = refl

  same : (k : ℕ) (s : SwitchId) → is_changed (round_after k two_inverses) s ≡ is_changed (round_after k two_rounds) s
  same zero s = either (eqb 1 s.0) (eqb 0 s.0)
  same (suc zero) s = refl
  same (suc (suc k)) s = refl

  are_turnable : AreTurnable net two_rounds two_inverses
  are_turnable = record {
    few = omega arith;
    plan = ((inserted 0 2 (omega arith) (omega arith) (omega arith), (inserted 1 1 (omega arith) (omega arith) (omega arith), tt)), ((replaced 0 1 (omega arith) (omega arith) (omega arith), tt), tt));
    count = refl;
    back_plan = ((deleted 1 1 (omega arith) (omega arith) (omega arith), (deleted 0 2 (omega arith) (omega arith) (omega arith), tt)), ((replaced 0 2 (omega arith) (omega arith) (omega arith), tt), tt));
    same = same;
  }

pub turnable : (net : Network) (rounds inverses : List (List Change)) → switch_count net ≡ 2 → rounds ≡ two_rounds → inverses ≡ two_inverses → AreTurnable net rounds inverses
turnable net rounds inverses two a b = subst (λ x. AreTurnable net x inverses) (sym a) (subst (AreTurnable net two_rounds) (sym b) (are_turnable net two))
