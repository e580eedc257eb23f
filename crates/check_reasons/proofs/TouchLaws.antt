-- Packets that no change covers: what is possible there was possible in the round before.
use Rattle.std.proofs.Common.{◌≡◌, ◌&&◌, ℕ, suc, ◌<◌, Bool, false, IsTrue, List, [], ◌∷◌, length, sym, ◌∙◌, ap, subst, inl, inr, arith}
use Rattle.std.specs.Prelude.{◌||◌}
use Rattle.std.specs.List.{AllByRecursion}
use Rattle.std.proofs.lemmas.Bool.{cases_Bool, both_ways, and_parts, and_from}
use Rattle.net_base.specs.Blocks.{in_block}
use Rattle.net_base.specs.declared.ids.SwitchId.{SwitchId}
use Rattle.net_base.specs.declared.ids.Place.{Place}
use Rattle.net_base.specs.declared.ids.Vlan.{Vlan}
use Rattle.flow_rules.specs.Patterns.{covers, admits_port, admits_vlan}
use Rattle.flow_rules.specs.Tables.{IsClear}
use Rattle.flow_rules.specs.declared.rules.Rule.{Rule}
use Rattle.path_walk.specs.Outcomes.{header_at}
use Rattle.path_walk.specs.declared.Outcome.{Outcome}
use Rattle.dest_classes.specs.declared.Class.{Class}
use Rattle.update_model.specs.Changes.{rule_of, round_after, IsGoodRound}
use Rattle.update_model.specs.Mixtures.{Rollout, tables_before, MayHold, IsPossible}
use Rattle.update_model.specs.declared.Change.{Change}
use Rattle.certificates.proofs.Untouched.{unchanged}
use Rattle.check_reasons.specs.Touched.{touches, may_cover}
use Rattle.check_reasons.proofs.SameWalks.{possible_after}

abbrev Misses : ℕ → Change → Type 0
Misses dst c = in_block (rule_of c).key.pattern.dst dst ≡ false

-- no change covers the address
none_covers : (round : List Change) (dst : ℕ) → touches round dst ≡ false → AllByRecursion (Misses dst) round
none_covers [] dst off = tt
none_covers (c ∷ round) dst off =
    let covers = in_block (rule_of c).key.pattern.dst dst in
    elim (cases_Bool covers) [
      | inl on ↦ absurd (both_ways (covers || touches round dst) off (ap (λ (b : Bool). b || touches round dst) on))
      | inr none ↦ (none, none_covers round dst (sym (ap (λ (b : Bool). b || touches round dst) none) ∙ off))
    ]

-- after all changes of the round before
pub possible_before : (u : Rollout) (k dst : ℕ) → suc k < length u.rounds → IsGoodRound (tables_before u k) (round_after k u.rounds)
    → IsGoodRound (tables_before u (suc k)) (round_after (suc k) u.rounds) → ((s : SwitchId) (mixed : List Rule) → MayHold u (suc k) s mixed → IsClear mixed)
    → touches (round_after (suc k) u.rounds) dst ≡ false → (place : Place) (found : Outcome) → IsPossible u (suc k) dst place found → IsPossible u k dst place found
possible_before u k dst less good_before good clear off place found possible =
    possible_after u k dst (omega arith) good_before place found
    ((unchanged u (suc k) dst good clear (none_covers (round_after (suc k) u.rounds) dst off) place found).0 possible)

-- a change that can't cover packets of a class covers none of them
pub not_covered : (c : Change) (class : Class) (place : Place) → place.vlan ≡ class.entry.vlan → ¬ IsTrue (may_cover c class) → covers (rule_of c).key.pattern (header_at place class.first) ≡ false
not_covered c class place vlan_is off =
    elim (cases_Bool (covers (rule_of c).key.pattern (header_at place class.first))) [
      | inr none ↦ none
      | inl on ↦
          let p = (rule_of c).key.pattern in
          let (first, prefix) = and_parts (admits_port p.in_port place.port && admits_vlan p.vlan place.vlan) (in_block p.dst class.first) on in
          let vlan = (and_parts (admits_port p.in_port place.port) (admits_vlan p.vlan place.vlan) first).1 in
          absurd (off (and_from (in_block p.dst class.first) (admits_vlan p.vlan class.entry.vlan) prefix (subst (λ (x : Vlan). IsTrue (admits_vlan p.vlan x)) vlan_is vlan)))
    ]
