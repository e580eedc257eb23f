-- Where a round changes no rule for a packet, the possible outcomes are those of the tables before it.
use Rattle.std.proofs.Common.{◌≡◌, ◌↔◌, ◌&&◌, ℕ, Bool, true, false, List, [], map, ◌∙◌, subst, ap, inl, inr}
use Rattle.std.specs.Prelude.{◌==◌}
use Rattle.std.specs.List.{AllByRecursion}
use Rattle.std.proofs.lemmas.Bool.{both_ways, and_parts, cases_Bool}
use Rattle.net_base.specs.Blocks.{in_block}
use Rattle.net_base.specs.Members.{IsIn, IsSameSet, IsDistinct}
use Rattle.net_base.proofs.MemberLaws.{in_filter, in_from_filter, in_from_map, in_from_subsequence, each_at, each_from_in}
use Rattle.net_base.specs.declared.ids.SwitchId.{SwitchId}
use Rattle.net_base.specs.declared.ids.Place.{Place}
use Rattle.flow_rules.specs.Patterns.{covers, admits_port, admits_vlan}
use Rattle.flow_rules.specs.Tables.{IsClear, rules_at, covering_rules}
use Rattle.flow_rules.specs.declared.rules.Rule.{Rule}
use Rattle.flow_rules.proofs.LookupLaws.{lookup_by_set}
use Rattle.path_walk.specs.Outcomes.{action_outcome, header_at}
use Rattle.path_walk.specs.Paths.{outcome_in}
use Rattle.path_walk.specs.declared.Outcome.{Outcome}
use Rattle.update_model.specs.Changes.{switch_of, rule_of, AppliesTo, IsGoodRound, changes_at, round_after}
use Rattle.update_model.specs.Mixtures.{Rollout, tables_before, IsPossible, MayHold}
use Rattle.update_model.proofs.Matches.{Writes}
use Rattle.update_model.specs.declared.Change.{Change}
use Rattle.update_model.specs.declared.Change.TheVariants.{Insert, Delete, Replace}
use Rattle.update_model.proofs.ChangeLaws.{key_named, stands_all_from_in, in_from_stands_all}
use Rattle.update_model.proofs.MadeLaws.{distinct_some, keys_distinct, apply_there, each_some}

writes_rule : (r : Rule) (c : Change) → Writes r c → r ≡ rule_of c
writes_rule r (Insert s q) w = w
writes_rule r (Delete s q) w = absurd w
writes_rule r (Replace s q) w = w

-- no change at the place's switch covers a packet to the address there
abbrev pub NoneCovers : Rollout → ℕ → ℕ → Place → Type 0
NoneCovers u k dst place = AllByRecursion (λ c. covers (rule_of c).key.pattern (header_at place dst) ≡ false) (changes_at place.switch (round_after k u.rounds))

module _ (u : Rollout) (k dst : ℕ) (good : IsGoodRound (tables_before u k) (round_after k u.rounds)) (clear : (s : SwitchId) (mixed : List Rule) → MayHold u k s mixed → IsClear mixed)
    (place : Place) (untouched : NoneCovers u k dst place) where
  -- the round at the place's switch, and the table there before it
  abbrev here : List Change
  here = changes_at place.switch (round_after k u.rounds)

  abbrev before : List Rule
  before = rules_at (tables_before u k) place.switch

  -- a rule that covers the packet isn't named by the round
  not_named : (r : Rule) (c : Change) → IsIn c here → covers r.key.pattern (header_at place dst) ≡ true → ¬ (r.key ≡ key_named c)
  not_named r c i covered same =
      let off = each_at (λ d. covers (rule_of d).key.pattern (header_at place dst) ≡ false) here c untouched i in
      both_ways (covers (rule_of c).key.pattern (header_at place dst)) off (subst (λ x. covers x.pattern (header_at place dst) ≡ true) same covered)

  module _ (mixed : List Rule) (held : MayHold u k place.switch mixed) where
    applies : AllByRecursion (AppliesTo before) held.made
    applies = each_some (AppliesTo before) held.made here held.some (apply_there (tables_before u k) place.switch (round_after k u.rounds) good.applies)

    distinct : IsDistinct (map key_named held.made)
    distinct = distinct_some key_named held.made here held.some (keys_distinct place.switch (round_after k u.rounds) good.distinct)

    same_covering : IsSameSet (covering_rules (header_at place dst) mixed) (covering_rules (header_at place dst) before)
    same_covering r = (
      λ i.
          let (j, covered) = in_from_filter (λ q. covers q.key.pattern (header_at place dst)) r mixed i in
          elim (stands_all_from_in before held.made r applies distinct ((held.same r).0 j)) [
            | inl h ↦ in_filter (λ q. covers q.key.pattern (header_at place dst)) r before h.0 covered
            | inr w ↦ absurd (not_named r w.0 (in_from_subsequence w.0 held.made here held.some w.1) covered (ap (λ q. q.key) (writes_rule r w.0 w.2)))
          ],
      λ i.
          let (j, covered) = in_from_filter (λ q. covers q.key.pattern (header_at place dst)) r before i in
          in_filter (λ q. covers q.key.pattern (header_at place dst)) r mixed
          ((held.same r).1 (in_from_stands_all before held.made r applies distinct (inl (
            j,
            λ n.
                let (c, m, e) = in_from_map key_named r.key held.made n in
                not_named r c (in_from_subsequence c held.made here held.some m) covered e,
          )))) covered,
    )

  -- the table before the round is a mixture
  unchanged_held : MayHold u k place.switch before
  unchanged_held = record { made = []; some = tt; same = λ r. (λ i. i, λ i. i) }

  -- so only the outcome in the tables before the round is possible there
  pub unchanged_at : (found : Outcome) → IsPossible u k dst place found ↔ (found ≡ outcome_in u.net (tables_before u k) place dst)
  unchanged_at found = (
    λ possible. possible.is ∙ ap (action_outcome u.net place)
        (lookup_by_set (header_at place dst) possible.mixed before (clear place.switch possible.mixed possible.held) (clear place.switch before unchanged_held)
        (same_covering possible.mixed possible.held)),
    λ e. record { mixed = before; held = unchanged_held; is = e },
  )

-- so it is everywhere where no change's prefix holds the address
module _ (u : Rollout) (k dst : ℕ) (good : IsGoodRound (tables_before u k) (round_after k u.rounds)) (clear : (s : SwitchId) (mixed : List Rule) → MayHold u k s mixed → IsClear mixed)
    (untouched : AllByRecursion (λ c. in_block (rule_of c).key.pattern.dst dst ≡ false) (round_after k u.rounds)) (place : Place) where
  abbrev covers_here : Change → Bool
  covers_here c = covers (rule_of c).key.pattern (header_at place dst)

  not_covered : (c : Change) → IsIn c (changes_at place.switch (round_after k u.rounds)) → covers_here c ≡ false
  not_covered c i =
      let p = (rule_of c).key.pattern in
      let in_round = in_from_filter (λ d. (switch_of d).0 == place.switch.0) c (round_after k u.rounds) i in
      let off = each_at (λ d. in_block (rule_of d).key.pattern.dst dst ≡ false) (round_after k u.rounds) c untouched in_round.0 in
      elim (cases_Bool (covers_here c)) [
        | inl on ↦ absurd (both_ways (in_block p.dst dst) off (and_parts (admits_port p.in_port place.port && admits_vlan p.vlan place.vlan) (in_block p.dst dst) on).1)
        | inr none ↦ none
      ]

  pub unchanged : (found : Outcome) → IsPossible u k dst place found ↔ (found ≡ outcome_in u.net (tables_before u k) place dst)
  unchanged = unchanged_at u k dst good clear place (each_from_in (λ c. covers_here c ≡ false) (changes_at place.switch (round_after k u.rounds)) not_covered)
