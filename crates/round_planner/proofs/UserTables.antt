-- Along a search the tables hold user rules of the old and the new configuration.
use Rattle.std.proofs.Common.{◌≡◌, ◌⊎◌, ℕ, zero, suc, ◌+◌, ◌<◌, true, false, cond, List, [], ◌∷◌, ◌++◌, length, map, get_or, refl, sym, ◌∙◌, subst, inl, inr, arith}
use Rattle.std.specs.Prelude.{◌==◌}
use Rattle.std.specs.List.{AllByRecursion}
use Rattle.std.proofs.lemmas.Bool.{eqb-true}
use Rattle.net_base.specs.Members.{IsIn}
use Rattle.net_base.proofs.MemberLaws.{each_at, in_map, in_append_left, in_append_right}
use Rattle.net_base.proofs.NameLaws.{same_switch}
use Rattle.net_base.specs.declared.ids.SwitchId.{SwitchId}
use Rattle.topology.specs.Networks.{Network, IsNetwork, switch_count}
use Rattle.flow_rules.specs.Tables.{rules_at, table_blocks}
use Rattle.flow_rules.specs.declared.rules.Rule.{Rule}
use Rattle.flow_rules.specs.declared.rules.Action.{Action}
use Rattle.flow_rules.specs.declared.rules.Action.TheVariants.{Discard, Out}
use Rattle.path_walk.specs.UserConfigs.{IsUserAction, IsUserRule, IsUserConfig}
use Rattle.update_model.specs.Changes.{switch_of, rule_of, AppliesTo, Applies, rules_after_change, tables_after, tables_after_change}
use Rattle.update_model.proofs.Matches.{Writes}
use Rattle.update_model.specs.Ranges.{IsPlanChange}
use Rattle.update_model.specs.Remaining.{remaining_changes}
use Rattle.update_model.specs.declared.Change.{Change}
use Rattle.update_model.specs.declared.Change.TheVariants.{Insert, Delete, Replace}
use Rattle.update_model.proofs.ChangeLaws.{stands_from_in, rules_at-after_change, length-tables_after}
use Rattle.update_model.proofs.DifferenceLaws.{IsDifference, difference_switch, remaining_is}
use Rattle.update_model.proofs.RemainingLaws.{AreUnique, unique_then, remaining_shortens}
use Rattle.law_plan_rules.proofs.UserRules.{change_plan, rule_plan}
use Rattle.certificates.specs.Certified.{KeepsVlan}
use Rattle.certificates.proofs.TreeTables.{unique_in_table}
use Rattle.table_difference.specs.Targets.{Target}
use Rattle.round_planner.specs.Search.{AreFirstQualifying}
use Rattle.round_planner.proofs.SearchLaws.{first_remains}

-- ---- user rules are rules of plans

-- a change of a user rule has its numbers in range
pub plan_change : (net : Network) → IsNetwork net → (c : Change) → (switch_of c).0 < switch_count net → IsUserRule net (switch_of c) (rule_of c) → IsPlanChange net c
plan_change net is_net c within user = change_plan net c within (rule_plan net is_net (switch_of c) (rule_of c) user)

pub keeps_user : (net : Network) (s : SwitchId) (a : Action) → IsUserAction net s a → KeepsVlan a
keeps_user net s Discard user = tt
keeps_user net s (Out port rewrite) user = user.1

-- ---- tables of user rules

module _ (to : Target) (old : List (List Rule)) where
  -- the prefix of a rule of the old or the new configuration
  abbrev pub IsKnown : Rule → Type 0
  IsKnown r = IsIn r.key.pattern.dst (table_blocks old ++ table_blocks to.new)

  -- one table per switch, each of user rules of distinct keys, with known prefixes
  pub record AreUserTables (tables : List (List Rule)) : Type 0 where
    pub count : length tables ≡ switch_count to.net
    pub rules : (s : SwitchId) (r : Rule) → IsIn r (rules_at tables s) → IsUserRule to.net s r
    pub known : (s : SwitchId) (r : Rule) → IsIn r (rules_at tables s) → IsKnown r
    pub unique : (s : SwitchId) → AreUnique (rules_at tables s)

  -- a change of a user rule with a known prefix, at a switch of the network
  pub record IsUserChange (c : Change) : Type 0 where
    pub within : (switch_of c).0 < switch_count to.net
    pub rule : IsUserRule to.net (switch_of c) (rule_of c)
    pub known : IsKnown (rule_of c)

  in_blocks : (tables : List (List Rule)) (n : ℕ) (r : Rule) → IsIn r (get_or tables n []) → IsIn r.key.pattern.dst (table_blocks tables)
  in_blocks [] n r i = absurd i
  in_blocks (rules ∷ tables) zero r i = in_append_left r.key.pattern.dst (map (λ x. x.key.pattern.dst) rules) (table_blocks tables) (in_map (λ x. x.key.pattern.dst) r rules i)
  in_blocks (rules ∷ tables) (suc n) r i = in_append_right r.key.pattern.dst (map (λ x. x.key.pattern.dst) rules) (table_blocks tables) (in_blocks tables n r i)

  module _ (new_user : IsUserConfig to.net to.new) where
    pub user_start : IsUserConfig to.net old → AreUserTables old
    user_start user = record {
      count = user.count;
      rules = λ s r i. each_at (IsUserRule to.net s) (rules_at old s) r (user.rules s) i;
      known = λ s r i. in_append_left r.key.pattern.dst (table_blocks old) (table_blocks to.new) (in_blocks old s.0 r i);
      unique = λ s. unique_in_table (rules_at old s) (user.distinct s);
    }

    new_unique : (s : SwitchId) → AreUnique (rules_at to.new s)
    new_unique s = unique_in_table (rules_at to.new s) (new_user.distinct s)

    -- a rule of the new configuration
    new_rule : (s : SwitchId) (r : Rule) → IsIn r (rules_at to.new s) → IsUserRule to.net s r × IsKnown r
    new_rule s r i = (each_at (IsUserRule to.net s) (rules_at to.new s) r (new_user.rules s) i, in_append_right r.key.pattern.dst (table_blocks old) (table_blocks to.new) (in_blocks to.new s.0 r i))

    module _ (tables : List (List Rule)) (user : AreUserTables tables) where
      rule_from : (s : SwitchId) (c : Change) → IsDifference s (rules_at tables s) (rules_at to.new s) c → IsUserRule to.net s (rule_of c) × IsKnown (rule_of c)
      rule_from s (Delete t r) h = (user.rules s r h.1, user.known s r h.1)
      rule_from s (Insert t r) h = new_rule s r h.1
      rule_from s (Replace t q) h = new_rule s q h.1

      -- each change that remains is of a user rule
      pub remaining_user : (c : Change) → IsIn c (remaining_changes tables to.new) → IsUserChange c
      remaining_user c i =
          let (s, less, is) = remaining_is tables to.new c i in
          let at = difference_switch s (rules_at tables s) (rules_at to.new s) c is in
          let (rule, known) = rule_from s c is in
          record {
            within = subst (λ (x : SwitchId). x.0 < switch_count to.net) (sym at) (subst (λ n. s.0 < n) user.count less);
            rule = subst (λ x. IsUserRule to.net x (rule_of c)) (sym at) rule;
            known = known;
          }

      pub remaining_applies : (c : Change) → IsIn c (remaining_changes tables to.new) → Applies tables c
      remaining_applies c i = (remaining_shortens tables to.new user.unique new_unique c i).0

      pub remaining_fewer : (c : Change) → IsIn c (remaining_changes tables to.new) → length (remaining_changes tables to.new) ≡ suc (length (remaining_changes (tables_after_change c tables) to.new))
      remaining_fewer c i = (remaining_shortens tables to.new user.unique new_unique c i).1

      module _ (c : Change) (applies : Applies tables c) (is : IsUserChange c) where
        written : (r : Rule) (d : Change) → Writes r d → r ≡ rule_of d
        written r (Insert t q) w = w
        written r (Delete t q) w = absurd w
        written r (Replace t q) w = w

        -- a rule after the change stood before, or is that of the change
        rule_cases : (s : SwitchId) (r : Rule) → IsIn r (rules_at (tables_after_change c tables) s) → IsIn r (rules_at tables s) ⊎ ((s ≡ switch_of c) × (r ≡ rule_of c))
        rule_cases s r i =
            elim ((switch_of c).0 == s.0) as (λ b. ((switch_of c).0 == s.0) ≡ b → IsIn r (cond b (rules_after_change c (rules_at tables s)) (rules_at tables s)) → IsIn r (rules_at tables s) ⊎ ((s ≡ switch_of c) × (r ≡ rule_of c))) [
              | true ↦ λ e j.
                  let same : switch_of c ≡ s = same_switch (switch_of c) s (eqb-true (switch_of c).0 s.0 e) in
                  elim (stands_from_in (rules_at tables s) c r (subst (λ x. AppliesTo (rules_at tables x) c) same applies.1) j) [
                    | inl h ↦ inl h.0
                    | inr w ↦ inr (sym same, written r c w)
                  ]
              | false ↦ λ e j. inl j
            ] refl (subst (IsIn r) (rules_at-after_change c tables s applies.0) i)

        pub user_next : AreUserTables (tables_after_change c tables)
        user_next = record {
          count = length-tables_after (c ∷ []) tables ∙ user.count;
          rules = λ s r i. elim (rule_cases s r i) [
            | inl j ↦ user.rules s r j
            | inr (at, same) ↦ subst (λ x. IsUserRule to.net x r) (sym at) (subst (IsUserRule to.net (switch_of c)) (sym same) is.rule)
          ];
          known = λ s r i. elim (rule_cases s r i) [
            | inl j ↦ user.known s r j
            | inr (at, same) ↦ subst IsKnown (sym same) is.known
          ];
          unique = unique_then tables c applies user.unique;
        }

    -- along the search
    pub user_along : (tables : List (List Rule)) → AreUserTables tables → (changes : List Change) → AreFirstQualifying to tables changes → AreUserTables (tables_after changes tables)
    user_along tables user [] found = user
    user_along tables user (c ∷ changes) found =
        let i = first_remains to tables (remaining_changes tables to.new) c found.0 in
        user_along (tables_after_change c tables) (user_next tables user c (remaining_applies tables user c i) (remaining_user tables user c i)) changes found.1

    pub changes_along : (tables : List (List Rule)) → AreUserTables tables → (changes : List Change) → AreFirstQualifying to tables changes → AllByRecursion IsUserChange changes
    changes_along tables user [] found = tt
    changes_along tables user (c ∷ changes) found =
        let i = first_remains to tables (remaining_changes tables to.new) c found.0 in
        let is = remaining_user tables user c i in
        (is, changes_along (tables_after_change c tables) (user_next tables user c (remaining_applies tables user c i) is) changes found.1)

    -- what remained at first was made or remains
    pub remaining_count : (tables : List (List Rule)) → AreUserTables tables → (changes : List Change) → AreFirstQualifying to tables changes
        → length changes + length (remaining_changes (tables_after changes tables) to.new) ≡ length (remaining_changes tables to.new)
    remaining_count tables user [] found = omega arith
    remaining_count tables user (c ∷ changes) found =
        let i = first_remains to tables (remaining_changes tables to.new) c found.0 in
        let next = user_next tables user c (remaining_applies tables user c i) (remaining_user tables user c i) in
        let fewer = remaining_fewer tables user c i in
        let rest = remaining_count (tables_after_change c tables) next changes found.1 in
        omega arith
