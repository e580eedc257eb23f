-- What holds of each rule of the old tables and of each rule that a change names holds of each rule of every mixture.
use Rattle.std.proofs.Common.{ℕ, zero, suc, List, [], ◌∷◌, map, cond}
use Rattle.std.specs.Prelude.{◌==◌, not}
use Rattle.std.specs.List.{AllByRecursion}
use Rattle.std.proofs.lemmas.Bool.{cond_both}
use Rattle.net_base.proofs.MemberLaws.{each_append, each_filter, each_get_or, each_set, each_from_in, each_at}
use Rattle.net_base.specs.declared.ids.SwitchId.{SwitchId}
use Rattle.flow_rules.specs.Patterns.{key_eq}
use Rattle.flow_rules.specs.Tables.{rules_at}
use Rattle.flow_rules.specs.declared.rules.Rule.{Rule}
use Rattle.update_model.specs.Changes.{switch_of, rule_of, changes_at, rules_after, rules_after_change, tables_after, tables_after_change, round_after, settled_tables}
use Rattle.update_model.specs.Mixtures.{Rollout, MayHold}
use Rattle.update_model.specs.declared.Change.{Change}
use Rattle.update_model.specs.declared.Change.TheVariants.{Insert, Delete, Replace}
use Rattle.update_model.proofs.MadeLaws.{each_some}

module _ (P : Rule → Type 0) where
  -- so of the rule of each change
  abbrev pub EachRuleOf : List Change → Type 0
  EachRuleOf cs = AllByRecursion (λ c. P (rule_of c)) cs

  replaced : (r : Rule) (rules : List Rule) → AllByRecursion P rules → P r → AllByRecursion P (map (λ q. cond (key_eq q.key r.key) r q) rules)
  replaced r [] all this = tt
  replaced r (q ∷ rules) all this = (cond_both (key_eq q.key r.key) r q P (λ _. this) (λ _. all.0), replaced r rules all.1 this)

  each_after_change : (c : Change) (rules : List Rule) → AllByRecursion P rules → P (rule_of c) → AllByRecursion P (rules_after_change c rules)
  each_after_change (Insert s r) rules all this = each_append P rules (r ∷ []) all (this, tt)
  each_after_change (Delete s r) rules all this = each_filter P (λ q. not (key_eq q.key r.key)) rules all
  each_after_change (Replace s r) rules all this = replaced r rules all this

  each_after : (cs : List Change) (rules : List Rule) → AllByRecursion P rules → EachRuleOf cs → AllByRecursion P (rules_after cs rules)
  each_after [] rules all these = all
  each_after (c ∷ cs) rules all these = each_after cs (rules_after_change c rules) (each_after_change c rules all these.0) these.1

  pub each_tables_after : (cs : List Change) (tables : List (List Rule)) → AllByRecursion (AllByRecursion P) tables → EachRuleOf cs → AllByRecursion (AllByRecursion P) (tables_after cs tables)
  each_tables_after [] tables all these = all
  each_tables_after (c ∷ cs) tables all these =
      each_tables_after cs (tables_after_change c tables)
      (each_set (AllByRecursion P) tables (switch_of c).0 (rules_after_change c (rules_at tables (switch_of c))) all
      (each_after_change c (rules_at tables (switch_of c)) (each_get_or (AllByRecursion P) tables (switch_of c).0 [] all tt) these.0)) these.1

  each_settled : (rounds : List (List Change)) (k : ℕ) (tables : List (List Rule)) → AllByRecursion (AllByRecursion P) tables → AllByRecursion EachRuleOf rounds
      → AllByRecursion (AllByRecursion P) (settled_tables rounds k tables)
  each_settled [] k tables all these = all
  each_settled (round ∷ rounds) zero tables all these = all
  each_settled (round ∷ rounds) (suc k) tables all these = each_settled rounds k (tables_after round tables) (each_tables_after round tables all these.0) these.1

  pub each_held : (u : Rollout) (k : ℕ) (s : SwitchId) (mixed : List Rule) → AllByRecursion (AllByRecursion P) u.old → AllByRecursion EachRuleOf u.rounds
      → MayHold u k s mixed → AllByRecursion P mixed
  each_held u k s mixed all these held =
      let before : AllByRecursion P (rules_at (settled_tables u.rounds k u.old) s) = each_get_or (AllByRecursion P) (settled_tables u.rounds k u.old) s.0 [] (each_settled u.rounds k u.old all these) tt in
      let round : EachRuleOf (round_after k u.rounds) = each_get_or EachRuleOf u.rounds k [] these tt in
      let made : EachRuleOf held.made = each_some (λ c. P (rule_of c)) held.made (changes_at s (round_after k u.rounds)) held.some (each_filter (λ c. P (rule_of c)) (λ c. (switch_of c).0 == s.0) (round_after k u.rounds) round) in
      let after = each_after held.made (rules_at (settled_tables u.rounds k u.old) s) before made in
      each_from_in P mixed (λ r i. each_at P (rules_after held.made (rules_at (settled_tables u.rounds k u.old) s)) r after ((held.same r).0 i))
