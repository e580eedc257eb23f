-- The changes that a trial takes, one by one.
use Rattle.std.proofs.Common.{◌≡◌, Bool, true, false, cond, List, [], ◌∷◌, refl, sym, subst, ap}
use Rattle.std.specs.Prelude.{◌&&◌, filter}
use Rattle.std.proofs.lemmas.Bool.{both_ways}
use Rattle.flow_rules.specs.declared.rules.Rule.{Rule}
use Rattle.path_walk.specs.Outcomes.{header_at}
use Rattle.update_model.specs.Changes.{AppliesTo, rules_after, changes_at}
use Rattle.update_model.specs.declared.Change.{Change}
use Rattle.update_model.proofs.ChangeLaws.{key_named, applies_all_kept}
use Rattle.update_model.proofs.MadeLaws.{distinct_some, each_some}
use Rattle.update_model.proofs.MatchLaws.{some_filter}
use Rattle.round_mix.specs.Prepared.{AreGood}
use Rattle.outcome_changes.specs.Trials.{is_at, is_tried, takes}
use Rattle.outcome_changes.specs.declared.trying.Trial.{Trial}

filter_twice : (p q : Change → Bool) (cs : List Change) → filter (λ c. p c && q c) cs ≡ filter q (filter p cs)
filter_twice p q [] = refl
filter_twice p q (c ∷ cs) =
    elim (p c) as (λ b. cond (b && q c) (c ∷ filter (λ d. p d && q d) cs) (filter (λ d. p d && q d) cs) ≡ filter q (cond b (c ∷ filter p cs) (filter p cs))) [
      | true ↦ ap (λ ds. cond (q c) (c ∷ ds) ds) (filter_twice p q cs)
      | false ↦ filter_twice p q cs
    ]

-- a trial takes those that it tries of the changes at its switch
pub taken_there : (t : Trial) (cs : List Change) → filter (takes t) cs ≡ filter (is_tried (header_at t.place t.dst) t.turned) (changes_at t.place.switch cs)
taken_there t cs = filter_twice (is_at t.place.switch) (is_tried (header_at t.place t.dst) t.turned) cs

-- some of good changes are good
good_filter : (rules : List Rule) (p : Change → Bool) (cs : List Change) → AreGood rules cs → AreGood rules (filter p cs)
good_filter rules p cs good = record {
  applies = each_some (AppliesTo rules) (filter p cs) cs (some_filter p cs) good.applies;
  distinct = distinct_some key_named (filter p cs) cs (some_filter p cs) good.distinct;
}

pub good_taken : (rules : List Rule) (t : Trial) (cs : List Change) → AreGood rules (changes_at t.place.switch cs) → AreGood rules (filter (takes t) cs)
good_taken rules t cs good =
    subst (AreGood rules) (sym (taken_there t cs)) (good_filter rules (is_tried (header_at t.place t.dst) t.turned) (changes_at t.place.switch cs) good)

module _ (p : Change → Bool) (rules : List Rule) (c : Change) (cs : List Change) where
  -- the first one applies, if it is taken
  pub first_applies : AreGood rules (filter p (c ∷ cs)) → p c ≡ true → AppliesTo rules c
  first_applies good passes =
      elim (p c) as (λ b. AreGood rules (cond b (c ∷ filter p cs) (filter p cs)) → b ≡ true → AppliesTo rules c) [
        | true ↦ λ g _. g.applies.0
        | false ↦ λ g e. absurd (both_ways false refl e)
      ] good passes

  -- the others are good after it
  pub others_good : AreGood rules (filter p (c ∷ cs)) → AreGood (rules_after (filter p (c ∷ [])) rules) (filter p cs)
  others_good good =
      elim (p c) as (λ b. AreGood rules (cond b (c ∷ filter p cs) (filter p cs)) → AreGood (rules_after (cond b (c ∷ []) []) rules) (filter p cs)) [
        | true ↦ λ g. record { applies = applies_all_kept rules c (filter p cs) g.applies.0 g.applies.1 g.distinct.0; distinct = g.distinct.1 }
        | false ↦ λ g. g
      ] good

  -- and what they leave then is what all of them leave
  pub after_others : rules_after (filter p cs) (rules_after (filter p (c ∷ [])) rules) ≡ rules_after (filter p (c ∷ cs)) rules
  after_others =
      elim (p c) as (λ b. rules_after (filter p cs) (rules_after (cond b (c ∷ []) []) rules) ≡ rules_after (cond b (c ∷ filter p cs) (filter p cs)) rules) [
        | true ↦ refl
        | false ↦ refl
      ]
