-- What holds of the rules that rounds use: each has its number, its place in a list of each once.
use Rattle.std.proofs.Common.{◌≡◌, ℕ, ◌+◌, ◌<◌, ◌≤◌, Bool, true, false, cond, not, ◌||◌, List, [], ◌∷◌, ◌++◌, length, map, sum_by, slice_get, get_or, position, Some, refl, sym, ap, subst, ◌∙◌, append_assoc, arith}
use Rattle.std.specs.List.{AllByRecursion, list_any, position_or_len}
use Rattle.std.specs.Option.{unwrap_or}
use Rattle.std.proofs.lemmas.Bool.{lt-ltb, false≢true}
use Rattle.std.proofs.lemmas.List.{length-map}
use Rattle.std.proofs.lemmas.List.Concat.{length-flat_map}
use Rattle.std.proofs.lemmas.List.Folds.{list_any-append}
use Rattle.std.proofs.lemmas.List.Quantifiers.{position-Some}
use Rattle.std.proofs.lemmas.List.Sums.{length-filter, count_by-le-length}
use Rattle.std.proofs.lemmas.Option.{slice_get-get_or}
use Rattle.net_base.proofs.MemberLaws.{each_append, each_filter}
use Rattle.topology.specs.Networks.{Network}
use Rattle.update_model.specs.declared.Change.{Change}
use Rattle.update_model.specs.Ranges.{IsPlanChange}
use Rattle.plan_format.specs.declared.rules.PlanRule.{PlanRule}
use Rattle.plan_text.specs.PlanText.{plan_rule_eq, rules_once, plan_rule_of, rules_of, rule_number}
use Rattle.plan_text.proofs.UsedRules.{plan_rule_eq-true, plan_rule_eq-refl, turned, without, any_kept}
use Rattle.plan_text.proofs.ChangesAgain.{IsInRange, HasNumber}

-- ---- numbers

abbrev IsFound : List PlanRule → PlanRule → Type 0
IsFound rules p = list_any (plan_rule_eq p) rules ≡ true

found_once : (p : PlanRule) (ps : List PlanRule) → list_any (plan_rule_eq p) (rules_once ps) ≡ list_any (plan_rule_eq p) ps
found_once p [] = refl
found_once p (x ∷ ps) =
    elim (plan_rule_eq p x) as (λ b. plan_rule_eq p x ≡ b → (b || list_any (plan_rule_eq p) (without x (rules_once ps))) ≡ (b || list_any (plan_rule_eq p) ps)) [
      | true ↦ λ _. refl
      | false ↦ λ other. any_kept x p (rules_once ps) (turned p x other) ∙ found_once p ps
    ] refl

either_true : (b : Bool) → (b || true) ≡ true
either_true true = refl
either_true false = refl

found_at : (p : PlanRule) (before after : List PlanRule) → IsFound (before ++ p ∷ after) p
found_at p before after = list_any-append (plan_rule_eq p) before (p ∷ after) ∙ rw (plan_rule_eq-refl p) (either_true (list_any (plan_rule_eq p) before))

each_found : (before ps : List PlanRule) → AllByRecursion (IsFound (before ++ ps)) ps
each_found before [] = tt
each_found before (p ∷ ps) =
    (found_at p before ps, subst (λ (l : List PlanRule). AllByRecursion (IsFound l) ps) (append_assoc before (p ∷ []) ps) (each_found (before ++ p ∷ []) ps))

found_in_once : (ps qs : List PlanRule) → AllByRecursion (IsFound ps) qs → AllByRecursion (IsFound (rules_once ps)) qs
found_in_once ps [] hs = tt
found_in_once ps (q ∷ qs) hs = (found_once q ps ∙ hs.0, found_in_once ps qs hs.1)

found_within : {A : Type 0} (test : A → Bool) (xs : List A) → list_any test xs ≡ true → position_or_len test xs < length xs
found_within test [] e = absurd (false≢true e)
found_within test (x ∷ xs) e =
    elim (test x) as (λ b. (b || list_any test xs) ≡ true → cond (not b) (1 + position_or_len test xs) 0 < length (x ∷ xs)) [
      | true ↦ λ _. omega arith
      | false ↦ λ later. let h = found_within test xs later in omega (arith, h)
    ] e

numbered : (rules : List PlanRule) (p : PlanRule) → IsFound rules p → slice_get rules (rule_number rules p) ≡ Some p
numbered rules p e =
    let i : ℕ = position_or_len (plan_rule_eq p) rules in
    let lt : i < length rules = found_within (plan_rule_eq p) rules e in
    let at : position (plan_rule_eq p) rules ≡ Some i = rw (lt-ltb i (length rules) lt) refl in
    let h = position-Some (plan_rule_eq p) rules i p at in
    ap (λ o. slice_get rules (unwrap_or o 0)) at ∙ slice_get-get_or rules i p lt ∙ ap (λ q. Some q) (sym (plan_rule_eq-true p (get_or rules i p) h.1))

round_numbered : (rules : List PlanRule) (round : List Change) (rest : List PlanRule) → AllByRecursion (IsFound rules) (map plan_rule_of round ++ rest)
    → AllByRecursion (HasNumber rules) round × AllByRecursion (IsFound rules) rest
round_numbered rules [] rest hs = (tt, hs)
round_numbered rules (c ∷ round) rest hs = let more = round_numbered rules round rest hs.1 in ((numbered rules (plan_rule_of c) hs.0, more.0), more.1)

rounds_numbered : (rules : List PlanRule) (rounds : List (List Change)) → AllByRecursion (IsFound rules) (rules_of rounds) → AllByRecursion (AllByRecursion (HasNumber rules)) rounds
rounds_numbered rules [] hs = tt
rounds_numbered rules (round ∷ rounds) hs = let h = round_numbered rules round (rules_of rounds) hs in (h.0, rounds_numbered rules rounds h.1)

-- each change has the number of its rule
pub used_numbered : (rounds : List (List Change)) → AllByRecursion (AllByRecursion (HasNumber (rules_once (rules_of rounds)))) rounds
used_numbered rounds = rounds_numbered (rules_once (rules_of rounds)) rounds (found_in_once (rules_of rounds) (rules_of rounds) (each_found [] (rules_of rounds)))

-- ---- ranges

each_once : (P : PlanRule → Type 0) (ps : List PlanRule) → AllByRecursion P ps → AllByRecursion P (rules_once ps)
each_once P [] hs = tt
each_once P (p ∷ ps) hs = (hs.0, each_filter P (λ q. not (plan_rule_eq p q)) (rules_once ps) (each_once P ps hs.1))

change_in_range : (net : Network) (c : Change) → IsPlanChange net c → IsInRange net (plan_rule_of c)
change_in_range net c h = record {
  switch = h.switch;
  priority = h.priority;
  priority_most = h.priority_most;
  port = h.port;
  vlan = h.vlan;
  dst = h.dst;
  action = h.action;
}

round_in_range : (net : Network) (round : List Change) → AllByRecursion (IsPlanChange net) round → AllByRecursion (IsInRange net) (map plan_rule_of round)
round_in_range net [] hs = tt
round_in_range net (c ∷ round) hs = (change_in_range net c hs.0, round_in_range net round hs.1)

rounds_in_range : (net : Network) (rounds : List (List Change)) → AllByRecursion (AllByRecursion (IsPlanChange net)) rounds → AllByRecursion (IsInRange net) (rules_of rounds)
rounds_in_range net [] hs = tt
rounds_in_range net (round ∷ rounds) hs =
    each_append (IsInRange net) (map plan_rule_of round) (rules_of rounds) (round_in_range net round hs.0) (rounds_in_range net rounds hs.1)

-- each rule is in range
pub used_in_range : (net : Network) (rounds : List (List Change)) → AllByRecursion (AllByRecursion (IsPlanChange net)) rounds → AllByRecursion (IsInRange net) (rules_once (rules_of rounds))
used_in_range net rounds hs = each_once (IsInRange net) (rules_of rounds) (rounds_in_range net rounds hs)

-- ---- how many

shorter : (ps : List PlanRule) → length (rules_once ps) ≤ length ps
shorter [] = omega arith
shorter (p ∷ ps) =
    let h = shorter ps in
    let test : PlanRule → Bool = λ q. not (plan_rule_eq p q) in
    omega (arith, h, length-filter test (rules_once ps), count_by-le-length test (rules_once ps))

as_many : (rounds : List (List Change)) → length (rules_of rounds) ≡ sum_by length rounds
as_many rounds = length-flat_map (map plan_rule_of) rounds ∙ ap (λ (f : List Change → ℕ). sum_by f rounds) (λ j round. length-map round plan_rule_of j)

-- there are at most as many as changes
pub used_few : (rounds : List (List Change)) → length (rules_once (rules_of rounds)) ≤ sum_by length rounds
used_few rounds = omega (arith, shorter (rules_of rounds), as_many rounds)
