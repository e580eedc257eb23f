-- Of what is written the same plan and waits are read.
use Rattle.std.proofs.Common.{◌≡◌, ℕ, ◌-◌, ◌++◌, List, [], ◌∷◌, length, map, take, codes, Option, Some, None, option_map, Ok, refl, sym, ap, ◌∙◌}
use Rattle.serde_json.specs.Data.{Data, object, Members, member, put}
use Rattle.serde_json.specs.Written.{compact_text}
use Rattle.flat_json.specs.JsonTree.{whole_in}
use Rattle.flat_json.proofs.JsonTree.{list_of-items_of}
use Rattle.topology.specs.Networks.{Network, IsNetwork}
use Rattle.config_files.specs.RuleTrees.{whole_tree}
use Rattle.certificates.specs.declared.Evidence.{Evidence}
use Rattle.certificates.specs.declared.Evidence.TheVariants.{Ordered, TwoPhase}
use Rattle.certificates.specs.declared.Plan.{Plan}
use Rattle.certificates.specs.Valid.{IsValidPlan}
use Rattle.plan_format.specs.declared.rules.PlanRule.{PlanRule}
use Rattle.plan_format.specs.Changes.{rules_in, rounds_in}
use Rattle.plan_format.specs.Evidence.{numberings_in, befores_in, uses_in, picks_in, uses_and_picks_in, labels_in, label_picks_in}
use Rattle.plan_format.specs.Plans.{spelling_in, ordered_in, two_phase_in, evidence_in, plan_at}
use Rattle.plan_text.specs.PlanText.{numbers_tree, used_rules, plan_members, plan_text}
use Rattle.plan_text.proofs.Order.{ordered_is, two_phase_is}
use Rattle.plan_text.proofs.PlanAgain.{plan_again}
use Rattle.plan_waits.specs.Waits.{waits_member, waits_of_member, waits_in}
use Rattle.plan_waits.specs.PlanWaits.{IsNumberList, SaysWaits, MayHave}
use Rattle.plan_waits.specs.WaitsText.{put_waits, tree_with_waits}
use Rattle.plan_waits.proofs.Reading.{taken}
use Rattle.plan_waits.proofs.TextLaws.{at_end, joined}

-- ---- the members of a plan, and the waits behind them

-- where the members of a plan are first these
record IsFirst (ms : Members) : Type 0 where
  name : List ℕ
  value : Data
  rest : Members
  is : ms ≡ member name value rest
  puts : (d : Data) → put (codes "waits") d ms ≡ at_end (member name value rest) (codes "waits") d

first_is : (l : List ℕ) (e : Data) (rest ms : Members) → ms ≡ member l e rest → ((d : Data) → put (codes "waits") d (member l e rest) ≡ at_end (member l e rest) (codes "waits") d) → IsFirst ms
first_is l e rest ms same puts = record { name = l; value = e; rest = rest; is = same; puts = λ d. ap (put (codes "waits") d) same ∙ puts d }

first_of_plan : (net : Network) (rules : List PlanRule) (plan : Plan) (e : Evidence) → plan.evidence ≡ e → IsFirst (plan_members net rules plan)
first_of_plan net rules plan (Ordered e) is = first_is _ _ _ (plan_members net rules plan) (ordered_is net rules plan e is) (λ d. refl)
first_of_plan net rules plan (TwoPhase e) is = first_is _ _ _ (plan_members net rules plan) (two_phase_is net rules plan e is) (λ d. refl)

module _ (net : Network) (plan : Plan) (text : List ℕ) (is : text ≡ plan_text net plan) where
  first : IsFirst (plan_members net (used_rules plan) plan)
  first = first_of_plan net (used_rules plan) plan plan.evidence refl

  base : text ≡ compact_text (object (member first.name first.value first.rest)) ++ 10 ∷ []
  base = is ∙ ap (λ (ms : Members). compact_text (object ms) ++ 10 ∷ []) first.is

  pub text_is : (d : Data) (n : ℕ) (cut_text named listed whole list : List ℕ) → n ≡ length text - 2 → cut_text ≡ take n text → named ≡ cut_text ++ codes ",\"waits\":" → list ≡ compact_text d → listed ≡ named ++ list → whole ≡ listed ++ 125 ∷ 10 ∷ []
      → whole ≡ compact_text (object (put (codes "waits") d (plan_members net (used_rules plan) plan))) ++ 10 ∷ []
  text_is d n cut_text named listed whole list is_length is_cut is_named is_list is_listed is_whole =
      joined first.name first.value first.rest text base d n cut_text named listed whole list is_length is_cut is_named is_list is_listed is_whole ∙ ap (λ (ms : Members). compact_text (object ms) ++ 10 ∷ []) (sym (first.puts d))

-- ---- its tree

whole_each : (ws : List ℕ) → map whole_in (map whole_tree ws) ≡ map (λ n. Some n) ws
whole_each [] = refl
whole_each (w ∷ ws) = ap (λ (os : List (Option ℕ)). Some w ∷ os) (whole_each ws)

number_list : (ws : List ℕ) → IsNumberList (numbers_tree ws) ws
number_list ws = ap (λ (ds : List Data). Some (map whole_in ds)) (list_of-items_of (map whole_tree ws)) ∙ ap (λ (os : List (Option ℕ)). Some os) (whole_each ws)

says : (waits : Option (List ℕ)) → SaysWaits (option_map numbers_tree waits) waits
says None = refl
says (Some ws) = number_list ws

member_is : (net : Network) (rules : List PlanRule) (plan : Plan) (e : Evidence) → plan.evidence ≡ e → (waits : Option (List ℕ)) → waits_member (object (put_waits waits (plan_members net rules plan))) ≡ option_map numbers_tree waits
member_is net rules plan (Ordered e) is None = rw (ordered_is net rules plan e is) refl
member_is net rules plan (Ordered e) is (Some ws) = rw (ordered_is net rules plan e is) refl
member_is net rules plan (TwoPhase e) is None = rw (two_phase_is net rules plan e is) refl
member_is net rules plan (TwoPhase e) is (Some ws) = rw (two_phase_is net rules plan e is) refl

pub waits_are_again : (net : Network) (plan : Plan) (waits : Option (List ℕ)) → MayHave plan waits → waits_in plan (tree_with_waits net plan waits) ≡ Ok waits
unfolding waits_in
waits_are_again net plan waits may = ap (waits_of_member plan) (member_is net (used_rules plan) plan plan.evidence refl waits) ∙ taken plan (option_map numbers_tree waits) waits (says waits) may

-- the waits change nothing of what is read of the plan
same_plan : (net : Network) (rules : List PlanRule) (plan : Plan) (e : Evidence) → plan.evidence ≡ e → (waits : Option (List ℕ)) → plan_at net (object (put_waits waits (plan_members net rules plan))) ≡ plan_at net (object (plan_members net rules plan))
unfolding plan_at spelling_in evidence_in ordered_in two_phase_in uses_and_picks_in rules_in rounds_in numberings_in befores_in uses_in picks_in labels_in label_picks_in
same_plan net rules plan e is None = refl
same_plan net rules plan (Ordered e) is (Some ws) = rw (ordered_is net rules plan e is) refl
same_plan net rules plan (TwoPhase e) is (Some ws) = rw (two_phase_is net rules plan e is) refl

pub plan_is_again : (net : Network) (plan : Plan) (waits : Option (List ℕ)) → IsNetwork net → IsValidPlan net plan → plan_at net (tree_with_waits net plan waits) ≡ Ok plan
plan_is_again net plan waits kept valid = same_plan net (used_rules plan) plan plan.evidence refl waits ∙ plan_again net plan kept valid
