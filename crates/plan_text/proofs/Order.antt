-- The members of rules and plans, in the order of their names.
use Rattle.std.proofs.Common.{◌≡◌, ℕ, List, [], ◌∷◌, ◌++◌, codes, Option, Some, None, refl}
use Rattle.json.specs.Token.{Token, end_object}
use Rattle.serde_json.specs.Data.{Data, string, Members, no_members, member, put}
use Rattle.net_base.specs.Text.{prefix_text}
use Rattle.topology.specs.Networks.{Network}
use Rattle.config_files.specs.RuleTrees.{whole_tree, put_some, in_port_tree, test_tree, out_tree}
use Rattle.certificates.specs.declared.Plan.{Plan}
use Rattle.certificates.specs.declared.OrderedEvidence.{OrderedEvidence}
use Rattle.certificates.specs.declared.TwoPhaseEvidence.{TwoPhaseEvidence}
use Rattle.certificates.specs.declared.Evidence.TheVariants.{Ordered, TwoPhase}
use Rattle.plan_format.specs.declared.rules.PlanRule.{PlanRule}
use Rattle.plan_text.specs.PlanText.{name_of, set_tree, strip_tree, rule_members, with_evidence, plan_members}
use Rattle.plan_text.specs.Tokens.{closed_tokens, member_tokens, some_tokens, ordered_members, two_phase_members}

-- a member before others, where there is a value for it
abbrev pub member_if : List ℕ → Option Data → Members → Members
member_if k None ms = ms
member_if k (Some d) ms = member k d ms

-- a rule's members, of which four may be wanting
abbrev pub in_order : (dst out priority switch : Data) (in_port set strip vlan : Option Data) → Members
in_order dst out priority switch in_port set strip vlan =
    member (codes "dst") dst (member_if (codes "in_port") in_port (member (codes "out") out (member (codes "priority") priority
    (member_if (codes "set") set (member_if (codes "strip") strip (member (codes "switch") switch (member_if (codes "vlan") vlan no_members)))))))

-- the members, put one after the other among others
abbrev pub put_all : Members → Members → Members
put_all no_members found = found
put_all (member k d ms) found = put_all ms (put k d found)

-- in whichever order they were put, and put one after the other in this order
pub put_in_order : (x y z w : Data) (a b c e : Option Data)
    → (put_some (codes "vlan") e (put_some (codes "strip") c (put_some (codes "set") b (put_some (codes "in_port") a
    (put (codes "switch") w (put (codes "priority") z (put (codes "out") y (put (codes "dst") x no_members))))))) ≡ in_order x y z w a b c e)
    × (put_all (in_order x y z w a b c e) no_members ≡ in_order x y z w a b c e)
put_in_order x y z w None None None None = (refl, refl)
put_in_order x y z w None None None (Some e) = (refl, refl)
put_in_order x y z w None None (Some c) None = (refl, refl)
put_in_order x y z w None None (Some c) (Some e) = (refl, refl)
put_in_order x y z w None (Some b) None None = (refl, refl)
put_in_order x y z w None (Some b) None (Some e) = (refl, refl)
put_in_order x y z w None (Some b) (Some c) None = (refl, refl)
put_in_order x y z w None (Some b) (Some c) (Some e) = (refl, refl)
put_in_order x y z w (Some a) None None None = (refl, refl)
put_in_order x y z w (Some a) None None (Some e) = (refl, refl)
put_in_order x y z w (Some a) None (Some c) None = (refl, refl)
put_in_order x y z w (Some a) None (Some c) (Some e) = (refl, refl)
put_in_order x y z w (Some a) (Some b) None None = (refl, refl)
put_in_order x y z w (Some a) (Some b) None (Some e) = (refl, refl)
put_in_order x y z w (Some a) (Some b) (Some c) None = (refl, refl)
put_in_order x y z w (Some a) (Some b) (Some c) (Some e) = (refl, refl)

-- the members of a rule
abbrev pub rule_in_order : Network → PlanRule → Members
rule_in_order net p =
    in_order (string (prefix_text p.rule.key.pattern.dst)) (out_tree p.rule.action) (whole_tree p.rule.key.priority) (string (name_of net p.switch))
    (in_port_tree p.rule.key.pattern.in_port) (set_tree p.rule.action) (strip_tree p.rule.action) (test_tree p.rule.key.pattern.vlan)

pub rule_is : (net : Network) (p : PlanRule) → rule_members net p ≡ rule_in_order net p
unfolding rule_members
rule_is net p =
    (put_in_order (string (prefix_text p.rule.key.pattern.dst)) (out_tree p.rule.action) (whole_tree p.rule.key.priority) (string (name_of net p.switch))
    (in_port_tree p.rule.key.pattern.in_port) (set_tree p.rule.action) (strip_tree p.rule.action) (test_tree p.rule.key.pattern.vlan)).0

-- what a change does comes before the members of its rule
pub word_is : (net : Network) (word : List ℕ) (p : PlanRule) → put (codes "do") (string word) (rule_members net p) ≡ member (codes "do") (string word) (rule_members net p)
word_is net word p =
    let is = rule_is net p in
    rw is refl

pub ordered_is : (net : Network) (rules : List PlanRule) (plan : Plan) (e : OrderedEvidence) → plan.evidence ≡ Ordered e → plan_members net rules plan ≡ ordered_members net rules plan.rounds e
unfolding plan_members with_evidence
ordered_is net rules plan e is = rw is refl

pub two_phase_is : (net : Network) (rules : List PlanRule) (plan : Plan) (e : TwoPhaseEvidence) → plan.evidence ≡ TwoPhase e → plan_members net rules plan ≡ two_phase_members net rules plan.rounds e
unfolding plan_members with_evidence
two_phase_is net rules plan e is = rw is refl

-- ---- their tokens

closed_if : (k : List ℕ) (o : Option Data) (ms : Members) → closed_tokens (member_if k o ms) ≡ some_tokens k o ++ closed_tokens ms
closed_if k None ms = refl
closed_if k (Some d) ms = refl

-- those of a rule's members, one member after the other
abbrev pub rule_tokens : Network → PlanRule → List Token
rule_tokens net p =
    member_tokens (codes "dst") (string (prefix_text p.rule.key.pattern.dst)) ++ (some_tokens (codes "in_port") (in_port_tree p.rule.key.pattern.in_port)
    ++ (member_tokens (codes "out") (out_tree p.rule.action) ++ (member_tokens (codes "priority") (whole_tree p.rule.key.priority)
    ++ (some_tokens (codes "set") (set_tree p.rule.action) ++ (some_tokens (codes "strip") (strip_tree p.rule.action)
    ++ (member_tokens (codes "switch") (string (name_of net p.switch)) ++ (some_tokens (codes "vlan") (test_tree p.rule.key.pattern.vlan) ++ end_object ∷ [])))))))

pub rule_closed : (net : Network) (p : PlanRule) → closed_tokens (rule_members net p) ≡ rule_tokens net p
rule_closed net p = rw (rule_is net p) (simp closed_if)
