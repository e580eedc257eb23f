-- The JSON tokens that are written, for private clauses.
use Rattle.std.specs.Prelude.{◌≡◌, ℕ, List, [], ◌∷◌, ◌++◌, length, map, flat_map, codes, Option, Some, None}
use Rattle.json.specs.Token.{Token, key}
use Rattle.json.specs.Tree.{json_tokens, members_tokens}
use Rattle.json.specs.Written.{Written}
use Rattle.serde_json.specs.Data.{Data, string, Members, no_members, member}
use Rattle.serde_json.specs.Written.{outline, members_outline}
use Rattle.topology.specs.Networks.{Network}
use Rattle.config_files.specs.RuleTrees.{whole_tree, list_tree}
use Rattle.update_model.specs.declared.Change.{Change}
use Rattle.certificates.specs.declared.OrderedEvidence.{OrderedEvidence}
use Rattle.certificates.specs.declared.TwoPhaseEvidence.{TwoPhaseEvidence}
use Rattle.certificates.specs.declared.Evidence.{Evidence}
use Rattle.certificates.specs.declared.Evidence.TheVariants.{Ordered, TwoPhase}
use Rattle.plan_format.specs.declared.rules.PlanRule.{PlanRule}
use Rattle.plan_text.specs.PlanText.{numbers_tree, rule_tree, numbered_rounds_tree, use_tree, pick_tree, table_tree, label_pick_tree}

-- the tokens of a value
abbrev pub tokens_of : Data → List Token
tokens_of d = json_tokens (outline d)

-- those of values one after the other
abbrev pub all_tokens : {X : Type 0} → (X → Data) → List X → List Token
all_tokens tree xs = flat_map (λ x. tokens_of (tree x)) xs

-- those of members, with the closing brace
abbrev pub closed_tokens : Members → List Token
closed_tokens ms = members_tokens (members_outline ms)

-- those of a member
abbrev pub member_tokens : List ℕ → Data → List Token
member_tokens name d = key name ∷ tokens_of d

-- those of a member, where there is a value for it
abbrev pub some_tokens : List ℕ → Option Data → List Token
some_tokens name None = []
some_tokens name (Some d) = member_tokens name d

-- a writer has written these tokens more
pub record Adds (old new : Written) (ts : List Token) : Type 0 where
  pub before : new.before ≡ old.before
  pub tokens : new.tokens ≡ old.tokens ++ ts

-- ---- the members of plans, in the order of their names

-- those of an ordered plan
abbrev pub ordered_members : Network → List PlanRule → List (List Change) → OrderedEvidence → Members
ordered_members net rules rounds e =
    member (codes "befores") (list_tree (map numbers_tree e.befores)) (member (codes "format") (whole_tree 2) (member (codes "kind") (string (codes "ordered"))
    (member (codes "numberings") (list_tree (map numbers_tree e.numberings)) (member (codes "picks") (list_tree (map pick_tree e.picks))
    (member (codes "rounds") (numbered_rounds_tree rules rounds) (member (codes "rules") (list_tree (map (rule_tree net) rules))
    (member (codes "uses") (list_tree (map use_tree e.uses)) no_members)))))))

-- those of a two-phase plan
abbrev pub two_phase_members : Network → List PlanRule → List (List Change) → TwoPhaseEvidence → Members
two_phase_members net rules rounds e =
    member (codes "format") (whole_tree 2) (member (codes "kind") (string (codes "two-phase")) (member (codes "labels") (list_tree (map table_tree e.labels))
    (member (codes "picks") (list_tree (map label_pick_tree e.picks)) (member (codes "rounds") (numbered_rounds_tree rules rounds)
    (member (codes "rules") (list_tree (map (rule_tree net) rules)) (member (codes "tried") (numbered_rounds_tree rules e.tried) no_members))))))

-- how many before sets the evidence has
abbrev pub before_count : Evidence → ℕ
before_count (Ordered e) = length e.befores
before_count (TwoPhase e) = 0
