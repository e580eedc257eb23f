-- The text of a plan with its waits.
use Rattle.std.specs.Prelude.{ℕ, List, [], ◌∷◌, ◌++◌, Option, Some, None, codes}
use Rattle.serde_json.specs.Data.{Data, object, Members, put}
use Rattle.serde_json.specs.Written.{compact_text}
use Rattle.topology.specs.Networks.{Network}
use Rattle.certificates.specs.declared.Plan.{Plan}
use Rattle.plan_text.specs.PlanText.{numbers_tree, used_rules, plan_members}

-- the members, with the waits where there are any to write
abbrev pub put_waits : Option (List ℕ) → Members → Members
put_waits None ms = ms
put_waits (Some waits) ms = put (codes "waits") (numbers_tree waits) ms

-- the object of a plan, with its waits
abbrev pub tree_with_waits : Network → Plan → Option (List ℕ) → Data
tree_with_waits net plan waits = object (put_waits waits (plan_members net (used_rules plan) plan))

-- the compact text of it, with one line end
abbrev pub text_with_waits : Network → Plan → Option (List ℕ) → List ℕ
text_with_waits net plan waits = compact_text (tree_with_waits net plan waits) ++ 10 ∷ []
