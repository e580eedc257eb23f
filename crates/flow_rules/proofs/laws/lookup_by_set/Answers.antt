use Rattle.std.specs.Prelude.{List}
use Rattle.net_base.specs.Members.{IsSameSet}
use Rattle.net_base.proofs.MemberLaws.{same_filter}
use Rattle.flow_rules.specs.Patterns.{covers}
use Rattle.flow_rules.specs.Tables.{IsClear}
use Rattle.flow_rules.specs.declared.rules.Rule.{Rule}
use Rattle.flow_rules.proofs.LookupLaws.{lookup_by_set}
use Rattle.flow_rules.proofs.laws.lookup_by_set.Goals as goal

-- what has the same rules is clear as well
clear_too : (rules others : List Rule) → IsClear rules → IsSameSet rules others → IsClear others
clear_too rules others clear same h a b i j = clear h a b ((same a).1 i) ((same b).1 j)

pub returns : goal.returns
returns c = λ rules others clear same header.
    lookup_by_set header rules others clear (clear_too rules others clear same) (same_filter (λ r. covers r.key.pattern header) rules others same)
