-- The first change that qualifies is one of the changes.
use Rattle.std.proofs.Common.{List, ◌∷◌, refl, sym, subst, inl}
use Rattle.net_base.specs.Members.{IsIn}
use Rattle.net_base.proofs.MemberLaws.{in_append_right}
use Rattle.flow_rules.specs.declared.rules.Rule.{Rule}
use Rattle.update_model.specs.declared.Change.{Change}
use Rattle.table_difference.specs.Targets.{Target}
use Rattle.round_planner.specs.Search.{IsFirstQualifying}

pub first_remains : (to : Target) (tables : List (List Rule)) (changes : List Change) (c : Change) → IsFirstQualifying to tables changes c → IsIn c changes
first_remains to tables changes c h = subst (IsIn c) (sym h.are) (in_append_right c h.earlier (c ∷ h.later) (inl refl))
