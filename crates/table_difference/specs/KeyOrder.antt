-- Rules in key order.
use Rattle.std.specs.Prelude.{◌≡◌, ◌≢◌, List, [], ◌∷◌}
use Rattle.std.specs.List.{AllByRecursion}
use Rattle.std.specs.declared.cmp.Ordering.TheVariants.{Less}
use Rattle.flow_rules.specs.Order.{key_cmp}
use Rattle.flow_rules.specs.declared.rules.Rule.{Rule}

-- no rule's key comes before that of a rule in front of it
abbrev pub AreInKeyOrder : List Rule → Type 0
AreInKeyOrder [] = Unit {0}
AreInKeyOrder (r ∷ rs) = AllByRecursion (λ q. key_cmp q.key r.key ≢ Less) rs × AreInKeyOrder rs

-- each rule's key comes before those of the rules behind it
abbrev pub AreAscending : List Rule → Type 0
AreAscending [] = Unit {0}
AreAscending (r ∷ rs) = AllByRecursion (λ q. key_cmp r.key q.key ≡ Less) rs × AreAscending rs
