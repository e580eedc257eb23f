-- Changes over what is prepared, one by one: what becomes of the marked rules.
use Rattle.std.specs.Prelude.{◌≡◌, ◌==◌, ℕ, Bool, true, false, cond, not, nat_lt, List, [], ◌∷◌, map, filter}
use Rattle.std.specs.List.{list_any}
use Rattle.flow_rules.specs.Patterns.{key_eq}
use Rattle.flow_rules.specs.Overlaps.{keys_clash}
use Rattle.flow_rules.specs.declared.rules.Key.{Key}
use Rattle.flow_rules.specs.declared.rules.Rule.{Rule}
use Rattle.update_model.specs.declared.Change.{Change}
use Rattle.update_model.specs.declared.Change.TheVariants.{Insert, Delete, Replace}
use Rattle.round_mix.specs.Named.{with_mark, IsMarkedBy, IsUnnamed}
use Rattle.round_mix.specs.declared.Mark.{Mark}
use Rattle.round_mix.specs.declared.Mark.TheVariants.{Sure, Possible, Replaced}
use Rattle.round_mix.specs.declared.MarkedRule.{MarkedRule}

-- the rule after the change that its mark tells of, if it still stands
abbrev pub rule_after : Mark → Rule → Rule
rule_after (Replaced a) r = record r { action = a }
rule_after Sure r = r
rule_after Possible r = r

-- the marked rule once the change is made
abbrev pub settled_mark : MarkedRule → MarkedRule
settled_mark m = with_mark (rule_after m.mark m.rule) Sure

-- the marked rules with another mark for the rule of a key
abbrev pub marked_where : Key → Mark → List MarkedRule → List MarkedRule
marked_where k mark marks = map (λ m. cond (key_eq k m.rule.key) (with_mark m.rule mark) m) marks

-- the marked rules of other keys
abbrev pub marks_without : Key → List MarkedRule → List MarkedRule
marks_without k marks = filter (λ m. not (key_eq m.rule.key k)) marks

-- the marked rules of a priority
abbrev pub of_priority : ℕ → List MarkedRule → List MarkedRule
of_priority p marks = filter (λ m. m.rule.key.priority == p) marks

-- a marked rule behind those of at least its priority
abbrev pub put_in : MarkedRule → List MarkedRule → List MarkedRule
put_in m [] = m ∷ []
put_in m (n ∷ ns) = cond (nat_lt n.rule.key.priority m.rule.key.priority) (m ∷ n ∷ ns) (n ∷ put_in m ns)

-- whether a key clashes with one of the marked rules
abbrev pub clashes_with : Key → List MarkedRule → Bool
clashes_with k marks = list_any (λ m. keys_clash m.rule.key k) marks

-- the marked rules once a change is given up
abbrev pub given_up : Change → List MarkedRule → List MarkedRule
given_up (Insert s r) marks = marks_without r.key marks
given_up (Delete s r) marks = marked_where r.key Sure marks
given_up (Replace s r) marks = marked_where r.key Sure marks

-- the marked rules with the change made that the mark of the rule of a key tells of
abbrev pub settled_where : Key → List MarkedRule → List MarkedRule
settled_where k marks = map (λ m. cond (key_eq k m.rule.key) (settled_mark m) m) marks

-- or made
abbrev pub kept_marks : Change → List MarkedRule → List MarkedRule
kept_marks (Insert s r) marks = settled_where r.key marks
kept_marks (Delete s r) marks = marks_without r.key marks
kept_marks (Replace s r) marks = settled_where r.key marks

-- one change more is marked: an insert is put where it clashes with none, and of another the rule that it names was sure and has its mark now
abbrev pub IsTriedNext : Change → List MarkedRule → List MarkedRule → Type 0
IsTriedNext (Insert s r) old new = (clashes_with r.key old ≡ false) × (new ≡ put_in (with_mark r Possible) old)
IsTriedNext (Delete s r) old new = IsMarkedBy (Delete s r) old new
IsTriedNext (Replace s r) old new = IsMarkedBy (Replace s r) old new

-- it can't be: an insert clashes with one of the rules, and none that is sure is named by another
abbrev pub IsRefusedNext : Change → List MarkedRule → Type 0
IsRefusedNext (Insert s r) marks = clashes_with r.key marks ≡ true
IsRefusedNext (Delete s r) marks = IsUnnamed (Delete s r) marks
IsRefusedNext (Replace s r) marks = IsUnnamed (Replace s r) marks
