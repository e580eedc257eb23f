-- Which rules may match a packet while some of the changes of a switch are made.
use Rattle.std.specs.Prelude.{◌≡◌, ◌⊎◌, ◌≤◌, IsTrue, List}
use Rattle.net_base.specs.Members.{IsIn}
use Rattle.flow_rules.specs.Patterns.{Header, covers}
use Rattle.flow_rules.specs.Tables.{keys_of}
use Rattle.flow_rules.specs.declared.rules.Key.{Key}
use Rattle.flow_rules.specs.declared.rules.Rule.{Rule}
use Rattle.update_model.specs.Changes.{rule_of}
use Rattle.update_model.specs.declared.Change.{Change}
use Rattle.update_model.specs.declared.Change.TheVariants.{Insert, Delete, Replace}

-- the change deletes
abbrev pub IsDelete : Change → Type 0
IsDelete (Insert s r) = ⊥
IsDelete (Delete s r) = Unit {0}
IsDelete (Replace s r) = ⊥

-- the change puts the rule into the table
abbrev pub Writes : Rule → Change → Type 0
Writes r (Insert s q) = r ≡ q
Writes r (Delete s q) = ⊥
Writes r (Replace s q) = r ≡ q

-- some of the changes put the rule into the table
abbrev pub IsWritten : Rule → List Change → Type 0
IsWritten r cs = (c : Change) × IsIn c cs × Writes r c

-- an entry with the key stands in every mixture: it stood there, and no change deletes it
pub record IsKept (rules : List Rule) (changes : List Change) (k : Key) : Type 0 where
  pub stood : IsIn k (keys_of rules)
  pub not_deleted : (c : Change) → IsIn c changes → IsDelete c → ¬ ((rule_of c).key ≡ k)

-- the rule may be the one that matches: it stood there or is written, it covers the packet, and no kept entry above it does
pub record MayMatch (rules : List Rule) (changes : List Change) (h : Header) (r : Rule) : Type 0 where
  pub available : IsIn r rules ⊎ IsWritten r changes
  pub covering : IsTrue (covers r.key.pattern h)
  pub not_below : (k : Key) → IsKept rules changes k → IsTrue (covers k.pattern h) → k.priority ≤ r.key.priority

-- no rule may match: no kept entry covers the packet
abbrev pub MayMiss : List Rule → List Change → Header → Type 0
MayMiss rules changes h = (k : Key) → IsKept rules changes k → ¬ IsTrue (covers k.pattern h)
