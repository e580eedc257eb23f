-- Why a switch and a round are not prepared.
use Rattle.std.specs.Prelude.{◌≡◌, ℕ, List, map, take, Some, slice_get}
use Rattle.net_base.specs.Members.{IsIn}
use Rattle.flow_rules.specs.Overlaps.{IsLeastClash}
use Rattle.flow_rules.specs.declared.rules.Rule.{Rule}
use Rattle.update_model.specs.Changes.{rule_of, AppliesTo}
use Rattle.update_model.specs.declared.Change.{Change}
use Rattle.round_mix.specs.Marks.{all_rules}
use Rattle.round_mix.specs.Prepared.{AreGood, AreClear}
use Rattle.round_mix.specs.declared.MixFault.{MixFault}
use Rattle.round_mix.specs.declared.MixFault.TheVariants.{BadChange, Ambiguous}
use Rattle.round_mix.specs.declared.MixRefusal.{MixRefusal}
use Rattle.round_mix.specs.declared.MixRefusal.TheVariants as refusal

-- the change applies to the table and names a key that none of those before it names
pub record IsGoodAfter (table : List Rule) (before : List Change) (c : Change) : Type 0 where
  pub applies : AppliesTo table c
  pub fresh : ¬ IsIn (rule_of c).key (map (λ d. (rule_of d).key) before)

-- the first change that isn't good stands at the position
pub record IsFirstBad (table : List Rule) (changes : List Change) (i : ℕ) : Type 0 where
  pub change : Change
  pub at : slice_get changes i ≡ Some change
  pub before : AreGood table (take i changes)
  pub bad : ¬ IsGoodAfter table (take i changes) change

-- all changes are good and some mixture isn't clear; the positions are the least two of clashing rules
pub record IsAmbiguous (table : List Rule) (changes : List Change) (i j : ℕ) : Type 0 where
  pub good : AreGood table changes
  pub unclear : ¬ AreClear table changes
  pub clash : IsLeastClash (all_rules table changes) i j

-- what a fault says
abbrev pub IsFault : List Rule → List Change → MixFault → Type 0
IsFault table changes (BadChange i) = IsFirstBad table changes i
IsFault table changes (Ambiguous i j) = IsAmbiguous table changes i j

-- all changes are good and some mixture isn't clear
pub record AreUnclear (table : List Rule) (changes : List Change) : Type 0 where
  pub good : AreGood table changes
  pub unclear : ¬ AreClear table changes

-- what a refusal says
abbrev pub IsMixRefusal : List Rule → List Change → MixRefusal → Type 0
IsMixRefusal table changes (refusal.BadChange i) = IsFirstBad table changes i
IsMixRefusal table changes refusal.Unclear = AreUnclear table changes
