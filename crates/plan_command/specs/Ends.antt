-- Both ends of an update: whether its old and its new configuration are good, and what is said where they aren't.
use Rattle.std.specs.Prelude.{◌≡◌, ◌⊎◌, ℕ, ◌≤◌, Bool, List, Some}
use Rattle.dest_classes.specs.Classes.{IsClass}
use Rattle.dest_classes.specs.declared.Class.{Class}
use Rattle.config_check.specs.declared.Breaks.{Breaks}
use Rattle.config_check.specs.declared.classed.Classed.{Classed}
use Rattle.config_check.specs.declared.ends.EndBreak.{EndBreak}
use Rattle.config_check.specs.Classed.{AreClassed}
use Rattle.config_check.specs.Ends.{AreGoodEnds, IsFirstEndBreak}
use Rattle.certificates.specs.Updates.{Update}
use Rattle.check_reasons.specs.declared.reason.Reason.TheVariants.{EndBreaks}
use Rattle.round_planner.specs.Updates.{update_classes, update_count}
use Rattle.command_base.specs.Answers.{Answer}
use Rattle.command_base.specs.Judgements.{SaysTooMany, SaysWhyNot, most_classes}
use Rattle.check_base.specs.ReasonLines.{refused_line}
use Rattle.plan_command.specs.declared.ends.EndsVerdict.{EndsVerdict}
use Rattle.plan_command.specs.declared.ends.EndsVerdict.TheVariants.{Good, Broken}

-- both configurations have good paths for all classes of the update
abbrev pub BothEndsAreGood : Update → Type 0
BothEndsAreGood u = AreGoodEnds u.net u.old u.new u.demands (update_classes u)

-- the first break of the old configuration, or of the new one where the old one is good
abbrev pub IsFirstBreakOf : Update → Bool → Breaks → Type 0
IsFirstBreakOf u new break = IsFirstEndBreak u.net u.old u.new u.demands (update_classes u) new break

-- the line names the first break
pub record IsEndLine (u : Update) (line : List ℕ) : Type 0 where
  pub new : Bool
  pub break : Breaks
  pub first : IsFirstBreakOf u new break
  pub class : Class
  pub is_class : IsClass (update_classes u) break.class class
  pub line_is : line ≡ refused_line u.net (Some class) (EndBreaks new break)

-- the answer says that there are too many classes, or names the first break of an end that isn't good
abbrev pub IsEndsRefusal : Update → Answer → Type 0
IsEndsRefusal u answer = SaysTooMany (update_count u) answer ⊎ SaysWhyNot (update_count u) (BothEndsAreGood u) (IsEndLine u) answer

-- both ends are good, and these are the classes, which are few enough, and their duties
pub record AreEndsOf (u : Update) (ends : Classed) : Type 0 where
  pub classed : AreClassed (update_classes u) u.demands ends
  pub good : BothEndsAreGood u

-- there are few enough classes, an end isn't good, and this is the first break, at this class
pub record IsBrokenEnd (u : Update) (end : EndBreak) (class : Class) : Type 0 where
  pub few : update_count u ≤ most_classes
  pub fails : ¬ BothEndsAreGood u
  pub first : IsFirstBreakOf u end.new end.breaks
  pub is_class : IsClass (update_classes u) end.breaks.class class

-- the verdict on both ends: they are good, or the first break
abbrev pub IsVerdictOnEnds : Update → EndsVerdict → Type 0
IsVerdictOnEnds u (Good ends) = AreEndsOf u ends
IsVerdictOnEnds u (Broken end class) = IsBrokenEnd u end class
