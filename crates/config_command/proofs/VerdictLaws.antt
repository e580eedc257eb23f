-- What a verdict stands on.
use Rattle.std.proofs.Common.{◌≡◌, ℕ, suc, ◌<◌, ◌≤◌, List, [], ◌∷◌, ◌++◌, map, take, append-nil, zero, Some, refl, sym, ap, ◌∙◌, subst, inl, inr}
use Rattle.std.specs.Prelude.{slice_get, option_map}
use Rattle.std.specs.List.{AllByRecursion}
use Rattle.std.proofs.lemmas.List.{append_assoc}
use Rattle.net_base.specs.Blocks.{Block}
use Rattle.net_base.specs.Members.{IsIn}
use Rattle.net_base.proofs.MemberLaws.{in_append_left, in_append_right}
use Rattle.topology.specs.Networks.{Network}
use Rattle.flow_rules.specs.Tables.{TableState, rules_of_all, table_blocks}
use Rattle.flow_rules.specs.declared.rules.Rule.{Rule}
use Rattle.dest_classes.specs.Classes.{ClassList, IsClass, classes_of, class_count}
use Rattle.dest_classes.specs.declared.Class.{Class}
use Rattle.dest_classes.proofs.MapLaws.{number_fits}
use Rattle.demands.specs.Duties.{DemandView, ClassDuties}
use Rattle.demands.specs.Good.{HasGoodPaths}
use Rattle.demands.specs.OfClass.{AreCovered}
use Rattle.config_check.specs.declared.Breaks.{Breaks}
use Rattle.config_check.specs.Broken.{IsFirstBreak}
use Rattle.config_check.specs.Everywhere.{HasPrefixes, HasGoodPathEverywhere}
use Rattle.demands.proofs.RowLaws.{each_there}
use Rattle.command_base.specs.declared.status.Status.TheVariants as status
use Rattle.command_base.specs.Lines.{classes_line}
use Rattle.command_base.specs.Answers.{Answer}
use Rattle.command_base.specs.Judgements.{most_classes}
use Rattle.config_command.specs.Lines.{holds_line, breaks_line}
use Rattle.config_command.specs.Verdicts.{IsVerdict, classes_under, count_under}

module _ (net : Network) (tables : List (List Rule)) (demands : List DemandView) (classes : ClassList) (are : classes ≡ classes_under net tables demands) where
  -- the classes are told apart by the demands' prefixes and by the tables'
  pub covered : AreCovered demands classes
  covered = subst (λ c. AreCovered demands c) (sym are)
      (each_there demands (table_blocks tables ++ map (λ d. d.dst) demands) (λ b i. in_append_right b (table_blocks tables) (map (λ d. d.dst) demands) i))

  pub prefixed : HasPrefixes classes.prefixes tables demands
  prefixed = subst (λ c. HasPrefixes c.prefixes tables demands) (sym are) (record {
    of_tables = λ b i. in_append_left b (table_blocks tables) (map (λ d. d.dst) demands) i;
    of_demands = each_there demands (table_blocks tables ++ map (λ d. d.dst) demands) (λ b i. in_append_right b (table_blocks tables) (map (λ d. d.dst) demands) i);
  })

  module _ (duties : ClassDuties) (made : duties ≡ record { demands = demands; classes = classes }) (few : count_under net tables demands ≤ most_classes) (answer : Answer) where
    pub holds_law : HasGoodPaths net tables duties.demands classes → HasGoodPathEverywhere net tables demands → answer ≡ record { status = status.Done; text = holds_line (class_count classes) } → IsVerdict net tables demands answer
    holds_law good everywhere is = inr (inl (record {
      few = few;
      holds = subst (λ c. HasGoodPaths net tables demands c) are (subst (λ d. HasGoodPaths net tables d.demands classes) made good);
      follows = everywhere;
      answer_is = subst (λ c. answer ≡ record { status = status.Done; text = holds_line (class_count c) }) are is;
    }))

    pub breaks_law : (b : Breaks) (class : Class) → ¬ HasGoodPaths net tables duties.demands classes → IsFirstBreak net tables duties.demands classes b → IsClass classes b.class class → answer ≡ record { status = status.Refused; text = breaks_line net class b.how } → IsVerdict net tables demands answer
    breaks_law b class broken first is_class is = inr (inr (record {
      few = few;
      fails = subst (λ c. ¬ HasGoodPaths net tables demands c) are (subst (λ d. ¬ HasGoodPaths net tables d.demands classes) made broken);
      line = breaks_line net class b.how;
      is_why = record {
        break = b;
        first = subst (λ c. IsFirstBreak net tables demands c b) are (subst (λ d. IsFirstBreak net tables d.demands classes b) made first);
        class = class;
        is_class = subst (λ c. IsClass c b.class class) are is_class;
        line_is = refl;
      };
      answer_is = is;
    }))

-- a class that breaks is one of the classes
pub break_fits : (net : Network) (tables : List (List Rule)) (demands : List DemandView) (classes : ClassList) (b : Breaks) → IsFirstBreak net tables demands classes b → b.class < class_count classes
break_fits net tables demands classes b first = number_fits classes b.class first.class first.is_class

-- the duties' demands are the demands
pub good_of : (net : Network) (tables : List (List Rule)) (demands : List DemandView) (classes : ClassList) (duties : ClassDuties) → duties ≡ record { demands = demands; classes = classes } → HasGoodPaths net tables duties.demands classes → HasGoodPaths net tables demands classes
good_of net tables demands classes duties made good = subst (λ d. HasGoodPaths net tables d.demands classes) made good

-- the number in the line is how many classes there are
pub count_is : (n : ℕ) (classes : ClassList) → n ≡ class_count classes → let a : Answer = record { status = status.Done; text = holds_line n } in a ≡ record { status = status.Done; text = holds_line (class_count classes) }
count_is n classes e = ap (λ m. record { status = status.Done; text = holds_line m }) e
