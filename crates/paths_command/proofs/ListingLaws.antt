-- The answer that a whole listing is.
use Rattle.std.proofs.Common.{◌≡◌, ℕ, zero, suc, ◌<◌, ◌≤◌, true, false, List, ◌++◌, length, Some, refl, sym, ◌∙◌, subst, ap, inl, inr}
use Rattle.std.specs.Prelude.{slice_get, flat_map}
use Rattle.std.proofs.lemmas.Bool.{false≢true}
use Rattle.topology.specs.Networks.{Network}
use Rattle.flow_rules.specs.declared.rules.Rule.{Rule}
use Rattle.dest_classes.specs.Classes.{IsClass}
use Rattle.dest_classes.specs.declared.Class.{Class}
use Rattle.dest_classes.proofs.MapLaws.{number_fits, class_is}
use Rattle.demands.specs.Duties.{DemandView, duties_of}
use Rattle.demands.specs.Good.{HasGoodPath}
use Rattle.config_check.specs.declared.Breaks as breaking
use Rattle.config_check.specs.declared.How.{How}
use Rattle.config_check.specs.Broken.{IsFirstBreak, BreaksSo}
use Rattle.config_check.proofs.BreakLaws.{break_is_bad}
use Rattle.command_base.specs.declared.status.Status.TheVariants as status
use Rattle.command_base.specs.Answers.{Answer}
use Rattle.command_base.specs.Judgements.{most_classes}
use Rattle.command_base.specs.Lines.{classes_line}
use Rattle.config_command.specs.Configs.{ConfigMeaning, config_count}
use Rattle.config_command.specs.Verdicts.{classes_under, HoldsUnder}
use Rattle.paths_command.specs.declared.marks.Counts.{Counts}
use Rattle.paths_command.specs.declared.marks.Mark.{Mark}
use Rattle.paths_command.specs.declared.marks.Mark.TheVariants.{Good, Free, Breaks}
use Rattle.paths_command.specs.Rows.{ClassRow, AreRows, IsMark}
use Rattle.paths_command.specs.Lines.{row_line, counts_text, counts_of, paths_text, is_break}
use Rattle.paths_command.specs.Listed.{IsListing, IsPathsText, IsPathsAnswer, listed_status}
use Rattle.paths_command.specs.Promise.{IsFirstBreakRow}
use Rattle.paths_command.proofs.OneBreak.{break_one}
use Rattle.paths_command.proofs.RowLaws.{get_some, none_breaks, some_breaks}

module _ (net : Network) (tables : List (List Rule)) (demands : List DemandView) (class : Class) where
  -- a mark that is no break is that of a good path
  pub good_of_mark : (mark : Mark) → IsMark net tables demands class mark → is_break mark ≡ false → HasGoodPath net tables demands class.entry class.first
  good_of_mark Good is whole = is.0
  good_of_mark Free is whole = is.0
  good_of_mark (Breaks how) is whole = absurd (let e : true ≡ false = whole in cc)

  -- a mark that is a break is that of a path that isn't good
  pub bad_of_mark : (mark : Mark) → IsMark net tables demands class mark → is_break mark ≡ true → ¬ HasGoodPath net tables demands class.entry class.first
  bad_of_mark Good is breaks = absurd (false≢true breaks)
  bad_of_mark Free is breaks = absurd (false≢true breaks)
  bad_of_mark (Breaks how) is breaks = break_is_bad net tables demands class.entry class.first how is

  -- the mark of a class that breaks so
  pub mark_of_break : (mark : Mark) (how : How) → IsMark net tables demands class mark → BreaksSo net tables (duties_of demands class.entry class.first) class.entry class.first how → mark ≡ Breaks how
  mark_of_break Good how is breaks = absurd (break_is_bad net tables demands class.entry class.first how breaks is.0)
  mark_of_break Free how is breaks = absurd (break_is_bad net tables demands class.entry class.first how breaks is.0)
  mark_of_break (Breaks other) how is breaks = ap Breaks (break_one net tables (duties_of demands class.entry class.first) class.entry class.first other how is breaks)

module _ (m : ConfigMeaning) (rows : List ClassRow) (are : AreRows m rows) where
  -- the row of a class
  pub row_of : (n : ℕ) (class : Class) → IsClass (classes_under m.net m.tables m.demands) n class → (row : ClassRow) × (slice_get rows n ≡ Some row) × (row.class ≡ class)
  row_of n class is =
      let fits : n < length rows = subst (λ k. n < k) (sym are.count_is) (number_fits (classes_under m.net m.tables m.demands) n class is) in
      let (row, found) = get_some rows n fits in
      (row, found, class_is (classes_under m.net m.tables m.demands) n row.class class (are.each n row found).class_is is)

  -- each class has a good path where no row breaks
  pub all_good : (counts_of rows).breaks ≡ 0 → HoldsUnder m.net m.tables m.demands
  all_good none n class is =
      let (row, found, same) = row_of n class is in
      subst (λ (c : Class). HasGoodPath m.net m.tables m.demands c.entry c.first) same
      (good_of_mark m.net m.tables m.demands row.class row.mark (are.each n row found).marked (none_breaks rows none n row found))

  -- some class has none where a row breaks
  pub some_bad : (k : ℕ) → (counts_of rows).breaks ≡ suc k → ¬ HoldsUnder m.net m.tables m.demands
  some_bad k some holds =
      let (n, row, found, breaks) = some_breaks rows k some in
      let is = are.each n row found in
      bad_of_mark m.net m.tables m.demands row.class row.mark is.marked breaks (holds n row.class is.class_is)

  -- the row of the first break
  pub first_row : (b : breaking.Breaks) → IsFirstBreak m.net m.tables m.demands (classes_under m.net m.tables m.demands) b → IsFirstBreakRow rows b
  first_row b first =
      let (row, found, same) = row_of b.class first.class first.is_class in
      let breaks = subst (λ (c : Class). BreaksSo m.net m.tables (duties_of m.demands c.entry c.first) c.entry c.first b.how) (sym same) first.breaks in
      record {
        row = row;
        at = found;
        mark_is = mark_of_break m.net m.tables m.demands row.class row.mark b.how (are.each b.class row found).marked breaks;
        earlier = λ n other below here.
            let is = are.each n other here in
            let good = first.earlier_good n other.class below is.class_is in
            elim (is_break other.mark) as (λ v. is_break other.mark ≡ v → v ≡ false) [
              | true ↦ λ breaking. absurd (bad_of_mark m.net m.tables m.demands other.class other.mark is.marked breaking good)
              | false ↦ λ _. refl
            ] refl;
      }

-- the answer with the text of a whole listing
pub listed : (m : ConfigMeaning) (text : List ℕ) (counts : Counts) (answer : Answer) → config_count m ≤ most_classes → IsListing m (config_count m) text counts
    → (classes : ℕ) → classes ≡ config_count m → answer ≡ record { status = listed_status counts.breaks; text = text ++ counts_text classes counts } → IsPathsAnswer m answer
listed m text counts answer few so classes count is =
    elim counts.breaks as (λ k. counts.breaks ≡ k → answer ≡ record { status = listed_status k; text = text ++ counts_text classes counts } → IsPathsAnswer m answer) [
      | zero ↦ λ none e. inr (inl (record {
        few = few;
        holds = all_good m so.rows so.are (ap (λ (c : Counts). c.breaks) (sym so.counts_are) ∙ none);
        follows = whole;
        answer_is = e ∙ ap (λ t. let a : Answer = record { status = status.Done; text = t } in a) (sym (ap (λ (a : Answer). a.text) e));
      }))
      | suc k ↦ λ some e. inr (inr (record {
        few = few;
        fails = some_bad m so.rows so.are k (ap (λ (c : Counts). c.breaks) (sym so.counts_are) ∙ some);
        line = answer.text;
        is_why = whole;
        answer_is = e ∙ ap (λ t. let a : Answer = record { status = status.Refused; text = t } in a) (sym (ap (λ (a : Answer). a.text) e));
      }))
    ] refl is
  where
    text_is : answer.text ≡ paths_text m.net so.rows
    text_is =
        ap (λ (a : Answer). a.text) is ∙ ap (λ t. t ++ counts_text classes counts) so.text_is
        ∙ ap (λ n. flat_map (row_line m.net) so.rows ++ counts_text n counts) (count ∙ sym so.are.count_is)
        ∙ ap (λ (c : Counts). flat_map (row_line m.net) so.rows ++ counts_text (length so.rows) c) so.counts_are

    whole : IsPathsText m answer.text
    whole = record { rows = so.rows; are = so.are; text_is = text_is }

-- on too many classes
pub too_many : (m : ConfigMeaning) (answer : Answer) (n : ℕ) → n ≡ config_count m → most_classes < n → answer ≡ record { status = status.BadFile; text = classes_line n } → IsPathsAnswer m answer
too_many m answer n count many is = inl (record {
  many = subst (λ k. most_classes < k) count many;
  answer_is = is ∙ ap (λ k. let a : Answer = record { status = status.BadFile; text = classes_line k } in a) count;
})
