-- One packed round more, and where packing ends.
use Rattle.std.proofs.Common.{◌≡◌, ◌≢◌, ℕ, ◌<◌, Bool, true, false, List, [], ◌∷◌, ◌++◌, length, refl, sym, ◌∙◌, subst, ap, inr, arith}
use Rattle.std.specs.Prelude.{◌==◌}
use Rattle.std.specs.List.{AllByRecursion}
use Rattle.std.proofs.lemmas.Bool.{both_ways, eq-eqb, eqb-true}
use Rattle.net_base.specs.Members.{IsIn}
use Rattle.net_base.proofs.MemberLaws.{each_at, each_from_in, each_get_or}
use Rattle.net_base.specs.declared.ids.SwitchId.{SwitchId}
use Rattle.topology.specs.Networks.{Network, switch_count}
use Rattle.flow_rules.specs.Tables.{rules_at, rules_of_all}
use Rattle.flow_rules.specs.declared.rules.Rule.{Rule}
use Rattle.update_model.specs.Changes.{rule_of, tables_after, IsGoodRound}
use Rattle.update_model.specs.Remaining.{remaining_changes}
use Rattle.update_model.specs.declared.Change.{Change}
use Rattle.update_model.specs.declared.Change.TheVariants.{Insert, Delete, Replace}
use Rattle.update_model.proofs.DifferenceLaws.{IsDifference, difference_switch, remaining_is}
use Rattle.update_model.proofs.RemainingLaws.{AllUnique, remaining_made}
use Rattle.certificates.specs.Certified.{KeepsVlan}
use Rattle.certificates.proofs.Fewer.{safe_fewer}
use Rattle.mixed_walks.specs.Walks.{TablesKeepVlans}
use Rattle.mixed_walks.proofs.PlaceLaws.{tables_keep}
use Rattle.certificates.proofs.TreeTables.{unique_in_table}
use Rattle.path_walk.specs.UserConfigs.{IsUserConfig}
use Rattle.table_difference.specs.Targets.{Target}
use Rattle.law_packed_rounds.specs.Packing.{CanStand, IsFilled, IsPackedRound, ArePacked, PacksOrdered, PacksStuck, tables_past}
use Rattle.law_packed_rounds.proofs.Packed.{packed_part, part_made, some_more}
use Rattle.round_tables.specs.PreparedTables.{PreparedState}
use Rattle.round_tables.specs.Filling.{AreTakenChanges}
use Rattle.round_tables.proofs.StepLaws.{count_rules}
use Rattle.round_judge.specs.Goals.{HasAtoms}
use Rattle.update_model.proofs.HeldLaws.{each_tables_after}
use Rattle.round_packer.specs.declared.failing.Failure.{Failure}
use Rattle.round_packer.specs.Kept.{HasUnsafe, AreKept, unmet_failures}
use Rattle.round_packer.specs.Filling.{IsPlain, IsFilling, IsFilledBy, IsPackedTo, EndsAt, HasFailed}
use Rattle.round_packer.proofs.KeptLaws.{kept_after}
use Rattle.round_packer.proofs.FailureLaws.{unmet_stand}

-- ---- changes that remain keep the VLANs

module _ (net : Network) (tables new : List (List Rule)) (keeps : TablesKeepVlans tables) (keeps_new : TablesKeepVlans new) where
  keeps_at : (ts : List (List Rule)) → TablesKeepVlans ts → (s : SwitchId) (r : Rule) → IsIn r (rules_at ts s) → KeepsVlan r.action
  keeps_at ts all s r i = each_at (λ (q : Rule). KeepsVlan q.action) (rules_at ts s) r (each_get_or (AllByRecursion (λ (q : Rule). KeepsVlan q.action)) ts s.0 [] all tt) i

  difference_keeps : (s : SwitchId) (c : Change) → IsDifference s (rules_at tables s) (rules_at new s) c → KeepsVlan (rule_of c).action
  difference_keeps s (Delete t r) h = keeps_at tables keeps s r h.1
  difference_keeps s (Insert t r) h = keeps_at new keeps_new s r h.1
  difference_keeps s (Replace t q) h = keeps_at new keeps_new s q h.1

  -- each change that remains is at a switch of the network and keeps the VLAN
  pub plain_remaining : length tables ≡ switch_count net → AllByRecursion (IsPlain net) (remaining_changes tables new)
  plain_remaining count = each_from_in (IsPlain net) (remaining_changes tables new) (λ c i.
      let (s, less, is) = remaining_is tables new c i in
      let at = difference_switch s (rules_at tables s) (rules_at new s) c is in
      record {
        within = subst (λ (x : SwitchId). x.0 < switch_count net) (sym at) (subst (λ (n : ℕ). s.0 < n) count less);
        keeps = difference_keeps s c is;
      })

-- ---- one round more

packed_more : (to : Target) (old : List (List Rule)) (rounds : List (List Change)) (round : List Change) → ArePacked to old rounds → IsPackedRound to (tables_past rounds old) round → round ≢ []
    → ArePacked to old (rounds ++ round ∷ [])
packed_more to old [] round packed is some = (is, some, tt)
packed_more to old (first ∷ rounds) round packed is some = (packed.0, packed.1, packed_more to (tables_after first old) rounds round packed.2 is some)

past_more : (rounds : List (List Change)) (round : List Change) (old : List (List Rule)) → tables_past (rounds ++ round ∷ []) old ≡ tables_after round (tables_past rounds old)
past_more [] round old = refl
past_more (first ∷ rounds) round old = past_more rounds round (tables_after first old)

module _ (to : Target) (new_unique : AllUnique to.new) (old : List (List Rule)) (rounds : List (List Change)) (p : PreparedState) (came : List ℕ) (looked : List Bool)
    (at : IsPackedTo to old rounds p came looked) (q : PreparedState) (now : List ℕ) (marks : List Bool)
    (filled : IsFilledBy to (tables_past rounds old) [] (remaining_changes (tables_past rounds old) to.new) q now marks) where
  abbrev tables : List (List Rule)
  tables = tables_past rounds old

  abbrev round : List Change
  round = filled.round

  good : IsGoodRound tables round
  good = subst (λ (ts : List (List Rule)). IsGoodRound ts round) filled.filling.tables_are (subst (IsGoodRound (rules_of_all q.tables)) filled.filling.round_is filled.filling.taken.fit.good)

  made_is : (t : PreparedState) → rules_of_all t.tables ≡ tables_after q.round (rules_of_all q.tables) → rules_of_all t.tables ≡ tables_after round tables
  made_is t is = is ∙ ap (λ (cs : List Change). tables_after cs (rules_of_all q.tables)) filled.filling.round_is ∙ ap (tables_after round) filled.filling.tables_are

  some_taken : q.round ≢ [] → round ≢ []
  some_taken some none = some (filled.filling.round_is ∙ none)

  -- the round is made
  pub packed_next : q.round ≢ [] → (t : PreparedState) → AreTakenChanges to.net t → rules_of_all t.tables ≡ tables_after q.round (rules_of_all q.tables) → t.round ≡ [] → (all : List (List Change)) → all ≡ rounds ++ q.round ∷ []
      → IsPackedTo to old all t now marks
  packed_next some t trial tables_are none all all_is =
      let made = part_made to.new new_unique tables at.unique round (packed_part to tables round filled.filled) in
      let is : all ≡ rounds ++ round ∷ [] = all_is ∙ ap (λ (cs : List Change). rounds ++ cs ∷ []) filled.filling.round_is in
      let past : tables_past (rounds ++ round ∷ []) old ≡ tables_after round tables = past_more rounds round old in
      let filling : IsFilling to (tables_after round tables) [] t now marks =
      record {
        taken = trial;
        tables_are = made_is t tables_are;
        round_is = none;
        rules = each_tables_after (λ r. KeepsVlan r.action) round tables filled.filling.rules filled.filling.changes;
        changes = tt;
        kept = record { count = filled.filling.kept.count; each = λ n class is. kept_after to tables round good class _ (filled.filling.kept.each n class is) };
        atoms = filled.filling.atoms;
      } in
      subst (λ (rs : List (List Change)). IsPackedTo to old rs t now marks) (sym is)
      (record {
        packed = packed_more to old rounds round at.packed filled.filled (some_taken some);
        filling = subst (λ (ts : List (List Rule)). IsFilling to ts [] t now marks) (sym past) filling;
        unique = subst AllUnique (sym past) made.unique;
      })

  -- and the failures stand that no change of it meets
  pub failed_next : (made : List Change) → made ≡ q.round → (fs : List Failure) → AllByRecursion (HasFailed to tables q.round) fs → (all : List (List Change)) → all ≡ rounds ++ q.round ∷ []
      → AllByRecursion (HasFailed to (tables_past all old) []) (unmet_failures made fs)
  failed_next made is fs failed all all_is =
      let same : made ≡ round = is ∙ filled.filling.round_is in
      let past : tables_past all old ≡ tables_after made tables =
      ap (λ (rs : List (List Change)). tables_past rs old) all_is ∙ past_more rounds q.round old ∙ ap (λ (cs : List Change). tables_after cs tables) (sym is) in
      subst (λ (ts : List (List Rule)). AllByRecursion (HasFailed to ts []) (unmet_failures made fs)) (sym past)
      (unmet_stand to tables filled.filling.rules made (subst (AllByRecursion (λ (d : Change). KeepsVlan (rule_of d).action)) (sym same) filled.filling.changes) (subst (IsGoodRound tables) (sym same) good) fs
      (subst (λ (cs : List Change). AllByRecursion (HasFailed to tables cs) fs) (sym is) failed))

  -- and fewer remain
  pub fewer_left : q.round ≢ [] → (t : PreparedState) → rules_of_all t.tables ≡ tables_after q.round (rules_of_all q.tables) → length (remaining_changes (rules_of_all t.tables) to.new) < length (remaining_changes tables to.new)
  fewer_left some t tables_are =
      let made = part_made to.new new_unique tables at.unique round (packed_part to tables round filled.filled) in
      let count = remaining_made to.new new_unique tables at.unique round made.made in
      let one = some_more to.new new_unique round (some_taken some) in
      let same = ap (λ (ts : List (List Rule)). length (remaining_changes ts to.new)) (made_is t tables_are) in
      omega arith

  -- no change is taken: packing is stuck
  pub stuck_here : remaining_changes tables to.new ≢ [] → q.round ≡ [] → PacksStuck to old rounds
  stuck_here some none = record {
    packed = at.packed;
    some_remain = some;
    none_stands = subst (λ (cs : List Change). IsPackedRound to tables cs) (sym filled.filling.round_is ∙ none) filled.filled;
  }

-- nothing remains: packing ends ordered
pub ordered_here : (to : Target) (old : List (List Rule)) (rounds : List (List Change)) (p : PreparedState) (came : List ℕ) (looked : List Bool) → IsPackedTo to old rounds p came looked
    → (left : List Change) → left ≡ remaining_changes (tables_past rounds old) to.new → left ≡ [] → PacksOrdered to old rounds
ordered_here to old rounds p came looked at left is none = record { packed = at.packed; none_remains = sym is ∙ none }

-- ---- a class that isn't safe at first

none_filled : (can : List Change → Type 0) (taken rest : List Change) → ((changes : List Change) → ¬ can changes) → IsFilled can taken rest taken
none_filled can taken [] never = refl
none_filled can taken (c ∷ rest) never = inr (never (taken ++ c ∷ []), none_filled can taken rest never)

-- where a class isn't safe in the tables no change can stand
never_stands : (to : Target) (old : List (List Rule)) → HasUnsafe to old [] → (changes : List Change) → ¬ CanStand to old changes
never_stands to old unsafe changes can =
    let by = can.safe unsafe.number unsafe.class unsafe.is_class in
    unsafe.never (record { numbers = by.numbers; sets = by.sets; safe = safe_fewer to.net old [] changes tt unsafe.class.first unsafe.class.entry _ by.numbers by.sets by.safe })

pub ends_unsafe : (to : Target) (old : List (List Rule)) → HasUnsafe to old [] → (left : List Change) → left ≡ remaining_changes old to.new → (none : Bool) → (none ≡ true → left ≡ []) → (none ≡ false → left ≢ [])
    → EndsAt to old [] none
ends_unsafe to old unsafe left is true empty some = record { packed = tt; none_remains = sym is ∙ empty refl }
ends_unsafe to old unsafe left is false empty some = record {
  packed = tt;
  some_remain = λ none. some refl (is ∙ none);
  none_stands = none_filled (CanStand to old) [] (remaining_changes old to.new) (never_stands to old unsafe);
}

-- ---- what remains, as it is listed

module _ (to : Target) (old : List (List Rule)) (rounds : List (List Change)) (p : PreparedState) (came : List ℕ) (looked : List Bool) (at : IsPackedTo to old rounds p came looked) (left : List Change)
    (left_is : left ≡ remaining_changes (rules_of_all p.tables) to.new) where
  pub left_remains : left ≡ remaining_changes (tables_past rounds old) to.new
  left_remains = left_is ∙ ap (λ (ts : List (List Rule)). remaining_changes ts to.new) at.filling.tables_are

  pub plain_left : TablesKeepVlans to.new → AllByRecursion (IsPlain to.net) left
  plain_left keeps_new =
      subst (AllByRecursion (IsPlain to.net)) (sym left_remains)
      (plain_remaining to.net (tables_past rounds old) to.new at.filling.rules keeps_new
      (subst (λ (ts : List (List Rule)). length ts ≡ switch_count to.net) at.filling.tables_are (count_rules p.tables ∙ at.filling.taken.ready.fit.tables)))

  pub filled_left : (q : PreparedState) (now : List ℕ) (marks : List Bool) → IsFilledBy to (tables_past rounds old) [] left q now marks
      → IsFilledBy to (tables_past rounds old) [] (remaining_changes (tables_past rounds old) to.new) q now marks
  filled_left q now marks = subst (λ (cs : List Change). IsFilledBy to (tables_past rounds old) [] cs q now marks) left_remains

-- before the first round
pub packed_first : (to : Target) (p : PreparedState) (came : List ℕ) (looked : List Bool) → AreTakenChanges to.net p → p.round ≡ [] → IsUserConfig to.net (rules_of_all p.tables) → AreKept to (rules_of_all p.tables) [] came
    → HasAtoms to.classes looked → (rounds : List (List Change)) → rounds ≡ [] → IsPackedTo to (rules_of_all p.tables) rounds p came looked
packed_first to p came looked trial none user kept atoms rounds is =
    subst (λ (rs : List (List Change)). IsPackedTo to (rules_of_all p.tables) rs p came looked) (sym is)
    (record {
      packed = tt;
      filling = record { taken = trial; tables_are = refl; round_is = none; rules = tables_keep to.net (rules_of_all p.tables) user; changes = tt; kept = kept; atoms = atoms };
      unique = λ s. unique_in_table (rules_at (rules_of_all p.tables) s) (user.distinct s);
    })

-- ---- whether a list is empty, as it is told

pub told_empty : (xs : List Change) (n : ℕ) (b : Bool) → n ≡ length xs → b ≡ (n == 0) → b ≡ true → xs ≡ []
told_empty [] n b count means on = refl
told_empty (x ∷ xs) n b count means on = absurd (let e : n ≡ 0 = eqb-true n 0 (sym means ∙ on) in omega arith)

pub told_some : (xs : List Change) (n : ℕ) (b : Bool) → n ≡ length xs → b ≡ (n == 0) → b ≡ false → xs ≢ []
told_some xs n b count means off none = both_ways (n == 0) (sym means ∙ off) (eq-eqb n 0 (count ∙ ap (λ (ys : List Change). length ys) none))
