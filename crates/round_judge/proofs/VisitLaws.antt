-- The switches that packets of each class come to before, in and after a round; and a class that its changes don't meet.
use Rattle.std.proofs.Common.{◌≡◌, ◌≢◌, ℕ, suc, ◌+◌, ◌<◌, false, List, length, IsTrue, sym, ◌∙◌, subst, inl, inr, arith}
use Rattle.std.proofs.lemmas.Bool.{cases_eq, cases_lt}
use Rattle.net_base.specs.declared.ids.SwitchId.{SwitchId}
use Rattle.topology.specs.Networks.{Network, IsNetwork}
use Rattle.flow_rules.specs.declared.rules.Rule.{Rule}
use Rattle.path_walk.specs.UserConfigs.{IsUserConfig}
use Rattle.config_check.proofs.JudgeLaws.{class_within}
use Rattle.dest_classes.specs.Classes.{IsClass, class_count}
use Rattle.dest_classes.specs.declared.Class.{Class}
use Rattle.dest_classes.proofs.MapLaws.{number_fits}
use Rattle.demands.specs.Duties.{PacketDuties}
use Rattle.update_model.specs.Changes.{round_after, IsGoodRound}
use Rattle.update_model.specs.Mixtures.{Rollout, tables_before}
use Rattle.update_model.specs.declared.Change.{Change}
use Rattle.certificates.specs.Ordered.{IsSafe}
use Rattle.mixed_walks.specs.Walks.{TablesKeepVlans, KeepVlansUpTo}
use Rattle.mixed_walks.proofs.PlaceLaws.{tables_keep}
use Rattle.net_base.specs.Switches.{has, most_switches}
use Rattle.class_watch.specs.Walks.{at_rest, HoldsWalks, HoldsTables, meets_any}
use Rattle.class_watch.proofs.StandLaws as stand
use Rattle.class_watch.proofs.StandLaws.{held_before, held_after, vlan_before, all_held}
use Rattle.table_difference.specs.Targets.{Target}
use Rattle.round_judge.specs.Visits.{marks_at, HoldTables, HoldRound}

-- ---- a class that the changes of a round don't meet

module _ (u : Rollout) (k : ℕ) (class : Class) (changes : List Change) (round_is : round_after k u.rounds ≡ changes) (keeps_rules : TablesKeepVlans u.old) (keeps : KeepVlansUpTo u k)
    (marks : ℕ) (held : HoldsTables u.net (tables_before u k) class marks) (off : meets_any changes class marks ≡ false) where
  missed : meets_any (round_after k u.rounds) class marks ≡ false
  missed = subst (λ (cs : List Change). meets_any cs class marks ≡ false) (sym round_is) off

  -- its mixed walks come to no other switches
  pub walks_still : HoldsWalks u k class marks
  walks_still = stand.walks_still u k class marks held (vlan_before u k class keeps_rules keeps) missed

  -- and what keeps it safe before the round does in it
  pub safe_still : (duties : PacketDuties) (numbers : List ℕ) (sets : List (List ℕ)) → IsSafe (at_rest u.net (tables_before u k)) 0 class.first class.entry duties numbers sets
      → IsSafe u k class.first class.entry duties numbers sets
  safe_still = stand.safe_still u k class marks held (vlan_before u k class keeps_rules keeps) missed

-- ---- class by class

module _ (to : Target) (u : Rollout) (k : ℕ) where
  -- the marks of each class hold where its packets come to before the round, and those of each class below a number its mixed walks
  pub record AreHeldBelow (below : ℕ) (came : List ℕ) : Type 0 where
    pub count : length came ≡ class_count to.classes
    pub before : (n : ℕ) (class : Class) → IsClass to.classes n class → HoldsTables u.net (tables_before u k) class (marks_at came n)
    pub walks : (n : ℕ) (class : Class) → n < below → IsClass to.classes n class → HoldsWalks u k class (marks_at came n)

  -- what looking at the class of a number leaves of the marks
  pub record IsHeldAt (n : ℕ) (mid new : List ℕ) : Type 0 where
    pub count : length new ≡ length mid
    pub others : (m : ℕ) → m ≢ n → marks_at new m ≡ marks_at mid m
    pub walks : (class : Class) → IsClass to.classes n class → HoldsTables u.net (tables_before u k) class (marks_at mid n) → HoldsWalks u k class (marks_at new n)

  pub held_none : u.net ≡ to.net → (came : List ℕ) → HoldTables to (tables_before u k) came → AreHeldBelow 0 came
  held_none net came h = record {
    count = h.count;
    before = λ n class is. subst (λ (x : Network). HoldsTables x (tables_before u k) class (marks_at came n)) (sym net) (h.each n class is);
    walks = λ n class less is. absurd (omega arith);
  }

  module _ (n : ℕ) (mid new : List ℕ) (at : IsHeldAt n mid new) where
    here : (m : ℕ) (class : Class) → m ≡ n → IsClass to.classes m class → ((j : ℕ) (x : Class) → IsClass to.classes j x → HoldsTables u.net (tables_before u k) x (marks_at mid j))
        → HoldsWalks u k class (marks_at new m)
    here m class e is before =
        let is_n = subst (λ (i : ℕ). IsClass to.classes i class) e is in
        subst (λ (i : ℕ). HoldsWalks u k class (marks_at new i)) (sym e) (at.walks class is_n (before n class is_n))

    before_more : ((j : ℕ) (x : Class) → IsClass to.classes j x → HoldsTables u.net (tables_before u k) x (marks_at mid j))
        → (m : ℕ) (class : Class) → IsClass to.classes m class → HoldsTables u.net (tables_before u k) class (marks_at new m)
    before_more before m class is =
        elim (cases_eq m n) [
          | inl e ↦ held_before u k class (marks_at new m) (here m class e is before)
          | inr ne ↦ subst (HoldsTables u.net (tables_before u k) class) (sym (at.others m ne)) (before m class is)
        ]

    pub held_more : AreHeldBelow n mid → AreHeldBelow (n + 1) new
    held_more h = record {
      count = at.count ∙ h.count;
      before = before_more h.before;
      walks = λ m class less is.
          elim (cases_eq m n) [
            | inl e ↦ here m class e is h.before
            | inr ne ↦ subst (HoldsWalks u k class) (sym (at.others m ne)) (h.walks m class (elim (cases_lt m n) [ inl below ↦ below | inr above ↦ absurd (ne (omega arith)) ]) is)
          ];
    }

  pub held_back : u.net ≡ to.net → (below : ℕ) (came : List ℕ) → AreHeldBelow below came → HoldTables to (tables_before u k) came
  held_back net below came h = record {
    count = h.count;
    each = λ n class is. subst (λ (x : Network). HoldsTables x (tables_before u k) class (marks_at came n)) net (h.before n class is);
  }

  pub held_all : (came : List ℕ) → AreHeldBelow (class_count to.classes) came → HoldRound to u k came
  held_all came h = record { count = h.count; each = λ n class is. h.walks n class (number_fits to.classes n class is) is }

  -- the marks of all classes hold their mixed walks, and go on to, whichever class is looked at
  pub round_still : (n : ℕ) (mid new : List ℕ) → length new ≡ length mid → ((m : ℕ) → m ≢ n → marks_at new m ≡ marks_at mid m)
      → ((class : Class) → IsClass to.classes n class → HoldsWalks u k class (marks_at mid n) → HoldsWalks u k class (marks_at new n)) → HoldRound to u k mid → HoldRound to u k new
  round_still n mid new count others walks h = record {
    count = count ∙ h.count;
    each = λ m class is.
        elim (cases_eq m n) [
          | inl e ↦
              let is_n = subst (λ (i : ℕ). IsClass to.classes i class) e is in
              subst (λ (i : ℕ). HoldsWalks u k class (marks_at new i)) (sym e) (walks class is_n (h.each n class is_n))
          | inr ne ↦ subst (HoldsWalks u k class) (sym (others m ne)) (h.each m class is)
        ];
  }

  -- so they hold where packets come to before the round, and after it
  pub round_before : u.net ≡ to.net → (came : List ℕ) → HoldRound to u k came → HoldTables to (tables_before u k) came
  round_before net came h = record {
    count = h.count;
    each = λ n class is.
        subst (λ (x : Network). HoldsTables x (tables_before u k) class (marks_at came n)) net (held_before u k class (marks_at came n) (h.each n class is));
  }

  pub round_after_it : u.net ≡ to.net → k < length u.rounds → IsGoodRound (tables_before u k) (round_after k u.rounds) → (came : List ℕ) → HoldRound to u k came
      → HoldTables to (tables_before u (suc k)) came
  round_after_it net less good came h = record {
    count = h.count;
    each = λ n class is.
        subst (λ (x : Network). HoldsTables x (tables_before u (suc k)) class (marks_at came n)) net (held_after u k class (marks_at came n) (h.each n class is) less good);
  }

-- ---- before the first round

-- where all switches are marked for each class
pub all_come : (to : Target) (old : List (List Rule)) → IsNetwork to.net → IsUserConfig to.net old → to.classes.hosts ≡ to.net.hosts → (count : ℕ) → count ≡ class_count to.classes → (came : List ℕ)
    → length came ≡ count → ((n : ℕ) (s : SwitchId) → n < count → s.0 < most_switches → IsTrue (has (marks_at came n) s)) → HoldTables to old came
all_come to old net user hosts count count_is came length_is all = record {
  count = length_is ∙ count_is;
  each = λ n class is.
      let number = number_fits to.classes n class is in
      all_held to.net old class (marks_at came n) net (tables_keep to.net old user) (class_within to.net net to.classes n class hosts is) (λ s less. all n s (omega arith) less);
}
