-- A change that is tried beside those that are taken.
use Rattle.std.proofs.Common.{◌≡◌, ℕ, Bool, List, [], ◌∷◌, ◌++◌, refl, sym, ◌∙◌, subst, ap, inl, inr}
use Rattle.std.specs.List.{AllByRecursion}
use Rattle.net_base.specs.Members.{IsIn}
use Rattle.net_base.proofs.MemberLaws.{each_append, each_at}
use Rattle.topology.specs.Networks.{Network}
use Rattle.flow_rules.specs.Tables.{rules_of_all}
use Rattle.flow_rules.specs.declared.rules.Rule.{Rule}
use Rattle.update_model.specs.Changes.{rule_of}
use Rattle.update_model.specs.declared.Change.{Change}
use Rattle.certificates.specs.Certified.{KeepsVlan}
use Rattle.certificates.specs.Rounds.{one_round_of}
use Rattle.check_reasons.specs.Loaded.{AreLoaded}
use Rattle.round_mix.specs.Prepared.{MixedState}
use Rattle.mixed_walks.specs.Walks.{TablesKeepVlans}
use Rattle.table_difference.specs.Targets.{Target}
use Rattle.law_packed_rounds.specs.Packing.{CanStand, IsFilled}
use Rattle.round_tables.specs.PreparedTables.{PreparedState}
use Rattle.round_tables.specs.Filling.{AreTakenChanges, FitTables}
use Rattle.round_judge.specs.Goals.{HasAtoms}
use Rattle.round_packer.specs.declared.failing.Failure.{Failure}
use Rattle.round_packer.specs.Kept.{AreKept, ArePreparedFor, IsFailing, IsFailureOf}
use Rattle.round_packer.specs.Filling.{IsPlain, IsFilling, IsTried, HasFailed}
use Rattle.round_packer.proofs.KeptLaws.{keeps_round}
use Rattle.round_packer.proofs.FailureLaws.{never_beside, all_more, failed_here}

-- the switches are prepared for the taken changes, as walks want it
pub prepared_here : (net : Network) (mixes : List MixedState) (tables : List (List Rule)) (round : List Change) → TablesKeepVlans tables → AllByRecursion (λ c. KeepsVlan (rule_of c).action) round
    → AreLoaded (one_round_of net tables round) 0 mixes → ArePreparedFor net mixes tables round
prepared_here net mixes tables round rules keeps loaded = record { net_is = refl; loaded = loaded; keeps_old = rules; keeps = keeps_round net tables round keeps }

module _ (to : Target) (tables : List (List Rule)) (round : List Change) (p : PreparedState) (came : List ℕ) (looked : List Bool) (at : IsFilling to tables round p came looked) where
  -- the same tables with other changes taken
  pub filling_with : (next : List Change) (q : PreparedState) → AreTakenChanges to.net q → rules_of_all q.tables ≡ rules_of_all p.tables → q.round ≡ next → AllByRecursion (λ c. KeepsVlan (rule_of c).action) next
      → (new : List ℕ) → AreKept to tables next new → (marks : List Bool) → HasAtoms to.classes marks → IsFilling to tables next q new marks
  filling_with next q trial same is keeps new kept marks atoms = record {
    taken = trial;
    tables_are = same ∙ at.tables_are;
    round_is = is;
    rules = at.rules;
    changes = keeps;
    kept = kept;
    atoms = atoms;
  }

  module _ (c : Change) (plain : IsPlain to.net c) where
    pub keeps_more : AllByRecursion (λ d. KeepsVlan (rule_of d).action) (round ++ c ∷ [])
    keeps_more = each_append (λ d. KeepsVlan (rule_of d).action) round (c ∷ []) at.changes (plain.keeps, tt)

    -- the switches are prepared for the change beside the others
    pub prepared_beside : (q : PreparedState) (mixes : List MixedState) → rules_of_all q.tables ≡ rules_of_all p.tables → q.round ≡ round ++ c ∷ [] → AreLoaded (one_round_of to.net (rules_of_all q.tables) q.round) 0 mixes
        → ArePreparedFor to.net mixes tables (round ++ c ∷ [])
    prepared_beside q mixes same is loaded =
        prepared_here to.net mixes tables (round ++ c ∷ []) at.rules keeps_more
        (subst (λ (ts : List (List Rule)). AreLoaded (one_round_of to.net ts (round ++ c ∷ [])) 0 mixes) (same ∙ at.tables_are)
        (subst (λ (cs : List Change). AreLoaded (one_round_of to.net (rules_of_all q.tables) cs) 0 mixes) is loaded))

    -- it doesn't fit the tables
    pub tried_unfit : (q : PreparedState) → AreTakenChanges to.net q → rules_of_all q.tables ≡ rules_of_all p.tables → q.round ≡ p.round → ¬ FitTables to.net (rules_of_all p.tables) (p.round ++ c ∷ []) → IsTried to tables round c q came looked
    tried_unfit q trial same is never =
        let none : ¬ FitTables to.net tables (round ++ c ∷ []) =
        subst (λ (ts : List (List Rule)). ¬ FitTables to.net ts (round ++ c ∷ [])) at.tables_are (subst (λ (cs : List Change). ¬ FitTables to.net (rules_of_all p.tables) (cs ++ c ∷ [])) at.round_is never) in
        inr (
          λ can. none (record { good = can.good; clear = can.clear; fits = can.fits }),
          filling_with round q trial same (is ∙ at.round_is) at.changes came at.kept looked at.atoms,
        )

    -- it can stand
    pub tried_taken : (q : PreparedState) → AreTakenChanges to.net q → rules_of_all q.tables ≡ rules_of_all p.tables → q.round ≡ p.round ++ c ∷ [] → (new : List ℕ) → AreKept to tables (round ++ c ∷ []) new
        → (marks : List Bool) → HasAtoms to.classes marks → IsTried to tables round c q new marks
    tried_taken q trial same is new kept marks atoms =
        let taken : q.round ≡ round ++ c ∷ [] = is ∙ ap (λ (cs : List Change). cs ++ c ∷ []) at.round_is in
        let fit : FitTables to.net tables (round ++ c ∷ []) =
        subst (λ (ts : List (List Rule)). FitTables to.net ts (round ++ c ∷ [])) (same ∙ at.tables_are) (subst (FitTables to.net (rules_of_all q.tables)) taken trial.fit) in
        inl (
          record { good = fit.good; clear = fit.clear; fits = fit.fits; safe = λ n class is. (kept.each n class is).safe },
          filling_with (round ++ c ∷ []) q trial same taken keeps_more new kept marks atoms,
        )

    -- it fails for a class
    pub tried_failed : (q : PreparedState) → AreTakenChanges to.net q → rules_of_all q.tables ≡ rules_of_all p.tables → q.round ≡ round → (f : Failure) → IsFailureOf to tables (round ++ c ∷ []) c f → (new : List ℕ) → AreKept to tables round new
        → (marks : List Bool) → HasAtoms to.classes marks → IsTried to tables round c q new marks
    tried_failed q trial same is f (of_it, fails) new kept marks atoms =
        inr (λ can. fails.never (can.safe fails.number f.class fails.is_class), filling_with round q trial same is at.changes new kept marks atoms)

    -- and that is known
    pub failed_now : (f : Failure) → IsFailureOf to tables (round ++ c ∷ []) c f → HasFailed to tables round f
    failed_now f (of_it, fails) =
        failed_here to tables round f (subst (λ (d : Change). KeepsVlan (rule_of d).action) (sym of_it) plain.keeps)
        (subst (λ (d : Change). IsFailing to tables (round ++ d ∷ []) f) (sym of_it) fails)

-- ---- going through changes

module _ (to : Target) (tables : List (List Rule)) (taken changes : List Change) (known : List Failure) where
  -- so many of the changes were gone through that the rest is left, and these failures were found
  pub record AreGone (rest : List Change) (p : PreparedState) (came : List ℕ) (looked : List Bool) (found : List Failure) : Type 0 where
    pub now : List Change
    pub filling : IsFilling to tables now p came looked
    pub so_far : (last : List Change) → IsFilled (CanStand to tables) now rest last → IsFilled (CanStand to tables) taken changes last
    pub known_failed : AllByRecursion (HasFailed to tables now) known
    pub found_failed : AllByRecursion (HasFailed to tables now) found

  module _ (c : Change) (rest : List Change) (p : PreparedState) (came : List ℕ) (looked : List Bool) (found : List Failure) (gone : AreGone (c ∷ rest) p came looked found) where
    -- the failure of the next one is known
    pub gone_known : (f : Failure) → IsIn f known → f.change ≡ c → AreGone rest p came looked (found ++ f ∷ [])
    gone_known f i of_it =
        let failed = each_at (HasFailed to tables gone.now) known f gone.known_failed i in
        record {
          now = gone.now;
          filling = gone.filling;
          so_far = λ last filled. gone.so_far last
              (inr (subst (λ (d : Change). ¬ CanStand to tables (gone.now ++ d ∷ [])) of_it (never_beside to tables gone.now f failed), filled));
          known_failed = gone.known_failed;
          found_failed = each_append (HasFailed to tables gone.now) found (f ∷ []) gone.found_failed (failed, tt);
        }

    module _ (q : PreparedState) (new : List ℕ) (marks : List Bool) where
      -- the next one was tried
      pub gone_tried : IsTried to tables gone.now c q new marks → AreGone rest q new marks found
      gone_tried (inl (can, filling)) = record {
        now = gone.now ++ c ∷ [];
        filling = filling;
        so_far = λ last filled. gone.so_far last (inl (can, filled));
        known_failed = all_more to tables gone.now c known gone.known_failed;
        found_failed = all_more to tables gone.now c found gone.found_failed;
      }
      gone_tried (inr (never, filling)) = record {
        now = gone.now;
        filling = filling;
        so_far = λ last filled. gone.so_far last (inr (never, filled));
        known_failed = gone.known_failed;
        found_failed = gone.found_failed;
      }

      -- and failed
      pub gone_failed : IsTried to tables gone.now c q new marks → (f : Failure) → HasFailed to tables gone.now f → AreGone rest q new marks (found ++ f ∷ [])
      gone_failed (inl (can, filling)) f failed = record {
        now = gone.now ++ c ∷ [];
        filling = filling;
        so_far = λ last filled. gone.so_far last (inl (can, filled));
        known_failed = all_more to tables gone.now c known gone.known_failed;
        found_failed = all_more to tables gone.now c (found ++ f ∷ []) (each_append (HasFailed to tables gone.now) found (f ∷ []) gone.found_failed (failed, tt));
      }
      gone_failed (inr (never, filling)) f failed = record {
        now = gone.now;
        filling = filling;
        so_far = λ last filled. gone.so_far last (inr (never, filled));
        known_failed = gone.known_failed;
        found_failed = each_append (HasFailed to tables gone.now) found (f ∷ []) gone.found_failed (failed, tt);
      }
