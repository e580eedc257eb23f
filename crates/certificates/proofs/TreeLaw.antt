-- In a tree update, after safe single replaces some remaining replace is safe.
use Rattle.std.proofs.Common.{ℕ, zero, suc, ◌<◌, ◌≤◌, [], ◌∷◌, ◌++◌, length, sym, subst, arith}
use Rattle.net_base.specs.declared.ids.SwitchId.{SwitchId}
use Rattle.topology.specs.Networks.{IsNetwork}
use Rattle.flow_rules.specs.Tables.{rules_at, IsTable}
use Rattle.path_walk.specs.Paths.{outcome_in}
use Rattle.dest_classes.specs.Classes.{IsClass}
use Rattle.dest_classes.specs.declared.Class.{Class}
use Rattle.demands.specs.Duties.{duties_of}
use Rattle.update_model.specs.Mixtures.{tables_before, AreGoodRounds}
use Rattle.update_model.specs.declared.Change.{Change}
use Rattle.update_model.proofs.RoundLaws.{settled_start}
use Rattle.certificates.specs.Updates.{Task, rollout}
use Rattle.certificates.specs.Certified.{classes_for}
use Rattle.certificates.specs.Trees.{IsTreeUpdate, IsSafeForAll, IsRemainingReplace, AreSingleReplaces, with_single}
use Rattle.certificates.proofs.TreeRounds.{before_fit, round_last, tables_last}
use Rattle.certificates.proofs.TreeWalks.{FinePath}
use Rattle.certificates.proofs.TreePaths.{fine_from_good, fine_after_round}
use Rattle.certificates.proofs.TreeSteps.{some_replace_is_safe}

module _ (t : Task) (tree : IsTreeUpdate t) (old_once : (s : SwitchId) → IsTable (rules_at t.update.old s)) (new_once : (s : SwitchId) → IsTable (rules_at t.update.new s))
    (is_net : IsNetwork t.update.net) (singles : AreSingleReplaces t) (good : AreGoodRounds (rollout t)) (safe : (k : ℕ) → k < length t.rounds → IsSafeForAll t (rollout t) k) where
  -- after the first rounds each class has a fine path
  fine_before : (n : ℕ) (class : Class) → IsClass (classes_for t) n class → (k : ℕ) → k ≤ length t.rounds
      → FinePath (λ p. outcome_in t.update.net (tables_before (rollout t) k) p class.first) (duties_of t.update.demands class.entry class.first).arrive class.entry
  fine_before n class is zero le =
      subst (λ x. FinePath (λ p. outcome_in t.update.net x p class.first) (duties_of t.update.demands class.entry class.first).arrive class.entry) (sym (settled_start t.rounds t.update.old))
      (fine_from_good t.update.net t.update.old t.update.demands class.entry class.first (tree.old_good n class is))
  fine_before n class is (suc k) le =
      let less : k < length t.rounds = omega arith in
      let (numbers, sets, keeps) = safe k less n class is in
      fine_after_round (rollout t) good k less class.first class.entry (duties_of t.update.demands class.entry class.first).arrive numbers keeps.falls keeps.arrives

  pub tree_step : (rest : Change) → IsRemainingReplace t (tables_before (rollout t) (length t.rounds)) rest
      → (c : Change) × IsRemainingReplace t (tables_before (rollout t) (length t.rounds)) c × IsSafeForAll t (with_single (rollout t) c) (length t.rounds)
  tree_step rest remains =
      some_replace_is_safe t tree old_once new_once is_net (tables_before (rollout t) (length t.rounds)) (before_fit t tree old_once new_once singles good (length t.rounds) (omega arith))
      (λ n class is. fine_before n class is (length t.rounds) (omega arith)) t.update.old (λ c. t.rounds ++ (c ∷ []) ∷ []) (length t.rounds)
      (λ c. tables_last t.rounds (c ∷ []) t.update.old) (λ c. round_last t.rounds (c ∷ [])) rest remains
