-- The tables of a tree update while rounds of replaces are carried out: they fit, and each class has a fine path.
use Rattle.std.proofs.Common.{◌≡◌, ℕ, zero, suc, ◌<◌, List, [], ◌∷◌, map, length, get_or, refl, sym, ◌∙◌, subst, inl, inr, arith}
use Rattle.std.specs.List.{AllByRecursion}
use Rattle.net_base.specs.Members.{IsIn, IsDistinct}
use Rattle.net_base.proofs.MemberLaws.{in_map, each_from_in}
use Rattle.net_base.specs.declared.ids.SwitchId.{SwitchId}
use Rattle.topology.specs.Networks.{IsNetwork}
use Rattle.flow_rules.specs.Tables.{rules_at, keys_of}
use Rattle.flow_rules.specs.declared.rules.Rule.{Rule}
use Rattle.path_walk.specs.Paths.{outcome_in}
use Rattle.path_walk.specs.UserConfigs.{IsUserConfig}
use Rattle.dest_classes.specs.Classes.{IsClass}
use Rattle.dest_classes.specs.declared.Class.{Class}
use Rattle.demands.specs.Duties.{duties_of}
use Rattle.update_model.specs.Changes.{tables_after, entry_named, Applies}
use Rattle.update_model.specs.Mixtures.{AreGoodRounds}
use Rattle.update_model.specs.declared.Change.{Change}
use Rattle.certificates.specs.Updates.{Task}
use Rattle.certificates.specs.Certified.{classes_for}
use Rattle.certificates.specs.Rounds.{one_round_of, IsSafeByEvidence, CanBeRound}
use Rattle.certificates.specs.Trees.{IsTreeUpdate, IsRemainingReplace}
use Rattle.certificates.proofs.TreeTables.{unique_in_table}
use Rattle.certificates.proofs.TreeRounds.{AllFit}
use Rattle.certificates.proofs.TreeWalks.{FinePath}
use Rattle.certificates.proofs.TreePaths.{fine_from_good, fine_after_round}
use Rattle.certificates.proofs.TreeSteps.{some_replace_is_safe}
use Rattle.law_packed_trees.proofs.ManyReplaces.{AreWanted, wanted_of, mixtures_clear, fits_then, length_then, nothing_inserted}

pub within : {A : Type 0} (x : A) (xs : List (List A)) (n : ℕ) → IsIn x (get_or xs n []) → n < length xs
within x [] n i = absurd i
within x (ys ∷ xs) zero i = omega arith
within x (ys ∷ xs) (suc n) i = let h = within x xs n i in omega arith

module _ (t : Task) (tree : IsTreeUpdate t) (is_net : IsNetwork t.update.net) (old_user : IsUserConfig t.update.net t.update.old) (new_user : IsUserConfig t.update.net t.update.new) where
  abbrev pub Fit : List (List Rule) → Type 0
  Fit tables = AllFit t tree old_user.distinct new_user.distinct tables

  -- what holds of the tables from round to round
  pub record Progress (tables : List (List Rule)) : Type 0 where
    pub fit : Fit tables
    pub fine : (n : ℕ) (class : Class) → IsClass (classes_for t) n class
        → FinePath (λ p. outcome_in t.update.net tables p class.first) (duties_of t.update.demands class.entry class.first).arrive class.entry
    pub sizes : (s : SwitchId) → length (rules_at tables s) ≡ length (rules_at t.update.old s)

  pub start : Progress t.update.old
  start = record {
    fit = λ s. record { keys = tree.same_keys s; unique = unique_in_table (rules_at t.update.old s) (old_user.distinct s) };
    fine = λ n class is. fine_from_good t.update.net t.update.old t.update.demands class.entry class.first (tree.old_good n class is);
    sizes = λ s. refl;
  }

  module _ (tables : List (List Rule)) (p : Progress tables) (changes : List Change) (remain : (c : Change) → IsIn c changes → IsRemainingReplace t tables c) where
    wanted : AreWanted t tree old_user.distinct new_user.distinct changes
    wanted c i = wanted_of t tree old_user.distinct new_user.distinct tables c (remain c i)

    pub applies : AllByRecursion (Applies tables) changes
    applies = each_from_in (Applies tables) changes one
      where
        one : (c : Change) → IsIn c changes → Applies tables c
        one c i =
            let r = remain c i in
            subst (Applies tables) (sym r.is)
            (within r.now tables r.switch.0 r.stands, subst (λ k. IsIn k (keys_of (rules_at tables r.switch))) r.same_key (in_map (λ x. x.key) r.now (rules_at tables r.switch) r.stands))

    -- remaining replaces of different rules that keep every class safe can be a round
    pub can_stand : IsDistinct (map entry_named changes) → ((n : ℕ) (class : Class) → IsClass (classes_for t) n class → IsSafeByEvidence t.update.net t.update.demands tables changes class)
        → CanBeRound t.update.net t.update.demands (classes_for t) tables changes
    can_stand once safe = record {
      good = record { applies = applies; distinct = once };
      clear = λ s mixed held. mixtures_clear t tree old_user.distinct new_user.distinct tables p.fit changes wanted s mixed held;
      fits = λ s less.
          let most = old_user.fits s less in
          let size = p.sizes s in
          let none = nothing_inserted t tree old_user.distinct new_user.distinct tables p.fit changes wanted s in
          omega arith;
      safe = safe;
    }

    -- after a round of remaining replaces
    pub goes_on : CanBeRound t.update.net t.update.demands (classes_for t) tables changes → Progress (tables_after changes tables)
    goes_on can = record {
      fit = fits_then t tree old_user.distinct new_user.distinct tables p.fit changes wanted applies;
      fine = λ n class is.
          let keeps = can.safe n class is in
          fine_after_round (one_round_of t.update.net tables changes) good 0 (omega arith) class.first class.entry (duties_of t.update.demands class.entry class.first).arrive keeps.numbers
          keeps.safe.falls keeps.safe.arrives;
      sizes = λ s. length_then t tree old_user.distinct new_user.distinct tables p.fit changes wanted applies s ∙ p.sizes s;
    }
      where
        good : AreGoodRounds (one_round_of t.update.net tables changes)
        good zero less = can.good
        good (suc k) less = absurd (omega arith)

  -- where a replace remains, some remaining one can be a round of its own
  pub some_stands : (tables : List (List Rule)) → Progress tables → (rest : Change) → IsRemainingReplace t tables rest
      → (c : Change) × IsRemainingReplace t tables c × CanBeRound t.update.net t.update.demands (classes_for t) tables (c ∷ [])
  some_stands tables p rest remains =
      let (c, r, safe) = some_replace_is_safe t tree old_user.distinct new_user.distinct is_net tables p.fit p.fine tables (λ x. (x ∷ []) ∷ []) 0 (λ x. refl) (λ x. refl) rest remains in (
        c,
        r,
        can_stand tables p (c ∷ []) (λ d i. elim i [ inl e ↦ subst (IsRemainingReplace t tables) (sym e) r | inr j ↦ absurd j ]) (λ i. i, tt)
            (λ n class is. let (numbers, sets, keeps) = safe n class is in record { numbers = numbers; sets = sets; safe = keeps }),
      )
