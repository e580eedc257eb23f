-- The packing of a tree update isn't stuck.
use Rattle.std.proofs.Common.{◌≡◌, ◌≢◌, true, List, [], ◌∷◌, ◌++◌, refl, sym, ◌∙◌, subst, ap, inl, inr}
use Rattle.net_base.specs.Members.{IsIn}
use Rattle.std.specs.Prelude.{Some, None}
use Rattle.std.proofs.lemmas.Bool.{both_ways, cond-false, false_from_ne_true}
use Rattle.net_base.proofs.MemberLaws.{in_from_subsequence, in_map, in_append_right}
use Rattle.net_base.proofs.ListLaws.{in_filter_map}
use Rattle.net_base.specs.declared.ids.SwitchId.{SwitchId}
use Rattle.flow_rules.specs.Same.{action_eq}
use Rattle.flow_rules.specs.Tables.{rules_at, keys_of}
use Rattle.flow_rules.proofs.TableLaws.{action_eq-true, action_eq-refl}
use Rattle.flow_rules.specs.declared.rules.Rule.{Rule}
use Rattle.update_model.specs.Changes.{tables_after}
use Rattle.update_model.specs.Remaining.{remaining_changes, rule_with, difference, keys_in_order}
use Rattle.update_model.specs.declared.Change.{Change}
use Rattle.update_model.specs.declared.Change.TheVariants.{Insert, Delete, Replace}
use Rattle.update_model.proofs.DifferenceLaws.{IsDifference, remaining_is, remaining_in}
use Rattle.update_model.proofs.KeyOrderLaws.{in_order}
use Rattle.update_model.proofs.RemainingLaws.{rule_is}
use Rattle.certificates.specs.Updates.{Task}
use Rattle.certificates.specs.Trees.{IsRemainingReplace}
use Rattle.certificates.proofs.TreeTables.{Fits}
use Rattle.certificates.proofs.TreeRounds.{new_fit}
use Rattle.table_difference.specs.Targets.{Target}
use Rattle.law_packed_rounds.specs.Packing.{CanStand, IsPackedRound, ArePacked, PacksStuck, tables_past}
use Rattle.law_packed_rounds.proofs.Filled.{filled_stands}
use Rattle.law_packed_rounds.proofs.Packed.{packed_part, packed_full, stuck_alone}
use Rattle.law_packed_trees.specs.TreeUpdates.{IsUserTreeUpdate, task_target}
use Rattle.law_packed_trees.proofs.TreeProgress.{Progress, start, within, goes_on, some_stands}

module _ (t : Task) (is : IsUserTreeUpdate t) where
  abbrev pub to : Target
  to = task_target t

  abbrev pub Present : List (List Rule) → Type 0
  Present = Progress t is.tree is.net is.old_user is.new_user

  module _ (tables : List (List Rule)) (p : Present tables) where
    new_fits : (s : SwitchId) → Fits (rules_at t.update.new s) (rules_at t.update.new s)
    new_fits s = new_fit t is.tree is.old_user.distinct is.new_user.distinct s

    -- the changes that remain are the remaining replaces
    pub remaining_replace : (c : Change) → IsIn c (remaining_changes tables t.update.new) → IsRemainingReplace t tables c
    remaining_replace c i = let (s, less, h) = remaining_is tables t.update.new c i in of s c h
      where
        of : (s : SwitchId) (d : Change) → IsDifference s (rules_at tables s) (rules_at t.update.new s) d → IsRemainingReplace t tables d
        of s (Delete x r) h = absurd (h.2 (((p.fit s).keys r.key).0 (in_map (λ y. y.key) r (rules_at tables s) h.1)))
        of s (Insert x r) h = absurd (h.2 (((p.fit s).keys r.key).1 (in_map (λ y. y.key) r (rules_at t.update.new s) h.1)))
        of s (Replace x q) h =
            let (same, wanted, (r, stands, key, differ)) = h in
            record {
              switch = s;
              now = r;
              next = q;
              is = ap (λ y. Replace y q) same;
              stands = stands;
              wanted = wanted;
              same_key = key;
              differs = λ e. both_ways (action_eq r.action q.action) differ (subst (λ a. action_eq r.action a ≡ true) e (action_eq-refl r.action));
            }

    pub replace_remains : (c : Change) → IsRemainingReplace t tables c → IsIn c (remaining_changes tables t.update.new)
    replace_remains c r =
        let s = r.switch in
        let now = rules_at tables s in
        let new = rules_at t.update.new s in
        let key = r.next.key in
        let gives : difference s (rule_with key now) (rule_with key new) ≡ Some (Replace s r.next) =
        ap (λ o. difference s o (rule_with key new)) (rule_is now (p.fit s).unique key r.now r.stands r.same_key)
        ∙ ap (difference s (Some r.now)) (rule_is new (new_fits s).unique key r.next r.wanted refl)
        ∙ cond-false (action_eq r.now.action r.next.action) None (Some (Replace s r.next)) (false_from_ne_true (action_eq r.now.action r.next.action) (λ e. r.differs (action_eq-true r.now.action r.next.action e))) in
        subst (λ d. IsIn d (remaining_changes tables t.update.new)) (sym r.is)
        (remaining_in tables t.update.new s (Replace s r.next) (within r.now tables s.0 r.stands) (within r.next t.update.new s.0 r.wanted)
        (in_filter_map (λ k. difference s (rule_with k now) (rule_with k new)) key (Replace s r.next) (keys_in_order (keys_of now ++ keys_of new))
        (in_order key (keys_of now ++ keys_of new) (in_append_right key (keys_of now) (keys_of new) (in_map (λ x. x.key) r.next new r.wanted))) gives))

    module _ (round : List Change) (packed : IsPackedRound to tables round) where
      pub round_remains : (c : Change) → IsIn c round → IsRemainingReplace t tables c
      round_remains c i = remaining_replace c (in_from_subsequence c round (remaining_changes tables t.update.new) (packed_part to tables round packed) i)

      pub round_full : (c : Change) → IsRemainingReplace t tables c → ¬ IsIn c round → ¬ CanStand to tables (round ++ c ∷ [])
      round_full c r out = packed_full to tables round packed c (replace_remains c r) out

      pub round_stands : round ≢ [] → CanStand to tables round
      round_stands some = elim (filled_stands (CanStand to tables) [] (remaining_changes tables t.update.new) round packed) [ inl e ↦ absurd (some e) | inr can ↦ can ]

      pub after_round : round ≢ [] → Present (tables_after round tables)
      after_round some = goes_on t is.tree is.net is.old_user is.new_user tables p round round_remains (round_stands some)

  pub begins : Present t.update.old
  begins = start t is.tree is.net is.old_user is.new_user

  pub along : (tables : List (List Rule)) → Present tables → (rounds : List (List Change)) → ArePacked to tables rounds → Present (tables_past rounds tables)
  along tables p [] packed = p
  along tables p (round ∷ rounds) packed = along (tables_after round tables) (after_round tables p round packed.0 packed.1) rounds packed.2

  some_in : (changes : List Change) → changes ≢ [] → (c : Change) × IsIn c changes
  some_in [] ne = absurd (ne refl)
  some_in (c ∷ changes) ne = (c, inl refl)

  pub never_stuck : (rounds : List (List Change)) → ¬ PacksStuck to t.update.old rounds
  never_stuck rounds stuck =
      let now = tables_past rounds t.update.old in
      let p = along t.update.old begins rounds stuck.packed in
      let (d, i) = some_in (remaining_changes now t.update.new) stuck.some_remain in
      let (c, r, can) = some_stands t is.tree is.net is.old_user is.new_user now p d (remaining_replace now p d i) in
      stuck_alone to t.update.old rounds stuck c (replace_remains now p c r) can
