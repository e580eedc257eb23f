-- Each packed round of the ring renews the rule for the first destination at one more switch, in their order, and at no other.
use Rattle.std.proofs.Common.{◌≡◌, ◌≢◌, ◌⊎◌, ℕ, suc, ◌+◌, ◌-◌, ◌<◌, ◌≤◌, true, false, cond, List, [], ◌∷◌, length, Some, refl, sym, ◌∙◌, ap, subst, inl, inr, arith}
use Rattle.std.specs.Prelude.{◌==◌}
use Rattle.std.specs.List.{AllByRecursion}
use Rattle.std.proofs.lemmas.Bool.{cases_lt, eq-eqb, ne_eqb}
use Rattle.net_base.specs.Members.{IsIn, IsSubsequence}
use Rattle.net_base.proofs.MemberLaws.{in_map, in_from_map, in_filter, in_from_filter}
use Rattle.net_base.proofs.WalkLaws.{reached_start, reached_more}
use Rattle.net_base.specs.declared.ids.SwitchId.{SwitchId}
use Rattle.net_base.specs.declared.ids.Place.{Place}
use Rattle.net_base.specs.declared.ids.Vlan.TheVariants.{Untagged}
use Rattle.flow_rules.specs.Patterns.{key_eq}
use Rattle.flow_rules.specs.Tables.{rules_at, keys_of, matched_rule, lookup}
use Rattle.flow_rules.specs.declared.rules.Rule.{Rule}
use Rattle.flow_rules.specs.declared.rules.Action.{Action}
use Rattle.flow_rules.specs.declared.rules.Action.TheVariants as action
use Rattle.path_walk.specs.Outcomes.{action_outcome, sent_outcome, header_at}
use Rattle.path_walk.specs.declared.Outcome.TheVariants.{Discard, Go}
use Rattle.update_model.specs.Changes.{switch_of, changes_at, rules_after, rules_after_change, tables_after, Applies}
use Rattle.update_model.specs.Mixtures.{Rollout, IsPossible, MayGo}
use Rattle.update_model.specs.declared.Change.{Change}
use Rattle.update_model.specs.declared.Change.TheVariants.{Replace}
use Rattle.update_model.proofs.ChangeLaws.{in_from_stands}
use Rattle.certificates.specs.Updates.{Task}
use Rattle.certificates.specs.Rounds.{one_round_of}
use Rattle.certificates.specs.Trees.{IsRemainingReplace}
use Rattle.certificates.proofs.TreeTables.{Fits}
use Rattle.certificates.proofs.TreeRounds.{new_fit}
use Rattle.law_packed_rounds.specs.Packing.{IsPackedRound, ArePacked, PacksOrdered, tables_past}
use Rattle.law_packed_trees.specs.TreeUpdates.{IsUserTreeUpdate, task_target}
use Rattle.law_packed_trees.proofs.ManyReplaces.{AreWantedAt, IsWantedAt, wanted_of, wanted_there, fits_made, clear_fit, rules_then}
use Rattle.law_packed_trees.proofs.TreeProgress.{applies}
use Rattle.law_packed_trees.proofs.Picks.{picked_at, rule_picked, clear_new}
use Rattle.law_packed_trees.proofs.NeverStuck.{Present, begins, along, replace_remains, round_remains, round_stands, after_round}
use Rattle.law_packed_trees.proofs.FewRounds.{few_rounds}
use Rattle.ring_sample.specs.Ring.{ring_network, ring_rule, ring_tables}
use Rattle.ring_sample.proofs.Ways.{back, back_cases, back_end}
use Rattle.ring_sample.proofs.Walks.{place_at, out_of}
use Rattle.ring_sample.proofs.ClassPaths.{first_of, table_at}
use Rattle.ring_sample.proofs.Tree.{ring_task}
use Rattle.law_packed_ring.proofs.RingClasses.{class_of, class_is, must_arrive}
use Rattle.law_packed_ring.proofs.RingBounds.{ring_bounds}

abbrev port_of : Action → ℕ
port_of action.Discard = 0
port_of (action.Out port rewrite) = port.0

just_it : {A : Type 0} (x : A) (xs : List A) → IsIn x xs → IsSubsequence (x ∷ []) xs
just_it x [] i = absurd i
just_it x (y ∷ ys) (inl e) = inl (e, tt)
just_it x (y ∷ ys) (inr i) = inr (just_it x ys i)

module _ (n : ℕ) (some : 4 ≤ n) (is : IsUserTreeUpdate (ring_task n)) where
  abbrev t : Task
  t = ring_task n

  abbrev sw : ℕ → SwitchId
  sw i = record { 0 = i }

  -- the first destination's address, and its rules before and after
  abbrev dst : ℕ
  dst = first_of 0

  abbrev old_rule : ℕ → Rule
  old_rule i = ring_rule 2 i 0

  abbrev new_rule : ℕ → Rule
  new_rule i = ring_rule 3 i 0

  abbrev renewal : ℕ → Change
  renewal i = Replace (sw i) (new_rule i)

  sends_on : (port i : ℕ) → 1 ≤ i → (ring_rule port i 0).action ≡ out_of port
  sends_on port i far = ap (λ b. out_of (cond b 1 port)) (ne_eqb i 0 (λ e. omega arith))

  new_there : (i : ℕ) → i < n → IsIn (new_rule i) (rules_at (ring_tables n 3) (sw i))
  new_there i lt = subst (IsIn (new_rule i)) (sym (table_at n 3 i lt)) (inl refl)

  new_picked : (i : ℕ) (p : Place) → i < n → matched_rule (header_at p dst) (rules_at (ring_tables n 3) (sw i)) ≡ Some (new_rule i)
  new_picked i p lt = ap (matched_rule (header_at p dst)) (table_at n 3 i lt) ∙ refl

  differs : (i : ℕ) → 1 ≤ i → ¬ ((old_rule i).action ≡ (new_rule i).action)
  differs i far e = let f : 2 ≡ 3 = ap port_of (sym (sends_on 2 i far) ∙ e ∙ sends_on 3 i far) in omega (arith, f)

  -- the old rule stands at all switches behind one
  abbrev OldBehind : List (List Rule) → ℕ → Type 0
  OldBehind tables r = (i : ℕ) → r < i → i < n → IsIn (old_rule i) (rules_at tables (sw i))

  all_old : OldBehind (ring_tables n 2) 0
  all_old i far lt = subst (IsIn (old_rule i)) (sym (table_at n 2 i lt)) (inl refl)

  -- a rule after replaces stood before, or one of them put it in
  put_or_stood : (s : SwitchId) (made : List Change) → AreWantedAt t is.tree is.old_user.distinct is.new_user.distinct s made → (rules : List Rule) (r : Rule)
      → IsIn r (rules_after made rules) → IsIn r rules ⊎ IsIn (Replace s r) made
  put_or_stood s [] all rules r i = inl i
  put_or_stood s (c ∷ made) all rules r i =
      elim (put_or_stood s made (λ d j. all d (inr j)) (rules_after_change c rules) r i) [
        | inr j ↦ inr (inr j)
        | inl j ↦ (
            let w = all c (inl refl) in
            let (x, k, e) = in_from_map (λ y. cond (key_eq y.key w.next.key) w.next y) r rules (subst (λ d. IsIn r (rules_after_change d rules)) w.is j) in
            elim (key_eq x.key w.next.key) as (λ b. r ≡ cond b w.next x → IsIn r rules ⊎ IsIn (Replace s r) (c ∷ made)) [
              | true ↦ λ f. inr (inl (ap (Replace s) f ∙ sym w.is))
              | false ↦ λ f. inl (subst (λ y. IsIn y rules) (sym f) k)
            ] e)
      ]

  module _ (tables : List (List Rule)) (p : Present t is tables) (round : List Change) (packed : IsPackedRound (task_target t) tables round) (full : round ≢ []) (r : ℕ) (old : OldBehind tables r) where
    abbrev remain : (c : Change) → IsIn c round → IsRemainingReplace t tables c
    remain = round_remains t is tables p round packed

    abbrev u : Rollout
    u = one_round_of (ring_network n) tables round

    -- where the rule at a switch is replaced while the one before it is old, packets turn back there and are dropped
    module _ (i : ℕ) (far : suc r < i) (lt : i < n) (renewed : IsIn (renewal i) round) where
      abbrev k : ℕ
      k = back n i

      before : (k + 1 ≡ i) × (k < n)
      before =
          let (cases, inside, _) = back_cases n i (omega arith) lt in
          elim cases [ inl first ↦ absurd (omega (arith, first.0, far)) | inr more ↦ (more.1, inside) ]

      abbrev entry : Place
      entry = place_at i 1 Untagged

      abbrev turn : Place
      turn = place_at k 2 Untagged

      wanted_here : IsWantedAt t is.tree is.old_user.distinct is.new_user.distinct (sw i) (renewal i)
      wanted_here = record { next = new_rule i; is = refl; wanted = new_there i lt }

      abbrev mixed : List Rule
      mixed = rules_after (renewal i ∷ []) (rules_at tables (sw i))

      mixed_fits : Fits (rules_at (ring_tables n 3) (sw i)) mixed
      mixed_fits =
          fits_made t is.tree is.old_user.distinct is.new_user.distinct (sw i) (renewal i ∷ []) (λ d j. elim j [ inl e ↦ subst (IsWantedAt t is.tree is.old_user.distinct is.new_user.distinct (sw i)) (sym e) wanted_here | inr x ↦ absurd x ])
          (rules_at tables (sw i)) (p.fit (sw i))

      new_in : IsIn (new_rule i) mixed
      new_in =
          in_from_stands (rules_at tables (sw i)) (renewal i) (new_rule i)
          (((p.fit (sw i)).keys (new_rule i).key).1 (in_map (λ x. x.key) (new_rule i) (rules_at (ring_tables n 3) (sw i)) (new_there i lt))) (inr refl)

      mixed_sends : lookup (header_at entry dst) mixed ≡ out_of 3
      mixed_sends =
          picked_at (rules_at (ring_tables n 3) (sw i)) mixed mixed_fits (clear_new t is.tree is.old_user.distinct is.new_user.distinct (sw i))
          (clear_fit t is.tree is.old_user.distinct is.new_user.distinct (sw i) mixed mixed_fits) (header_at entry dst) (new_rule i) (new_picked i entry lt) (new_rule i) new_in refl
          ∙ sends_on 3 i (omega (arith, far))

      goes : IsPossible u 0 dst entry (Go turn)
      goes = record {
        mixed = mixed;
        held = record {
          made = renewal i ∷ [];
          some = just_it (renewal i) (changes_at (sw i) round) (in_filter (λ d. (switch_of d).0 == i) (renewal i) round renewed (eq-eqb i i refl));
          same = λ x. (λ j. j, λ j. j);
        };
        is = sym (ap (action_outcome (ring_network n) entry) mixed_sends ∙ ap (λ e. sent_outcome e (record { 0 = 3 }) Untagged) (back_end n (omega arith) is.net i lt));
      }

      still_sends : lookup (header_at turn dst) (rules_at tables (sw k)) ≡ out_of 2
      still_sends =
          let (one, inside) = before in
          rule_picked t is.tree is.old_user.distinct is.new_user.distinct tables p.fit (sw k) (header_at turn dst) (new_rule k) (new_picked k turn inside) (old_rule k)
          (old k (omega (arith, one, far)) inside) refl
          ∙ sends_on 2 k (omega (arith, one, far))

      drops : IsPossible u 0 dst turn Discard
      drops = record {
        mixed = rules_at tables (sw k);
        held = record { made = []; some = tt; same = λ x. (λ j. j, λ j. j) };
        is = sym (ap (action_outcome (ring_network n) turn) still_sends);
      }

      not_yet : ⊥
      not_yet =
          let (number, is_class) = class_is n some i 0 lt (omega arith) in
          let can = round_stands t is tables p round packed full in
          let keeps = can.safe number (class_of n some i 0) is_class in
          keeps.safe.arrives (must_arrive n some i (omega (arith, far)) lt)
          (record { place = turn; on_walk = reached_more (MayGo u 0 dst) entry entry turn (reached_start (MayGo u 0 dst) entry) goes; drops = drops })

    still_old : OldBehind (tables_after round tables) (suc r)
    still_old i far lt =
        let applied : AllByRecursion (Applies tables) round = applies t is.tree is.net is.old_user is.new_user tables p round remain in
        let all = λ (c : Change) (j : IsIn c round). wanted_of t is.tree is.old_user.distinct is.new_user.distinct tables c (remain c j) in
        let then = after_round t is tables p round packed full in
        let stood = old i (omega (arith, far)) lt in
        let key : IsIn (old_rule i).key (keys_of (rules_at (ring_tables n 3) (sw i))) = in_map (λ x. x.key) (new_rule i) (rules_at (ring_tables n 3) (sw i)) (new_there i lt) in
        let (x, j, e) = in_from_map (λ y. y.key) (old_rule i).key (rules_at (tables_after round tables) (sw i)) (((then.fit (sw i)).keys (old_rule i).key).1 key) in
        elim (put_or_stood (sw i) (changes_at (sw i) round) (wanted_there t is.tree is.old_user.distinct is.new_user.distinct round all (sw i)) (rules_at tables (sw i)) x
        (subst (IsIn x) (rules_then t is.tree is.old_user.distinct is.new_user.distinct tables p.fit round all applied (sw i)) j)) [
          | inl before ↦ subst (λ y. IsIn y (rules_at (tables_after round tables) (sw i))) ((p.fit (sw i)).unique x (old_rule i) before stood (sym e)) j
          | inr put ↦ (
              let w = wanted_there t is.tree is.old_user.distinct is.new_user.distinct round all (sw i) (Replace (sw i) x) put in
              let same : x ≡ w.next = let f : Replace (sw i) x ≡ Replace (sw i) w.next = w.is in cc in
              let new_one : x ≡ new_rule i =
              (new_fit t is.tree is.old_user.distinct is.new_user.distinct (sw i)).unique x (new_rule i) (subst (λ y. IsIn y (rules_at (ring_tables n 3) (sw i))) (sym same) w.wanted) (new_there i lt) (sym e) in
              let (made, _) = in_from_filter (λ d. (switch_of d).0 == i) (Replace (sw i) x) round put in
              absurd (not_yet i far lt (subst (λ y. IsIn (Replace (sw i) y) round) new_one made)))
        ]

  old_along : (tables : List (List Rule)) → Present t is tables → (rounds : List (List Change)) → ArePacked (task_target t) tables rounds → (r k : ℕ) → r + length rounds ≡ k → OldBehind tables r
      → OldBehind (tables_past rounds tables) k
  old_along tables p [] packed r k e old = λ i far lt. old i (omega (arith, e, far)) lt
  old_along tables p (round ∷ rounds) packed r k e old =
      old_along (tables_after round tables) (after_round t is tables p round packed.0 packed.1) rounds packed.2 (suc r) k (omega (arith, e)) (still_old tables p round packed.0 packed.1 r old)

  -- it takes one round fewer than there are switches
  pub ring_rounds : (rounds : List (List Change)) → PacksOrdered (task_target t) (ring_tables n 2) rounds → length rounds ≡ n - 1
  ring_rounds rounds ordered =
      let most : length rounds ≤ n - 1 + 0 + 0 = few_rounds t is (n - 1) (ring_tables n 2) (begins t is) rounds ordered.packed 0 0 (ring_bounds n some is.net) in
      elim (cases_lt (length rounds) (n - 1)) [
        | inr least ↦ omega (arith, most, least)
        | inl less ↦ (
            let i : ℕ = n - 1 in
            let lt : i < n = omega arith in
            let last = tables_past rounds (ring_tables n 2) in
            let p = along t is (ring_tables n 2) (begins t is) rounds ordered.packed in
            let stood : IsIn (old_rule i) (rules_at last (sw i)) =
            old_along (ring_tables n 2) (begins t is) rounds ordered.packed 0 (length rounds) (omega arith) all_old i (omega (arith, less)) lt in
            let remains : IsRemainingReplace t last (renewal i) =
            record { switch = sw i; now = old_rule i; next = new_rule i; is = refl; stands = stood; wanted = new_there i lt; same_key = refl; differs = differs i (omega arith) } in
            absurd (subst (IsIn (renewal i)) ordered.none_remains (replace_remains t is last p (renewal i) remains)))
      ]
