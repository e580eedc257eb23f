-- The new rule that a lookup picks, in tables with the keys of the new ones and after replaces.
use Rattle.std.proofs.Common.{◌≡◌, ◌⊎◌, ◌≤◌, ◌&&◌, true, false, cond, List, [], ◌∷◌, refl, sym, ◌∙◌, subst, ap, inl, inr}
use Rattle.std.specs.Prelude.{◌==◌, Some, None}
use Rattle.std.specs.Option.{option_map_or}
use Rattle.std.specs.List.{AllByRecursion}
use Rattle.std.proofs.lemmas.Bool.{eq-eqb}
use Rattle.net_base.specs.Blocks.{in_block}
use Rattle.net_base.specs.Members.{IsIn}
use Rattle.net_base.proofs.MemberLaws.{in_map, in_from_map, in_filter, in_from_filter, each_get_or, each_at}
use Rattle.net_base.proofs.ListLaws.{found_is}
use Rattle.net_base.specs.declared.ids.SwitchId.{SwitchId}
use Rattle.flow_rules.specs.Patterns.{Header, covers, admits_port, admits_vlan, key_eq}
use Rattle.flow_rules.specs.Tables.{rules_at, covering_rules, matched_rule, lookup, IsClear, IsTable}
use Rattle.flow_rules.proofs.KeyLaws.{key_eq-true}
use Rattle.flow_rules.proofs.LookupLaws.{IsTop, is_top, top_of, top_told, matched_is_top, matched_none}
use Rattle.flow_rules.specs.declared.rules.Rule.{Rule}
use Rattle.flow_rules.specs.declared.rules.Action.TheVariants.{Discard}
use Rattle.update_model.specs.Changes.{switch_of, changes_at, rules_after, rules_after_change, tables_after, Applies}
use Rattle.update_model.specs.declared.Change.{Change}
use Rattle.update_model.specs.declared.Change.TheVariants.{Replace}
use Rattle.update_model.proofs.ChangeLaws.{in_from_stands}
use Rattle.certificates.specs.Updates.{Task}
use Rattle.certificates.specs.Trees.{MatchesPrefixAlone, IsTreeUpdate}
use Rattle.certificates.proofs.TreeTables.{Fits}
use Rattle.certificates.proofs.TreeRounds.{AllFit, new_fit}
use Rattle.law_packed_trees.proofs.ManyReplaces.{AreWanted, AreWantedAt, wanted_there, fits_made, clear_fit, rules_then}

module _ (new rules : List Rule) (fits : Fits new rules) (new_clear : IsClear new) (rules_clear : IsClear rules) (h : Header) where
  -- the rule is the one that matches in the new table
  abbrev IsPicked : Rule → Type 0
  IsPicked next = matched_rule h new ≡ Some next

  covering_new : (q : Rule) → IsIn q (covering_rules h rules) → (r : Rule) × IsIn r (covering_rules h new) × (q.key ≡ r.key)
  covering_new q i =
      let (j, c) = in_from_filter (λ x. covers x.key.pattern h) q rules i in
      let (r, k, e) = in_from_map (λ x. x.key) q.key new ((fits.keys q.key).0 (in_map (λ x. x.key) q rules j)) in
      (r, in_filter (λ x. covers x.key.pattern h) r new k (subst (λ x. covers x.pattern h ≡ true) e c), e)

  -- the rule with its key matches in the other table
  pub picked_at : (next : Rule) → IsPicked next → (r : Rule) → IsIn r rules → r.key ≡ next.key → lookup h rules ≡ r.action
  picked_at next picked r i e =
      let (j, tested) = found_is (is_top (covering_rules h new)) next (covering_rules h new) picked in
      let top = top_told (covering_rules h new) next tested in
      let (k, c) = in_from_filter (λ x. covers x.key.pattern h) next new j in
      let highest : IsTop (covering_rules h rules) r = λ q l.
      let (x, m, f) = covering_new q l in
      subst (λ y. y.priority ≤ r.key.priority) (sym f) (subst (λ y. x.key.priority ≤ y.priority) (sym e) (top x m)) in
      ap (λ m. option_map_or (λ x. x.action) m Discard)
      (matched_is_top h rules rules_clear r (in_filter (λ x. covers x.key.pattern h) r rules i (subst (λ x. covers x.pattern h ≡ true) (sym e) c)) highest)

  -- where the lookup isn't the new one, a rule of the table has another action than the new one that matches
  pub record DiffersBy : Type 0 where
    pub now : Rule
    pub next : Rule
    pub stands : IsIn now rules
    pub wanted : IsIn next new
    pub same_key : now.key ≡ next.key
    pub differs : ¬ (now.action ≡ next.action)
    pub picked : matched_rule h new ≡ Some next
    pub covered : covers next.key.pattern h ≡ true

  uncovered : matched_rule h new ≡ None → (q : Rule) → ¬ IsIn q (covering_rules h new)
  uncovered none q i = of (covering_rules h new) refl i
    where
      of : (zs : List Rule) → zs ≡ covering_rules h new → IsIn q zs → ⊥
      of [] e j = absurd j
      of (z ∷ zs) e j =
          let (m, k, top) = top_of z zs in
          let found : matched_rule h new ≡ Some m = matched_is_top h new new_clear m (subst (IsIn m) e k) (subst (λ xs. IsTop xs m) e top) in
          absurd (let f : Some m ≡ None = sym found ∙ none in cc)

  pub differs_by : (new_fits : Fits new new) → ((next : Rule) → matched_rule h new ≡ Some next → IsIn next new → lookup h new ≡ next.action) → ¬ (lookup h rules ≡ lookup h new) → DiffersBy
  differs_by new_fits new_at ne =
      elim (matched_rule h new) as (λ m. matched_rule h new ≡ m → DiffersBy) [
        | None ↦ λ none. absurd (ne (
            ap (λ m. option_map_or (λ x. x.action) m Discard) (matched_none h rules (λ q i. let (r, j, e) = covering_new q i in uncovered none r j))
            ∙ sym (ap (λ m. option_map_or (λ x. x.action) m Discard) none)))
        | Some next ↦ λ picked. (
            let (j, tested) = found_is (is_top (covering_rules h new)) next (covering_rules h new) picked in
            let (k, c) = in_from_filter (λ x. covers x.key.pattern h) next new j in
            let (r, i, e) = in_from_map (λ x. x.key) next.key rules ((fits.keys next.key).1 (in_map (λ x. x.key) next new k)) in
            record {
              now = r;
              next = next;
              stands = i;
              wanted = k;
              same_key = sym e;
              differs = λ same. ne (picked_at next picked r i (sym e) ∙ same ∙ sym (new_at next picked k));
              picked = picked;
              covered = c;
            })
      ] refl

module _ (t : Task) (tree : IsTreeUpdate t) (old_once : (s : SwitchId) → IsTable (rules_at t.update.old s)) (new_once : (s : SwitchId) → IsTable (rules_at t.update.new s)) where
  new_fits : (s : SwitchId) → Fits (rules_at t.update.new s) (rules_at t.update.new s)
  new_fits s = new_fit t tree old_once new_once s

  pub clear_new : (s : SwitchId) → IsClear (rules_at t.update.new s)
  clear_new s = clear_fit t tree old_once new_once s (rules_at t.update.new s) (new_fits s)

  -- the new table has the action of the new rule that matches
  pub new_picked : (s : SwitchId) (h : Header) (next : Rule) → matched_rule h (rules_at t.update.new s) ≡ Some next → IsIn next (rules_at t.update.new s) → lookup h (rules_at t.update.new s) ≡ next.action
  new_picked s h next picked i =
      picked_at (rules_at t.update.new s) (rules_at t.update.new s) (new_fits s) (clear_new s) (clear_new s) h next picked next i refl

  -- an address that a new rule covers is in its prefix
  pub has_address : (s : SwitchId) (h : Header) (next : Rule) → IsIn next (rules_at t.update.new s) → covers next.key.pattern h ≡ true → in_block next.key.pattern.dst h.dst ≡ true
  has_address s h next i c =
      let alone = each_at MatchesPrefixAlone (rules_at t.update.new s) next (each_get_or (AllByRecursion MatchesPrefixAlone) t.update.new s.0 [] tree.new_alone tt) i in
      sym (ap (λ p. admits_port p h.port && admits_vlan next.key.pattern.vlan h.vlan && in_block next.key.pattern.dst h.dst) alone.0
      ∙ ap (λ v. admits_vlan v h.vlan && in_block next.key.pattern.dst h.dst) alone.1) ∙ c

  module _ (tables : List (List Rule)) (fit : AllFit t tree old_once new_once tables) (s : SwitchId) (h : Header) where
    pub clear_now : IsClear (rules_at tables s)
    clear_now = clear_fit t tree old_once new_once s (rules_at tables s) (fit s)

    pub rule_picked : (next : Rule) → matched_rule h (rules_at t.update.new s) ≡ Some next → (r : Rule) → IsIn r (rules_at tables s) → r.key ≡ next.key → lookup h (rules_at tables s) ≡ r.action
    rule_picked = picked_at (rules_at t.update.new s) (rules_at tables s) (fit s) (clear_new s) clear_now h

    abbrev pub RuleDiffers : Type 0
    RuleDiffers = DiffersBy (rules_at t.update.new s) (rules_at tables s) (fit s) (clear_new s) clear_now h

    pub picked_differs : ¬ (lookup h (rules_at tables s) ≡ lookup h (rules_at t.update.new s)) → RuleDiffers
    picked_differs ne = differs_by (rules_at t.update.new s) (rules_at tables s) (fit s) (clear_new s) clear_now h (new_fits s) (new_picked s h) ne

  -- a new rule stays, whatever else is replaced, and is there once it has been put in
  module _ (s : SwitchId) (next : Rule) (wanted : IsIn next (rules_at t.update.new s)) where
    rule_stays : (made : List Change) → AreWantedAt t tree old_once new_once s made → (rules : List Rule) → IsIn next rules → IsIn next (rules_after made rules)
    rule_stays [] all rules i = i
    rule_stays (c ∷ made) all rules i =
        let w = all c (inl refl) in
        let kept : IsIn next (rules_after_change (Replace s w.next) rules) =
        subst (λ x. IsIn x (rules_after_change (Replace s w.next) rules))
        (elim (key_eq next.key w.next.key) as (λ b. key_eq next.key w.next.key ≡ b → cond b w.next next ≡ next) [
          | true ↦ λ e. (new_fits s).unique w.next next w.wanted wanted (sym (key_eq-true next.key w.next.key e))
          | false ↦ λ _. refl
        ] refl) (in_map (λ x. cond (key_eq x.key w.next.key) w.next x) next rules i) in
        rule_stays made (λ d j. all d (inr j)) (rules_after_change c rules) (subst (λ d. IsIn next (rules_after_change d rules)) (sym w.is) kept)

    rule_put : (made : List Change) → AreWantedAt t tree old_once new_once s made → (rules : List Rule) → Fits (rules_at t.update.new s) rules → IsIn (Replace s next) made → IsIn next (rules_after made rules)
    rule_put [] all rules fits i = absurd i
    rule_put (c ∷ made) all rules fits (inl e) =
        rule_stays made (λ d j. all d (inr j)) (rules_after_change c rules)
        (subst (λ d. IsIn next (rules_after_change d rules)) e (in_from_stands rules (Replace s next) next ((fits.keys next.key).1 (in_map (λ x. x.key) next (rules_at t.update.new s) wanted)) (inr refl)))
    rule_put (c ∷ made) all rules fits (inr i) =
        rule_put made (λ d j. all d (inr j)) (rules_after_change c rules) (fits_made t tree old_once new_once s (c ∷ []) (λ d j. all d (elim j [ inl e ↦ inl e | inr k ↦ absurd k ])) rules fits) i

  -- a rule after replaces stood before, or is new
  from_made : (s : SwitchId) (made : List Change) → AreWantedAt t tree old_once new_once s made → (rules : List Rule) (r : Rule) → IsIn r (rules_after made rules) → IsIn r rules ⊎ IsIn r (rules_at t.update.new s)
  from_made s [] all rules r i = inl i
  from_made s (c ∷ made) all rules r i =
      elim (from_made s made (λ d j. all d (inr j)) (rules_after_change c rules) r i) [
        | inr j ↦ inr j
        | inl j ↦ (
            let w = all c (inl refl) in
            let (x, k, e) = in_from_map (λ y. cond (key_eq y.key w.next.key) w.next y) r rules (subst (λ d. IsIn r (rules_after_change d rules)) w.is j) in
            elim (key_eq x.key w.next.key) as (λ b. r ≡ cond b w.next x → IsIn r rules ⊎ IsIn r (rules_at t.update.new s)) [
              | true ↦ λ f. inr (subst (λ y. IsIn y (rules_at t.update.new s)) (sym f) w.wanted)
              | false ↦ λ f. inl (subst (λ y. IsIn y rules) (sym f) k)
            ] e)
      ]

  module _ (tables : List (List Rule)) (fit : AllFit t tree old_once new_once tables) (changes : List Change) (all : AreWanted t tree old_once new_once changes) (applies : AllByRecursion (Applies tables) changes) where
    abbrev then : List (List Rule)
    then = tables_after changes tables

    pub rule_then : (s : SwitchId) (next : Rule) → IsIn next (rules_at t.update.new s) → IsIn (Replace s next) changes → IsIn next (rules_at then s)
    rule_then s next wanted i =
        subst (IsIn next) (sym (rules_then t tree old_once new_once tables fit changes all applies s))
        (rule_put s next wanted (changes_at s changes) (wanted_there t tree old_once new_once changes all s) (rules_at tables s) (fit s)
        (in_filter (λ d. (switch_of d).0 == s.0) (Replace s next) changes i (eq-eqb s.0 s.0 refl)))

    pub stood_before : (s : SwitchId) (r : Rule) → IsIn r (rules_at then s) → IsIn r (rules_at tables s) ⊎ IsIn r (rules_at t.update.new s)
    stood_before s r i =
        from_made s (changes_at s changes) (wanted_there t tree old_once new_once changes all s) (rules_at tables s) r (subst (IsIn r) (rules_then t tree old_once new_once tables fit changes all applies s) i)
