-- The action of the entry of a key, after changes and after an entry is given one.
use Rattle.std.proofs.Common.{◌≡◌, ℕ, zero, suc, ◌<◌, ◌≤◌, true, false, cond, not, List, [], ◌∷◌, ◌++◌, map, length, set, get_or, refl, sym, ap, ◌∙◌, subst, inl, inr, length-set, arith}
use Rattle.std.specs.Prelude.{◌==◌, filter, Option, Some, None, option_map, unwrap_or, is_some}
use Rattle.std.proofs.lemmas.Bool.{cases_Bool, cases_lt, cond-true, cond-false}
use Rattle.std.proofs.lemmas.List.{set_past}
use Rattle.net_base.specs.Members.{IsIn}
use Rattle.flow_rules.specs.Patterns.{key_eq}
use Rattle.flow_rules.specs.Tables.{action_of, keys_of, rules_at}
use Rattle.flow_rules.specs.declared.rules.Action.{Action}
use Rattle.flow_rules.specs.declared.rules.Key.{Key}
use Rattle.flow_rules.specs.declared.rules.Rule.{Rule}
use Rattle.flow_rules.proofs.KeyLaws.{key_eq-true, key_eq-false, key_ne}
use Rattle.update_model.specs.Changes.{switch_of, rule_of, rules_after_change, tables_after_change, tables_after, settled_tables, round_after}
use Rattle.update_model.specs.declared.Change.{Change}
use Rattle.update_model.specs.declared.Change.TheVariants.{Insert, Delete, Replace}
use Rattle.law_two_way_runs.proofs.Undone.{rules_at-set}
use Rattle.two_way_replay.specs.Entries.{with_entry, action_named, earlier_actions}
use Rattle.two_way_replay.specs.Actions.{action_after, entries_after_change, entries_after_round, actions_before, HaveSameEntries}

-- ---- one table

pub none_taken : (k : Key) (rules : List Rule) → ¬ IsIn k (keys_of rules) → filter (λ q. not (key_eq q.key k)) rules ≡ rules
none_taken k [] out = refl
none_taken k (x ∷ rules) out =
    rw (key_ne x.key k (λ e. out (inl (sym e)))) (ap (λ rs. x ∷ rs) (none_taken k rules (λ i. out (inr i))))

-- of the rule in front
front_true : (k : Key) (x : Rule) (rules : List Rule) → key_eq x.key k ≡ true → action_of k (x ∷ rules) ≡ Some x.action
front_true k x rules e = rw e refl

front_false : (k : Key) (x : Rule) (rules : List Rule) → key_eq x.key k ≡ false → action_of k (x ∷ rules) ≡ action_of k rules
front_false k x rules e = rw e refl

-- no action
abbrev IsNoAction : Option Action → Type 0
IsNoAction a = ◌≡◌ {A = Option Action} None a

-- of two keys
other_key : (a b c : Key) → key_eq a b ≡ true → key_eq a c ≡ key_eq b c
other_key a b c e = ap (λ k. key_eq k c) (key_eq-true a b e)

pub action_push : (k : Key) (rules : List Rule) (r : Rule)
    → action_of k (rules ++ r ∷ []) ≡ cond (is_some (action_of k rules)) (action_of k rules) (cond (key_eq r.key k) (Some r.action) None)
action_push k [] r =
    elim (cases_Bool (key_eq r.key k)) [
      | inl e ↦ front_true k r [] e ∙ sym (cond-true (key_eq r.key k) (Some r.action) None e)
      | inr e ↦ front_false k r [] e ∙ sym (cond-false (key_eq r.key k) (Some r.action) None e)
    ]
action_push k (x ∷ rules) r =
    elim (cases_Bool (key_eq x.key k)) [
      | inl e ↦ front_true k x (rules ++ r ∷ []) e
          ∙ sym (ap (λ a. cond (is_some a) a (cond (key_eq r.key k) (Some r.action) None)) (front_true k x rules e))
      | inr e ↦ front_false k x (rules ++ r ∷ []) e ∙ action_push k rules r
          ∙ sym (ap (λ a. cond (is_some a) a (cond (key_eq r.key k) (Some r.action) None)) (front_false k x rules e))
    ]

pub action_without : (k key : Key) (rules : List Rule) → action_of k (filter (λ q. not (key_eq q.key key)) rules) ≡ cond (key_eq key k) None (action_of k rules)
action_without k key [] = elim (key_eq key k) as (λ b. IsNoAction (cond b None None)) [ true ↦ refl | false ↦ refl ]
action_without k key (x ∷ rules) =
    let rest = filter (λ q. not (key_eq q.key key)) rules in
    elim (cases_Bool (key_eq x.key key)) [
      | inl e ↦ (
          let gone : filter (λ q. not (key_eq q.key key)) (x ∷ rules) ≡ rest = rw e refl in
          ap (action_of k) gone ∙ action_without k key rules ∙ elim (cases_Bool (key_eq key k)) [
            | inl same ↦ cond-true (key_eq key k) None (action_of k rules) same ∙ sym (cond-true (key_eq key k) None (action_of k (x ∷ rules)) same)
            | inr differ ↦ cond-false (key_eq key k) None (action_of k rules) differ
                ∙ sym (front_false k x rules (other_key x.key key k e ∙ differ)) ∙ sym (cond-false (key_eq key k) None (action_of k (x ∷ rules)) differ)
          ])
      | inr e ↦ (
          let stays : filter (λ q. not (key_eq q.key key)) (x ∷ rules) ≡ x ∷ rest = rw e refl in
          ap (action_of k) stays ∙ elim (cases_Bool (key_eq x.key k)) [
            | inl same ↦ (
                let differ : key_eq key k ≡ false = key_ne key k (λ f. key_eq-false x.key key e (key_eq-true x.key k same ∙ sym f)) in
                front_true k x rest same ∙ sym (front_true k x rules same) ∙ sym (cond-false (key_eq key k) None (action_of k (x ∷ rules)) differ))
            | inr other ↦ front_false k x rest other ∙ action_without k key rules ∙ ap (λ a. cond (key_eq key k) None a) (sym (front_false k x rules other))
          ])
    ]

pub action_replaced : (k : Key) (r : Rule) (rules : List Rule)
    → action_of k (map (λ q. cond (key_eq q.key r.key) r q) rules) ≡ cond (key_eq r.key k) (option_map (λ _. r.action) (action_of k rules)) (action_of k rules)
action_replaced k r [] = elim (key_eq r.key k) as (λ b. IsNoAction (cond b None None)) [ true ↦ refl | false ↦ refl ]
action_replaced k r (x ∷ rules) =
    let rest = map (λ q. cond (key_eq q.key r.key) r q) rules in
    let other : Option Action → Option Action = λ a. cond (key_eq r.key k) (option_map (λ _. r.action) a) a in
    elim (cases_Bool (key_eq x.key r.key)) [
      | inl e ↦ (
          let here : map (λ q. cond (key_eq q.key r.key) r q) (x ∷ rules) ≡ r ∷ rest = ap (λ y. y ∷ rest) (cond-true (key_eq x.key r.key) r x e) in
          ap (action_of k) here ∙ elim (cases_Bool (key_eq r.key k)) [
            | inl same ↦ front_true k r rest same ∙ sym (ap other (front_true k x rules (other_key x.key r.key k e ∙ same)) ∙ cond-true (key_eq r.key k) (Some r.action) (Some x.action) same)
            | inr differ ↦ front_false k r rest differ ∙ action_replaced k r rules ∙ ap other (sym (front_false k x rules (other_key x.key r.key k e ∙ differ)))
          ])
      | inr e ↦ (
          let here : map (λ q. cond (key_eq q.key r.key) r q) (x ∷ rules) ≡ x ∷ rest = ap (λ y. y ∷ rest) (cond-false (key_eq x.key r.key) r x e) in
          ap (action_of k) here ∙ elim (cases_Bool (key_eq x.key k)) [
            | inl same ↦ (
                let differ : key_eq r.key k ≡ false = key_ne r.key k (λ f. key_eq-false x.key r.key e (key_eq-true x.key k same ∙ sym f)) in
                front_true k x rest same ∙ sym (ap other (front_true k x rules same) ∙ cond-false (key_eq r.key k) (Some r.action) (Some x.action) differ))
            | inr none ↦ front_false k x rest none ∙ action_replaced k r rules ∙ ap other (sym (front_false k x rules none))
          ])
    ]

-- whether there is an action
has_it : (a : Option Action) → is_some a ≡ true → (b : Action) → option_map (λ _. b) a ≡ Some b
has_it None e b = absurd cc
has_it (Some x) e b = refl

has_none : (a : Option Action) → is_some a ≡ false → a ≡ None
has_none None e = refl
has_none (Some x) e = absurd cc

either_way : (a : Option Action) → cond (is_some a) a None ≡ a
either_way None = refl
either_way (Some x) = refl

pub action_given : (k key : Key) (action : Option Action) (rules : List Rule) → action_of k (with_entry key action rules) ≡ cond (key_eq key k) action (action_of k rules)
action_given k key None rules = action_without k key rules
action_given k key (Some a) rules =
    let r : Rule = record { key = key; action = a } in
    let replaced = map (λ q. cond (key_eq q.key key) r q) rules in
    elim (cases_Bool (is_some (action_of key rules))) [
      | inl some ↦ (
          ap (action_of k) (cond-true (is_some (action_of key rules)) replaced (rules ++ r ∷ []) some) ∙ action_replaced k r rules ∙ elim (cases_Bool (key_eq key k)) [
            | inl same ↦ (
                let here : is_some (action_of k rules) ≡ true = ap (λ x. is_some (action_of x rules)) (sym (key_eq-true key k same)) ∙ some in
                cond-true (key_eq key k) (option_map (λ _. a) (action_of k rules)) (action_of k rules) same ∙ has_it (action_of k rules) here a
                ∙ sym (cond-true (key_eq key k) (Some a) (action_of k rules) same))
            | inr differ ↦ cond-false (key_eq key k) (option_map (λ _. a) (action_of k rules)) (action_of k rules) differ ∙ sym (cond-false (key_eq key k) (Some a) (action_of k rules) differ)
          ])
      | inr none ↦ (
          ap (action_of k) (cond-false (is_some (action_of key rules)) replaced (rules ++ r ∷ []) none) ∙ action_push k rules r ∙ elim (cases_Bool (key_eq key k)) [
            | inl same ↦ (
                let here : action_of k rules ≡ None = ap (λ x. action_of x rules) (sym (key_eq-true key k same)) ∙ has_none (action_of key rules) none in
                ap (λ x. cond (is_some x) x (cond (key_eq key k) (Some a) None)) here ∙ cond-true (key_eq key k) (Some a) None same
                ∙ sym (cond-true (key_eq key k) (Some a) (action_of k rules) same))
            | inr differ ↦ ap (λ x. cond (is_some (action_of k rules)) (action_of k rules) x) (cond-false (key_eq key k) (Some a) None differ) ∙ either_way (action_of k rules)
                ∙ sym (cond-false (key_eq key k) (Some a) (action_of k rules) differ)
          ])
    ]

inserted : (a : Option Action) (b : Action) → cond (is_some a) a (Some b) ≡ Some (unwrap_or a b)
inserted None b = refl
inserted (Some x) b = refl

-- what a change makes of the actions of all keys
pub action_changed : (k : Key) (c : Change) (rules : List Rule)
    → action_of k (rules_after_change c rules) ≡ cond (key_eq (rule_of c).key k) (action_after c (action_of (rule_of c).key rules)) (action_of k rules)
action_changed k (Insert s r) rules =
    action_push k rules r ∙ elim (cases_Bool (key_eq r.key k)) [
      | inl same ↦ (
          ap (λ x. cond (is_some (action_of k rules)) (action_of k rules) x) (cond-true (key_eq r.key k) (Some r.action) None same) ∙ inserted (action_of k rules) r.action
          ∙ ap (λ x. Some (unwrap_or (action_of x rules) r.action)) (sym (key_eq-true r.key k same))
          ∙ sym (cond-true (key_eq r.key k) (Some (unwrap_or (action_of r.key rules) r.action)) (action_of k rules) same))
      | inr differ ↦ (
          ap (λ x. cond (is_some (action_of k rules)) (action_of k rules) x) (cond-false (key_eq r.key k) (Some r.action) None differ) ∙ either_way (action_of k rules)
          ∙ sym (cond-false (key_eq r.key k) (Some (unwrap_or (action_of r.key rules) r.action)) (action_of k rules) differ))
    ]
action_changed k (Delete s r) rules = action_without k r.key rules
action_changed k (Replace s r) rules =
    action_replaced k r rules ∙ elim (cases_Bool (key_eq r.key k)) [
      | inl same ↦ (
          cond-true (key_eq r.key k) (option_map (λ _. r.action) (action_of k rules)) (action_of k rules) same
          ∙ ap (λ x. option_map (λ _. r.action) (action_of x rules)) (sym (key_eq-true r.key k same))
          ∙ sym (cond-true (key_eq r.key k) (option_map (λ _. r.action) (action_of r.key rules)) (action_of k rules) same))
      | inr differ ↦ (
          cond-false (key_eq r.key k) (option_map (λ _. r.action) (action_of k rules)) (action_of k rules) differ
          ∙ sym (cond-false (key_eq r.key k) (option_map (λ _. r.action) (action_of r.key rules)) (action_of k rules) differ))
    ]

-- ---- all tables

-- a change keeps the same entries the same
pub same_changed : (c : Change) (a b : List (List Rule)) → HaveSameEntries a b → HaveSameEntries (tables_after_change c a) (entries_after_change c b)
same_changed c a b h =
    let s = switch_of c in
    let key = (rule_of c).key in
    let new_a = rules_after_change c (rules_at a s) in
    let new_b = with_entry key (action_after c (action_named b c)) (rules_at b s) in
    record {
      count = length-set a s.0 new_a ∙ h.count ∙ sym (length-set b s.0 new_b);
      same = λ t k. elim (cases_lt s.0 (length a)) [
        | inl less ↦ (
            let less_b : s.0 < length b = subst (λ n. s.0 < n) h.count less in
            let left : rules_at (set a s.0 new_a) t ≡ cond (s.0 == t.0) new_a (rules_at a t) = rules_at-set a s t new_a less in
            let right : rules_at (set b s.0 new_b) t ≡ cond (s.0 == t.0) new_b (rules_at b t) = rules_at-set b s t new_b less_b in
            ap (action_of k) left ∙ elim (cases_Bool (s.0 == t.0)) [
              | inl at ↦ (
                  ap (action_of k) (cond-true (s.0 == t.0) new_a (rules_at a t) at) ∙ action_changed k c (rules_at a s)
                  ∙ ap (λ x. cond (key_eq key k) (action_after c x) (action_of k (rules_at a s))) (h.same s key)
                  ∙ ap (λ x. cond (key_eq key k) (action_after c (action_named b c)) x) (h.same s k)
                  ∙ sym (action_given k key (action_after c (action_named b c)) (rules_at b s))
                  ∙ sym (ap (action_of k) (right ∙ cond-true (s.0 == t.0) new_b (rules_at b t) at)))
              | inr off ↦ ap (action_of k) (cond-false (s.0 == t.0) new_a (rules_at a t) off) ∙ h.same t k ∙ sym (ap (action_of k) (right ∙ cond-false (s.0 == t.0) new_b (rules_at b t) off))
            ])
        | inr most ↦ (
            let most_b : length b ≤ s.0 = subst (λ n. n ≤ s.0) h.count most in
            ap (λ l. action_of k (rules_at l t)) (set_past a s.0 new_a most) ∙ h.same t k ∙ sym (ap (λ l. action_of k (rules_at l t)) (set_past b s.0 new_b most_b)))
      ];
    }

same_after : (cs : List Change) (a b : List (List Rule)) → HaveSameEntries a b → HaveSameEntries (tables_after cs a) (entries_after_round cs b)
same_after [] a b h = h
same_after (c ∷ cs) a b h = same_after cs (tables_after_change c a) (entries_after_change c b) (same_changed c a b h)

named_alike : (cs : List Change) (a b : List (List Rule)) → HaveSameEntries a b → map (action_named a) cs ≡ map (action_named b) cs
named_alike [] a b h = refl
named_alike (c ∷ cs) a b h =
    ap (λ x. x ∷ map (action_named a) cs) (h.same (switch_of c) (rule_of c).key) ∙ ap (λ l. action_named b c ∷ l) (named_alike cs a b h)

actions_alike : (rounds : List (List Change)) (a b : List (List Rule)) → HaveSameEntries a b → actions_before b rounds ≡ earlier_actions a rounds
actions_alike [] a b h = refl
actions_alike (round ∷ rounds) a b h =
    ap (λ x. x ∷ actions_before (entries_after_round round b) rounds) (sym (named_alike round a b h))
    ∙ ap (λ l. map (action_named a) round ∷ l) (actions_alike rounds (tables_after round a) (entries_after_round round b) (same_after round a b h))

pub actions_are_earlier : (tables : List (List Rule)) (rounds : List (List Change)) → actions_before tables rounds ≡ earlier_actions tables rounds
actions_are_earlier tables rounds = actions_alike rounds tables tables (record { count = refl; same = λ s key. refl })

-- ---- one round of them

pub earlier_count : (tables : List (List Rule)) (rounds : List (List Change)) → length (earlier_actions tables rounds) ≡ length rounds
earlier_count tables [] = refl
earlier_count tables (round ∷ rounds) = ap suc (earlier_count (tables_after round tables) rounds)

pub earlier_at : (tables : List (List Rule)) (rounds : List (List Change)) (k : ℕ) → k < length rounds
    → get_or (earlier_actions tables rounds) k [] ≡ map (action_named (settled_tables rounds k tables)) (round_after k rounds)
earlier_at tables [] k less = absurd (omega arith)
earlier_at tables (round ∷ rounds) zero less = refl
earlier_at tables (round ∷ rounds) (suc k) less = earlier_at (tables_after round tables) rounds k (omega arith)
