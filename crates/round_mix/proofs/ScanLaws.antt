-- The actions of the marked scan are those of the lookups in all mixtures.
use Rattle.std.proofs.Common.{◌≡◌, ◌⊎◌, ℕ, ◌≤◌, Bool, true, false, cond, List, [], ◌∷◌, ◌++◌, map, refl, sym, ◌∙◌, subst, ap, inl, inr, arith}
use Rattle.std.specs.Prelude.{Some, None, IsSome, IfSome, IsSomeAnd}
use Rattle.std.specs.Option.{ForSome, option_map_or}
use Rattle.std.proofs.lemmas.Bool.{cond-true, both_ways}
use Rattle.std.proofs.lemmas.List.Sorted.{IsPermutation-sym}
use Rattle.net_base.specs.Members.{IsIn}
use Rattle.net_base.proofs.MemberLaws.{in_append_left, in_append_right, in_append_cases, each_at, in_map, in_from_map, in_permutation}
use Rattle.net_base.specs.declared.ids.Place.{Place}
use Rattle.topology.specs.Networks.{Network}
use Rattle.path_walk.specs.Outcomes.{action_outcome, header_at}
use Rattle.path_walk.specs.declared.Outcome.{Outcome}
use Rattle.flow_rules.specs.Patterns.{Header, covers}
use Rattle.flow_rules.specs.Tables.{matched_rule, lookup}
use Rattle.flow_rules.specs.declared.rules.Rule.{Rule}
use Rattle.flow_rules.specs.declared.rules.Action.{Action}
use Rattle.flow_rules.specs.declared.rules.Action.TheVariants.{Discard}
use Rattle.update_model.specs.Mixtures.{IsMixture}
use Rattle.update_model.proofs.Matches.{MayMatch, MayMiss}
use Rattle.update_model.specs.declared.Change.{Change}
use Rattle.update_model.proofs.MatchLaws.{may_match, may_miss, misses_somewhere, matches_somewhere}
use Rattle.round_mix.specs.Found.{AreAllOutcomes}
use Rattle.round_mix.specs.Marks.{marked_rule, all_rules, marked_rules}
use Rattle.round_mix.specs.Prepared.{AreGood, AreClear, IsPrepared, IsFalling}
use Rattle.round_mix.specs.Scan.{actions_by, is_kept, scan}
use Rattle.round_mix.specs.declared.Mark.{Mark}
use Rattle.round_mix.specs.declared.Mark.TheVariants.{Sure, Possible, Replaced}
use Rattle.round_mix.specs.declared.MarkedRule.{MarkedRule}
use Rattle.round_mix.proofs.MarkLaws.{rules_by, rules_by-key, all_mixed, marked_from, kept_from, kept_to, available_from, available_to}

-- marked rules, in descending priority, that are those of a table and good changes of it whose mixtures are all clear
pub record AreScannable (table : List Rule) (changes : List Change) (marks : List MarkedRule) : Type 0 where
  pub good : AreGood table changes
  pub clear : AreClear table changes
  pub into : (m : MarkedRule) → IsIn m (marked_rules table changes) → IsIn m marks
  pub from : (m : MarkedRule) → IsIn m marks → IsIn m (marked_rules table changes)
  pub falling : IsFalling marks

pub scannable : (table : List Rule) (changes : List Change) (marks : List MarkedRule) → IsPrepared table changes marks → AreScannable table changes marks
scannable table changes marks prepared = record {
  good = prepared.good;
  clear = prepared.clear;
  into = λ m i. in_permutation marks (marked_rules table changes) m (IsPermutation-sym (marked_rules table changes) marks prepared.rules) i;
  from = λ m i. in_permutation (marked_rules table changes) marks m prepared.rules i;
  falling = prepared.falling;
}

-- the actions of a marked rule are those of its rules
rule_from_action : (mark : Mark) (x : Rule) (a : Action) → IsIn a (actions_by mark x.action) → (r : Rule) × IsIn r (rules_by mark x) × (a ≡ r.action)
rule_from_action Sure x a (inl e) = (x, inl refl, e)
rule_from_action Sure x a (inr i) = absurd i
rule_from_action Possible x a (inl e) = (x, inl refl, e)
rule_from_action Possible x a (inr i) = absurd i
rule_from_action (Replaced b) x a (inl e) = (x, inl refl, e)
rule_from_action (Replaced b) x a (inr (inl e)) = (record { key = x.key; action = b }, inr (inl refl), e)
rule_from_action (Replaced b) x a (inr (inr i)) = absurd i

action_from_rule : (mark : Mark) (x r : Rule) → IsIn r (rules_by mark x) → IsIn r.action (actions_by mark x.action)
action_from_rule Sure x r (inl e) = inl (ap (λ y. y.action) e)
action_from_rule Sure x r (inr i) = absurd i
action_from_rule Possible x r (inl e) = inl (ap (λ y. y.action) e)
action_from_rule Possible x r (inr i) = absurd i
action_from_rule (Replaced b) x r (inl e) = inl (ap (λ y. y.action) e)
action_from_rule (Replaced b) x r (inr (inl e)) = inr (inl (ap (λ y. y.action) e))
action_from_rule (Replaced b) x r (inr (inr i)) = absurd i

module _ (h : Header) where
  -- a marked rule covers the packet
  abbrev pub Covers : MarkedRule → Type 0
  Covers m = covers m.rule.key.pattern h ≡ true

  -- the scan at a rule that covers, and at one that doesn't
  pub scan_covering : (m : MarkedRule) (ms : List MarkedRule) → Covers m → scan h (m ∷ ms) ≡ actions_by m.mark m.rule.action ++ cond (is_kept m.mark) [] (scan h ms)
  scan_covering m ms covered = cond-true (covers m.rule.key.pattern h) (actions_by m.mark m.rule.action ++ cond (is_kept m.mark) [] (scan h ms)) (scan h ms) covered

  -- where no rule that covers ends the scan, it reaches the end
  scan_end : (ms : List MarkedRule) → ((m : MarkedRule) → IsIn m ms → Covers m → is_kept m.mark ≡ true → ⊥) → IsIn Discard (scan h ms)
  scan_end [] none = inl refl
  scan_end (m ∷ ms) none =
      let rest = scan_end ms (λ n i. none n (inr i)) in
      elim (covers m.rule.key.pattern h) as (λ b. covers m.rule.key.pattern h ≡ b → IsIn Discard (cond b (actions_by m.mark m.rule.action ++ cond (is_kept m.mark) [] (scan h ms)) (scan h ms))) [
        | true ↦ λ covered. in_append_right Discard (actions_by m.mark m.rule.action) (cond (is_kept m.mark) [] (scan h ms)) (
            elim (is_kept m.mark) as (λ b. is_kept m.mark ≡ b → IsIn Discard (cond b [] (scan h ms))) [
              | true ↦ λ kept. absurd (none m (inl refl) covered kept)
              | false ↦ λ _. rest
            ] refl)
        | false ↦ λ _. rest
      ] refl

  -- the scan meets a rule that covers, where none that ends the scan stands above it
  scan_meets : (ms : List MarkedRule) (m : MarkedRule) (r : Rule) → IsFalling ms → IsIn m ms → Covers m → IsIn r (rules_by m.mark m.rule)
      → ((n : MarkedRule) → IsIn n ms → Covers n → is_kept n.mark ≡ true → n.rule.key.priority ≤ m.rule.key.priority)
      → ((n : MarkedRule) → IsIn n ms → Covers n → n.rule.key.priority ≡ m.rule.key.priority → n ≡ m)
      → IsIn r.action (scan h ms)
  scan_meets [] m r falling i covered j low same = absurd i
  scan_meets (x ∷ ms) m r falling i covered j low same =
      let here : m ≡ x → IsIn r.action (scan h (x ∷ ms)) = λ e.
      subst (λ zs. IsIn r.action zs) (sym (scan_covering x ms (subst Covers e covered)))
      (in_append_left r.action (actions_by x.mark x.rule.action) (cond (is_kept x.mark) [] (scan h ms))
      (action_from_rule x.mark x.rule r (subst (λ y. IsIn r (rules_by y.mark y.rule)) e j))) in
      elim i [
        | inl e ↦ here e
        | inr l ↦ (
            let rest = scan_meets ms m r falling.1 l covered j (λ n k. low n (inr k)) (λ n k. same n (inr k)) in
            elim (covers x.rule.key.pattern h) as (λ b. covers x.rule.key.pattern h ≡ b → IsIn r.action (cond b (actions_by x.mark x.rule.action ++ cond (is_kept x.mark) [] (scan h ms)) (scan h ms))) [
              | true ↦ λ over.
                  elim (is_kept x.mark) as (λ b. is_kept x.mark ≡ b → IsIn r.action (actions_by x.mark x.rule.action ++ cond b [] (scan h ms))) [
                    | true ↦ λ kept.
                        let below = low x (inl refl) over kept in
                        let above = each_at (λ n. n.rule.key.priority ≤ x.rule.key.priority) ms m falling.0 l in
                        let e = sym (same x (inl refl) over (omega arith)) in
                        in_append_left r.action (actions_by x.mark x.rule.action) [] (action_from_rule x.mark x.rule r (subst (λ y. IsIn r (rules_by y.mark y.rule)) e j))
                    | false ↦ λ _. in_append_right r.action (actions_by x.mark x.rule.action) (scan h ms) rest
                  ] refl
              | false ↦ λ _. rest
            ] refl)
      ]

  module _ (table : List Rule) (changes : List Change) (marks : List MarkedRule) (prepared : AreScannable table changes marks) where
    -- two marked rules that cover, of one priority, are the same
    one_covers : (n m : MarkedRule) → IsIn n marks → IsIn m marks → Covers n → Covers m → n.rule.key.priority ≡ m.rule.key.priority → n ≡ m
    one_covers n m i j over covered same =
        let (n_is, k) = marked_from table changes prepared.good.applies prepared.good.distinct n (prepared.from n i) in
        let (m_is, l) = marked_from table changes prepared.good.applies prepared.good.distinct m (prepared.from m j) in
        let e = prepared.clear (all_rules table changes) (all_mixed table changes) h n.rule m.rule k l over covered same in
        n_is ∙ ap (marked_rule changes) e ∙ sym m_is

    -- what may match stands in the scan
    met : (r : Rule) → MayMatch table changes h r → IsIn r.action (scan h marks)
    met r may =
        let (m, i, j) = available_from table changes prepared.good.applies prepared.good.distinct r may.available in
        let key = rules_by-key m.mark m.rule r j in
        let covered : Covers m = subst (λ k. covers k.pattern h ≡ true) key may.covering in
        scan_meets marks m r prepared.falling (prepared.into m i) covered j
        (λ n l over kept. subst (λ k. n.rule.key.priority ≤ k.priority) key (may.not_below n.rule.key (kept_to table changes prepared.good.applies prepared.good.distinct n (prepared.from n l) kept) over))
        (λ n l over same. one_covers n m l (prepared.into m i) over covered same)

    -- where nothing kept covers, the scan reaches the end
    ended : MayMiss table changes h → IsIn Discard (scan h marks)
    ended miss = scan_end marks (λ m i over kept. miss m.rule.key (kept_to table changes prepared.good.applies prepared.good.distinct m (prepared.from m i) kept) over)

    -- a rule of a marked one with only lower kept rules behind may match
    may_from : (m : MarkedRule) (r : Rule) → IsIn m marks → IsIn r (rules_by m.mark m.rule) → Covers m
        → ((n : MarkedRule) → IsIn n marks → Covers n → is_kept n.mark ≡ true → n.rule.key.priority ≤ m.rule.key.priority) → MayMatch table changes h r
    may_from m r i j covered low =
        let key = rules_by-key m.mark m.rule r j in
        record {
          available = available_to table changes prepared.good.applies prepared.good.distinct m r (prepared.from m i) j;
          covering = subst (λ k. covers k.pattern h ≡ true) (sym key) covered;
          not_below = λ k kept over.
              let (n, l, stays, is) = kept_from table changes prepared.good.applies prepared.good.distinct k kept in
              let le = low n (prepared.into n l) (subst (λ z. covers z.pattern h ≡ true) (sym is) over) stays in
              subst (λ z. z.priority ≤ r.key.priority) is (subst (λ z. n.rule.key.priority ≤ z.priority) (sym key) le);
        }

    -- what the rest of the scan gives may match, or nothing may
    sound : (ms : List MarkedRule) (a : Action) → IsFalling ms → ((n : MarkedRule) → IsIn n ms → IsIn n marks)
        → ((n : MarkedRule) → IsIn n marks → Covers n → is_kept n.mark ≡ true → IsIn n ms)
        → IsIn a (scan h ms) → ((r : Rule) × MayMatch table changes h r × (a ≡ r.action)) ⊎ (MayMiss table changes h × (a ≡ Discard))
    sound [] a falling within rest i =
        elim i [
          | inl e ↦ inr (
            (λ k kept over.
                let (n, l, stays, is) = kept_from table changes prepared.good.applies prepared.good.distinct k kept in
                rest n (prepared.into n l) (subst (λ z. covers z.pattern h ≡ true) (sym is) over) stays),
            e,
          )
          | inr none ↦ absurd none
        ]
    sound (m ∷ ms) a falling within rest i =
        elim (covers m.rule.key.pattern h) as (λ b. covers m.rule.key.pattern h ≡ b → IsIn a (cond b (actions_by m.mark m.rule.action ++ cond (is_kept m.mark) [] (scan h ms)) (scan h ms))
        → ((r : Rule) × MayMatch table changes h r × (a ≡ r.action)) ⊎ (MayMiss table changes h × (a ≡ Discard))) [
          | true ↦ λ covered j. elim (in_append_cases a (actions_by m.mark m.rule.action) (cond (is_kept m.mark) [] (scan h ms)) j) [
            | inl k ↦ (
                let (r, l, e) = rule_from_action m.mark m.rule a k in
                inl (
                  r,
                  may_from m r (within m (inl refl)) l covered (λ n o over kept. elim (rest n o over kept) [
                    | inl same ↦ (let p = ap (λ y. y.rule.key.priority) same in omega arith)
                    | inr behind ↦ each_at (λ y. y.rule.key.priority ≤ m.rule.key.priority) ms n falling.0 behind
                  ]),
                  e,
                ))
            | inr k ↦ elim (is_kept m.mark) as (λ b. is_kept m.mark ≡ b → IsIn a (cond b [] (scan h ms)) → ((r : Rule) × MayMatch table changes h r × (a ≡ r.action)) ⊎ (MayMiss table changes h × (a ≡ Discard))) [
              | true ↦ λ _ none. absurd none
              | false ↦ λ off l. sound ms a falling.1 (λ n o. within n (inr o)) (λ n o over kept. elim (rest n o over kept) [
                | inl same ↦ absurd (both_ways (is_kept m.mark) off (subst (λ y. is_kept y.mark ≡ true) same kept))
                | inr behind ↦ behind
              ]) l
            ] refl k
          ]
          | false ↦ λ missed j. sound ms a falling.1 (λ n o. within n (inr o)) (λ n o over kept. elim (rest n o over kept) [
            | inl same ↦ absurd (both_ways (covers m.rule.key.pattern h) missed (subst Covers same over))
            | inr behind ↦ behind
          ]) j
        ] refl i

    -- each action of the scan is one of a lookup in some mixture
    pub lookup_from_scan : (a : Action) → IsIn a (scan h marks) → (mixed : List Rule) × IsMixture table changes mixed × (a ≡ lookup h mixed)
    lookup_from_scan a i =
        elim (sound marks a prepared.falling (λ n j. j) (λ n j _ _. j) i) [
          | inl found ↦ (
              let (mixed, mixture, is) = matches_somewhere table changes prepared.good.applies prepared.good.distinct prepared.clear h found.0 found.1 in
              (mixed, mixture, found.2 ∙ sym (ap (λ o. option_map_or (λ r. r.action) o Discard) is)))
          | inr missed ↦ (
              let (mixed, mixture, is) = misses_somewhere table changes prepared.good.applies prepared.good.distinct h missed.0 in
              (mixed, mixture, missed.1 ∙ sym (ap (λ o. option_map_or (λ r. r.action) o Discard) is)))
        ]

    -- and each lookup's is one of the scan
    pub scan_from_lookup : (mixed : List Rule) → IsMixture table changes mixed → IsIn (lookup h mixed) (scan h marks)
    scan_from_lookup mixed mixture =
        elim (matched_rule h mixed) as (λ o. matched_rule h mixed ≡ o → IsIn (option_map_or (λ r. r.action) o Discard) (scan h marks)) [
          | None ↦ λ e. ended (may_miss table changes prepared.good.applies prepared.good.distinct h mixed mixture e)
          | Some r ↦ λ e. met r (may_match table changes prepared.good.applies prepared.good.distinct h mixed mixture r e)
        ] refl

-- what a place makes of the scan's actions are its outcomes over all mixtures
pub outcomes_from_marks : (net : Network) (place : Place) (dst : ℕ) (table : List Rule) (changes : List Change) (marks : List MarkedRule) (list : List Outcome)
    → AreScannable table changes marks → list ≡ map (action_outcome net place) (scan (header_at place dst) marks) → AreAllOutcomes net table changes place dst list
outcomes_from_marks net place dst table changes marks list prepared is found = (
  λ i.
      let (a, j, e) = in_from_map (action_outcome net place) found (scan (header_at place dst) marks) (subst (λ xs. IsIn found xs) is i) in
      let (mixed, mixture, f) = lookup_from_scan (header_at place dst) table changes marks prepared a j in
      record { mixed = mixed; held = mixture; is = e ∙ ap (action_outcome net place) f },
  λ o.
      let j = scan_from_lookup (header_at place dst) table changes marks prepared o.mixed o.held in
      subst (λ xs. IsIn found xs) (sym is)
      (subst (λ x. IsIn x (map (action_outcome net place) (scan (header_at place dst) marks))) (sym o.is) (in_map (action_outcome net place) (lookup (header_at place dst) o.mixed) (scan (header_at place dst) marks) j)),
)

pub outcomes_from_scan : (net : Network) (place : Place) (dst : ℕ) (table : List Rule) (changes : List Change) (marks : List MarkedRule) (list : List Outcome)
    → IsPrepared table changes marks → list ≡ map (action_outcome net place) (scan (header_at place dst) marks) → AreAllOutcomes net table changes place dst list
outcomes_from_scan net place dst table changes marks list prepared = outcomes_from_marks net place dst table changes marks list (scannable table changes marks prepared)

-- what is prepared, by the flag
pub prepared_at : (ready : Bool) (marks : List MarkedRule) (P : List MarkedRule → Type 0) → IsSomeAnd (cond ready (Some marks) None) P → P marks
prepared_at true marks P h = h
prepared_at false marks P h = absurd h

-- and what holds of what is prepared
pub for_prepared : (ready : Bool) (marks : List MarkedRule) (P : List MarkedRule → Type 0) → IsSome (cond ready (Some marks) None) → ForSome (cond ready (Some marks) None) P → P marks
for_prepared true marks P is h = h marks refl
for_prepared false marks P is h = absurd (both_ways false refl is)

pub if_prepared : (ready : Bool) (marks : List MarkedRule) (P : List MarkedRule → Type 0) → P marks → IfSome (cond ready (Some marks) None) P
if_prepared true marks P h = h
if_prepared false marks P h = tt
