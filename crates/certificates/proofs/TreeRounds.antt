-- The tables of a tree update after single replaces, and the possible outcomes in a round of one more.
use Rattle.std.proofs.Common.{◌≡◌, ◌⊎◌, ℕ, zero, suc, ◌<◌, ◌≤◌, true, false, cond, List, [], ◌∷◌, ◌++◌, map, length, get_or, refl, sym, ◌∙◌, subst, ap, inl, inr, arith}
use Rattle.std.specs.Prelude.{◌==◌}
use Rattle.std.specs.List.{AllByRecursion}
use Rattle.std.proofs.lemmas.Bool.{eqb-true}
use Rattle.net_base.specs.Blocks.{Block, in_block}
use Rattle.net_base.specs.Members.{IsIn, IsSubsequence, IsSameSet}
use Rattle.net_base.proofs.MemberLaws.{in_map, in_append_left, in_append_right, each_get_or}
use Rattle.net_base.specs.declared.ids.SwitchId.{SwitchId}
use Rattle.net_base.specs.declared.ids.Place.{Place}
use Rattle.flow_rules.specs.Patterns.{Header}
use Rattle.flow_rules.specs.Tables.{rules_at, lookup, IsTable, IsClear}
use Rattle.flow_rules.specs.declared.rules.Rule.{Rule}
use Rattle.path_walk.specs.Outcomes.{action_outcome, header_at}
use Rattle.path_walk.specs.Paths.{outcome_in}
use Rattle.path_walk.specs.declared.Outcome.{Outcome}
use Rattle.update_model.specs.Changes.{changes_at, rules_after, rules_after_change, tables_after, round_after, settled_tables}
use Rattle.update_model.specs.Mixtures.{tables_before, IsMixture, IsPossible, AreGoodRounds}
use Rattle.update_model.specs.declared.Change.{Change}
use Rattle.update_model.specs.declared.Change.TheVariants.{Replace}
use Rattle.update_model.proofs.OneRoundLaws.{next_tables}
use Rattle.update_model.proofs.RoundLaws.{settled_start}
use Rattle.certificates.specs.Updates.{Task, rollout}
use Rattle.flow_rules.specs.Tables.{table_blocks}
use Rattle.certificates.specs.Trees.{MatchesPrefixAlone, IsTreeUpdate, IsRemainingReplace, AreSingleReplaces}
use Rattle.net_base.proofs.NameLaws.{same_switch}
use Rattle.certificates.proofs.TreeTables.{Fits, unique_in_table, clear, fits_same, lookup_same_set, lookup_by_address, fits_after, lookup_after, differs_at}

in_table_blocks : (r : Rule) (tables : List (List Rule)) (n : ℕ) → IsIn r (get_or tables n []) → IsIn r.key.pattern.dst (table_blocks tables)
in_table_blocks r [] n i = absurd i
in_table_blocks r (rules ∷ tables) zero i = in_append_left r.key.pattern.dst (map (λ x. x.key.pattern.dst) rules) (table_blocks tables) (in_map (λ x. x.key.pattern.dst) r rules i)
in_table_blocks r (rules ∷ tables) (suc n) i = in_append_right r.key.pattern.dst (map (λ x. x.key.pattern.dst) rules) (table_blocks tables) (in_table_blocks r tables n i)

pub round_last : (rounds : List (List Change)) (round : List Change) → get_or (rounds ++ round ∷ []) (length rounds) [] ≡ round
round_last [] round = refl
round_last (r ∷ rounds) round = round_last rounds round

pub tables_last : (rounds : List (List Change)) (round : List Change) (old : List (List Rule)) → settled_tables (rounds ++ round ∷ []) (length rounds) old ≡ settled_tables rounds (length rounds) old
tables_last [] round old = refl
tables_last (r ∷ rounds) round old = tables_last rounds round (tables_after r old)

made_none : (made : List Change) → IsSubsequence made [] → made ≡ []
made_none [] h = refl
made_none (x ∷ xs) h = absurd h

made_one : (made : List Change) (c : Change) → IsSubsequence made (c ∷ []) → (made ≡ []) ⊎ (made ≡ c ∷ [])
made_one [] c h = inl refl
made_one (x ∷ xs) c (inl h) = inr (ap (λ y. y ∷ xs) h.0 ∙ ap (λ ys. c ∷ ys) (made_none xs h.1))
made_one (x ∷ xs) c (inr h) = absurd h

module _ (t : Task) (tree : IsTreeUpdate t) (old_once : (s : SwitchId) → IsTable (rules_at t.update.old s)) (new_once : (s : SwitchId) → IsTable (rules_at t.update.new s)) where
  -- the prefixes of both configurations
  abbrev pub blocks : List Block
  blocks = table_blocks t.update.old ++ table_blocks t.update.new

  pub alone_at : (s : SwitchId) → AllByRecursion MatchesPrefixAlone (rules_at t.update.new s)
  alone_at s = each_get_or (AllByRecursion MatchesPrefixAlone) t.update.new s.0 [] tree.new_alone tt

  pub within_at : (s : SwitchId) (r : Rule) → IsIn r (rules_at t.update.new s) → IsIn r.key.pattern.dst blocks
  within_at s r i = in_append_right r.key.pattern.dst (table_blocks t.update.old) (table_blocks t.update.new) (in_table_blocks r t.update.new s.0 i)

  -- tables whose rules have the keys of the new ones at each switch
  abbrev pub AllFit : List (List Rule) → Type 0
  AllFit tables = (s : SwitchId) → Fits (rules_at t.update.new s) (rules_at tables s)

  pub new_fit : AllFit t.update.new
  new_fit s = record { keys = λ k. (λ i. i, λ i. i); unique = unique_in_table (rules_at t.update.new s) (new_once s) }

  -- prefixes that have one address of a block have all of it
  pub same_blocks : (p : Block) → IsIn p blocks → (a b : ℕ) → in_block p a ≡ true → in_block p b ≡ true → (q : Block) → IsIn q blocks → in_block q a ≡ in_block q b
  same_blocks p i a b ia ib q j =
      elim (tree.apart p q i j) [
        | inl e ↦ subst (λ x. in_block x a ≡ in_block x b) e (ia ∙ sym ib)
        | inr never ↦
            elim (in_block q a) as (λ x. in_block q a ≡ x → x ≡ in_block q b) [
              | true ↦ λ e. absurd (never a ia e)
              | false ↦ λ _. elim (in_block q b) as (λ y. in_block q b ≡ y → false ≡ y) [ true ↦ λ f. absurd (never b ib f) | false ↦ λ _. refl ] refl
            ] refl
      ]

  -- fitting tables treat packets alike whose addresses lie in the same prefixes
  pub same_lookup : (tables : List (List Rule)) → AllFit tables → (s : SwitchId) (h g : Header) → ((b : Block) → IsIn b blocks → in_block b h.dst ≡ in_block b g.dst)
      → lookup h (rules_at tables s) ≡ lookup g (rules_at tables s)
  same_lookup tables fit s h g alike = lookup_by_address blocks tree.apart (rules_at t.update.new s) (alone_at s) (within_at s) (rules_at tables s) (fit s) h g alike

  -- where a lookup differs from the new one, so does the rule that matches
  pub rule_differs : (tables : List (List Rule)) → AllFit tables → (s : SwitchId) (h : Header) → ¬ (lookup h (rules_at tables s) ≡ lookup h (rules_at t.update.new s))
      → (next : Rule) × IsRemainingReplace t tables (Replace s next) × IsIn next (rules_at t.update.new s) × (in_block next.key.pattern.dst h.dst ≡ true)
  rule_differs tables fit s h ne =
      let d = differs_at blocks tree.apart (rules_at t.update.new s) (alone_at s) (within_at s) (new_once s) (rules_at tables s) (fit s) h ne in
      (d.next, record { switch = s; now = d.now; next = d.next; is = refl; stands = d.stands; wanted = d.wanted; same_key = d.same_key; differs = d.differs }, d.wanted, d.has)

  pub one_fits : (s at : SwitchId) (next : Rule) (rules : List Rule) → IsIn next (rules_at t.update.new at) → Fits (rules_at t.update.new s) rules
      → Fits (rules_at t.update.new s) (rules_after (changes_at s (Replace at next ∷ [])) rules)
  one_fits s at next rules wanted fits =
      elim (at.0 == s.0) as (λ b. (at.0 == s.0) ≡ b → Fits (rules_at t.update.new s) (rules_after (cond b (Replace at next ∷ []) []) rules)) [
        | true ↦ λ e. fits_after blocks tree.apart (rules_at t.update.new s) (alone_at s) (within_at s) (new_once s) rules fits s next
            (subst (λ x. IsIn next (rules_at t.update.new x)) (same_switch at s (eqb-true at.0 s.0 e)) wanted)
        | false ↦ λ _. fits
      ] refl

  module _ (singles : AreSingleReplaces t) (good : AreGoodRounds (rollout t)) where
    -- the tables after the first rounds fit
    pub before_fit : (k : ℕ) → k ≤ length t.rounds → AllFit (tables_before (rollout t) k)
    before_fit zero le s =
        subst (λ x. Fits (rules_at t.update.new s) (rules_at x s)) (sym (settled_start t.rounds t.update.old))
        (record { keys = tree.same_keys s; unique = unique_in_table (rules_at t.update.old s) (old_once s) })
    before_fit (suc k) le s =
        let less : k < length t.rounds = omega arith in
        let (c, round, is) = singles k less in
        let single : round_after k t.rounds ≡ Replace is.switch is.next ∷ [] = round ∙ ap (λ x. x ∷ []) is.is in
        subst (Fits (rules_at t.update.new s)) (sym (next_tables (rollout t) k less (good k less) s ∙ ap (λ r. rules_after (changes_at s r) (rules_at (tables_before (rollout t) k) s)) single))
        (one_fits s is.switch is.next (rules_at (tables_before (rollout t) k) s) is.wanted (before_fit k (omega arith) s))

  module _ (tables : List (List Rule)) (fit : AllFit tables) (at : SwitchId) (next : Rule) (wanted : IsIn next (rules_at t.update.new at)) where
    -- the rules are those of the table, or what the replace leaves of them at its switch
    abbrev MixtureIs : SwitchId → List Rule → Type 0
    MixtureIs s mixed = IsSameSet mixed (rules_at tables s) ⊎ ((s ≡ at) × IsSameSet mixed (rules_after_change (Replace s next) (rules_at tables s)))

    mixture_is : (s : SwitchId) (mixed : List Rule) → IsMixture (rules_at tables s) (changes_at s (Replace at next ∷ [])) mixed → MixtureIs s mixed
    mixture_is s mixed held =
        elim (at.0 == s.0) as (λ b. (at.0 == s.0) ≡ b → IsSubsequence held.made (cond b (Replace at next ∷ []) []) → IsSameSet mixed (rules_at tables s) ⊎ ((s ≡ at) × IsSameSet mixed (rules_after_change (Replace s next) (rules_at tables s)))) [
          | true ↦ λ e some. elim (made_one held.made (Replace at next) some) [
            | inl none ↦ inl (subst (λ m. IsSameSet mixed (rules_after m (rules_at tables s))) none held.same)
            | inr one ↦ inr (sym (same_switch at s (eqb-true at.0 s.0 e)), subst (λ m. IsSameSet mixed (rules_after m (rules_at tables s))) one held.same)
          ]
          | false ↦ λ _ some. inl (subst (λ m. IsSameSet mixed (rules_after m (rules_at tables s))) (made_none held.made some) held.same)
        ] refl held.some

    wanted_at : (s : SwitchId) → s ≡ at → IsIn next (rules_at t.update.new s)
    wanted_at s same = subst (λ x. IsIn next (rules_at t.update.new x)) (sym same) wanted

    replaced_fits : (s : SwitchId) → s ≡ at → Fits (rules_at t.update.new s) (rules_after_change (Replace s next) (rules_at tables s))
    replaced_fits s same = fits_after blocks tree.apart (rules_at t.update.new s) (alone_at s) (within_at s) (new_once s) (rules_at tables s) (fit s) s next (wanted_at s same)

    -- every mixture is clear
    pub mixture_clear : (s : SwitchId) (mixed : List Rule) → IsMixture (rules_at tables s) (changes_at s (Replace at next ∷ [])) mixed → IsClear mixed
    mixture_clear s mixed held =
        elim (mixture_is s mixed held) [
          | inl same ↦ clear blocks tree.apart (rules_at t.update.new s) (alone_at s) (within_at s) mixed (fits_same blocks tree.apart (rules_at t.update.new s) (alone_at s) (within_at s) (rules_at tables s) (fit s) mixed same)
          | inr (here, same) ↦ clear blocks tree.apart (rules_at t.update.new s) (alone_at s) (within_at s) mixed
              (fits_same blocks tree.apart (rules_at t.update.new s) (alone_at s) (within_at s) (rules_after_change (Replace s next) (rules_at tables s)) (replaced_fits s here) mixed same)
        ]

    -- the lookup is what it was, or the new one at the switch of the replace for an address of its prefix
    mixture_lookup : (s : SwitchId) (mixed : List Rule) → IsMixture (rules_at tables s) (changes_at s (Replace at next ∷ [])) mixed → (h : Header)
        → (lookup h mixed ≡ lookup h (rules_at tables s)) ⊎ ((s ≡ at) × (in_block next.key.pattern.dst h.dst ≡ true) × (lookup h mixed ≡ lookup h (rules_at t.update.new s)))
    mixture_lookup s mixed held h =
        elim (mixture_is s mixed held) [
          | inl same ↦ inl (lookup_same_set blocks tree.apart (rules_at t.update.new s) (alone_at s) (within_at s) (rules_at tables s) mixed (fit s) same h)
          | inr (here, same) ↦ (
              let first = lookup_same_set blocks tree.apart (rules_at t.update.new s) (alone_at s) (within_at s) (rules_after_change (Replace s next) (rules_at tables s)) mixed (replaced_fits s here) same h in
              elim (lookup_after blocks tree.apart (rules_at t.update.new s) (alone_at s) (within_at s) (new_once s) (rules_at tables s) (fit s) s next (wanted_at s here) h) [
                | inl e ↦ inl (first ∙ e)
                | inr f ↦ inr (here, f.0, first ∙ f.1)
              ])
        ]

    -- a possible outcome in the round of the replace is that of the tables before it, or at its switch and for its prefix that of the new ones
    pub possible_single : (old : List (List Rule)) (rounds : List (List Change)) (k : ℕ) → settled_tables rounds k old ≡ tables → (c : Change) → c ≡ Replace at next → round_after k rounds ≡ c ∷ []
        → (dst : ℕ) (place : Place) (found : Outcome) → IsPossible (record { net = t.update.net; old = old; rounds = rounds }) k dst place found
        → (found ≡ outcome_in t.update.net tables place dst)
        ⊎ ((place.switch ≡ at) × (in_block next.key.pattern.dst dst ≡ true) × (found ≡ outcome_in t.update.net t.update.new place dst))
    possible_single old rounds k before c is round dst place found possible =
        let s = place.switch in
        let held : IsMixture (rules_at tables s) (changes_at s (Replace at next ∷ [])) possible.mixed =
        subst (λ x. IsMixture (rules_at x s) (changes_at s (Replace at next ∷ [])) possible.mixed) before
        (subst (λ x. IsMixture (rules_at (settled_tables rounds k old) s) (changes_at s x) possible.mixed) (round ∙ ap (λ x. x ∷ []) is) possible.held) in
        elim (mixture_lookup s possible.mixed held (header_at place dst)) [
          | inl e ↦ inl (possible.is ∙ ap (action_outcome t.update.net place) e)
          | inr (same, has, e) ↦ inr (same, has, possible.is ∙ ap (action_outcome t.update.net place) e)
        ]
