-- Rounds of replaces of a tree update: what a switch may hold while one is carried out, and what the tables are after it.
use Rattle.std.proofs.Common.{◌≡◌, ◌⊎◌, ℕ, suc, true, false, cond, List, [], ◌∷◌, ◌++◌, length, refl, sym, ◌∙◌, subst, ap, inl, inr, append-nil}
use Rattle.std.specs.Prelude.{◌==◌, filter}
use Rattle.std.specs.List.{AllByRecursion}
use Rattle.std.proofs.lemmas.Bool.{eqb-true}
use Rattle.std.proofs.lemmas.List.Elements.{filter-append}
use Rattle.net_base.specs.Blocks.{in_block}
use Rattle.net_base.specs.Members.{IsIn, IsSubsequence, IsSameSet}
use Rattle.net_base.proofs.MemberLaws.{in_from_filter, in_from_subsequence, each_get_or, each_weaker}
use Rattle.net_base.proofs.NameLaws.{same_switch}
use Rattle.net_base.specs.declared.ids.SwitchId.{SwitchId}
use Rattle.net_base.specs.declared.ids.Place.{Place}
use Rattle.flow_rules.specs.Patterns.{Header}
use Rattle.flow_rules.specs.Tables.{rules_at, lookup, IsTable, IsClear}
use Rattle.flow_rules.specs.declared.rules.Rule.{Rule}
use Rattle.path_walk.specs.Outcomes.{action_outcome, header_at}
use Rattle.path_walk.specs.Paths.{outcome_in}
use Rattle.path_walk.specs.declared.Outcome.{Outcome}
use Rattle.update_model.specs.Changes.{switch_of, changes_at, rules_after, rules_after_change, tables_after, Applies}
use Rattle.update_model.specs.Mixtures.{IsMixture, IsPossible, is_insert}
use Rattle.update_model.specs.declared.Change.{Change}
use Rattle.update_model.specs.declared.Change.TheVariants.{Replace}
use Rattle.update_model.proofs.ChangeLaws.{IsWithin, rules_at-after}
use Rattle.certificates.specs.Updates.{Task}
use Rattle.certificates.specs.Rounds.{one_round_of}
use Rattle.certificates.specs.Trees.{MatchesPrefixAlone, IsTreeUpdate, IsRemainingReplace}
use Rattle.certificates.proofs.TreeTables.{Fits, clear, fits_same, lookup_same_set, fits_after, lookup_after}
use Rattle.certificates.proofs.TreeRounds.{blocks, within_at, AllFit}

none_of : {A : Type 0} (xs : List A) → IsSubsequence xs [] → xs ≡ []
none_of [] h = refl
none_of (x ∷ xs) h = absurd h

part_behind : {A : Type 0} (xs ys : List A) (y : A) → IsSubsequence xs ys → IsSubsequence xs (y ∷ ys)
part_behind [] ys y part = tt
part_behind (x ∷ xs) ys y part = inr part

-- some of a list with one more at its end
part_with_last : {A : Type 0} (xs ys : List A) (y : A) → IsSubsequence xs (ys ++ y ∷ [])
    → IsSubsequence xs ys ⊎ ((front : List A) × (xs ≡ front ++ y ∷ []) × IsSubsequence front ys)
part_with_last [] ys y h = inl tt
part_with_last (x ∷ xs) [] y (inl (e, h)) = inr ([], ap (λ z. z ∷ xs) e ∙ ap (λ zs. y ∷ zs) (none_of xs h), tt)
part_with_last (x ∷ xs) [] y (inr h) = absurd h
part_with_last (x ∷ xs) (z ∷ ys) y (inl (e, h)) =
    elim (part_with_last xs ys y h) [
      | inl part ↦ inl (inl (e, part))
      | inr (front, is, part) ↦ inr (x ∷ front, ap (λ zs. x ∷ zs) is, inl (e, part))
    ]
part_with_last (x ∷ xs) (z ∷ ys) y (inr h) =
    elim (part_with_last (x ∷ xs) ys y h) [
      | inl part ↦ inl (inr part)
      | inr (front, is, part) ↦ inr (front, is, part_behind front ys z part)
    ]

rules_after_last : (cs : List Change) (c : Change) (rules : List Rule) → rules_after (cs ++ c ∷ []) rules ≡ rules_after_change c (rules_after cs rules)
rules_after_last [] c rules = refl
rules_after_last (d ∷ cs) c rules = rules_after_last cs c (rules_after_change d rules)

replaced_length : (s : SwitchId) (next : Rule) (rules : List Rule) → length (rules_after_change (Replace s next) rules) ≡ length rules
replaced_length s next [] = refl
replaced_length s next (r ∷ rules) = ap suc (replaced_length s next rules)

module _ (t : Task) (tree : IsTreeUpdate t) (old_once : (s : SwitchId) → IsTable (rules_at t.update.old s)) (new_once : (s : SwitchId) → IsTable (rules_at t.update.new s)) where
  alone_at : (s : SwitchId) → AllByRecursion MatchesPrefixAlone (rules_at t.update.new s)
  alone_at s = each_get_or (AllByRecursion MatchesPrefixAlone) t.update.new s.0 [] tree.new_alone tt

  -- a replace at the switch by a new rule
  pub record IsWantedAt (s : SwitchId) (c : Change) : Type 0 where
    pub next : Rule
    pub is : c ≡ Replace s next
    pub wanted : IsIn next (rules_at t.update.new s)

  -- all of them are
  abbrev pub AreWantedAt : SwitchId → List Change → Type 0
  AreWantedAt s made = (c : Change) → IsIn c made → IsWantedAt s c

  -- each is a replace by a new rule
  abbrev pub AreWanted : List Change → Type 0
  AreWanted changes = (c : Change) → IsIn c changes → IsWantedAt (switch_of c) c

  pub wanted_of : (tables : List (List Rule)) (c : Change) → IsRemainingReplace t tables c → IsWantedAt (switch_of c) c
  wanted_of tables c r =
      subst (λ d. IsWantedAt (switch_of d) d) (sym r.is) (record { next = r.next; is = refl; wanted = r.wanted })

  pub wanted_there : (changes : List Change) → AreWanted changes → (s : SwitchId) → AreWantedAt s (changes_at s changes)
  wanted_there changes all s c i =
      let (j, e) = in_from_filter (λ d. (switch_of d).0 == s.0) c changes i in
      subst (λ x. IsWantedAt x c) (same_switch (switch_of c) s (eqb-true (switch_of c).0 s.0 e)) (all c j)

  module _ (s : SwitchId) where
    abbrev new : List Rule
    new = rules_at t.update.new s

    abbrev FitsHere : List Rule → Type 0
    FitsHere rules = Fits new rules

    fits_one : (c : Change) → IsWantedAt s c → (rules : List Rule) → FitsHere rules → FitsHere (rules_after_change c rules)
    fits_one c w rules fits =
        subst (λ d. FitsHere (rules_after_change d rules)) (sym w.is)
        (fits_after (blocks t tree old_once new_once) tree.apart new (alone_at s) (within_at t tree old_once new_once s) (new_once s) rules fits s w.next w.wanted)

    pub fits_made : (made : List Change) → AreWantedAt s made → (rules : List Rule) → FitsHere rules → FitsHere (rules_after made rules)
    fits_made [] all rules fits = fits
    fits_made (c ∷ made) all rules fits = fits_made made (λ d i. all d (inr i)) (rules_after_change c rules) (fits_one c (all c (inl refl)) rules fits)

    -- the lookup is what it was, or the new one
    abbrev pub KeepsOrRenews : Header → List Rule → List Rule → Type 0
    KeepsOrRenews h rules after = (lookup h after ≡ lookup h rules) ⊎ (lookup h after ≡ lookup h new)

    -- after one replace it is the new one only for an address of its prefix
    lookup_one : (next : Rule) → IsIn next new → (rules : List Rule) → FitsHere rules → (h : Header)
        → (lookup h (rules_after_change (Replace s next) rules) ≡ lookup h rules)
        ⊎ ((in_block next.key.pattern.dst h.dst ≡ true) × (lookup h (rules_after_change (Replace s next) rules) ≡ lookup h new))
    lookup_one next wanted rules fits h =
        lookup_after (blocks t tree old_once new_once) tree.apart new (alone_at s) (within_at t tree old_once new_once s) (new_once s) rules fits s next wanted h

    pub lookup_made : (made : List Change) → AreWantedAt s made → (rules : List Rule) → FitsHere rules → (h : Header) → KeepsOrRenews h rules (rules_after made rules)
    lookup_made [] all rules fits h = inl refl
    lookup_made (c ∷ made) all rules fits h =
        let w = all c (inl refl) in
        elim (lookup_made made (λ d i. all d (inr i)) (rules_after_change c rules) (fits_one c w rules fits) h) [
          | inr e ↦ inr e
          | inl e ↦ elim (lookup_one w.next w.wanted rules fits h) [
            | inl f ↦ inl (e ∙ ap (λ d. lookup h (rules_after_change d rules)) w.is ∙ f)
            | inr (has, f) ↦ inr (e ∙ ap (λ d. lookup h (rules_after_change d rules)) w.is ∙ f)
          ]
        ]

    pub clear_fit : (rules : List Rule) → FitsHere rules → IsClear rules
    clear_fit rules fits = clear (blocks t tree old_once new_once) tree.apart new (alone_at s) (within_at t tree old_once new_once s) rules fits

    same_fits : (rules mixed : List Rule) → FitsHere rules → IsSameSet mixed rules → FitsHere mixed
    same_fits rules mixed fits same = fits_same (blocks t tree old_once new_once) tree.apart new (alone_at s) (within_at t tree old_once new_once s) rules fits mixed same

    same_set : (rules mixed : List Rule) → FitsHere rules → IsSameSet mixed rules → (h : Header) → lookup h mixed ≡ lookup h rules
    same_set rules mixed fits same h = lookup_same_set (blocks t tree old_once new_once) tree.apart new (alone_at s) (within_at t tree old_once new_once s) rules mixed fits same h

    same_length : (made : List Change) → AreWantedAt s made → (rules : List Rule) → length (rules_after made rules) ≡ length rules
    same_length [] all rules = refl
    same_length (c ∷ made) all rules =
        let w = all c (inl refl) in
        same_length made (λ d i. all d (inr i)) (rules_after_change c rules) ∙ ap (λ d. length (rules_after_change d rules)) w.is ∙ replaced_length s w.next rules

    no_inserts : (made : List Change) → AreWantedAt s made → length (filter is_insert made) ≡ 0
    no_inserts [] all = refl
    no_inserts (c ∷ made) all =
        let w = all c (inl refl) in
        ap (λ d. length (filter is_insert (d ∷ made))) w.is ∙ no_inserts made (λ d i. all d (inr i))

  module _ (tables : List (List Rule)) (fit : AllFit t tree old_once new_once tables) (changes : List Change) (wanted : AreWanted changes) where
    made_wanted : (s : SwitchId) (mixed : List Rule) → (held : IsMixture (rules_at tables s) (changes_at s changes) mixed) → AreWantedAt s held.made
    made_wanted s mixed held c i = wanted_there changes wanted s c (in_from_subsequence c held.made (changes_at s changes) held.some i)

    made_fits : (s : SwitchId) (mixed : List Rule) → (held : IsMixture (rules_at tables s) (changes_at s changes) mixed) → Fits (rules_at t.update.new s) (rules_after held.made (rules_at tables s))
    made_fits s mixed held = fits_made s held.made (made_wanted s mixed held) (rules_at tables s) (fit s)

    -- every mixture is clear
    pub mixtures_clear : (s : SwitchId) (mixed : List Rule) → IsMixture (rules_at tables s) (changes_at s changes) mixed → IsClear mixed
    mixtures_clear s mixed held = clear_fit s mixed (same_fits s (rules_after held.made (rules_at tables s)) mixed (made_fits s mixed held) held.same)

    -- a possible outcome is that of the tables before the round, or of the new ones
    pub possible_either : (dst : ℕ) (place : Place) (found : Outcome) → IsPossible (one_round_of t.update.net tables changes) 0 dst place found
        → (found ≡ outcome_in t.update.net tables place dst) ⊎ (found ≡ outcome_in t.update.net t.update.new place dst)
    possible_either dst place found may =
        let s = place.switch in
        let same = same_set s (rules_after may.held.made (rules_at tables s)) may.mixed (made_fits s may.mixed may.held) may.held.same (header_at place dst) in
        elim (lookup_made s may.held.made (made_wanted s may.mixed may.held) (rules_at tables s) (fit s) (header_at place dst)) [
          | inl e ↦ inl (may.is ∙ ap (action_outcome t.update.net place) (same ∙ e))
          | inr e ↦ inr (may.is ∙ ap (action_outcome t.update.net place) (same ∙ e))
        ]

    pub rules_then : AllByRecursion (Applies tables) changes → (s : SwitchId) → rules_at (tables_after changes tables) s ≡ rules_after (changes_at s changes) (rules_at tables s)
    rules_then applies s = rules_at-after changes tables s (each_weaker (Applies tables) (IsWithin (length tables)) (λ c a. a.0) changes applies)

    -- after the round the tables fit, and each lookup is what it was, or the new one
    pub fits_then : AllByRecursion (Applies tables) changes → AllFit t tree old_once new_once (tables_after changes tables)
    fits_then applies s =
        subst (Fits (rules_at t.update.new s)) (sym (rules_then applies s)) (fits_made s (changes_at s changes) (wanted_there changes wanted s) (rules_at tables s) (fit s))

    pub length_then : AllByRecursion (Applies tables) changes → (s : SwitchId) → length (rules_at (tables_after changes tables) s) ≡ length (rules_at tables s)
    length_then applies s = ap length (rules_then applies s) ∙ same_length s (changes_at s changes) (wanted_there changes wanted s) (rules_at tables s)

    pub lookup_then : AllByRecursion (Applies tables) changes → (s : SwitchId) (h : Header)
        → (lookup h (rules_at (tables_after changes tables) s) ≡ lookup h (rules_at tables s)) ⊎ (lookup h (rules_at (tables_after changes tables) s) ≡ lookup h (rules_at t.update.new s))
    lookup_then applies s h =
        elim (lookup_made s (changes_at s changes) (wanted_there changes wanted s) (rules_at tables s) (fit s) h) [
          | inl e ↦ inl (ap (lookup h) (rules_then applies s) ∙ e)
          | inr e ↦ inr (ap (lookup h) (rules_then applies s) ∙ e)
        ]

    pub nothing_inserted : (s : SwitchId) → length (filter is_insert (changes_at s changes)) ≡ 0
    nothing_inserted s = no_inserts s (changes_at s changes) (wanted_there changes wanted s)

    -- with one more replace: a possible outcome was possible, or is the new one at the switch of that replace for an address of its prefix
    module _ (s : SwitchId) (next : Rule) (next_wanted : IsIn next (rules_at t.update.new s)) where
      abbrev more : List Change
      more = changes ++ Replace s next ∷ []

      module _ (dst : ℕ) (place : Place) (found : Outcome) (may : IsPossible (one_round_of t.update.net tables more) 0 dst place found) where
        abbrev x : SwitchId
        x = place.switch

        abbrev WasPossible : Type 0
        WasPossible = IsPossible (one_round_of t.update.net tables changes) 0 dst place found

        abbrev IsRenewed : Type 0
        IsRenewed = (place.switch ≡ s) × (in_block next.key.pattern.dst dst ≡ true) × (found ≡ outcome_in t.update.net t.update.new place dst)

        as_before : IsSubsequence may.held.made (changes_at x changes) → WasPossible
        as_before part = record { mixed = may.mixed; held = record { made = may.held.made; some = part; same = may.held.same }; is = may.is }

        with_last : x ≡ s → (front : List Change) → may.held.made ≡ front ++ Replace s next ∷ [] → IsSubsequence front (changes_at x changes) → WasPossible ⊎ IsRenewed
        with_last here front is part =
            let first : List Rule = rules_after front (rules_at tables x) in
            let held : IsMixture (rules_at tables x) (changes_at x changes) first = record { made = front; some = part; same = λ r. (λ i. i, λ i. i) } in
            let fits = made_fits x first held in
            let wanted_here : IsIn next (rules_at t.update.new x) = subst (λ y. IsIn next (rules_at t.update.new y)) (sym here) next_wanted in
            let after : may.held.made ≡ front ++ Replace x next ∷ [] = is ∙ ap (λ y. front ++ Replace y next ∷ []) (sym here) in
            let rules_are : rules_after may.held.made (rules_at tables x) ≡ rules_after_change (Replace x next) first =
            ap (λ m. rules_after m (rules_at tables x)) after ∙ rules_after_last front (Replace x next) (rules_at tables x) in
            let whole : Fits (rules_at t.update.new x) (rules_after_change (Replace x next) first) =
            fits_one x (Replace x next) (record { next = next; is = refl; wanted = wanted_here }) first fits in
            let same = same_set x (rules_after_change (Replace x next) first) may.mixed whole (subst (IsSameSet may.mixed) rules_are may.held.same) (header_at place dst) in
            elim (lookup_one x next wanted_here first fits (header_at place dst)) [
              | inl e ↦ inl (record { mixed = first; held = held; is = may.is ∙ ap (action_outcome t.update.net place) (same ∙ e) })
              | inr (has, e) ↦ inr (here, has, may.is ∙ ap (action_outcome t.update.net place) (same ∙ e))
            ]

        pub possible_more : WasPossible ⊎ IsRenewed
        possible_more =
            elim (s.0 == x.0) as (λ b. (s.0 == x.0) ≡ b → IsSubsequence may.held.made (changes_at x changes ++ cond b (Replace s next ∷ []) []) → WasPossible ⊎ IsRenewed) [
              | true ↦ λ e some. elim (part_with_last may.held.made (changes_at x changes) (Replace s next) some) [
                | inl part ↦ inl (as_before part)
                | inr (front, is, part) ↦ with_last (sym (same_switch s x (eqb-true s.0 x.0 e))) front is part
              ]
              | false ↦ λ _ some. inl (as_before (subst (IsSubsequence may.held.made) (append-nil (changes_at x changes)) some))
            ] refl (subst (IsSubsequence may.held.made) (filter-append (λ d. (switch_of d).0 == x.0) changes (Replace s next ∷ [])) may.held.some)
