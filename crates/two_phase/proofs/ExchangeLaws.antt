-- The two rounds that exchange the raw rules, while the bands hide them.
use Rattle.std.proofs.Common.{◌≡◌, ◌⊎◌, ℕ, ◌<◌, ◌≤◌, Bool, true, false, List, ◌++◌, map, refl, sym, ◌∙◌, subst, ap, inl, inr, arith}
use Rattle.std.specs.Prelude.{◌==◌, filter, not}
use Rattle.std.specs.List.{list_any}
use Rattle.std.proofs.lemmas.Bool.{eqb-true, eq-eqb, both_ways, not-true, not_from_false, cases_Bool, cases_lt}
use Rattle.net_base.specs.Members.{IsIn}
use Rattle.net_base.proofs.MemberLaws.{in_filter, in_from_filter, in_map, in_from_map, in_from_subsequence, each_at, each_from_in, in_append_left, in_append_right, in_append_cases}
use Rattle.net_base.specs.declared.ids.SwitchId.{SwitchId}
use Rattle.topology.specs.Networks.{Network, IsNetwork, switch_count, capacity_of}
use Rattle.flow_rules.specs.Patterns.{Header, covers, key_eq}
use Rattle.flow_rules.specs.Tables.{rules_at, keys_of}
use Rattle.flow_rules.specs.declared.rules.Key.{Key}
use Rattle.flow_rules.specs.declared.rules.Rule.{Rule}
use Rattle.flow_rules.proofs.KeyLaws.{key_eq-true, key_eq-refl}
use Rattle.path_walk.specs.UserConfigs.{IsUserConfig, IsUserRule}
use Rattle.update_model.specs.Changes.{switch_of, entry_named, Applies, changes_at, rules_after, tables_after, IsGoodRound}
use Rattle.update_model.specs.Mixtures.{IsMixture}
use Rattle.update_model.proofs.Matches.{Writes}
use Rattle.update_model.specs.Remaining.{remaining_changes, changes_between}
use Rattle.flow_rules.specs.Same.{action_eq}
use Rattle.update_model.specs.declared.Change.{Change}
use Rattle.update_model.specs.declared.Change.TheVariants.{Insert, Delete, Replace}
use Rattle.update_model.proofs.ChangeLaws.{key_named, StandsAfterAll, length-tables_after}
use Rattle.update_model.proofs.MadeLaws.{distinct_some}
use Rattle.update_model.specs.Mixtures.{is_insert}
use Rattle.two_phase.specs.TwoPhasePlan.{two_phase_need}
use Rattle.two_phase.proofs.TagLaws.{IsTagging}
use Rattle.net_base.proofs.ListLaws.{any_in, in_from_any, told_from_distinct}
use Rattle.two_phase.proofs.BandLaws.{tagged_low, ingress_low}
use Rattle.two_phase.proofs.MaskLaws.{IsRaw, IsBanded}
use Rattle.two_phase.proofs.LabelLaws.{IsOfVersion}
use Rattle.two_phase.proofs.SweepLaws.{IsSweep, made_from, made_to, made_table, after_from, after_to, need_within, after_table, insert_good, inserted_kept, inserted_from, inserted_after}
use Rattle.update_model.proofs.MatchLaws.{some_filter}
use Rattle.two_phase.proofs.StageLaws.{tagged, ingress, Content, Holds, IsSound, room_for, IsUpward, IsBetween, banded_from, raw_in, in_all, outside_none}
use Rattle.update_model.proofs.DifferenceLaws.{IsDifference, remaining_is, remaining_in, remaining_distinct, difference_switch, deletes_it, inserts_it, replaces_it}
use Rattle.flow_rules.proofs.TableLaws.{action_eq-refl, action_eq-true, rule_same}

module _ (net : Network) (net_is : IsNetwork net) (tags : IsTagging net) (old new : List (List Rule)) (old_user : IsUserConfig net old) (new_user : IsUserConfig net new)
    (mark : SwitchId → Rule → ℕ) (layers : ℕ) (room : (s : SwitchId) → s.0 < switch_count net → two_phase_need net old new s ≤ capacity_of net s)
    (all : List ℕ) (marked : (s : SwitchId) → s.0 < switch_count net → (r : Rule) → IsIn r (ingress net net_is tags old new old_user new_user mark layers s) → IsIn (mark s r) all) where
  abbrev the_tagged : SwitchId → List Rule
  the_tagged s = tagged net net_is tags old new old_user new_user mark layers s

  abbrev the_ingress : SwitchId → List Rule
  the_ingress s = ingress net net_is tags old new old_user new_user mark layers s

  abbrev HoldsThis : (SwitchId → List Rule) → List (List Rule) → Type 0
  HoldsThis raw tables = Holds net net_is tags old new old_user new_user mark layers raw true all tables

  abbrev Sound : ℕ → List (List Rule) → List Change → Type 0
  Sound k tables round = IsSound net net_is tags old new old_user new_user mark layers k tables round

  abbrev HasContent : (SwitchId → List Rule) → SwitchId → Rule → Type 0
  HasContent raw s r = Content net net_is tags old new old_user new_user mark layers raw true all s r

  -- whether the old table has a rule's key
  abbrev was : SwitchId → Rule → Bool
  was s r = list_any (key_eq r.key) (keys_of (rules_at old s))

  was_true : (s : SwitchId) (r : Rule) → IsIn r.key (keys_of (rules_at old s)) → was s r ≡ true
  was_true s r i = any_in (key_eq r.key) r.key (keys_of (rules_at old s)) i (key_eq-refl r.key)

  was_in : (s : SwitchId) (r : Rule) → was s r ≡ true → IsIn r.key (keys_of (rules_at old s))
  was_in s r e = let (k, i, f) = in_from_any (key_eq r.key) (keys_of (rules_at old s)) e in subst (λ x. IsIn x (keys_of (rules_at old s))) (sym (key_eq-true r.key k f)) i

  -- the new rules with keys of the old table, and the others
  abbrev pub staying : SwitchId → List Rule
  staying s = filter (was s) (rules_at new s)

  abbrev fresh : SwitchId → List Rule
  fresh s = filter (λ r. not (was s r)) (rules_at new s)

  abbrev pub first_round : List Change
  first_round = filter (λ c. not (is_insert c)) (remaining_changes old new)

  abbrev pub second_round : List Change
  second_round = filter is_insert (remaining_changes old new)

  old_low : (s : SwitchId) (r : Rule) → IsIn r (rules_at old s) → r.key.priority ≤ 16383
  old_low s r i = (each_at (IsUserRule net s) (rules_at old s) r (old_user.rules s) i).below

  new_low : (s : SwitchId) (r : Rule) → IsIn r (rules_at new s) → r.key.priority ≤ 16383
  new_low s r i = (each_at (IsUserRule net s) (rules_at new s) r (new_user.rules s) i).below

  band_high : (s : SwitchId) (r : Rule) → IsIn r (the_tagged s) ⊎ IsIn r (the_ingress s) → 16384 ≤ r.key.priority
  band_high s r (inl t) = tagged_low net s (rules_at new s) (new_user.rules s) r t
  band_high s r (inr g) = let h = ingress_low net s (rules_at new s) (new_user.rules s) r g in omega arith

  upward : IsUpward net net_is tags old new old_user new_user mark layers all all
  upward s inside p q gp gq h cp cq i less = marked s inside p gp

  find_old : (s : SwitchId) (k : Key) → IsIn k (keys_of (rules_at old s)) → (r : Rule) × IsIn r (rules_at old s) × (r.key ≡ k)
  find_old s k i = let (r, j, e) = in_from_map (λ x. x.key) k (rules_at old s) i in (r, j, sym e)

  module _ (k : ℕ) (of : IsOfVersion layers k true) (tables : List (List Rule)) where
    module _ (holds : HoldsThis (λ s. rules_at old s) tables) where
      applies_first : (s : SwitchId) → s.0 < switch_count net → (c : Change) → IsDifference s (rules_at old s) (rules_at new s) c → is_insert c ≡ false → Applies tables c
      applies_first s inside (Insert t r) d e = absurd (both_ways true e refl)
      applies_first s inside (Delete t r) d e = subst (λ x. Applies tables (Delete x r)) (sym d.0) (subst (λ n. s.0 < n) (sym holds.count) inside, holds.to s inside r (inl d.1))
      applies_first s inside (Replace t q) d e =
          let (r, i, same, _) = d.2 in
          subst (λ x. Applies tables (Replace x q)) (sym d.0) (subst (λ n. s.0 < n) (sym holds.count) inside, subst (λ x. IsIn x (keys_of (rules_at tables s))) same (in_map (λ x. x.key) r (rules_at tables s) (holds.to s inside r (inl i))))

      in_first : (c : Change) → IsIn c first_round → IsIn c (remaining_changes old new) × (is_insert c ≡ false)
      in_first c i = let (j, e) = in_from_filter (λ x. not (is_insert x)) c (remaining_changes old new) i in (j, not-true (is_insert c) e)

      good_first : IsGoodRound tables first_round
      good_first = record {
        applies = each_from_in (Applies tables) first_round (λ c i.
            let (j, e) = in_first c i in
            let (s, less, d) = remaining_is old new c j in
            applies_first s (subst (λ n. s.0 < n) old_user.count less) c d e);
        distinct = distinct_some entry_named first_round (remaining_changes old new) (some_filter (λ c. not (is_insert c)) (remaining_changes old new)) (remaining_distinct old new);
      }

      module _ (s : SwitchId) (inside : s.0 < switch_count net) where
        abbrev rules : List Rule
        rules = rules_at tables s

        here_is : (c : Change) → IsIn c (changes_at s first_round) → IsDifference s (rules_at old s) (rules_at new s) c × (is_insert c ≡ false)
        here_is c i =
            let (j, f) = in_from_filter (λ x. (switch_of x).0 == s.0) c first_round i in
            let (l, e) = in_first c j in
            let (t, less, d) = remaining_is old new c l in
            let same : t.0 ≡ s.0 = sym (ap (λ x. x.0) (difference_switch t (rules_at old t) (rules_at new t) c d)) ∙ eqb-true (switch_of c).0 s.0 f in
            let is : t ≡ s = ap (λ (n : ℕ). let x : SwitchId = record { 0 = n } in x) same in
            (subst (λ x. IsDifference x (rules_at old x) (rules_at new x) c) is d, e)

        named_low : (c : Change) → IsDifference s (rules_at old s) (rules_at new s) c → (key_named c).priority ≤ 16383
        named_low (Insert t r) d = new_low s r d.1
        named_low (Delete t r) d = old_low s r d.1
        named_low (Replace t r) d = new_low s r d.1

        -- what a change of the round writes is a new rule whose key was there
        written_is : (r : Rule) (c : Change) → IsDifference s (rules_at old s) (rules_at new s) c → is_insert c ≡ false → Writes r c → IsIn r (rules_at new s) × IsIn r.key (keys_of (rules_at old s))
        written_is r (Insert t q) d e w = absurd (both_ways true e refl)
        written_is r (Delete t q) d e w = absurd w
        written_is r (Replace t q) d e w =
            let (x, i, same, _) = d.2 in
            (subst (λ y. IsIn y (rules_at new s)) (sym w) d.1, subst (λ y. IsIn y.key (keys_of (rules_at old s))) (sym w) (subst (λ y. IsIn y (keys_of (rules_at old s))) same (in_map (λ y. y.key) x (rules_at old s) i)))

        band_stays : (made : List Change) → ((c : Change) → IsIn c made → IsIn c (changes_at s first_round)) → (r : Rule) → IsIn r (the_tagged s) ⊎ IsIn r (the_ingress s) → ¬ IsIn r.key (map key_named made)
        band_stays made within r band named =
            let (c, i, e) = in_from_map key_named r.key made named in
            let low = named_low c (here_is c (within c i)).0 in
            let high = band_high s r band in
            let f = ap (λ x. x.priority) e in
            absurd (omega arith)

        module _ (mixed : List Rule) (held : IsMixture rules (changes_at s first_round) mixed) where
          some_here : (c : Change) → IsIn c held.made → IsIn c (changes_at s first_round)
          some_here c i = in_from_subsequence c held.made (changes_at s first_round) held.some i

          stands_first : (r : Rule) → IsIn r mixed → StandsAfterAll rules held.made r
          stands_first r i = made_from tables first_round good_first s held.made held.some r ((held.same r).0 i)

          band_kept : (r : Rule) → IsIn r (the_tagged s) ⊎ IsIn r (the_ingress s) → IsIn r rules → IsIn r mixed
          band_kept r band i = (held.same r).1 (made_to tables first_round good_first s held.made held.some r (inl (i, band_stays held.made some_here r band)))

          between_first : IsBetween net net_is tags old new old_user new_user mark layers (λ t. rules_at old t ++ rules_at new t) true true all all s mixed
          between_first = record {
            has_tagged = λ _ q i. band_kept q (inl i) (holds.to s inside q (inr (inl (refl, i))));
            has_ingress = λ r i g. band_kept r (inr g) (holds.to s inside r (inr (inr (i, g))));
            within = λ r i. elim (stands_first r i) [
              | inl h ↦ elim (holds.from s inside r h.0) [ inl o ↦ inl (in_append_left r (rules_at old s) (rules_at new s) o) | inr b ↦ inr b ]
              | inr w ↦ (let (d, e) = here_is w.0 (some_here w.0 w.1) in inl (in_append_right r (rules_at old s) (rules_at new s) (written_is r w.0 d e w.2).0))
            ];
          }

          -- a raw rule of the mixture has the key of an old one
          key_was : (r : Rule) → IsIn r mixed → IsRaw r → IsIn r.key (keys_of (rules_at old s))
          key_was r i low =
              elim (stands_first r i) [
                | inl h ↦ elim (holds.from s inside r h.0) [
                  | inl o ↦ in_map (λ x. x.key) r (rules_at old s) o
                  | inr b ↦ elim b [
                    | inl t ↦ (let x = band_high s r (inl t.1) in absurd (omega arith))
                    | inr g ↦ (let x = band_high s r (inr g.1) in absurd (omega arith))
                  ]
                ]
                | inr w ↦ (let (d, e) = here_is w.0 (some_here w.0 w.1) in (written_is r w.0 d e w.2).1)
              ]

          raw_clear : (h : Header) (a b : Rule) → IsIn a mixed → IsIn b mixed → IsRaw a → IsRaw b → covers a.key.pattern h ≡ true → covers b.key.pattern h ≡ true → a.key.priority ≡ b.key.priority → a ≡ b
          raw_clear h a b i j la lb ca cb e =
              let (x, ix, ex) = find_old s a.key (key_was a i la) in
              let (y, iy, ey) = find_old s b.key (key_was b j lb) in
              let same : x ≡ y = old_user.clear s h x y ix iy (subst (λ z. covers z.pattern h ≡ true) (sym ex) ca) (subst (λ z. covers z.pattern h ≡ true) (sym ey) cb)
              (ap (λ z. z.priority) ex ∙ e ∙ ap (λ z. z.priority) (sym ey)) in
              told_from_distinct (λ z. z.key) (rules_after held.made rules) (made_table tables first_round good_first s held.made held.some (holds.table s)) a b ((held.same a).0 i) ((held.same b).0 j)
              (sym ex ∙ ap (λ z. z.key) same ∙ ey)

          low_either : (t : SwitchId) (r : Rule) → IsIn r (rules_at old t ++ rules_at new t) → IsRaw r
          low_either t r i = elim (in_append_cases r (rules_at old t) (rules_at new t) i) [ inl o ↦ old_low t r o | inr n ↦ new_low t r n ]

          banded_first : IsBanded net s (rules_at new s) mixed
          banded_first = banded_from net net_is tags old new old_user new_user mark layers (λ t. rules_at old t ++ rules_at new t) low_either true true all all upward s inside mixed between_first raw_clear

        not_both : (c : Change) → is_insert c ≡ true → is_insert c ≡ false → ⊥
        not_both (Insert t r) e f = both_ways true f refl
        not_both (Delete t r) e f = both_ways false refl e
        not_both (Replace t r) e f = both_ways false refl e

        in_big : (r : Rule) → IsIn r (rules_after (filter is_insert (changes_at s first_round)) rules) → IsIn r (rules_at old s ++ (the_tagged s ++ the_ingress s))
        in_big r i =
            elim (made_from tables first_round good_first s (filter is_insert (changes_at s first_round)) (some_filter is_insert (changes_at s first_round)) r i) [
              | inl h ↦ elim (holds.from s inside r h.0) [
                | inl o ↦ in_append_left r (rules_at old s) (the_tagged s ++ the_ingress s) o
                | inr b ↦ in_append_right r (rules_at old s) (the_tagged s ++ the_ingress s) (elim b [ inl t ↦ in_append_left r (the_tagged s) (the_ingress s) t.1 | inr g ↦ in_append_right r (the_tagged s) (the_ingress s) g.1 ])
              ]
              | inr w ↦ (let (j, e) = in_from_filter is_insert w.0 (changes_at s first_round) w.1 in absurd (not_both w.0 e (here_is w.0 j).1))
            ]

        within_first : (r : Rule) → IsIn r (rules_at (tables_after first_round tables) s) → HasContent staying s r
        within_first r i =
            elim (after_from tables first_round good_first s r i) [
              | inl h ↦ elim (holds.from s inside r h.0) [
                | inl o ↦ inl (stay r o h.1)
                | inr b ↦ inr b
              ]
              | inr w ↦ (
                  let (d, e) = here_is w.0 w.1 in
                  let (n, key) = written_is r w.0 d e w.2 in
                  inl (in_filter (was s) r (rules_at new s) n (was_true s r key)))
            ]
          where
            in_round : (c : Change) → IsIn c (changes_between s (rules_at old s) (rules_at new s)) → is_insert c ≡ false → switch_of c ≡ s → IsIn c (changes_at s first_round)
            in_round c i e same =
                in_filter (λ x. (switch_of x).0 == s.0) c first_round
                (in_filter (λ x. not (is_insert x)) c (remaining_changes old new) (remaining_in old new s c (subst (λ n. s.0 < n) (sym old_user.count) inside) (subst (λ n. s.0 < n) (sym new_user.count) inside) i) (not_from_false (is_insert c) e))
                (eq-eqb (switch_of c).0 s.0 (ap (λ x. x.0) same))

            -- an old rule that no change names is a new rule
            stay : (r : Rule) → IsIn r (rules_at old s) → ¬ IsIn r.key (map key_named (changes_at s first_round)) → IsIn r (staying s)
            stay r o free =
                elim (cases_Bool (list_any (key_eq r.key) (keys_of (rules_at new s)))) [
                  | inl has ↦ (
                      let (key, j, f) = in_from_any (key_eq r.key) (keys_of (rules_at new s)) has in
                      let (q, l, g) = in_from_map (λ x. x.key) key (rules_at new s) j in
                      let same : r.key ≡ q.key = key_eq-true r.key key f ∙ g in
                      elim (cases_Bool (action_eq r.action q.action)) [
                        | inl equal ↦ (
                            let is : r ≡ q = rule_same r q same (action_eq-true r.action q.action equal) in
                            in_filter (was s) r (rules_at new s) (subst (λ x. IsIn x (rules_at new s)) (sym is) l) (was_true s r (in_map (λ x. x.key) r (rules_at old s) o)))
                        | inr differ ↦ (
                            let c = Replace s q in
                            let i = in_round c (replaces_it s (rules_at old s) (rules_at new s) (old_user.distinct s) (new_user.distinct s) r q o l same differ) refl refl in
                            absurd (free (subst (λ x. IsIn x (map key_named (changes_at s first_round))) (sym same) (in_map key_named c (changes_at s first_round) i))))
                      ])
                  | inr none ↦ (
                      let c = Delete s r in
                      let gone : ¬ IsIn r.key (keys_of (rules_at new s)) = λ i. both_ways (list_any (key_eq r.key) (keys_of (rules_at new s))) none (any_in (key_eq r.key) r.key (keys_of (rules_at new s)) i (key_eq-refl r.key)) in
                      let i = in_round c (deletes_it s (rules_at old s) (rules_at new s) (old_user.distinct s) (new_user.distinct s) r o gone) refl refl in
                      absurd (free (in_map key_named c (changes_at s first_round) i)))
                ]

        from_first : (r : Rule) → HasContent staying s r → IsIn r (rules_at (tables_after first_round tables) s)
        from_first r (inr (inl t)) = after_to tables first_round good_first s r (inl (holds.to s inside r (inr (inl t)), band_stays (changes_at s first_round) (λ c i. i) r (inl t.1)))
        from_first r (inr (inr g)) = after_to tables first_round good_first s r (inl (holds.to s inside r (inr (inr g)), band_stays (changes_at s first_round) (λ c i. i) r (inr g.1)))
        from_first r (inl i) =
            let (n, e) = in_from_filter (was s) r (rules_at new s) i in
            let (x, o, same) = find_old s r.key (was_in s r e) in
            elim (cases_Bool (action_eq x.action r.action)) [
              | inl equal ↦ (
                  let is : x ≡ r = rule_same x r same (action_eq-true x.action r.action equal) in
                  after_to tables first_round good_first s r (inl (
                    holds.to s inside r (inl (subst (λ z. IsIn z (rules_at old s)) is o)),
                    λ named.
                        let (c, j, f) = in_from_map key_named r.key (changes_at s first_round) named in
                        let (d, off) = here_is c j in
                        clash r x n o is c d off f,
                  )))
              | inr differ ↦ (
                  let c = Replace s r in
                  let j = replaces_it s (rules_at old s) (rules_at new s) (old_user.distinct s) (new_user.distinct s) x r o n same differ in
                  let here : IsIn c (changes_at s first_round) = in_filter (λ z. (switch_of z).0 == s.0) c first_round
                  (in_filter (λ z. not (is_insert z)) c (remaining_changes old new) (remaining_in old new s c (subst (λ m. s.0 < m) (sym old_user.count) inside) (subst (λ m. s.0 < m) (sym new_user.count) inside) j) refl) (eq-eqb s.0 s.0 refl) in
                  after_to tables first_round good_first s r (inr (c, here, refl)))
            ]
          where
            -- no change names a rule that stands in both tables
            clash : (r x : Rule) → IsIn r (rules_at new s) → IsIn x (rules_at old s) → x ≡ r → (c : Change) → IsDifference s (rules_at old s) (rules_at new s) c → is_insert c ≡ false → r.key ≡ key_named c → ⊥
            clash r x n o is (Insert t q) d off f = both_ways true off refl
            clash r x n o is (Delete t q) d off f = d.2 (subst (λ z. IsIn z (keys_of (rules_at new s))) f (in_map (λ z. z.key) r (rules_at new s) n))
            clash r x n o is (Replace t q) d off f =
                let (y, j, same, differ) = d.2 in
                let q_is : r ≡ q = told_from_distinct (λ z. z.key) (rules_at new s) (new_user.distinct s) r q n d.1 f in
                let y_is : y ≡ x = told_from_distinct (λ z. z.key) (rules_at old s) (old_user.distinct s) y x j o (same ∙ sym f ∙ ap (λ z. z.key) (sym is)) in
                both_ways (action_eq r.action r.action) (subst (λ z. action_eq z.action r.action ≡ false) (y_is ∙ is) (subst (λ z. action_eq y.action z.action ≡ false) (sym q_is) differ)) (action_eq-refl r.action)

      pub exchange_first : Sound k tables first_round × HoldsThis staying (tables_after first_round tables)
      exchange_first = (
        record {
          good = good_first;
          clear = λ s mixed held. elim (cases_lt s.0 (switch_count net)) [
            | inl inside ↦ (banded_first s inside mixed held).clear
            | inr outside ↦ λ h a b i. absurd (outside_none tables first_round good_first s (λ less. let c = holds.count in absurd (omega arith)) mixed held a i)
          ];
          fits = λ s inside.
              let le = need_within tables first_round good_first s (holds.table s) (rules_at old s ++ (the_tagged s ++ the_ingress s)) (in_big s inside) in
              let fits = room_for net net_is tags old new old_user new_user mark layers room false s inside in
              omega arith;
          version = true;
          of = of;
          banded = banded_first;
          raws = inr (refl, λ s inside mixed held q g. (between_first s inside mixed held).has_ingress q (marked s inside q g) g);
          laid = inl (λ s inside mixed held. (between_first s inside mixed held).has_tagged refl);
        },
        record {
          count = length-tables_after first_round tables ∙ holds.count;
          table = λ s. after_table tables first_round good_first s (holds.table s);
          from = within_first;
          to = from_first;
        },
      )

    module _ (holds : HoldsThis staying tables) where
      second_is : (c : Change) → is_insert c ≡ true → (s : SwitchId) → s.0 < switch_count net → IsDifference s (rules_at old s) (rules_at new s) c
          → (t : SwitchId) × (r : Rule) × (c ≡ Insert t r) × (t.0 < switch_count net) × IsIn r (fresh t)
      second_is (Insert t r) e s inside d =
          (s, r, ap (λ x. Insert x r) d.0, inside, in_filter (λ x. not (was s x)) r (rules_at new s) d.1 (not_from_false (was s r) (none s r d.2)))
        where
          none : (s : SwitchId) (r : Rule) → ¬ IsIn r.key (keys_of (rules_at old s)) → was s r ≡ false
          none s r out = elim (cases_Bool (was s r)) [ inl on ↦ absurd (out (was_in s r on)) | inr off ↦ off ]
      second_is (Delete t r) e s inside d = absurd (both_ways false refl e)
      second_is (Replace t r) e s inside d = absurd (both_ways false refl e)

      fresh_is : (s : SwitchId) (r : Rule) → IsIn r (fresh s) → IsIn r (rules_at new s) × ¬ IsIn r.key (keys_of (rules_at old s))
      fresh_is s r i =
          let (n, e) = in_from_filter (λ x. not (was s x)) r (rules_at new s) i in
          (n, λ j. both_ways (was s r) (not-true (was s r) e) (was_true s r j))

      sweep : IsSweep (switch_count net) Insert fresh second_round
      sweep = record {
        each = λ c i.
            let (j, e) = in_from_filter is_insert c (remaining_changes old new) i in
            let (s, less, d) = remaining_is old new c j in
            second_is c e s (subst (λ n. s.0 < n) old_user.count less) d;
        every = λ s r inside i.
            let (n, out) = fresh_is s r i in
            in_filter is_insert (Insert s r) (remaining_changes old new)
            (remaining_in old new s (Insert s r) (subst (λ m. s.0 < m) (sym old_user.count) inside) (subst (λ m. s.0 < m) (sym new_user.count) inside)
            (inserts_it s (rules_at old s) (rules_at new s) (old_user.distinct s) (new_user.distinct s) r n out)) refl;
        distinct = distinct_some entry_named second_round (remaining_changes old new) (some_filter is_insert (remaining_changes old new)) (remaining_distinct old new);
      }

      absent : (s : SwitchId) (r : Rule) → s.0 < switch_count net → IsIn r (fresh s) → ¬ IsIn r.key (keys_of (rules_at tables s))
      absent s r inside i named =
          let (n, out) = fresh_is s r i in
          let (x, j, e) = in_from_map (λ z. z.key) r.key (rules_at tables s) named in
          let low = new_low s r n in
          let f = ap (λ z. z.priority) e in
          elim (holds.from s inside x j) [
            | inl h ↦ out (subst (λ z. IsIn z (keys_of (rules_at old s))) (sym e) (was_in s x (in_from_filter (was s) x (rules_at new s) h).1))
            | inr b ↦ elim b [
              | inl t ↦ (let z = band_high s x (inl t.1) in absurd (omega arith))
              | inr g ↦ (let z = band_high s x (inr g.1) in absurd (omega arith))
            ]
          ]

      good_second : IsGoodRound tables second_round
      good_second = insert_good (switch_count net) fresh second_round tables holds.count sweep absent

      within_second : (s : SwitchId) → s.0 < switch_count net → (r : Rule) → IsIn r (rules_at tables s) ⊎ IsIn r (fresh s) → HasContent (λ t. rules_at new t) s r
      within_second s inside r (inl j) = elim (holds.from s inside r j) [ inl h ↦ inl (in_from_filter (was s) r (rules_at new s) h).0 | inr b ↦ inr b ]
      within_second s inside r (inr j) = inl (fresh_is s r j).0

      between_second : (s : SwitchId) → s.0 < switch_count net → (mixed : List Rule) → IsMixture (rules_at tables s) (changes_at s second_round) mixed
          → IsBetween net net_is tags old new old_user new_user mark layers (λ t. rules_at new t) true true all all s mixed
      between_second s inside mixed held = record {
        has_tagged = λ _ q i. inserted_kept (switch_count net) fresh second_round tables holds.count sweep absent s inside mixed held q (holds.to s inside q (inr (inl (refl, i))));
        has_ingress = λ r i g. inserted_kept (switch_count net) fresh second_round tables holds.count sweep absent s inside mixed held r (holds.to s inside r (inr (inr (i, g))));
        within = λ r i. within_second s inside r (inserted_from (switch_count net) fresh second_round tables holds.count sweep absent s inside mixed held r i);
      }

      banded_second : (s : SwitchId) → s.0 < switch_count net → (mixed : List Rule) → IsMixture (rules_at tables s) (changes_at s second_round) mixed → IsBanded net s (rules_at new s) mixed
      banded_second s inside mixed held =
          let b = between_second s inside mixed held in
          banded_from net net_is tags old new old_user new_user mark layers (λ t. rules_at new t) new_low true true all all upward s inside mixed b (λ h x y i j lx ly cx cy e.
          new_user.clear s h x y (raw_in net net_is tags old new old_user new_user mark layers (λ t. rules_at new t) new_low true true all all upward s inside mixed b x i lx)
          (raw_in net net_is tags old new old_user new_user mark layers (λ t. rules_at new t) new_low true true all all upward s inside mixed b y j ly) cx cy e)

      pub exchange_second : Sound k tables second_round × HoldsThis (λ s. rules_at new s) (tables_after second_round tables)
      exchange_second = (
        record {
          good = good_second;
          clear = λ s mixed held. elim (cases_lt s.0 (switch_count net)) [
            | inl inside ↦ (banded_second s inside mixed held).clear
            | inr outside ↦ λ h a b i. absurd (outside_none tables second_round good_second s (λ less. let c = holds.count in absurd (omega arith)) mixed held a i)
          ];
          fits = λ s inside.
              let made = filter is_insert (changes_at s second_round) in
              let mixed = rules_after made (rules_at tables s) in
              let held : IsMixture (rules_at tables s) (changes_at s second_round) mixed = record { made = made; some = some_filter is_insert (changes_at s second_round); same = λ r. (λ i. i, λ i. i) } in
              let le = need_within tables second_round good_second s (holds.table s) (rules_at new s ++ (the_tagged s ++ the_ingress s))
              (in_all net net_is tags old new old_user new_user mark layers (λ t. rules_at new t) new_low true true all all upward s inside mixed (between_second s inside mixed held)) in
              let fits = room_for net net_is tags old new old_user new_user mark layers room true s inside in
              omega arith;
          version = true;
          of = of;
          banded = banded_second;
          raws = inr (refl, λ s inside mixed held q g. (between_second s inside mixed held).has_ingress q (marked s inside q g) g);
          laid = inl (λ s inside mixed held. (between_second s inside mixed held).has_tagged refl);
        },
        record {
          count = length-tables_after second_round tables ∙ holds.count;
          table = λ s. after_table tables second_round good_second s (holds.table s);
          from = λ s inside r i. within_second s inside r ((inserted_after (switch_count net) fresh second_round tables holds.count sweep absent s inside r).0 i);
          to = λ s inside r c. (inserted_after (switch_count net) fresh second_round tables holds.count sweep absent s inside r).1 (elim c [
            | inl n ↦ elim (cases_Bool (was s r)) [
              | inl on ↦ inl (holds.to s inside r (inl (in_filter (was s) r (rules_at new s) n on)))
              | inr off ↦ inr (in_filter (λ x. not (was s x)) r (rules_at new s) n (not_from_false (was s r) off))
            ]
            | inr b ↦ inl (holds.to s inside r (inr b))
          ]);
        },
      )
