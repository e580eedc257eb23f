-- The rounds that lay the tagged rules and the ingress rules, and those that take them away.
use Rattle.std.proofs.Common.{◌≡◌, ◌⊎◌, ℕ, ◌<◌, ◌≤◌, Bool, true, false, List, [], ◌∷◌, refl, sym, ◌∙◌, subst, ap, inl, inr, arith}
use Rattle.std.specs.Prelude.{◌==◌}
use Rattle.std.proofs.lemmas.Bool.{eqb-true, eq-eqb, both_ways}
use Rattle.net_base.specs.Members.{IsIn}
use Rattle.net_base.proofs.MemberLaws.{in_filter, in_from_filter, in_from_map}
use Rattle.net_base.proofs.ListLaws.{told_from_distinct}
use Rattle.net_base.specs.declared.ids.SwitchId.{SwitchId}
use Rattle.topology.specs.Networks.{Network, IsNetwork, switch_count, capacity_of}
use Rattle.flow_rules.specs.Tables.{rules_at, keys_of}
use Rattle.flow_rules.specs.declared.rules.Rule.{Rule}
use Rattle.path_walk.specs.UserConfigs.{IsUserConfig}
use Rattle.update_model.specs.Changes.{changes_at, tables_after}
use Rattle.update_model.specs.Mixtures.{IsMixture}
use Rattle.update_model.specs.declared.Change.{Change}
use Rattle.update_model.specs.declared.Change.TheVariants.{Insert, Delete}
use Rattle.update_model.proofs.ChangeLaws.{length-tables_after}
use Rattle.two_phase.specs.TwoPhasePlan.{two_phase_need, of_mark}
use Rattle.two_phase.proofs.TagLaws.{IsTagging}
use Rattle.two_phase.proofs.BandLaws.{tagged_low, tagged_high, ingress_low}
use Rattle.two_phase.proofs.DistinctLaws.{ingress_distinct}
use Rattle.two_phase.proofs.LabelLaws.{IsOfVersion}
use Rattle.two_phase.proofs.SweepLaws.{IsSweep, after_table, insert_good, inserted_kept, inserted_from, inserted_after, delete_good, deleted_kept, deleted_from, deleted_after}
use Rattle.two_phase.proofs.StageLaws.{tagged, ingress, Content, Holds, version_tables, IsSound, raw_low, IsUpward, sound_bands}

module _ (net : Network) (net_is : IsNetwork net) (tags : IsTagging net) (old new : List (List Rule)) (old_user : IsUserConfig net old) (new_user : IsUserConfig net new)
    (mark : SwitchId → Rule → ℕ) (layers : ℕ) (room : (s : SwitchId) → s.0 < switch_count net → two_phase_need net old new s ≤ capacity_of net s) where
  abbrev the_tagged : SwitchId → List Rule
  the_tagged s = tagged net net_is tags old new old_user new_user mark layers s

  abbrev the_ingress : SwitchId → List Rule
  the_ingress s = ingress net net_is tags old new old_user new_user mark layers s

  abbrev raw_of : Bool → SwitchId → List Rule
  raw_of version s = rules_at (version_tables net net_is tags old new old_user new_user mark layers version) s

  abbrev HoldsThis : (SwitchId → List Rule) → Bool → List ℕ → List (List Rule) → Type 0
  HoldsThis raw laid present tables = Holds net net_is tags old new old_user new_user mark layers raw laid present tables

  abbrev Sound : ℕ → List (List Rule) → List Change → Type 0
  Sound k tables round = IsSound net net_is tags old new old_user new_user mark layers k tables round

  low : (version : Bool) (s : SwitchId) (r : Rule) → IsIn r (raw_of version s) → r.key.priority ≤ 16383
  low version s r i = raw_low net net_is tags old new old_user new_user mark layers version s r i

  t_low : (s : SwitchId) (r : Rule) → IsIn r (the_tagged s) → 16384 ≤ r.key.priority
  t_low s r i = tagged_low net s (rules_at new s) (new_user.rules s) r i

  t_high : (s : SwitchId) (r : Rule) → IsIn r (the_tagged s) → r.key.priority < 32768
  t_high s r i = tagged_high net s (rules_at new s) (new_user.rules s) r i

  g_low : (s : SwitchId) (r : Rule) → IsIn r (the_ingress s) → 32768 ≤ r.key.priority
  g_low s r i = ingress_low net s (rules_at new s) (new_user.rules s) r i

  mark_is : (p : ℕ) (s : SwitchId) (r : Rule) → IsIn r (of_mark net new mark p s) → IsIn r (the_ingress s) × (mark s r ≡ p)
  mark_is p s r i = let (j, e) = in_from_filter (λ q. mark s q == p) r (the_ingress s) i in (j, eqb-true (mark s r) p e)

  in_mark : (p : ℕ) (s : SwitchId) (r : Rule) → IsIn r (the_ingress s) → mark s r ≡ p → IsIn r (of_mark net new mark p s)
  in_mark p s r i e = in_filter (λ q. mark s q == p) r (the_ingress s) i (eq-eqb (mark s r) p e)

  -- an ingress rule with the key of one of the mark has the mark
  same_mark : (p : ℕ) (s : SwitchId) (r x : Rule) → IsIn r (the_ingress s) → mark s r ≡ p → IsIn x (the_ingress s) → r.key ≡ x.key → mark s x ≡ p
  same_mark p s r x g is_p i e =
      ap (mark s) (sym (told_from_distinct (λ y. y.key) (the_ingress s) (ingress_distinct net net_is tags s (rules_at new s) (new_user.distinct s) (new_user.clear s) (new_user.rules s)) r x g i e)) ∙ is_p

  module _ (k : ℕ) (version : Bool) (of : IsOfVersion layers k version) (tables : List (List Rule)) (round : List Change) where
    -- the first round
    module _ (holds : HoldsThis (raw_of version) false [] tables) (sweep : IsSweep (switch_count net) Insert the_tagged round) where
      tags_absent : (s : SwitchId) (r : Rule) → s.0 < switch_count net → IsIn r (the_tagged s) → ¬ IsIn r.key (keys_of (rules_at tables s))
      tags_absent s r inside i named =
          let (x, j, e) = in_from_map (λ y. y.key) r.key (rules_at tables s) named in
          let f = ap (λ y. y.priority) e in
          let l = t_low s r i in
          elim (holds.from s inside x j) [
            | inl h ↦ (let m = low version s x h in absurd (omega arith))
            | inr b ↦ elim b [ inl t ↦ absurd (both_ways false refl t.0) | inr g ↦ absurd g.0 ]
          ]

      pub lay_tags : Sound k tables round × HoldsThis (raw_of version) true [] (tables_after round tables)
      lay_tags =
          let good = insert_good (switch_count net) the_tagged round tables holds.count sweep tags_absent in (
            sound_bands net net_is tags old new old_user new_user mark layers room k version of tables round good holds.count holds.table false true [] [] (λ s inside p q gp gq h cp cq i less. absurd i) (inr (λ n i. i))
                (λ s inside mixed held. record {
                  has_tagged = λ e. absurd (both_ways false refl e);
                  has_ingress = λ r i. absurd i;
                  within = λ r i. elim (inserted_from (switch_count net) the_tagged round tables holds.count sweep tags_absent s inside mixed held r i) [
                    | inl j ↦ elim (holds.from s inside r j) [
                      | inl h ↦ inl h
                      | inr b ↦ elim b [ inl t ↦ absurd (both_ways false refl t.0) | inr g ↦ absurd g.0 ]
                    ]
                    | inr j ↦ inr (inl (refl, j))
                  ];
                }) (λ s inside mixed held q i. inserted_kept (switch_count net) the_tagged round tables holds.count sweep tags_absent s inside mixed held q (holds.to s inside q (inl i))),
            record {
              count = length-tables_after round tables ∙ holds.count;
              table = λ s. after_table tables round good s (holds.table s);
              from = λ s inside r i. elim ((inserted_after (switch_count net) the_tagged round tables holds.count sweep tags_absent s inside r).0 i) [
                | inl j ↦ elim (holds.from s inside r j) [
                  | inl h ↦ inl h
                  | inr b ↦ elim b [ inl t ↦ absurd (both_ways false refl t.0) | inr g ↦ absurd g.0 ]
                ]
                | inr j ↦ inr (inl (refl, j))
              ];
              to = λ s inside r c. (inserted_after (switch_count net) the_tagged round tables holds.count sweep tags_absent s inside r).1 (elim c [
                | inl h ↦ inl (holds.to s inside r (inl h))
                | inr b ↦ elim b [ inl t ↦ inr t.1 | inr g ↦ absurd g.0 ]
              ]);
            },
          )

    -- the last round
    module _ (holds : HoldsThis (raw_of version) true [] tables) (sweep : IsSweep (switch_count net) Delete the_tagged round) where
      tags_present : (s : SwitchId) (r : Rule) → s.0 < switch_count net → IsIn r (the_tagged s) → IsIn r (rules_at tables s)
      tags_present s r inside i = holds.to s inside r (inr (inl (refl, i)))

      raw_out : (s : SwitchId) (r : Rule) → IsIn r (raw_of version s) → ¬ IsIn r (the_tagged s)
      raw_out s r i j = let a = low version s r i in let b = t_low s r j in absurd (omega arith)

      pub take_tags : Sound k tables round × HoldsThis (raw_of version) false [] (tables_after round tables)
      take_tags =
          let good = delete_good (switch_count net) the_tagged round tables holds.count sweep tags_present in (
            sound_bands net net_is tags old new old_user new_user mark layers room k version of tables round good holds.count holds.table false true [] [] (λ s inside p q gp gq h cp cq i less. absurd i) (inr (λ n i. i))
                (λ s inside mixed held. record {
                  has_tagged = λ e. absurd (both_ways false refl e);
                  has_ingress = λ r i. absurd i;
                  within = λ r i. holds.from s inside r (deleted_from (switch_count net) the_tagged round tables holds.count sweep tags_present s inside (holds.table s) mixed held r i);
                }) (λ s inside mixed held q i. deleted_kept (switch_count net) the_tagged round tables holds.count sweep tags_present s inside (holds.table s) mixed held q (holds.to s inside q (inl i)) (raw_out s q i)),
            record {
              count = length-tables_after round tables ∙ holds.count;
              table = λ s. after_table tables round good s (holds.table s);
              from = λ s inside r i.
                  let (j, out) = (deleted_after (switch_count net) the_tagged round tables holds.count sweep tags_present s inside (holds.table s) r).0 i in
                  elim (holds.from s inside r j) [
                    | inl h ↦ inl h
                    | inr b ↦ elim b [ inl t ↦ absurd (out t.1) | inr g ↦ absurd g.0 ]
                  ];
              to = λ s inside r c. (deleted_after (switch_count net) the_tagged round tables holds.count sweep tags_present s inside (holds.table s) r).1 (elim c [
                | inl h ↦ (holds.to s inside r (inl h), raw_out s r h)
                | inr b ↦ elim b [ inl t ↦ absurd (both_ways false refl t.0) | inr g ↦ absurd g.0 ]
              ]);
            },
          )

    module _ (p : ℕ) (sure : List ℕ) (fresh : ¬ IsIn p sure) (upward : IsUpward net net_is tags old new old_user new_user mark layers sure (p ∷ sure)) where
      -- a round that lays the rules with one mark
      module _ (holds : HoldsThis (raw_of version) true sure tables) (sweep : IsSweep (switch_count net) Insert (of_mark net new mark p) round) where
        mark_absent : (s : SwitchId) (r : Rule) → s.0 < switch_count net → IsIn r (of_mark net new mark p s) → ¬ IsIn r.key (keys_of (rules_at tables s))
        mark_absent s r inside i named =
            let (x, j, e) = in_from_map (λ y. y.key) r.key (rules_at tables s) named in
            let (g, is_p) = mark_is p s r i in
            let f = ap (λ y. y.priority) e in
            let l = g_low s r g in
            elim (holds.from s inside x j) [
              | inl h ↦ (let m = low version s x h in absurd (omega arith))
              | inr b ↦ elim b [ inl t ↦ (let m = t_high s x t.1 in absurd (omega arith)) | inr c ↦ absurd (fresh (subst (λ n. IsIn n sure) (same_mark p s r x g is_p c.1 e) c.0)) ]
            ]

        laid_from : (s : SwitchId) (r : Rule) → s.0 < switch_count net → IsIn r (rules_at tables s) ⊎ IsIn r (of_mark net new mark p s) → Content net net_is tags old new old_user new_user mark layers (raw_of version) true (p ∷ sure) s r
        laid_from s r inside (inl j) =
            elim (holds.from s inside r j) [
              | inl h ↦ inl h
              | inr b ↦ elim b [ inl t ↦ inr (inl t) | inr g ↦ inr (inr (inr g.0, g.1)) ]
            ]
        laid_from s r inside (inr j) = let (g, e) = mark_is p s r j in inr (inr (inl e, g))

        pub lay_mark : Sound k tables round × HoldsThis (raw_of version) true (p ∷ sure) (tables_after round tables)
        lay_mark =
            let good = insert_good (switch_count net) (of_mark net new mark p) round tables holds.count sweep mark_absent in (
              sound_bands net net_is tags old new old_user new_user mark layers room k version of tables round good holds.count holds.table true true sure (p ∷ sure) upward (inl refl)
                  (λ s inside mixed held. record {
                    has_tagged = λ _ q i. inserted_kept (switch_count net) (of_mark net new mark p) round tables holds.count sweep mark_absent s inside mixed held q (holds.to s inside q (inr (inl (refl, i))));
                    has_ingress = λ r i g. inserted_kept (switch_count net) (of_mark net new mark p) round tables holds.count sweep mark_absent s inside mixed held r (holds.to s inside r (inr (inr (i, g))));
                    within = λ r i. laid_from s r inside (inserted_from (switch_count net) (of_mark net new mark p) round tables holds.count sweep mark_absent s inside mixed held r i);
                  }) (λ s inside mixed held q i. inserted_kept (switch_count net) (of_mark net new mark p) round tables holds.count sweep mark_absent s inside mixed held q (holds.to s inside q (inl i))),
              record {
                count = length-tables_after round tables ∙ holds.count;
                table = λ s. after_table tables round good s (holds.table s);
                from = λ s inside r i. laid_from s r inside ((inserted_after (switch_count net) (of_mark net new mark p) round tables holds.count sweep mark_absent s inside r).0 i);
                to = λ s inside r c. (inserted_after (switch_count net) (of_mark net new mark p) round tables holds.count sweep mark_absent s inside r).1 (elim c [
                  | inl h ↦ inl (holds.to s inside r (inl h))
                  | inr b ↦ elim b [
                    | inl t ↦ inl (holds.to s inside r (inr (inl t)))
                    | inr g ↦ elim g.0 [ inl e ↦ inr (in_mark p s r g.1 e) | inr j ↦ inl (holds.to s inside r (inr (inr (j, g.1)))) ]
                  ]
                ]);
              },
            )

      -- a round that takes the rules with one mark away
      module _ (holds : HoldsThis (raw_of version) true (p ∷ sure) tables) (sweep : IsSweep (switch_count net) Delete (of_mark net new mark p) round) where
        mark_present : (s : SwitchId) (r : Rule) → s.0 < switch_count net → IsIn r (of_mark net new mark p s) → IsIn r (rules_at tables s)
        mark_present s r inside i = let (g, e) = mark_is p s r i in holds.to s inside r (inr (inr (inl e, g)))

        -- what stays has another mark
        stays : (s : SwitchId) (r : Rule) → Content net net_is tags old new old_user new_user mark layers (raw_of version) true sure s r → ¬ IsIn r (of_mark net new mark p s)
        stays s r (inl h) i = let a = low version s r h in let b = g_low s r (mark_is p s r i).0 in absurd (omega arith)
        stays s r (inr (inl t)) i = let a = t_high s r t.1 in let b = g_low s r (mark_is p s r i).0 in absurd (omega arith)
        stays s r (inr (inr g)) i = fresh (subst (λ n. IsIn n sure) (mark_is p s r i).1 g.0)

        stood : (s : SwitchId) (r : Rule) → s.0 < switch_count net → Content net net_is tags old new old_user new_user mark layers (raw_of version) true sure s r → IsIn r (rules_at tables s)
        stood s r inside (inl h) = holds.to s inside r (inl h)
        stood s r inside (inr (inl t)) = holds.to s inside r (inr (inl t))
        stood s r inside (inr (inr g)) = holds.to s inside r (inr (inr (inr g.0, g.1)))

        kept_here : (s : SwitchId) (inside : s.0 < switch_count net) (mixed : List Rule) → IsMixture (rules_at tables s) (changes_at s round) mixed → (r : Rule)
            → Content net net_is tags old new old_user new_user mark layers (raw_of version) true sure s r → IsIn r mixed
        kept_here s inside mixed held r c =
            deleted_kept (switch_count net) (of_mark net new mark p) round tables holds.count sweep mark_present s inside (holds.table s) mixed held r (stood s r inside c) (stays s r c)

        pub take_mark : Sound k tables round × HoldsThis (raw_of version) true sure (tables_after round tables)
        take_mark =
            let good = delete_good (switch_count net) (of_mark net new mark p) round tables holds.count sweep mark_present in (
              sound_bands net net_is tags old new old_user new_user mark layers room k version of tables round good holds.count holds.table true true sure (p ∷ sure) upward (inl refl)
                  (λ s inside mixed held. record {
                    has_tagged = λ _ q i. kept_here s inside mixed held q (inr (inl (refl, i)));
                    has_ingress = λ r i g. kept_here s inside mixed held r (inr (inr (i, g)));
                    within = λ r i. holds.from s inside r (deleted_from (switch_count net) (of_mark net new mark p) round tables holds.count sweep mark_present s inside (holds.table s) mixed held r i);
                  }) (λ s inside mixed held q i. kept_here s inside mixed held q (inl i)),
              record {
                count = length-tables_after round tables ∙ holds.count;
                table = λ s. after_table tables round good s (holds.table s);
                from = λ s inside r i.
                    let (j, out) = (deleted_after (switch_count net) (of_mark net new mark p) round tables holds.count sweep mark_present s inside (holds.table s) r).0 i in
                    elim (holds.from s inside r j) [
                      | inl h ↦ inl h
                      | inr b ↦ elim b [
                        | inl t ↦ inr (inl t)
                        | inr g ↦ elim g.0 [ inl e ↦ absurd (out (in_mark p s r g.1 e)) | inr m ↦ inr (inr (m, g.1)) ]
                      ]
                    ];
                to = λ s inside r c. (deleted_after (switch_count net) (of_mark net new mark p) round tables holds.count sweep mark_present s inside (holds.table s) r).1 (stood s r inside c, stays s r c);
              },
            )
