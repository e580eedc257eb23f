-- Where each switch is prepared for a round, what the round's other reasons are, and that it passes where there is none.
use Rattle.std.proofs.Common.{◌≡◌, ◌⊎◌, ℕ, suc, ◌<◌, ◌≤◌, List, [], ◌∷◌, ◌++◌, length, refl, sym, ◌∙◌, subst, ap, inl, inr, arith}
use Rattle.std.specs.Prelude.{filter, Option, Some, None, IfSome}
use Rattle.std.proofs.lemmas.Bool.{cases_lt}
use Rattle.net_base.specs.Members.{IsIn}
use Rattle.net_base.proofs.MemberLaws.{each_at, each_append, in_append_cases, in_append_left, in_append_right}
use Rattle.net_base.specs.declared.ids.SwitchId.{SwitchId}
use Rattle.topology.specs.Networks.{switch_count, capacity_of}
use Rattle.update_model.specs.Changes.{switch_of, rule_of, round_after}
use Rattle.update_model.specs.Mixtures.{need_of, is_insert}
use Rattle.update_model.specs.declared.Change.{Change}
use Rattle.certificates.specs.Updates.{Task, rollout}
use Rattle.certificates.specs.Certified.{KeepsVlan}
use Rattle.certificates.specs.declared.OrderedEvidence.{OrderedEvidence}
use Rattle.certificates.specs.declared.Evidence.{Evidence}
use Rattle.certificates.specs.declared.Evidence.TheVariants.{Ordered, TwoPhase}
use Rattle.check_reasons.specs.Ranks.{rank_of, round_start}
use Rattle.check_reasons.specs.Reasons.{IsBadChange, IsUnclear, IsReason, IsOrderedReason}
use Rattle.check_reasons.specs.Reasons as why
use Rattle.check_reasons.specs.Passed.{IsFirstFrom, ChangesPass, RoundKeepsVlans}
use Rattle.check_reasons.specs.Loaded.{AreLoaded}
use Rattle.round_tables.specs.PreparedTables.{PreparedState}
use Rattle.round_tables.specs.Loading.{ArePrepared, IsFirstOver}
use Rattle.plan_checker.specs.Rewrites.{IsFirstRewrite, IsRewriteFound, IsOrdered}
use Rattle.check_reasons.specs.declared.reason.Reason.{Reason}
use Rattle.check_reasons.specs.declared.reason.Reason.TheVariants.{OverCapacity, Rewrites}
use Rattle.plan_checker.proofs.FirstReasons.{first_in_round}
use Rattle.round_tables.proofs.SoundLaws.{IsSound, are_loaded, changes_beyond, no_bad_sound, no_unclear_sound, rules_beyond, sound_prepared}

-- one more change that neither sets nor strips
pub rewrite_same : (round : List Change) (best : Option SwitchId) (c : Change) → KeepsVlan (rule_of c).action → IsRewriteFound round best → IsRewriteFound (round ++ c ∷ []) best
rewrite_same round None c keeps all = each_append (λ (d : Change). KeepsVlan (rule_of d).action) round (c ∷ []) all (keeps, tt)
rewrite_same round (Some s) c keeps found = record {
  change = found.change;
  stands = in_append_left found.change round (c ∷ []) found.stands;
  at_is = found.at_is;
  rewrites = found.rewrites;
  first = λ o i less. elim (in_append_cases o round (c ∷ []) i) [
    | inl j ↦ found.first o j less
    | inr j ↦ elim j [ inl e ↦ subst (λ (d : Change). KeepsVlan (rule_of d).action) (sym e) keeps | inr none ↦ absurd none ]
  ];
}

-- one more that does
pub rewrite_more : (round : List Change) (best : Option SwitchId) (c : Change) (w : SwitchId) → IsRewriteFound round best → (¬ KeepsVlan (rule_of c).action)
    → (w ≡ switch_of c) ⊎ (best ≡ Some w) → w.0 ≤ (switch_of c).0 → IfSome best (λ b. w.0 ≤ b.0) → IsFirstRewrite (round ++ c ∷ []) w
rewrite_more round best c w found rewrites one given so_far =
    let (d, stands, at_is, bad) = here best found one in
    record { change = d; stands = stands; at_is = at_is; rewrites = bad; first = first best found so_far }
  where
    here : (best : Option SwitchId) → IsRewriteFound round best → (w ≡ switch_of c) ⊎ (best ≡ Some w)
        → (d : Change) × IsIn d (round ++ c ∷ []) × (switch_of d ≡ w) × (¬ KeepsVlan (rule_of d).action)
    here best found (inl e) = (c, in_append_right c round (c ∷ []) (inl refl), sym e, rewrites)
    here None found (inr e) = absurd (let f : None ≡ Some w = e in cc)
    here (Some b) found (inr e) =
        let f : b ≡ w = let g : Some b ≡ Some w = e in cc in
        (found.change, in_append_left found.change round (c ∷ []) found.stands, found.at_is ∙ f, found.rewrites)

    last : (o : Change) → IsIn o (c ∷ []) → (switch_of o).0 < w.0 → ⊥
    last o (inl e) less = let f = ap (λ (d : Change). (switch_of d).0) e in omega arith
    last o (inr none) less = none

    first : (best : Option SwitchId) → IsRewriteFound round best → IfSome best (λ b. w.0 ≤ b.0) → (o : Change) → IsIn o (round ++ c ∷ []) → (switch_of o).0 < w.0 → KeepsVlan (rule_of o).action
    first None all lower o i less = elim (in_append_cases o round (c ∷ []) i) [ inl j ↦ each_at (λ (d : Change). KeepsVlan (rule_of d).action) round o all j | inr j ↦ absurd (last o j less) ]
    first (Some b) found lower o i less = elim (in_append_cases o round (c ∷ []) i) [ inl j ↦ found.first o j (omega arith) | inr j ↦ absurd (last o j less) ]

-- a reason of an ordered plan
ordered_reason : (t : Task) (evidence : Evidence) (i : ℕ) (r : Reason) → IsOrdered evidence → ((e : OrderedEvidence) → IsOrderedReason t e i r) → IsReason t evidence i r
ordered_reason t (Ordered e) i r is h = inr (h e)
ordered_reason t (TwoPhase e) i r is h = absurd is

module _ (t : Task) (evidence : Evidence) (k : ℕ) (p : PreparedState) (prepared : ArePrepared (rollout t) k p) (count : length t.update.old ≡ switch_count t.update.net) where
  sound : IsSound (rollout t) k
  sound = sound_prepared (rollout t) k p prepared

  no_change : (s : SwitchId) (i : ℕ) → ¬ IsBadChange (rollout t) k i s
  no_change s i bad = no_bad_sound (rollout t) k i s sound bad

  no_unclear : (s : SwitchId) → ¬ IsUnclear (rollout t) k s
  no_unclear s bad = no_unclear_sound (rollout t) k s sound bad

  -- a switch that needs more than it has room for is one of the network
  over_within : (s : SwitchId) → capacity_of t.update.net s < need_of (rollout t) k s → s.0 < switch_count t.update.net
  over_within s over =
      elim (cases_lt s.0 (switch_count t.update.net)) [
        | inl below ↦ below
        | inr past ↦ absurd (
            let rules = ap length (rules_beyond (rollout t) k p prepared s (omega arith)) in
            let inserts = ap (λ (cs : List Change). length (filter is_insert cs)) (changes_beyond (rollout t) k p prepared s (omega arith)) in
            omega arith)
      ]

  -- the first switch that lacks room
  pub over_first : k < length t.rounds → (s : SwitchId) (need : ℕ) → IsFirstOver (rollout t) k s need → (number : ℕ) → number ≡ suc k
      → IsFirstFrom t evidence (round_start k) (OverCapacity number s need)
  over_first less s need over number e =
      subst (λ (n : ℕ). IsFirstFrom t evidence (round_start k) (OverCapacity n s need)) (sym e)
      (subst (λ (m : ℕ). IsFirstFrom t evidence (round_start k) (OverCapacity (suc k) s m)) (sym over.is) (record {
        position = 0;
        holds = inl (why.over_capacity k s less (subst (λ (m : ℕ). capacity_of t.update.net s < m) over.is over.over));
        first = first_in_round t evidence k (rank_of 0 (OverCapacity (suc k) s (need_of (rollout t) k s))) (omega arith) (record {
          changes = λ o i bad before. no_change o i bad;
          unclear = λ o bad before. no_unclear o bad;
          over = λ o more before. (let fits = over.below o (omega arith) in omega arith);
          rewrites = λ o bad ordered before. omega arith;
        }) refl refl;
      }))

  module _ (fits : (s : SwitchId) → s.0 < switch_count t.update.net → need_of (rollout t) k s ≤ capacity_of t.update.net s) where
    none_over : (s : SwitchId) → ¬ (capacity_of t.update.net s < need_of (rollout t) k s)
    none_over s over = let room = fits s (over_within s over) in omega arith

    -- the first switch at which a change sets or strips
    pub rewrite_first : (s : SwitchId) → IsOrdered evidence → IsFirstRewrite (round_after k t.rounds) s → (number : ℕ) → number ≡ suc k
        → IsFirstFrom t evidence (round_start k) (Rewrites number s)
    rewrite_first s ordered found number e = subst (λ (n : ℕ). IsFirstFrom t evidence (round_start k) (Rewrites n s)) (sym e) (record {
      position = 0;
      holds = ordered_reason t evidence 0 (Rewrites (suc k) s) ordered
          (λ _. why.rewrites k s (record { change = found.change; stands = found.stands; at_is = found.at_is; rewrites = found.rewrites }));
      first = first_in_round t evidence k (rank_of 0 (Rewrites (suc k) s)) (omega arith) (record {
        changes = λ o i bad before. no_change o i bad;
        unclear = λ o bad before. no_unclear o bad;
        over = λ o more before. none_over o more;
        rewrites = λ o bad is_ordered before. bad.rewrites (found.first bad.change bad.stands (let same = ap (λ (x : SwitchId). x.0) bad.at_is in omega arith));
      }) refl refl;
    })

    -- where there is none of these reasons either, the round's changes pass
    pub changes_pass : RoundKeepsVlans evidence (round_after k t.rounds) → ChangesPass t evidence k
    changes_pass keeps = record {
      good = sound.good;
      clear = λ s mixed held. sound.clear s mixed held;
      fits = fits;
      keeps = keeps;
    }

    -- and each switch is loaded for it
    pub loaded_within : ((s : SwitchId) → capacity_of t.update.net s ≤ 8192) → AreLoaded (rollout t) k p.mixes
    loaded_within capacities = are_loaded (rollout t) k p prepared count (λ s less. let need = fits s less in let most = capacities s in omega arith)
