-- Rules that no change of some rounds takes away.
use Rattle.std.proofs.Common.{◌≡◌, ◌⊎◌, ℕ, zero, suc, ◌+◌, ◌<◌, ◌≤◌, true, false, List, map, length, refl, sym, subst, inl, inr, arith}
use Rattle.std.specs.Prelude.{◌==◌}
use Rattle.std.proofs.lemmas.Bool.{both_ways, eq-eqb}
use Rattle.net_base.specs.Members.{IsIn, IsSubsequence}
use Rattle.net_base.proofs.MemberLaws.{in_map, in_from_map, in_filter, in_from_filter, in_from_subsequence, IsSubsequence_refl, each_at}
use Rattle.net_base.specs.declared.ids.SwitchId.{SwitchId}
use Rattle.flow_rules.specs.Tables.{rules_at, keys_of}
use Rattle.flow_rules.specs.declared.rules.Rule.{Rule}
use Rattle.update_model.specs.Changes.{switch_of, AppliesTo, changes_at, tables_after, round_after, IsGoodRound}
use Rattle.update_model.specs.Mixtures.{Rollout, IsMixture, tables_before, AreGoodRounds, is_insert, is_delete}
use Rattle.update_model.specs.declared.Change.{Change}
use Rattle.update_model.specs.declared.Change.TheVariants.{Insert, Delete, Replace}
use Rattle.update_model.proofs.ChangeLaws.{key_named}
use Rattle.update_model.proofs.Matches.{Writes}
use Rattle.update_model.proofs.RoundLaws.{settled_next}
use Rattle.two_phase.proofs.SweepLaws.{applies_here, made_from, made_to, after_from, after_to}

-- what an insert names is absent
absent : (rules : List Rule) (c : Change) → is_insert c ≡ true → AppliesTo rules c → ¬ IsIn (key_named c) (keys_of rules)
absent rules (Insert s r) e applies = applies
absent rules (Delete s r) e applies = absurd (both_ways false refl e)
absent rules (Replace s r) e applies = absurd (both_ways false refl e)

-- a delete writes nothing
writes_none : (r : Rule) (c : Change) → is_delete c ≡ true → Writes r c → ⊥
writes_none r (Insert s q) e w = both_ways false refl e
writes_none r (Delete s q) e w = w
writes_none r (Replace s q) e w = both_ways false refl e

-- a round of deletes
abbrev pub Deletes : List Change → Type 0
Deletes round = (c : Change) → IsIn c round → is_delete c ≡ true

module _ (InBand : ℕ → Type 0) where
  -- a round that takes no rule away whose priority is in a band: each change inserts, or names a rule out of the band
  abbrev pub Spares : List Change → Type 0
  Spares round = (c : Change) → IsIn c round → (is_insert c ≡ true) ⊎ (¬ InBand (key_named c).priority)

  module _ (tables : List (List Rule)) (round : List Change) (good : IsGoodRound tables round) (spares : Spares round) (s : SwitchId) (r : Rule)
      (band : InBand r.key.priority) (stands : IsIn r (rules_at tables s)) where
    not_named : (made : List Change) → IsSubsequence made (changes_at s round) → ¬ IsIn r.key (map key_named made)
    not_named made some named =
        let (c, i, e) = in_from_map key_named r.key made named in
        let here = in_from_subsequence c made (changes_at s round) some i in
        elim (spares c (in_from_filter (λ x. (switch_of x).0 == s.0) c round here).0) [
          | inl inserts ↦ absent (rules_at tables s) c inserts
              (each_at (AppliesTo (rules_at tables s)) (changes_at s round) c (applies_here tables round good s) here)
              (subst (λ k. IsIn k (keys_of (rules_at tables s))) e (in_map (λ x. x.key) r (rules_at tables s) stands))
          | inr out ↦ out (subst (λ k. InBand k.priority) e band)
        ]

    pub kept_in_mixture : (mixed : List Rule) → IsMixture (rules_at tables s) (changes_at s round) mixed → IsIn r mixed
    kept_in_mixture mixed held = (held.same r).1 (made_to tables round good s held.made held.some r (inl (stands, not_named held.made held.some)))

    pub kept_after : IsIn r (rules_at (tables_after round tables) s)
    kept_after = after_to tables round good s r (inl (stands, not_named (changes_at s round) (IsSubsequence_refl (changes_at s round))))

module _ (tables : List (List Rule)) (round : List Change) (good : IsGoodRound tables round) (deletes : Deletes round) (s : SwitchId) (r : Rule) where
  there : (c : Change) → IsIn c (changes_at s round) → IsIn c round
  there c i = (in_from_filter (λ x. (switch_of x).0 == s.0) c round i).0

  pub stood_of_mixture : (mixed : List Rule) → IsMixture (rules_at tables s) (changes_at s round) mixed → IsIn r mixed → IsIn r (rules_at tables s)
  stood_of_mixture mixed held i =
      elim (made_from tables round good s held.made held.some r ((held.same r).0 i)) [
        | inl h ↦ h.0
        | inr w ↦ absurd (writes_none r w.0 (deletes w.0 (there w.0 (in_from_subsequence w.0 held.made (changes_at s round) held.some w.1))) w.2)
      ]

  pub stood_of_after : IsIn r (rules_at (tables_after round tables) s) → IsIn r (rules_at tables s)
  stood_of_after i =
      elim (after_from tables round good s r i) [
        | inl h ↦ h.0
        | inr w ↦ absurd (writes_none r w.0 (deletes w.0 (there w.0 w.1)) w.2)
      ]

module _ (u : Rollout) (good : AreGoodRounds u) (s : SwitchId) (r : Rule) where
  -- the rule stands before round k
  abbrev pub StandsBefore : ℕ → Type 0
  StandsBefore k = IsIn r (rules_at (tables_before u k) s)

  next_is : (k : ℕ) → k < length u.rounds → tables_before u (suc k) ≡ tables_after (round_after k u.rounds) (tables_before u k)
  next_is k less = settled_next u.rounds k u.old less

  -- what a round inserts stands before the next
  pub inserted_before : (k : ℕ) → k < length u.rounds → IsIn (Insert s r) (round_after k u.rounds) → StandsBefore (suc k)
  inserted_before k less i =
      subst (λ tables. IsIn r (rules_at tables s)) (sym (next_is k less))
      (after_to (tables_before u k) (round_after k u.rounds) (good k less) s r
      (inr (Insert s r, in_filter (λ x. (switch_of x).0 == s.0) (Insert s r) (round_after k u.rounds) i (eq-eqb s.0 s.0 refl), refl)))

  module _ (InBand : ℕ → Type 0) (band : InBand r.key.priority) where
    -- over rounds that spare the band a rule of it stays
    pub kept_until : (more k n : ℕ) → n ≡ k + more → n ≤ length u.rounds → ((j : ℕ) → k ≤ j → j < n → Spares InBand (round_after j u.rounds))
        → StandsBefore k → StandsBefore n
    kept_until zero k n e within spares i = subst StandsBefore (let f : k ≡ n = omega arith in f) i
    kept_until (suc more) k n e within spares i =
        kept_until more (suc k) n (omega arith) within (λ j ge less. spares j (omega arith) less)
        (subst (λ tables. IsIn r (rules_at tables s)) (sym (next_is k (omega arith)))
        (kept_after InBand (tables_before u k) (round_after k u.rounds) (good k (omega arith)) (spares k (omega arith) (omega arith)) s r band i))

  -- over rounds that delete no rule comes
  pub stood_from : (more k n : ℕ) → n ≡ k + more → n ≤ length u.rounds → ((j : ℕ) → k ≤ j → j < n → Deletes (round_after j u.rounds))
      → StandsBefore n → StandsBefore k
  stood_from zero k n e within deletes i = subst StandsBefore (let f : n ≡ k = omega arith in f) i
  stood_from (suc more) k n e within deletes i =
      stood_of_after (tables_before u k) (round_after k u.rounds) (good k (omega arith)) (deletes k (omega arith) (omega arith)) s r
      (subst (λ tables. IsIn r (rules_at tables s)) (next_is k (omega arith))
      (stood_from more (suc k) n (omega arith) within (λ j ge less. deletes j (omega arith) less) i))
