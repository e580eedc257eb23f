-- One more change of a round, one less, and all of them made: whether they fit the tables.
use Rattle.std.proofs.Common.{◌≡◌, ◌≢◌, ℕ, ◌<◌, ◌≤◌, true, false, cond, List, [], ◌∷◌, ◌++◌, length, refl, sym, ◌∙◌, subst, ap, inl, inr, arith, append-nil}
use Rattle.std.specs.Prelude.{◌==◌, filter}
use Rattle.std.proofs.lemmas.Bool.{cases_eq}
use Rattle.net_base.specs.Members.{IsIn, IsSubsequence}
use Rattle.net_base.proofs.MemberLaws.{IsSubsequence_refl, each_append}
use Rattle.net_base.specs.declared.ids.SwitchId.{SwitchId}
use Rattle.net_base.proofs.NameLaws.{same_switch}
use Rattle.topology.specs.Networks.{Network, switch_count, capacity_of}
use Rattle.flow_rules.specs.Tables.{IsClear, rules_at}
use Rattle.flow_rules.specs.declared.rules.Rule.{Rule}
use Rattle.update_model.specs.Changes.{switch_of, entry_named, changes_at, tables_after, Applies}
use Rattle.update_model.specs.Mixtures.{IsMixture, entries_needed, is_insert}
use Rattle.update_model.specs.declared.Change.{Change}
use Rattle.update_model.proofs.ChangeLaws.{IsWithin, rules_at-after}
use Rattle.update_model.proofs.MadeLaws.{distinct_some, each_some}
use Rattle.round_mix.specs.Prepared.{AreGood}
use Rattle.round_mix.proofs.TriedLaws.{clear_none}
use Rattle.round_mix.proofs.RoundLaws.{good_round, good_there, within_good}
use Rattle.round_tables.proofs.ApplyLaws.{rules_few}
use Rattle.round_tables.proofs.StepLaws.{changes_here, changes_there}
use Rattle.round_tables.specs.Filling.{FitTables}
use Rattle.round_tables.specs.Steps.{FitTable}

-- ---- the changes at a switch

-- those of one change more
pub at_more : (s : SwitchId) (round : List Change) (c : Change) → changes_at s (round ++ c ∷ []) ≡ changes_at s round ++ changes_at s (c ∷ [])
at_more s [] c = refl
at_more s (d ∷ round) c =
    elim ((switch_of d).0 == s.0) as (λ b. cond b (d ∷ changes_at s (round ++ c ∷ [])) (changes_at s (round ++ c ∷ [])) ≡ cond b (d ∷ changes_at s round) (changes_at s round) ++ changes_at s (c ∷ [])) [
      | true ↦ ap (λ zs. d ∷ zs) (at_more s round c)
      | false ↦ at_more s round c
    ]

pub more_here : (round : List Change) (c : Change) → changes_at (switch_of c) (round ++ c ∷ []) ≡ changes_at (switch_of c) round ++ c ∷ []
more_here round c = at_more (switch_of c) round c ∙ ap (λ zs. changes_at (switch_of c) round ++ zs) (changes_here c)

pub more_there : (round : List Change) (c : Change) (s : SwitchId) → s.0 ≢ (switch_of c).0 → changes_at s (round ++ c ∷ []) ≡ changes_at s round
more_there round c s ne = at_more s round c ∙ ap (λ zs. changes_at s round ++ zs) (changes_there c s ne) ∙ append-nil (changes_at s round)

-- what holds at the switch of the change, and at the others without it, holds at each
pub each_more : (round : List Change) (c : Change) (P : SwitchId → List Change → Type 0) → P (switch_of c) (changes_at (switch_of c) (round ++ c ∷ []))
    → ((s : SwitchId) → s.0 ≢ (switch_of c).0 → P s (changes_at s round)) → (s : SwitchId) → P s (changes_at s (round ++ c ∷ []))
each_more round c P here there s =
    elim (cases_eq s.0 (switch_of c).0) [
      | inl e ↦ subst (λ (x : SwitchId). P x (changes_at x (round ++ c ∷ []))) (sym (same_switch s (switch_of c) e)) here
      | inr ne ↦ subst (P s) (sym (more_there round c s ne)) (there s ne)
    ]

-- ---- fitting

-- no changes fit clear tables within capacity
pub fit_none : (net : Network) (tables : List (List Rule)) → ((s : SwitchId) → IsClear (rules_at tables s))
    → ((s : SwitchId) → s.0 < switch_count net → length (rules_at tables s) ≤ capacity_of net s) → FitTables net tables []
fit_none net tables clear fits = record {
  good = record { applies = tt; distinct = tt };
  clear = λ s mixed held. clear_none (rules_at tables s) (clear s) mixed held;
  fits = λ s less. let most = fits s less in omega arith;
}

module _ (net : Network) (tables : List (List Rule)) (round : List Change) (fit : FitTables net tables round) where
  -- what fits the tables fits each of them
  pub fit_there : (s : SwitchId) → s.0 < switch_count net → FitTable (rules_at tables s) (changes_at s round) (capacity_of net s)
  fit_there s less = record { good = good_there tables round s fit.good; clear = λ mixed held. fit.clear s mixed held; fits = fit.fits s less }

  -- and so does what fits the table of its last change besides
  pub fit_more : (c : Change) → length tables ≡ switch_count net → (switch_of c).0 < switch_count net
      → FitTable (rules_at tables (switch_of c)) (changes_at (switch_of c) (round ++ c ∷ [])) (capacity_of net (switch_of c)) → FitTables net tables (round ++ c ∷ [])
  fit_more c count within here = record {
    good = good_round tables (round ++ c ∷ [])
        (each_append (IsWithin (length tables)) round (c ∷ []) (within_good tables round fit.good.applies) (subst (λ (n : ℕ). (switch_of c).0 < n) (sym count) within, tt))
        (each_more round c (λ s cs. AreGood (rules_at tables s) cs) here.good (λ s ne. good_there tables round s fit.good));
    clear = each_more round c (λ s cs. (mixed : List Rule) → IsMixture (rules_at tables s) cs mixed → IsClear mixed) here.clear (λ s ne mixed held. fit.clear s mixed held);
    fits = each_more round c (λ s cs. s.0 < switch_count net → entries_needed (rules_at tables s) cs ≤ capacity_of net s) (λ _. here.fits) (λ s ne. fit.fits s);
  }

  -- all of them made, the tables are clear and within capacity
  pub clear_made : (s : SwitchId) → IsClear (rules_at (tables_after round tables) s)
  clear_made s =
      let made = changes_at s round in
      let is = rules_at-after round tables s (within_good tables round fit.good.applies) in
      fit.clear s (rules_at (tables_after round tables) s)
      (record { made = made; some = IsSubsequence_refl made; same = λ r. (λ i. subst (IsIn r) is i, λ i. subst (IsIn r) (sym is) i) })

  pub fits_made : (s : SwitchId) → s.0 < switch_count net → length (rules_at (tables_after round tables) s) ≤ capacity_of net s
  fits_made s less =
      let few = rules_few (changes_at s round) (rules_at tables s) in
      let same = ap (λ (rs : List Rule). length rs) (rules_at-after round tables s (within_good tables round fit.good.applies)) in
      let most = fit.fits s less in
      omega arith

  pub fit_made : FitTables net (tables_after round tables) []
  fit_made = fit_none net (tables_after round tables) clear_made fits_made

-- ---- one change less

begins : (xs : List Change) (c : Change) → IsSubsequence xs (xs ++ c ∷ [])
begins [] c = tt
begins (x ∷ xs) c = inl (refl, begins xs c)

pub part_longer : {A : Type 0} (xs ys zs : List A) → IsSubsequence xs ys → IsSubsequence xs (ys ++ zs)
part_longer [] ys zs h = tt
part_longer (x ∷ xs) [] zs h = absurd h
part_longer (x ∷ xs) (y ∷ ys) zs (inl (e, h)) = inl (e, part_longer xs ys zs h)
part_longer (x ∷ xs) (y ∷ ys) zs (inr h) = inr (part_longer (x ∷ xs) ys zs h)

insert_more : (xs ys : List Change) → length (filter is_insert xs) ≤ length (filter is_insert (xs ++ ys))
insert_more [] ys = omega arith
insert_more (x ∷ xs) ys =
    let rest = insert_more xs ys in
    elim (is_insert x) as (λ b. length (cond b (x ∷ filter is_insert xs) (filter is_insert xs)) ≤ length (cond b (x ∷ filter is_insert (xs ++ ys)) (filter is_insert (xs ++ ys)))) [
      | true ↦ omega arith
      | false ↦ rest
    ]

pub fit_less : (net : Network) (tables : List (List Rule)) (round : List Change) (c : Change) → FitTables net tables (round ++ c ∷ []) → FitTables net tables round
fit_less net tables round c fit = record {
  good = record {
    applies = each_some (Applies tables) round (round ++ c ∷ []) (begins round c) fit.good.applies;
    distinct = distinct_some entry_named round (round ++ c ∷ []) (begins round c) fit.good.distinct;
  };
  clear = λ s mixed held. fit.clear s mixed (record {
    made = held.made;
    some = subst (IsSubsequence held.made) (sym (at_more s round c)) (part_longer held.made (changes_at s round) (changes_at s (c ∷ [])) held.some);
    same = held.same;
  });
  fits = λ s less.
      let most = fit.fits s less in
      let more = insert_more (changes_at s round) (changes_at s (c ∷ [])) in
      let same = ap (λ (cs : List Change). length (filter is_insert cs)) (at_more s round c) in
      omega arith;
}
