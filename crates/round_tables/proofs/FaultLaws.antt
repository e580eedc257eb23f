-- The first fault of a round, from what is found at the switches.
use Rattle.std.proofs.Common.{◌≡◌, ◌⊎◌, ℕ, zero, suc, ◌<◌, Bool, true, false, cond, List, [], ◌∷◌, length, map, take, refl, sym, ◌∙◌, subst, ap, inl, inr, arith}
use Rattle.std.specs.Prelude.{filter, slice_get, Option, Some, None, ◌==◌}
use Rattle.std.specs.List.{list_any}
use Rattle.std.proofs.lemmas.Bool.{cases_lt, eq-eqb, eqb-true, cases_Bool, both_ways, cond-true}
use Rattle.std.proofs.lemmas.List.{length-map}
use Rattle.std.proofs.lemmas.Option.{slice_get_within}
use Rattle.net_base.specs.Members.{IsIn, IsDistinct}
use Rattle.net_base.proofs.MemberLaws.{in_map, in_from_map, in_filter, in_from_filter, each_at}
use Rattle.net_base.proofs.ItemLaws.{in_from_get}
use Rattle.net_base.specs.declared.ids.SwitchId.{SwitchId}
use Rattle.flow_rules.specs.Patterns.{key_eq}
use Rattle.flow_rules.specs.Tables.{IsTable, TableState, rules_at, rules_of_all}
use Rattle.flow_rules.specs.declared.rules.Rule.{Rule}
use Rattle.update_model.specs.Changes.{switch_of, rule_of, Applies, AppliesTo, EntryName, entry_named, changes_at, round_after}
use Rattle.update_model.specs.Mixtures.{Rollout, tables_before}
use Rattle.update_model.specs.declared.Change.{Change}
use Rattle.update_model.proofs.ChangeLaws.{key_named}
use Rattle.update_model.proofs.MadeLaws.{same_entry}
use Rattle.round_mix.specs.Faults.{AreUnclear, IsFirstBad, IsGoodAfter}
use Rattle.round_mix.specs.Marks.{all_rules, marked_rule}
use Rattle.round_mix.specs.Prepared.{MixedState, AreGood, AreClear}
use Rattle.round_mix.specs.declared.MarkedRule.{MarkedRule}
use Rattle.round_mix.proofs.ClearLaws.{clear_from_free}
use Rattle.round_mix.proofs.GoodLaws.{names_key_is}
use Rattle.round_mix.proofs.MarkLaws.{all_mixed}
use Rattle.check_reasons.specs.Reasons.{IsBadChange, IsUnclear}
use Rattle.round_tables.specs.PreparedTables.{ChangesState, list_at, rules_there}
use Rattle.round_tables.specs.Loading.{AreSwitchesBelow, IsBadAt, IsFirstBadChange, IsFirstOutside, IsFirstRoundFault, IsFirstUnclear, IsLoadedTo, IsRestFault, IsUnclearAt}
use Rattle.round_tables.specs.declared.loading.RoundFault.{RoundFault}
use Rattle.round_tables.specs.declared.loading.RoundFault.TheVariants.{BadChange, Unclear}

tail_distinct : (b : Bool) (x : Change) (xs : List Change) → IsDistinct (map key_named (cond b (x ∷ xs) xs)) → IsDistinct (map key_named xs)
tail_distinct true x xs distinct = distinct.1
tail_distinct false x xs distinct = distinct

-- of those that pass, two at different places have different keys
apart_get : (p : Change → Bool) (round : List Change) (i j : ℕ) (c d : Change) → IsDistinct (map key_named (filter p round)) → j < i
    → slice_get round j ≡ Some d → slice_get round i ≡ Some c → p d ≡ true → p c ≡ true → key_named d ≡ key_named c → ⊥
apart_get p [] i j c d distinct less at_d at_c pass_d pass_c same = let f : None ≡ Some d = at_d in cc
apart_get p (x ∷ round) zero j c d distinct less at_d at_c pass_d pass_c same = absurd (omega arith)
apart_get p (x ∷ round) (suc i) zero c d distinct less at_d at_c pass_d pass_c same =
    let is : x ≡ d = let f : Some x ≡ Some d = at_d in cc in
    let here : IsDistinct (map key_named (x ∷ filter p round)) =
    subst (λ zs. IsDistinct (map key_named zs)) (cond-true (p x) (x ∷ filter p round) (filter p round) (subst (λ z. p z ≡ true) (sym is) pass_d)) distinct in
    here.0 (subst (λ k. IsIn k (map key_named (filter p round))) (sym (ap key_named is ∙ same)) (in_map key_named c (filter p round) (in_filter p c round (in_from_get round i c at_c) pass_c)))
apart_get p (x ∷ round) (suc i) (suc j) c d distinct less at_d at_c pass_d pass_c same =
    apart_get p round i j c d (tail_distinct (p x) x (filter p round) distinct) (omega arith) at_d at_c pass_d pass_c same

-- what is bad of change i of a round
abbrev pub IsBadIn : List (List Rule) → List Change → ℕ → Change → Type 0
IsBadIn tables round i change =
    (¬ Applies tables change) ⊎ ((j : ℕ) × (other : Change) × (j < i) × (slice_get round j ≡ Some other) × (entry_named other ≡ entry_named change))

-- where the changes at a switch are good, none of them is bad
pub no_bad_in : (tables : List (List Rule)) (round : List Change) (s : SwitchId) → AreGood (rules_at tables s) (changes_at s round) → s.0 < length tables
    → (i : ℕ) (change : Change) → slice_get round i ≡ Some change → switch_of change ≡ s → ¬ IsBadIn tables round i change
no_bad_in tables round s good within i change at at_is (inl never) =
    let here : ((switch_of change).0 == s.0) ≡ true = eq-eqb _ _ (ap (λ (x : SwitchId). x.0) at_is) in
    never (
      subst (λ (x : SwitchId). x.0 < length tables) (sym at_is) within,
      subst (λ (x : SwitchId). AppliesTo (rules_at tables x) change) (sym at_is)
          (each_at (AppliesTo (rules_at tables s)) (changes_at s round) change good.applies (in_filter (λ c. (switch_of c).0 == s.0) change round (in_from_get round i change at) here)),
    )
no_bad_in tables round s good within i change at at_is (inr w) =
    let here : ((switch_of change).0 == s.0) ≡ true = eq-eqb _ _ (ap (λ (x : SwitchId). x.0) at_is) in
    let there : ((switch_of w.1).0 == s.0) ≡ true = eq-eqb _ _ (ap (λ (e : EntryName). e.switch.0) w.4 ∙ ap (λ (x : SwitchId). x.0) at_is) in
    apart_get (λ c. (switch_of c).0 == s.0) round i w.0 change w.1 good.distinct w.2 w.3 at there here (ap (λ (e : EntryName). e.key) w.4)

pub get_take : {A : Type 0} (xs : List A) (n i : ℕ) → i < n → slice_get (take n xs) i ≡ slice_get xs i
get_take [] zero i less = refl
get_take [] (suc n) i less = refl
get_take (x ∷ xs) zero i less = absurd (omega arith)
get_take (x ∷ xs) (suc n) zero less = refl
get_take (x ∷ xs) (suc n) (suc i) less = get_take xs n i (omega arith)

pub get_from_take : {A : Type 0} (xs : List A) (n i : ℕ) (x : A) → slice_get (take n xs) i ≡ Some x → (i < n) × (slice_get xs i ≡ Some x)
get_from_take [] zero i x e = absurd (let f : None ≡ Some x = e in cc)
get_from_take [] (suc n) i x e = absurd (let f : None ≡ Some x = e in cc)
get_from_take (y ∷ xs) zero i x e = absurd (let f : None ≡ Some x = e in cc)
get_from_take (y ∷ xs) (suc n) zero x e = (omega arith, e)
get_from_take (y ∷ xs) (suc n) (suc i) x e = let rest = get_from_take xs n i x e in (omega arith, rest.1)

place_in : {A : Type 0} (xs : List A) (x : A) → IsIn x xs → (i : ℕ) × (slice_get xs i ≡ Some x)
place_in [] x i = absurd i
place_in (y ∷ xs) x (inl e) = (zero, ap Some (sym e))
place_in (y ∷ xs) x (inr i) = let rest = place_in xs x i in (suc rest.0, rest.1)

-- the first bad change at a switch is bad in the round
bad_from_first : (tables : List (List Rule)) (round : List Change) (s : SwitchId) (nth i : ℕ) (change : Change) → ¬ IsGoodAfter (rules_at tables s) (take nth (changes_at s round)) change
    → changes_at s (take i round) ≡ take nth (changes_at s round) → switch_of change ≡ s → IsBadIn tables round i change
bad_from_first tables round s nth i change bad before at_is =
    let some = take nth (changes_at s round) in
    elim (cases_Bool (list_any (λ c. key_eq (rule_of c).key (rule_of change).key) some)) [
      | inl named ↦ (
          let (d, j, e) = in_from_map key_named (key_named change) some ((names_key_is (key_named change) some).0 named) in
          let (l, pass) = in_from_filter (λ c. (switch_of c).0 == s.0) d (take i round) (subst (λ (cs : List Change). IsIn d cs) (sym before) j) in
          let (m, at) = place_in (take i round) d l in
          let (less, at_round) = get_from_take round i m d at in
          inr (m, d, less, at_round, same_entry d change (eqb-true _ _ pass ∙ sym (ap (λ (x : SwitchId). x.0) at_is)) (sym e)))
      | inr unnamed ↦ inl (λ applies. bad (record {
        applies = subst (λ (x : SwitchId). AppliesTo (rules_at tables x) change) at_is applies.1;
        fresh = λ k. both_ways (list_any (λ c. key_eq (rule_of c).key (rule_of change).key) some) unnamed ((names_key_is (key_named change) some).1 k);
      }))
    ]

-- a bad change of a round is at a switch of the tables
bad_within : (u : Rollout) (k i : ℕ) (s : SwitchId) (n : ℕ) → AreSwitchesBelow n (round_after k u.rounds) → IsBadChange u k i s → s.0 < n
bad_within u k i s n within bad =
    subst (λ (x : SwitchId). x.0 < n) bad.at_is (each_at (λ c. (switch_of c).0 < n) (round_after k u.rounds) bad.change within (in_from_get (round_after k u.rounds) i bad.change bad.is))

-- where the changes at a switch of the tables are good, none is bad
good_no_bad_at : (u : Rollout) (k : ℕ) (o : SwitchId) (i : ℕ) → o.0 < length (tables_before u k)
    → AreGood (rules_at (tables_before u k) o) (changes_at o (round_after k u.rounds)) → ¬ IsBadChange u k i o
good_no_bad_at u k o i less good bad = no_bad_in (tables_before u k) (round_after k u.rounds) o good less i bad.change bad.is bad.at_is bad.bad

-- where all changes are at switches of the tables, and those at a switch are good, none is bad there
pub good_no_bad : (u : Rollout) (k : ℕ) → AreSwitchesBelow (length (tables_before u k)) (round_after k u.rounds) → (o : SwitchId) (i : ℕ)
    → AreGood (rules_at (tables_before u k) o) (changes_at o (round_after k u.rounds)) → ¬ IsBadChange u k i o
good_no_bad u k within o i good bad = good_no_bad_at u k o i (bad_within u k i o (length (tables_before u k)) within bad) good bad

module _ (u : Rollout) (k : ℕ) where
  -- where each switch of the tables has good changes, and there are no others, none of the round is bad
  pub all_good : AreSwitchesBelow (length (tables_before u k)) (round_after k u.rounds)
      → ((o : SwitchId) → o.0 < length (tables_before u k) → AreGood (rules_at (tables_before u k) o) (changes_at o (round_after k u.rounds)))
      → (o : SwitchId) (i : ℕ) → ¬ IsBadChange u k i o
  all_good within good o i bad =
      let less = bad_within u k i o (length (tables_before u k)) within bad in
      good_no_bad_at u k o i less (good o less) bad

  -- where it has, the first change beyond the tables is the first bad one
  pub outside_first : ((o : SwitchId) → o.0 < length (tables_before u k) → AreGood (rules_at (tables_before u k) o) (changes_at o (round_after k u.rounds)))
      → (s : SwitchId) (i : ℕ) → (found : IsFirstOutside (length (tables_before u k)) (round_after k u.rounds) i) → switch_of found.change ≡ s → IsFirstBadChange u k s i
  outside_first good s i found at_is = record {
    bad = record { change = found.change; is = found.is; at_is = at_is; bad = inl (λ applies. let less = applies.0 in let past = found.outside in omega arith) };
    first = none_before;
  }
    where
      mine : (switch_of found.change).0 ≡ s.0
      mine = ap (λ (x : SwitchId). x.0) at_is

      none_before : (o : SwitchId) (j : ℕ) → IsBadChange u k j o → ¬ ((o.0 < s.0) ⊎ ((o.0 ≡ s.0) × (j < i)))
      none_before o j bad before =
          elim (cases_lt o.0 (length (tables_before u k))) [
            | inl less ↦ good_no_bad_at u k o j less (good o less) bad
            | inr past ↦ (
                let its = ap (λ (x : SwitchId). x.0) bad.at_is in
                let here = mine in
                elim (found.first j bad.change (slice_get_within (round_after k u.rounds) j bad.change bad.is) bad.is (omega arith)) [
                  | inl higher ↦ elim before [ inl lower ↦ absurd (omega arith) | inr same ↦ (let e = same.0 in absurd (omega arith)) ]
                  | inr there ↦ (let e = there.0 in let f = there.1 in
                      elim before [ inl lower ↦ absurd (omega arith) | inr same ↦ (let g = same.1 in absurd (omega arith)) ])
                ])
          ]

  module _ (s : SwitchId) (in_tables : s.0 < length (tables_before u k)) (nth i : ℕ) (first : IsFirstBad (rules_at (tables_before u k) s) (changes_at s (round_after k u.rounds)) nth)
      (below : (t : SwitchId) → t.0 < s.0 → AreGood (rules_at (tables_before u k) t) (changes_at t (round_after k u.rounds)))
      (is : slice_get (round_after k u.rounds) i ≡ slice_get (changes_at s (round_after k u.rounds)) nth)
      (before : changes_at s (take i (round_after k u.rounds)) ≡ take nth (changes_at s (round_after k u.rounds))) where
    switch_is : switch_of first.change ≡ s
    switch_is =
        let there = in_from_get (changes_at s (round_after k u.rounds)) nth first.change first.at in
        let pass = (in_from_filter (λ c. (switch_of c).0 == s.0) first.change (round_after k u.rounds) there).1 in
        ap (λ (n : ℕ). let x : SwitchId = record { 0 = n } in x) (eqb-true _ _ pass)

    none_before : (o : SwitchId) (j : ℕ) → IsBadChange u k j o → ¬ ((o.0 < s.0) ⊎ ((o.0 ≡ s.0) × (j < i)))
    none_before o j bad (inl less) = good_no_bad_at u k o j (omega arith) (below o less) bad
    none_before o j bad (inr (same, less)) =
        let tables = tables_before u k in
        let round = round_after k u.rounds in
        let e : o ≡ s = ap (λ (n : ℕ). let x : SwitchId = record { 0 = n } in x) same in
        let good : AreGood (rules_at tables s) (changes_at s (take i round)) = subst (AreGood (rules_at tables s)) (sym before) first.before in
        no_bad_in tables (take i round) s good in_tables j bad.change (get_take round i j less ∙ bad.is) (bad.at_is ∙ e)
        (elim bad.bad [
          | inl never ↦ inl never
          | inr w ↦ inr (w.0, w.1, w.2, get_take round i w.0 (let f = w.2 in omega arith) ∙ w.3, w.4)
        ])

    pub bad_first : IsFirstBadChange u k s i
    bad_first = record {
      bad = record {
        change = first.change;
        is = is ∙ first.at;
        at_is = switch_is;
        bad = bad_from_first (tables_before u k) (round_after k u.rounds) s nth i first.change first.bad before switch_is;
      };
      first = none_before;
    }

-- all rules together aren't clear where changes of a table are unclear
unclear_there : (u : Rollout) (k : ℕ) (s : SwitchId) → IsTable (rules_at (tables_before u k) s)
    → AreUnclear (rules_at (tables_before u k) s) (changes_at s (round_after k u.rounds)) → IsUnclear u k s
unclear_there u k s table here =
    let rules = rules_at (tables_before u k) s in
    let changes = changes_at s (round_after k u.rounds) in
    record {
      mixed = all_rules rules changes;
      held = all_mixed rules changes;
      unclear = λ clear. here.unclear (clear_from_free rules changes table here.good (λ m n in_m in_n clash.
          let (q, at_q, is_q) = in_from_map (marked_rule changes) m (all_rules rules changes) in_m in
          let (r, at_r, is_r) = in_from_map (marked_rule changes) n (all_rules rules changes) in_n in
          let one : m.rule ≡ q = ap (λ (x : MarkedRule). x.rule) is_q in
          let other : n.rule ≡ r = ap (λ (x : MarkedRule). x.rule) is_r in
          let same : m.rule ≡ n.rule = clear clash.header m.rule n.rule (subst (λ (x : Rule). IsIn x (all_rules rules changes)) (sym one) at_q)
          (subst (λ (x : Rule). IsIn x (all_rules rules changes)) (sym other) at_r) clash.first clash.second clash.priority in
          is_q ∙ ap (marked_rule changes) (sym one ∙ same ∙ other) ∙ sym is_r));
    }

module _ (u : Rollout) (k : ℕ) (tables : List TableState) (lists : List ChangesState) (same : rules_of_all tables ≡ tables_before u k) (count : length (tables_before u k) ≡ length u.old)
    (gathered : (s : SwitchId) → s.0 < length u.old → (list_at lists s).changes ≡ changes_at s (round_after k u.rounds)) where
  -- what is said of a switch's rules and changes is said of those before and in the round
  pub at_round : (P : List Rule → List Change → Type 0) (s : SwitchId) → s.0 < length u.old → P (rules_there tables s) (list_at lists s).changes
      → P (rules_at (tables_before u k) s) (changes_at s (round_after k u.rounds))
  at_round P s less h =
      subst (λ (ts : List (List Rule)). P (rules_at ts s) (changes_at s (round_after k u.rounds))) same (subst (P (rules_there tables s)) (gathered s less) h)

  -- the first bad change of the switches is that of the round
  pub bad_found : (s : SwitchId) (nth i : ℕ) → s.0 < length u.old → IsBadAt tables lists s nth
      → slice_get (round_after k u.rounds) i ≡ slice_get (changes_at s (round_after k u.rounds)) nth
      → changes_at s (take i (round_after k u.rounds)) ≡ take nth (changes_at s (round_after k u.rounds)) → IsFirstBadChange u k s i
  bad_found s nth i less bad is before =
      bad_first u k s (omega arith) nth i (at_round (λ rs cs. IsFirstBad rs cs nth) s less bad.first)
      (λ t below. at_round AreGood t (omega arith) (bad.below t below)) is before

  module _ (good : (t : SwitchId) → t.0 < length u.old → AreGood (rules_there tables t) (list_at lists t).changes) where
    good_here : (o : SwitchId) → o.0 < length (tables_before u k) → AreGood (rules_at (tables_before u k) o) (changes_at o (round_after k u.rounds))
    good_here o less = at_round AreGood o (omega arith) (good o (omega arith))

    -- so is the first change beyond the switches, where all others are good
    pub outside_found : (s : SwitchId) (i : ℕ) → (found : IsFirstOutside (length u.old) (round_after k u.rounds) i) → switch_of found.change ≡ s → IsFirstBadChange u k s i
    outside_found s i found at_is =
        outside_first u k good_here s i (record {
          change = found.change;
          within = found.within;
          is = found.is;
          outside = let h = found.outside in omega arith;
          first = λ j other less at past. found.first j other less at (omega arith);
        }) at_is

    -- and the first unclear switch is that of the round, where all changes are good
    pub unclear_found : (s : SwitchId) → s.0 < length u.old → AreSwitchesBelow (length u.old) (round_after k u.rounds) → IsUnclearAt tables lists s → IsFirstUnclear u k s
    unclear_found s less within unclear = record {
      good = all_good u k (subst (λ (n : ℕ). AreSwitchesBelow n (round_after k u.rounds)) (sym count) within) good_here;
      unclear = unclear_there u k s (at_round (λ rs _. IsTable rs) s less unclear.table) (at_round AreUnclear s less unclear.here);
      first = λ o below bad. bad.unclear (at_round AreClear o (omega arith) (unclear.below o below) bad.mixed bad.held);
    }

  -- so is the fault that remains where the changes at all switches are good
  pub rest_found : (mixes : List MixedState) (unclear : Option SwitchId) → IsLoadedTo tables lists (length tables) mixes unclear → (f : RoundFault)
      → IsRestFault (length tables) (round_after k u.rounds) unclear f → IsFirstRoundFault u k f
  rest_found mixes unclear loaded f rest = go f (subst (λ (n : ℕ). IsRestFault n (round_after k u.rounds) unclear f) in_tables rest)
    where
      in_tables : length tables ≡ length u.old
      in_tables = sym (length-map tables (λ (t : TableState). t.rules)) ∙ ap length same ∙ count

      good : (t : SwitchId) → t.0 < length u.old → AreGood (rules_there tables t) (list_at lists t).changes
      good t less = loaded.good t (let n = in_tables in omega arith)

      go : (f : RoundFault) → IsRestFault (length u.old) (round_after k u.rounds) unclear f → IsFirstRoundFault u k f
      go (BadChange s i) (found, at_is) = outside_found good s i found at_is
      go (Unclear s) (within, is) =
          let here : IsLoadedTo tables lists (length tables) mixes (Some s) = subst (IsLoadedTo tables lists (length tables) mixes) is loaded in
          unclear_found good s (let n = in_tables in let less = here.rest.0 in omega arith) within here.rest.1
