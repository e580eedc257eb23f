-- The inverses of the changes of a round.
use Rattle.std.proofs.Common.{◌≡◌, ℕ, zero, suc, ◌<◌, ◌≤◌, Bool, true, false, cond, not, List, [], ◌∷◌, ◌++◌, map, length, replicate, refl, sym, ◌∙◌, subst, ap, inl, inr, arith}
use Rattle.std.proofs.lemmas.List.{length-append, length-map, length-replicate}
use Rattle.std.specs.Prelude.{◌==◌, filter, find, unwrap_or, slice_get, Some, None, Option}
use Rattle.std.specs.List.{AllByRecursion}
use Rattle.std.proofs.lemmas.Bool.{eq-eqb, eqb-true, cases_Bool, cond-true, cond-false}
use Rattle.net_base.specs.Members.{IsIn, IsSameSet, IsDistinct, IsSubsequence}
use Rattle.net_base.proofs.ItemLaws.{in_from_get, distinct_push}
use Rattle.net_base.proofs.ListLaws.{told_from_distinct, no_longer}
use Rattle.net_base.proofs.MemberLaws.{in_map, in_from_map, in_filter, in_append_left, in_append_right, in_append_cases, find_passes, each_at, each_from_in, each_get_or, map-push, in_from_subsequence}
use Rattle.net_base.specs.declared.ids.SwitchId.{SwitchId}
use Rattle.flow_rules.specs.Patterns.{key_eq}
use Rattle.flow_rules.specs.Tables.{keys_of, rules_at, IsTable}
use Rattle.flow_rules.specs.declared.rules.Key.{Key}
use Rattle.flow_rules.specs.declared.rules.Rule.{Rule}
use Rattle.flow_rules.proofs.KeyLaws.{key_eq-true, key_eq-refl}
use Rattle.update_model.specs.Changes.{switch_of, AppliesTo, Applies, EntryName, entry_named, changes_at, rules_after, rules_after_change, tables_after_change, round_after, IsGoodRound}
use Rattle.update_model.specs.Mixtures.{Rollout, AreGoodRounds, MayHold, is_insert, need_of, tables_before}
use Rattle.update_model.specs.declared.Change.{Change}
use Rattle.update_model.specs.declared.Change.TheVariants.{Insert, Delete, Replace}
use Rattle.update_model.proofs.Matches.{Writes}
use Rattle.update_model.proofs.ChangeLaws.{key_named, writes_key, StandsAfterAll, stands_all_from_in, in_from_stands_all, stands_from_in, in_from_stands, rules_at-after_change}
use Rattle.update_model.proofs.MadeLaws.{made_of, made_every, made_some, at_some, distinct_some, keys_distinct, apply_there, each_some}
use Rattle.update_model.proofs.OneRoundLaws.{next_tables}
use Rattle.update_model.proofs.RoundLaws.{settled_start, length-settled}
use Rattle.update_model.specs.declared.Phase.TheVariants.{Running}
use Rattle.update_model.proofs.RemainingLaws.{AreUnique}
use Rattle.law_two_way_runs.specs.States.{TwoWayEvent, MayUndo, with_entry_of, tables_undone}
use Rattle.law_two_way_runs.specs.Runs.{IsTwoWayRun, state_after_two_way}
use Rattle.law_two_way_runs.specs.Inverse.{rule_with, inverse_of, inverse_round}
use Rattle.law_two_way_runs.specs.Laws.{IsTakenBack}
use Rattle.law_two_way_runs.proofs.Flags.{turned_get, replicate_off}
use Rattle.law_two_way_runs.proofs.Turning.{TablesAre, sound_both_ways}
use Rattle.law_two_way_runs.proofs.Undone.{rules_at-set, in_entry_of, entry_of_in}

rule_with-key : (rules : List Rule) (key : Key) (other : Rule) → other.key ≡ key → (rule_with rules key other).key ≡ key
rule_with-key [] key other e = e
rule_with-key (q ∷ rules) key other e =
    elim (key_eq q.key key) as (λ b. key_eq q.key key ≡ b → (unwrap_or (cond b (Some q) (find (λ x. key_eq x.key key) rules)) other).key ≡ key) [
      | true ↦ λ same. key_eq-true q.key key same
      | false ↦ λ _. rule_with-key rules key other e
    ] refl

-- an inverse names the entry of its change
pub key_inverse : (before : List Rule) (c : Change) → key_named (inverse_of before c) ≡ key_named c
key_inverse before (Insert s r) = refl
key_inverse before (Delete s r) = refl
key_inverse before (Replace s r) = rule_with-key before r.key r refl

pub switch_inverse : (before : List Rule) (c : Change) → switch_of (inverse_of before c) ≡ switch_of c
switch_inverse before (Insert s r) = refl
switch_inverse before (Delete s r) = refl
switch_inverse before (Replace s r) = refl

entry_inverse : (before : List Rule) (c : Change) → entry_named (inverse_of before c) ≡ entry_named c
entry_inverse before c =
    ap (λ s. let x : EntryName = record { switch = s; key = key_named (inverse_of before c) } in x) (switch_inverse before c)
    ∙ ap (λ k. let x : EntryName = record { switch = switch_of c; key = k } in x) (key_inverse before c)

-- the rule that had the key
rule_with-in : (before : List Rule) (r : Rule) → IsIn r.key (keys_of before) → IsIn (rule_with before r.key r) before
rule_with-in before r i =
    let (x, j, e) = in_from_map (λ q. q.key) r.key before i in
    let (y, found, k, passes) = find_passes (λ q. key_eq q.key r.key) x before j (subst (λ key. key_eq key r.key ≡ true) e (key_eq-refl r.key)) in
    subst (λ (o : Option Rule). IsIn (unwrap_or o r) before) (sym found) k

-- an inverse writes just the rule that stood under the key before
written_by_inverse : (before : List Rule) → AreUnique before → (c : Change) → AppliesTo before c → (q : Rule) → Writes q (inverse_of before c) → IsIn q before × (q.key ≡ key_named c)
written_by_inverse before unique (Insert s r) applies q w = absurd w
written_by_inverse before unique (Delete s r) applies q w = (subst (λ x. IsIn x before) (sym w) applies, ap (λ x. x.key) w)
written_by_inverse before unique (Replace s r) applies q w =
    (subst (λ x. IsIn x before) (sym w) (rule_with-in before r applies), ap (λ x. x.key) w ∙ rule_with-key before r.key r refl)

inverse_writes : (before : List Rule) → AreUnique before → (c : Change) → AppliesTo before c → (q : Rule) → IsIn q before → q.key ≡ key_named c → Writes q (inverse_of before c)
inverse_writes before unique (Insert s r) applies q i e = absurd (applies (subst (λ k. IsIn k (keys_of before)) e (in_map (λ x. x.key) q before i)))
inverse_writes before unique (Delete s r) applies q i e = unique q r i applies e
inverse_writes before unique (Replace s r) applies q i e =
    unique q (rule_with before r.key r) i (rule_with-in before r applies) (e ∙ sym (rule_with-key before r.key r refl))

-- at one switch, where changes that name different keys are made over the rules before, and one of them is taken back
module _ (before : List Rule) (unique : AreUnique before) (more : List Change) (applies : AllByRecursion (AppliesTo before) more) (distinct : IsDistinct (map key_named more))
    (rules : List Rule) (holds : IsSameSet rules (rules_after more before)) where
  stands : (r : Rule) → IsIn r rules → StandsAfterAll before more r
  stands r j = stands_all_from_in before more r applies distinct ((holds r).0 j)

  is_there : (r : Rule) → StandsAfterAll before more r → IsIn r rules
  is_there r j = (holds r).1 (in_from_stands_all before more r applies distinct j)

  pub inverse_applies : (c : Change) → IsIn c more → AppliesTo rules (inverse_of before c)
  inverse_applies (Insert s r) here = is_there r (inr (Insert s r, here, refl))
  inverse_applies (Delete s r) here = λ i.
      let (q, j, e) = in_from_map (λ x. x.key) r.key rules i in
      elim (stands q j) [
        | inl h ↦ h.1 (subst (λ k. IsIn k (map key_named more)) e (in_map key_named (Delete s r) more here))
        | inr w ↦ subst (Writes q) (told_from_distinct key_named more distinct w.0 (Delete s r) w.1 here (sym (writes_key q w.0 w.2) ∙ sym e)) w.2
      ]
  inverse_applies (Replace s r) here =
      subst (λ k. IsIn k (keys_of rules)) (sym (rule_with-key before r.key r refl)) (in_map (λ x. x.key) r rules (is_there r (inr (Replace s r, here, refl))))

  pub inverse_leaves : (c : Change) → IsIn c more → IsSameSet (rules_after_change (inverse_of before c) rules) (with_entry_of before (key_named c) rules)
  inverse_leaves c here =
      let can : AppliesTo rules (inverse_of before c) = inverse_applies c here in
      let did : AppliesTo before c = each_at (AppliesTo before) more c applies here in
      λ q. (
        (λ j. entry_of_in before rules (key_named c) q (elim (stands_from_in rules (inverse_of before c) q can j) [
          | inl h ↦ inl (h.0, λ e. h.1 (e ∙ sym (key_inverse before c)))
          | inr w ↦ inr (written_by_inverse before unique c did q w)
        ])),
        (λ j. in_from_stands rules (inverse_of before c) q can (elim (in_entry_of before rules (key_named c) q j) [
          | inl h ↦ inl (h.0, λ e. h.1 (e ∙ key_inverse before c))
          | inr h ↦ inr (inverse_writes before unique c did q h.0 h.1)
        ])),
      )

-- what changes that name different keys leave has no key twice, as a set
unique_after : (before : List Rule) (cs : List Change) → AreUnique before → AllByRecursion (AppliesTo before) cs → IsDistinct (map key_named cs) → AreUnique (rules_after cs before)
unique_after before cs unique applies distinct a b i j e =
    elim (stands_all_from_in before cs a applies distinct i) [
      | inl h ↦ elim (stands_all_from_in before cs b applies distinct j) [
        | inl g ↦ unique a b h.0 g.0 e
        | inr w ↦ absurd (h.1 (subst (λ k. IsIn k (map key_named cs)) (sym (writes_key b w.0 w.2) ∙ sym e) (in_map key_named w.0 cs w.1)))
      ]
      | inr v ↦ elim (stands_all_from_in before cs b applies distinct j) [
        | inl g ↦ absurd (g.1 (subst (λ k. IsIn k (map key_named cs)) (sym (writes_key a v.0 v.2) ∙ e) (in_map key_named v.0 cs v.1)))
        | inr w ↦ (
            let same : v.0 ≡ w.0 = told_from_distinct key_named cs distinct v.0 w.0 v.1 w.1 (sym (writes_key a v.0 v.2) ∙ e ∙ writes_key b w.0 w.2) in
            written_same w.0 a b (subst (Writes a) same v.2) w.2)
      ]
    ]
  where
    written_same : (c : Change) (a b : Rule) → Writes a c → Writes b c → a ≡ b
    written_same (Insert s r) a b v w = v ∙ sym w
    written_same (Delete s r) a b v w = absurd v
    written_same (Replace s r) a b v w = v ∙ sym w

module _ (u : Rollout) (good : AreGoodRounds u) (old : AllByRecursion IsTable u.old) where
  apply_at : (k : ℕ) → k < length u.rounds → (s : SwitchId) → AllByRecursion (AppliesTo (rules_at (tables_before u k) s)) (changes_at s (round_after k u.rounds))
  apply_at k less s = apply_there (tables_before u k) s (round_after k u.rounds) (good k less).applies

  distinct_at : (k : ℕ) → k < length u.rounds → (s : SwitchId) → IsDistinct (map key_named (changes_at s (round_after k u.rounds)))
  distinct_at k less s = keys_distinct s (round_after k u.rounds) (good k less).distinct

  pub unique_before : (k : ℕ) → k ≤ length u.rounds → (s : SwitchId) → AreUnique (rules_at (tables_before u k) s)
  unique_before zero within s =
      subst (λ t. AreUnique (rules_at t s)) (sym (settled_start u.rounds u.old)) (told_from_distinct (λ r. r.key) (rules_at u.old s) (each_get_or IsTable u.old s.0 [] old tt))
  unique_before (suc k) within s =
      let less : k < length u.rounds = omega arith in
      subst AreUnique (sym (next_tables u k less (good k less) s))
      (unique_after (rules_at (tables_before u k) s) (changes_at s (round_after k u.rounds)) (unique_before k (omega arith) s) (apply_at k less s) (distinct_at k less s))

-- a change that is made
made_in : (flags : List Bool) (cs : List Change) (i : ℕ) (c : Change) → slice_get cs i ≡ Some c → slice_get flags i ≡ Some false → IsIn c (made_of flags cs)
made_in [] cs i c at flag = absurd (let f : None ≡ Some false = flag in cc)
made_in (b ∷ bs) [] i c at flag = absurd (let f : None ≡ Some c = at in cc)
made_in (true ∷ bs) (x ∷ cs) zero c at flag = absurd (let f : true ≡ false = cc in cc)
made_in (false ∷ bs) (x ∷ cs) zero c at flag = let f : x ≡ c = cc in inl (sym f)
made_in (true ∷ bs) (x ∷ cs) (suc i) c at flag = made_in bs cs i c at flag
made_in (false ∷ bs) (x ∷ cs) (suc i) c at flag = inr (made_in bs cs i c at flag)

module _ (u : Rollout) (good : AreGoodRounds u) (old : AllByRecursion IsTable u.old) (k : ℕ) (less : k < length u.rounds) where
  -- the inverse of change c in round k
  inverse_at : Change → Change
  inverse_at c = inverse_of (rules_at (tables_before u k) (switch_of c)) c

  module _ (tables : List (List Rule)) (count : length tables ≡ length u.old) (flags : List Bool)
      (holds : (s : SwitchId) → IsSameSet (rules_at tables s) (rules_after (changes_at s (made_of flags (round_after k u.rounds))) (rules_at (tables_before u k) s)))
      (c : Change) (in_round : IsIn c (round_after k u.rounds)) (made : IsIn c (made_of flags (round_after k u.rounds))) where
    there : SwitchId
    there = switch_of c

    before : List Rule
    before = rules_at (tables_before u k) (switch_of c)

    more : List Change
    more = changes_at (switch_of c) (made_of flags (round_after k u.rounds))

    apply_more : AllByRecursion (AppliesTo (rules_at (tables_before u k) (switch_of c))) (changes_at (switch_of c) (made_of flags (round_after k u.rounds)))
    apply_more = each_some (AppliesTo (rules_at (tables_before u k) (switch_of c))) (changes_at (switch_of c) (made_of flags (round_after k u.rounds))) (changes_at (switch_of c) (round_after k u.rounds))
        (at_some (switch_of c) (made_of flags (round_after k u.rounds)) (round_after k u.rounds) (made_some flags (round_after k u.rounds))) (apply_at u good old k less (switch_of c))

    distinct_more : IsDistinct (map key_named (changes_at (switch_of c) (made_of flags (round_after k u.rounds))))
    distinct_more = keys_distinct (switch_of c) (made_of flags (round_after k u.rounds))
        (distinct_some entry_named (made_of flags (round_after k u.rounds)) (round_after k u.rounds) (made_some flags (round_after k u.rounds)) (good k less).distinct)

    here : IsIn c (changes_at (switch_of c) (made_of flags (round_after k u.rounds)))
    here = in_filter (λ d. (switch_of d).0 == (switch_of c).0) c (made_of flags (round_after k u.rounds)) made (eq-eqb (switch_of c).0 (switch_of c).0 refl)

    within : (switch_of c).0 < length tables
    within = subst (λ n. (switch_of c).0 < n) (length-settled u.rounds k u.old ∙ sym count) (each_at (Applies (tables_before u k)) (round_after k u.rounds) c (good k less).applies in_round).0

    unique : AreUnique (rules_at (tables_before u k) (switch_of c))
    unique = unique_before u good old k (omega arith) (switch_of c)

    within_inverse : (switch_of (inverse_of (rules_at (tables_before u k) (switch_of c)) c)).0 < length tables
    within_inverse = subst (λ (s : SwitchId). s.0 < length tables) (sym (switch_inverse (rules_at (tables_before u k) (switch_of c)) c)) within

    applies_there : AppliesTo (rules_at tables (switch_of c)) (inverse_of (rules_at (tables_before u k) (switch_of c)) c)
    applies_there = inverse_applies (rules_at (tables_before u k) (switch_of c)) unique (changes_at (switch_of c) (made_of flags (round_after k u.rounds))) apply_more distinct_more
        (rules_at tables (switch_of c)) (holds (switch_of c)) c here

    pub inverse_can : Applies tables (inverse_of (rules_at (tables_before u k) (switch_of c)) c)
    inverse_can = (
      within_inverse,
      subst (λ s. AppliesTo (rules_at tables s) (inverse_of (rules_at (tables_before u k) (switch_of c)) c)) (sym (switch_inverse (rules_at (tables_before u k) (switch_of c)) c)) applies_there,
    )

    pub taken_back : IsTakenBack u k c tables
    taken_back = record {
      applies = inverse_can;
      leaves = λ s.
          let inverse = inverse_of (rules_at (tables_before u k) (switch_of c)) c in
          let by_inverse = rules_at-after_change inverse tables s within_inverse in
          let undone = rules_at-set tables (switch_of c) s (with_entry_of (rules_at (tables_before u k) (switch_of c)) (key_named c) (rules_at tables (switch_of c))) within in
          let same : ((switch_of inverse).0 == s.0) ≡ ((switch_of c).0 == s.0) = ap (λ (x : SwitchId). x.0 == s.0) (switch_inverse (rules_at (tables_before u k) (switch_of c)) c) in
          elim (cases_Bool ((switch_of c).0 == s.0)) [
            | inl equal ↦ (
                let at : switch_of c ≡ s = ap (λ (n : ℕ). let x : SwitchId = record { 0 = n } in x) (eqb-true _ _ equal) in
                let left : rules_at (tables_after_change inverse tables) s ≡ rules_after_change inverse (rules_at tables (switch_of c)) =
                by_inverse ∙ cond-true ((switch_of inverse).0 == s.0) _ _ (same ∙ equal) ∙ ap (λ x. rules_after_change inverse (rules_at tables x)) (sym at) in
                let right : rules_at (tables_undone u k c tables) s ≡ with_entry_of (rules_at (tables_before u k) (switch_of c)) (key_named c) (rules_at tables (switch_of c)) =
                undone ∙ cond-true ((switch_of c).0 == s.0) _ _ equal in
                let leaves = inverse_leaves (rules_at (tables_before u k) (switch_of c)) unique (changes_at (switch_of c) (made_of flags (round_after k u.rounds))) apply_more distinct_more
                (rules_at tables (switch_of c)) (holds (switch_of c)) c here in
                subst (λ t. IsSameSet t (rules_at (tables_undone u k c tables) s)) (sym left) (subst (λ t. IsSameSet (rules_after_change inverse (rules_at tables (switch_of c))) t) (sym right) leaves))
            | inr differ ↦ (
                let left : rules_at (tables_after_change inverse tables) s ≡ rules_at tables s = by_inverse ∙ cond-false ((switch_of inverse).0 == s.0) _ _ (same ∙ differ) in
                let right : rules_at (tables_undone u k c tables) s ≡ rules_at tables s = undone ∙ cond-false ((switch_of c).0 == s.0) _ _ differ in
                subst (λ t. IsSameSet t (rules_at (tables_undone u k c tables) s)) (sym left)
                (subst (λ t. IsSameSet (rules_at tables s) t) (sym right) (λ r. (λ j. j, λ j. j))))
          ];
    }

  -- each change of the inverse is the inverse of a change
  in_inverse : (before : List (List Rule)) (cs : List Change) (x : Change) → IsIn x (inverse_round before cs)
      → (c : Change) × IsIn c cs × (x ≡ inverse_of (rules_at before (switch_of c)) c)
  in_inverse before [] x i = absurd i
  in_inverse before (c ∷ cs) x i =
      elim (in_append_cases x (inverse_round before cs) (inverse_of (rules_at before (switch_of c)) c ∷ []) i) [
        | inl j ↦ (let (d, l, e) = in_inverse before cs x j in (d, inr l, e))
        | inr j ↦ elim j [ inl e ↦ (c, inl refl, e) | inr n ↦ absurd n ]
      ]

  distinct_inverse : (before : List (List Rule)) (cs : List Change) → IsDistinct (map entry_named cs) → IsDistinct (map entry_named (inverse_round before cs))
  distinct_inverse before [] distinct = tt
  distinct_inverse before (c ∷ cs) distinct =
      let inverse = inverse_of (rules_at before (switch_of c)) c in
      subst IsDistinct (sym (map-push entry_named (inverse_round before cs) inverse))
      (distinct_push (map entry_named (inverse_round before cs)) (entry_named inverse) (distinct_inverse before cs distinct.1)
      (λ i.
      let (x, j, e) = in_from_map entry_named (entry_named inverse) (inverse_round before cs) i in
      let (d, l, f) = in_inverse before cs x j in
      distinct.0 (subst (λ n. IsIn n (map entry_named cs))
      (sym (sym (entry_inverse (rules_at before (switch_of c)) c) ∙ e ∙ ap entry_named f ∙ entry_inverse (rules_at before (switch_of d)) d)) (in_map entry_named d cs l))))

  -- all changes of a round
  all_made : (cs : List Change) → made_of (replicate (length cs) false) cs ≡ cs
  all_made cs = made_every (replicate (length cs) false) cs (length-replicate (length cs) false) (replicate_off (length cs))

  pub inverse_is_good : IsGoodRound (tables_before u (suc k)) (inverse_round (tables_before u k) (round_after k u.rounds))
  inverse_is_good = record {
    applies = each_from_in (Applies (tables_before u (suc k))) (inverse_round (tables_before u k) (round_after k u.rounds)) (λ x i.
        let (c, j, e) = in_inverse (tables_before u k) (round_after k u.rounds) x i in
        let flags = replicate (length (round_after k u.rounds)) false in
        let every = all_made (round_after k u.rounds) in
        let holds : (s : SwitchId) → IsSameSet (rules_at (tables_before u (suc k)) s) (rules_after (changes_at s (made_of flags (round_after k u.rounds))) (rules_at (tables_before u k) s)) =
        λ s. subst (λ m. IsSameSet (rules_at (tables_before u (suc k)) s) (rules_after (changes_at s m) (rules_at (tables_before u k) s))) (sym every)
        (subst (λ t. IsSameSet (rules_at (tables_before u (suc k)) s) t) (next_tables u k less (good k less) s) (λ r. (λ n. n, λ n. n))) in
        subst (Applies (tables_before u (suc k))) (sym e)
        (inverse_can (tables_before u (suc k)) (length-settled u.rounds (suc k) u.old) flags holds c j (subst (λ m. IsIn c m) (sym every) j)));
    distinct = distinct_inverse (tables_before u k) (round_after k u.rounds) (good k less).distinct;
  }

pub take_back : (u : Rollout) → AreGoodRounds u → AllByRecursion IsTable u.old → (events : List TwoWayEvent) → IsTwoWayRun u events
    → (i : ℕ) (may : MayUndo u (state_after_two_way u events) i) → IsTakenBack u may.k may.change (state_after_two_way u events).tables
take_back u good old events run i may =
    let st = state_after_two_way u events in
    let sound = sound_both_ways u good events run in
    let are : TablesAre u (Running (suc may.k)) st.tables st.in_force = subst (λ phase. TablesAre u phase st.tables st.in_force) may.running sound.tables in
    taken_back u good old may.k are.0 st.tables sound.count (map not st.in_force) are.2 may.change (in_from_get (round_after may.k u.rounds) i may.change may.is)
    (made_in (map not st.in_force) (round_after may.k u.rounds) i may.change may.is (turned_get st.in_force i true may.is_in_force))

-- a key of a mixture is one of the table before the round, or of an insert
key_within : (before : List Rule) (changes made : List Change) → IsSubsequence made changes → AllByRecursion (AppliesTo before) made → (q : Rule) → StandsAfterAll before made q
    → IsIn q.key (keys_of before ++ map key_named (filter is_insert changes))
key_within before changes made some applies q (inl h) = in_append_left q.key (keys_of before) (map key_named (filter is_insert changes)) (in_map (λ x. x.key) q before h.0)
key_within before changes made some applies q (inr w) = by_change w.0 (in_from_subsequence w.0 made changes some w.1) (each_at (AppliesTo before) made w.0 applies w.1) w.2
  where
    by_change : (d : Change) → IsIn d changes → AppliesTo before d → Writes q d → IsIn q.key (keys_of before ++ map key_named (filter is_insert changes))
    by_change (Insert s r) i applied e = in_append_right q.key (keys_of before) (map key_named (filter is_insert changes))
        (subst (λ k. IsIn k (map key_named (filter is_insert changes))) (sym (ap (λ x. x.key) e)) (in_map key_named (Insert s r) (filter is_insert changes) (in_filter is_insert (Insert s r) changes i refl)))
    by_change (Delete s r) i applied e = absurd e
    by_change (Replace s r) i applied e = in_append_left q.key (keys_of before) (map key_named (filter is_insert changes)) (subst (λ k. IsIn k (keys_of before)) (sym (ap (λ x. x.key) e)) applied)

pub mixture_fits : (u : Rollout) → AreGoodRounds u → (k : ℕ) → k < length u.rounds → (s : SwitchId) (mixed : List Rule) → MayHold u k s mixed → IsTable mixed → length mixed ≤ need_of u k s
mixture_fits u good k less s mixed held once =
    let before = rules_at (tables_before u k) s in
    let changes = changes_at s (round_after k u.rounds) in
    let applies = each_some (AppliesTo before) held.made changes held.some (apply_there (tables_before u k) s (round_after k u.rounds) (good k less).applies) in
    let distinct = distinct_some key_named held.made changes held.some (keys_distinct s (round_after k u.rounds) (good k less).distinct) in
    let most = no_longer (keys_of mixed) (keys_of before ++ map key_named (filter is_insert changes)) once (λ key i.
    let (q, j, e) = in_from_map (λ x. x.key) key mixed i in
    subst (λ x. IsIn x (keys_of before ++ map key_named (filter is_insert changes))) (sym e)
    (key_within before changes held.made held.some applies q (stands_all_from_in before held.made q applies distinct ((held.same q).0 j)))) in
    let mixed_keys = length-map mixed (λ x. x.key) in
    let parts = length-append (keys_of before) (map key_named (filter is_insert changes)) in
    let before_keys = length-map before (λ x. x.key) in
    let insert_keys = length-map (filter is_insert changes) key_named in
    omega arith
