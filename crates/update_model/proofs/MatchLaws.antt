-- A rule matches in some mixture exactly where it may match.
use Rattle.std.proofs.Common.{◌≡◌, ◌⊎◌, ◌≤◌, Bool, true, false, cond, List, [], ◌∷◌, map, refl, sym, ◌∙◌, subst, ap, arith, inl, inr}
use Rattle.std.specs.Prelude.{filter, find, Some, None}
use Rattle.std.specs.List.{AllByRecursion}
use Rattle.std.proofs.lemmas.Bool.{cond-true, cond-false, both_ways, cond_both}
use Rattle.net_base.specs.Members.{IsIn, IsSubsequence, IsDistinct}
use Rattle.net_base.proofs.MemberLaws.{find_passes, in_map, in_from_map, in_filter, in_from_filter, in_from_subsequence, each_at}
use Rattle.flow_rules.specs.Patterns.{Header, covers, key_eq}
use Rattle.flow_rules.specs.Tables.{keys_of, covering_rules, matched_rule, IsClear}
use Rattle.flow_rules.proofs.KeyLaws.{key_eq-refl, key_ne, cases_key}
use Rattle.flow_rules.proofs.LookupLaws.{IsTop, is_top, top_tested, top_told, top_of, matched_is_top, matched_none}
use Rattle.flow_rules.specs.declared.rules.Key.{Key}
use Rattle.flow_rules.specs.declared.rules.Rule.{Rule}
use Rattle.update_model.specs.Changes.{AppliesTo, rules_after}
use Rattle.update_model.specs.Mixtures.{IsMixture}
use Rattle.update_model.proofs.Matches.{IsDelete, Writes, IsWritten, IsKept, MayMatch, MayMiss}
use Rattle.update_model.specs.declared.Change.{Change}
use Rattle.update_model.specs.declared.Change.TheVariants.{Insert, Delete, Replace}
use Rattle.update_model.proofs.ChangeLaws.{key_named, writes_key, stands_all_from_in, in_from_stands_all}
use Rattle.update_model.proofs.MadeLaws.{distinct_some, each_some}

-- the rule that is found passes, and is a member
found_in : {A : Type 0} (p : A → Bool) (xs : List A) (x : A) → find p xs ≡ Some x → IsIn x xs × (p x ≡ true)
found_in p [] x e = absurd (let f : None ≡ Some x = e in cc)
found_in p (y ∷ xs) x e =
    elim (p y) as (λ b. p y ≡ b → cond b (Some y) (find p xs) ≡ Some x → IsIn x (y ∷ xs) × (p x ≡ true)) [
      | true ↦ λ passes f. let g : y ≡ x = cc in (inl (sym g), subst (λ z. p z ≡ true) g passes)
      | false ↦ λ _ f. let rest = found_in p xs x f in (inr rest.0, rest.1)
    ] refl e

-- the rule that matches covers, and is of greatest priority
matched_top : (h : Header) (rules : List Rule) (r : Rule) → matched_rule h rules ≡ Some r → IsIn r (covering_rules h rules) × IsTop (covering_rules h rules) r
matched_top h rules r e =
    let (i, passes) = found_in (is_top (covering_rules h rules)) (covering_rules h rules) r e in
    (i, top_told (covering_rules h rules) r passes)

-- where a rule covers, one matches
some_matches : (h : Header) (rules : List Rule) (q : Rule) → IsIn q (covering_rules h rules) → (r : Rule) × (matched_rule h rules ≡ Some r)
some_matches h rules q i = best (covering_rules h rules) i
  where
    best : (zs : List Rule) → IsIn q zs → (r : Rule) × (find (is_top zs) zs ≡ Some r)
    best [] j = absurd j
    best (z ∷ zs) j =
        let (m, k, top) = top_of z zs in
        let (r, found, l, passes) = find_passes (is_top (z ∷ zs)) m (z ∷ zs) k (top_tested (z ∷ zs) m top) in
        (r, found)

-- a key is named or not
pub cases_named : (k : Key) (cs : List Change) → IsIn k (map key_named cs) ⊎ (¬ IsIn k (map key_named cs))
cases_named k [] = inr (λ i. i)
cases_named k (c ∷ cs) =
    elim (cases_key k (key_named c)) [
      | inl e ↦ inl (inl e)
      | inr ne ↦ elim (cases_named k cs) [ inl i ↦ inl (inr i) | inr none ↦ inr (λ i. elim i [ inl e ↦ ne e | inr j ↦ none j ]) ]
    ]

-- a filter keeps a subsequence
pub some_filter : {A : Type 0} (p : A → Bool) (xs : List A) → IsSubsequence (filter p xs) xs
some_filter p [] = tt
some_filter p (x ∷ xs) = cond_both (p x) (x ∷ filter p xs) (filter p xs) (λ zs. IsSubsequence zs (x ∷ xs)) (λ _. inl (refl, some_filter p xs)) (λ _. skip (filter p xs) (some_filter p xs))
  where
    skip : (zs : List _) → IsSubsequence zs xs → IsSubsequence zs (x ∷ xs)
    skip [] h = tt
    skip (z ∷ zs) h = inr h

-- whether a change deletes
abbrev deletes : Change → Bool
deletes (Insert s r) = false
deletes (Delete s r) = true
deletes (Replace s r) = false

is_deletes : (c : Change) → IsDelete c → deletes c ≡ true
is_deletes (Insert s r) d = absurd d
is_deletes (Delete s r) d = refl
is_deletes (Replace s r) d = absurd d

writes_not : (r : Rule) (c : Change) → Writes r c → deletes c ≡ true → ⊥
writes_not r (Insert s q) w e = both_ways false refl e
writes_not r (Delete s q) w e = w
writes_not r (Replace s q) w e = both_ways false refl e

module _ (rules : List Rule) (changes : List Change) (applies : AllByRecursion (AppliesTo rules) changes) (distinct : IsDistinct (map key_named changes)) where
  module _ (made : List Change) (some : IsSubsequence made changes) where
    some_apply : AllByRecursion (AppliesTo rules) made
    some_apply = each_some (AppliesTo rules) made changes some applies

    some_distinct : IsDistinct (map key_named made)
    some_distinct = distinct_some key_named made changes some distinct

    -- a kept entry stands in the mixture, maybe with another action
    kept_stands : (k : Key) → IsKept rules changes k → (q : Rule) × IsIn q (rules_after made rules) × (q.key ≡ k)
    kept_stands k kept =
        let (x, i, e) = in_from_map (λ y. y.key) k rules kept.stood in
        elim (cases_named k made) [
          | inl named ↦ (
              let (c, j, f) = in_from_map key_named k made named in
              written c j f (each_at (AppliesTo rules) made c some_apply j) (in_from_subsequence c made changes some j))
          | inr free ↦ (x, in_from_stands_all rules made x some_apply some_distinct (inl (i, subst (λ z. ¬ IsIn z (map key_named made)) e free)), sym e)
        ]
      where
        written : (c : Change) → IsIn c made → k ≡ key_named c → AppliesTo rules c → IsIn c changes → (q : Rule) × IsIn q (rules_after made rules) × (q.key ≡ k)
        written (Insert s q) j f absent i = absurd (absent (subst (λ z. IsIn z (keys_of rules)) f kept.stood))
        written (Delete s q) j f there i = absurd (kept.not_deleted (Delete s q) i tt (sym f))
        written (Replace s q) j f there i = (q, in_from_stands_all rules made q some_apply some_distinct (inr (Replace s q, j, refl)), sym f)

  -- what matches in a mixture may match
  pub may_match : (h : Header) (mixed : List Rule) → IsMixture rules changes mixed → (r : Rule) → matched_rule h mixed ≡ Some r → MayMatch rules changes h r
  may_match h mixed mixture r e =
      let (i, top) = matched_top h mixed r e in
      let (j, covered) = in_from_filter (λ q. covers q.key.pattern h) r mixed i in
      record {
        available = elim (stands_all_from_in rules mixture.made r (some_apply mixture.made mixture.some) (some_distinct mixture.made mixture.some) ((mixture.same r).0 j)) [
          | inl s ↦ inl s.0
          | inr w ↦ inr (w.0, in_from_subsequence w.0 mixture.made changes mixture.some w.1, w.2)
        ];
        covering = covered;
        not_below = λ k kept covers_k.
            let (q, m, same) = kept_stands mixture.made mixture.some k kept in
            let c : covers q.key.pattern h ≡ true = subst (λ z. covers z.pattern h ≡ true) (sym same) covers_k in
            let le = top q (in_filter (λ x. covers x.key.pattern h) q mixed ((mixture.same q).1 m) c) in
            subst (λ z. z.priority ≤ r.key.priority) same le;
      }

  -- where nothing matches in a mixture, nothing that is kept covers
  pub may_miss : (h : Header) (mixed : List Rule) → IsMixture rules changes mixed → matched_rule h mixed ≡ None → MayMiss rules changes h
  may_miss h mixed mixture e k kept covers_k =
      let (q, m, same) = kept_stands mixture.made mixture.some k kept in
      let c : covers q.key.pattern h ≡ true = subst (λ z. covers z.pattern h ≡ true) (sym same) covers_k in
      let (r, found) = some_matches h mixed q (in_filter (λ x. covers x.key.pattern h) q mixed ((mixture.same q).1 m) c) in
      let f : None ≡ Some r = sym e ∙ found in cc

  -- and where nothing that is kept covers, nothing matches in the mixture that leaves out what it can
  pub misses_somewhere : (h : Header) → MayMiss rules changes h → (mixed : List Rule) × IsMixture rules changes mixed × (matched_rule h mixed ≡ None)
  misses_somewhere h miss =
      let made = filter deletes changes in
      let some = some_filter deletes changes in (
        rules_after made rules,
        record { made = made; some = some; same = λ r. (λ i. i, λ i. i) },
        matched_none h (rules_after made rules) (λ q j.
            let (m, covered) = in_from_filter (λ x. covers x.key.pattern h) q (rules_after made rules) j in
            elim (stands_all_from_in rules made q (some_apply made some) (some_distinct made some) m) [
              | inl s ↦ miss q.key (record {
                stood = in_map (λ y. y.key) q rules s.0;
                not_deleted = λ c i d same. s.1 (subst (λ z. IsIn z (map key_named made)) same (in_map key_named c made (in_filter deletes c changes i (is_deletes c d))));
              }) covered
              | inr w ↦ writes_not q w.0 w.2 (in_from_filter deletes w.0 changes w.1).1
            ]),
      )

  module _ (clear : (mixed : List Rule) → IsMixture rules changes mixed → IsClear mixed) (h : Header) where
    -- the changes that leave out what they can, but for those of one key
    abbrev kept_of : Key → Bool → Change → Bool
    kept_of k on c = cond (key_eq (key_named c) k) on (deletes c)

    abbrev mixed_of : Key → Bool → List Rule
    mixed_of k on = rules_after (filter (kept_of k on) changes) rules

    is_mixture : (k : Key) (on : Bool) → IsMixture rules changes (mixed_of k on)
    is_mixture k on = record { made = filter (kept_of k on) changes; some = some_filter (kept_of k on) changes; same = λ r. (λ i. i, λ i. i) }

    -- what stands in such a mixture has the key, or is kept
    stands_low : (k : Key) (on : Bool) (q : Rule) → IsIn q (mixed_of k on) → (q.key ≡ k) ⊎ IsKept rules changes q.key
    stands_low k on q i =
        let made = filter (kept_of k on) changes in
        let some = some_filter (kept_of k on) changes in
        elim (cases_key q.key k) [
          | inl same ↦ inl same
          | inr differ ↦ elim (stands_all_from_in rules made q (some_apply made some) (some_distinct made some) i) [
            | inl s ↦ inr (record {
              stood = in_map (λ y. y.key) q rules s.0;
              not_deleted = λ c j d same.
                  let other : key_eq (key_named c) k ≡ false = key_ne (key_named c) k (λ f. differ (sym same ∙ f)) in
                  s.1 (subst (λ z. IsIn z (map key_named made)) same (in_map key_named c made
                  (in_filter (kept_of k on) c changes j (cond-false (key_eq (key_named c) k) on (deletes c) other ∙ is_deletes c d))));
            })
            | inr w ↦ (
                let (j, passes) = in_from_filter (kept_of k on) w.0 changes w.1 in
                let other : key_eq (key_named w.0) k ≡ false = key_ne (key_named w.0) k (λ f. differ (writes_key q w.0 w.2 ∙ f)) in
                absurd (writes_not q w.0 w.2 (sym (cond-false (key_eq (key_named w.0) k) on (deletes w.0) other) ∙ passes)))
          ]
        ]

    -- a rule that may match stands in such a mixture
    stands_here : (r : Rule) → IsIn r rules ⊎ IsWritten r changes → (on : Bool) × IsIn r (mixed_of r.key on)
    stands_here r (inl i) =
        let made = filter (kept_of r.key false) changes in
        let some = some_filter (kept_of r.key false) changes in (
          false,
          in_from_stands_all rules made r (some_apply made some) (some_distinct made some) (inl (
            i,
            λ named.
                let (c, j, e) = in_from_map key_named r.key made named in
                let (k, passes) = in_from_filter (kept_of r.key false) c changes j in
                let same : key_eq (key_named c) r.key ≡ true = subst (λ z. key_eq z r.key ≡ true) e (key_eq-refl r.key) in
                both_ways false refl (sym (cond-true (key_eq (key_named c) r.key) false (deletes c) same) ∙ passes),
          )),
        )
    stands_here r (inr w) =
        let made = filter (kept_of r.key true) changes in
        let some = some_filter (kept_of r.key true) changes in
        let same : key_eq (key_named w.0) r.key ≡ true = subst (λ z. key_eq z r.key ≡ true) (writes_key r w.0 w.2) (key_eq-refl r.key) in (
          true,
          in_from_stands_all rules made r (some_apply made some) (some_distinct made some)
              (inr (w.0, in_filter (kept_of r.key true) w.0 changes w.1 (cond-true (key_eq (key_named w.0) r.key) true (deletes w.0) same), w.2)),
        )

    -- what may match does in some mixture
    pub matches_somewhere : (r : Rule) → MayMatch rules changes h r → (mixed : List Rule) × IsMixture rules changes mixed × (matched_rule h mixed ≡ Some r)
    matches_somewhere r may =
        let (on, i) = stands_here r may.available in
        let mixed = mixed_of r.key on in
        let mixture = is_mixture r.key on in (
          mixed,
          mixture,
          matched_is_top h mixed (clear mixed mixture) r (in_filter (λ x. covers x.key.pattern h) r mixed i may.covering) (λ q j.
              let (m, covered) = in_from_filter (λ x. covers x.key.pattern h) q mixed j in
              elim (stands_low r.key on q m) [
                | inl same ↦ (let p = ap (λ k. k.priority) same in omega arith)
                | inr kept ↦ may.not_below q.key kept covered
              ]),
        )
