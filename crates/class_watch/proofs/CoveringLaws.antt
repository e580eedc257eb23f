-- What may become of a packet at a place depends on the rules and the changes alone that cover it there.
use Rattle.std.proofs.Common.{◌≡◌, Bool, true, false, cond, not, List, [], ◌∷◌, ◌++◌, map, ℕ, refl, sym, ◌∙◌, subst, ap, inl, inr}
use Rattle.std.specs.Prelude.{filter, find}
use Rattle.std.specs.Option.{option_map_or}
use Rattle.std.proofs.lemmas.Bool.{cases_Bool, both_ways, cond-true, cond-false, cond_both, not_from_false}
use Rattle.std.proofs.lemmas.List.{append-nil}
use Rattle.net_base.specs.Members.{IsIn, IsSameSet, IsSubsequence}
use Rattle.net_base.proofs.MemberLaws.{in_filter, in_from_filter, in_append_left, in_append_right, in_append_cases}
use Rattle.net_base.specs.declared.ids.Place.{Place}
use Rattle.topology.specs.Networks.{Network}
use Rattle.flow_rules.specs.Patterns.{Header, covers, key_eq}
use Rattle.flow_rules.specs.Tables.{covering_rules, lookup}
use Rattle.flow_rules.specs.declared.rules.Action.TheVariants.{Discard}
use Rattle.flow_rules.specs.declared.rules.Key.{Key}
use Rattle.flow_rules.specs.declared.rules.Rule.{Rule}
use Rattle.flow_rules.proofs.KeyLaws.{key_eq-true}
use Rattle.flow_rules.proofs.LookupLaws.{is_top}
use Rattle.path_walk.specs.Outcomes.{action_outcome, outcome, header_at}
use Rattle.path_walk.specs.declared.Outcome.{Outcome}
use Rattle.update_model.specs.Changes.{rule_of, rules_after_change, rules_after}
use Rattle.update_model.specs.Mixtures.{MayBe}
use Rattle.update_model.specs.declared.Change.{Change}
use Rattle.update_model.specs.declared.Change.TheVariants.{Insert, Delete, Replace}
use Rattle.class_watch.specs.Alike.{covering_changes}

-- ---- filters

module _ {A : Type 0} (p : A → Bool) where
  filter_append : (xs ys : List A) → filter p (xs ++ ys) ≡ filter p xs ++ filter p ys
  filter_append [] ys = refl
  filter_append (x ∷ xs) ys =
      elim (p x) as (λ b. cond b (x ∷ filter p (xs ++ ys)) (filter p (xs ++ ys)) ≡ cond b (x ∷ filter p xs) (filter p xs) ++ filter p ys) [
        | true ↦ ap (λ zs. x ∷ zs) (filter_append xs ys)
        | false ↦ filter_append xs ys
      ]

  filter_twice : (xs : List A) → filter p (filter p xs) ≡ filter p xs
  filter_twice [] = refl
  filter_twice (x ∷ xs) =
      elim (p x) as (λ b. p x ≡ b → filter p (cond b (x ∷ filter p xs) (filter p xs)) ≡ cond b (x ∷ filter p xs) (filter p xs)) [
        | true ↦ λ e. cond-true (p x) (x ∷ filter p (filter p xs)) (filter p (filter p xs)) e ∙ ap (λ zs. x ∷ zs) (filter_twice xs)
        | false ↦ λ _. filter_twice xs
      ] refl

  filter_none : (xs : List A) → filter p (filter (λ x. not (p x)) xs) ≡ []
  filter_none [] = refl
  filter_none (x ∷ xs) =
      elim (p x) as (λ b. p x ≡ b → filter p (cond (not b) (x ∷ filter (λ y. not (p y)) xs) (filter (λ y. not (p y)) xs)) ≡ []) [
        | true ↦ λ _. filter_none xs
        | false ↦ λ e. cond-false (p x) (x ∷ filter p (filter (λ y. not (p y)) xs)) (filter p (filter (λ y. not (p y)) xs)) e ∙ filter_none xs
      ] refl

  filter_swap : (q : A → Bool) (xs : List A) → filter p (filter q xs) ≡ filter q (filter p xs)
  filter_swap q [] = refl
  filter_swap q (x ∷ xs) =
      elim (q x) as (λ b. q x ≡ b → filter p (cond b (x ∷ filter q xs) (filter q xs)) ≡ filter q (cond (p x) (x ∷ filter p xs) (filter p xs))) [
        | true ↦ λ e.
            elim (p x) as (λ c. cond c (x ∷ filter p (filter q xs)) (filter p (filter q xs)) ≡ filter q (cond c (x ∷ filter p xs) (filter p xs))) [
              | true ↦ ap (λ zs. x ∷ zs) (filter_swap q xs) ∙ sym (cond-true (q x) (x ∷ filter q (filter p xs)) (filter q (filter p xs)) e)
              | false ↦ filter_swap q xs
            ]
        | false ↦ λ e.
            elim (p x) as (λ c. filter p (filter q xs) ≡ filter q (cond c (x ∷ filter p xs) (filter p xs))) [
              | true ↦ filter_swap q xs ∙ sym (cond-false (q x) (x ∷ filter q (filter p xs)) (filter q (filter p xs)) e)
              | false ↦ filter_swap q xs
            ]
      ] refl

  filter_map_swap : (f : A → A) → ((x : A) → p (f x) ≡ p x) → (xs : List A) → filter p (map f xs) ≡ map f (filter p xs)
  filter_map_swap f same [] = refl
  filter_map_swap f same (x ∷ xs) =
      ap (λ b. cond b (f x ∷ filter p (map f xs)) (filter p (map f xs))) (same x)
      ∙ elim (p x) as (λ b. cond b (f x ∷ filter p (map f xs)) (filter p (map f xs)) ≡ map f (cond b (x ∷ filter p xs) (filter p xs))) [
        | true ↦ ap (λ zs. f x ∷ zs) (filter_map_swap f same xs)
        | false ↦ filter_map_swap f same xs
      ]

  -- what passes all members that pass another test
  filter_whole : (q : A → Bool) → ((x : A) → p x ≡ true → q x ≡ true) → (xs : List A) → filter q (filter p xs) ≡ filter p xs
  filter_whole q all [] = refl
  filter_whole q all (x ∷ xs) =
      elim (p x) as (λ b. p x ≡ b → filter q (cond b (x ∷ filter p xs) (filter p xs)) ≡ cond b (x ∷ filter p xs) (filter p xs)) [
        | true ↦ λ e. cond-true (q x) (x ∷ filter q (filter p xs)) (filter q (filter p xs)) (all x e) ∙ ap (λ zs. x ∷ zs) (filter_whole q all xs)
        | false ↦ λ _. filter_whole q all xs
      ] refl

  map_whole : (f : A → A) → ((x : A) → p x ≡ true → f x ≡ x) → (xs : List A) → map f (filter p xs) ≡ filter p xs
  map_whole f all [] = refl
  map_whole f all (x ∷ xs) =
      elim (p x) as (λ b. p x ≡ b → map f (cond b (x ∷ filter p xs) (filter p xs)) ≡ cond b (x ∷ filter p xs) (filter p xs)) [
        | true ↦ λ e. ap (λ z. z ∷ map f (filter p xs)) (all x e) ∙ ap (λ zs. x ∷ zs) (map_whole f all xs)
        | false ↦ λ _. map_whole f all xs
      ] refl

-- ---- the rules that cover a packet, after a change

module _ (h : Header) where
  abbrev Covers : Rule → Bool
  Covers r = covers r.key.pattern h

  -- the change, made among the covering rules
  abbrev followed : Change → List Rule → List Rule
  followed (Insert s r) rules = rules ++ covering_rules h (r ∷ [])
  followed (Delete s r) rules = filter (λ q. not (key_eq q.key r.key)) rules
  followed (Replace s r) rules = map (λ q. cond (key_eq q.key r.key) r q) rules

  replaced_key : (r q : Rule) → Covers (cond (key_eq q.key r.key) r q) ≡ Covers q
  replaced_key r q =
      elim (key_eq q.key r.key) as (λ b. key_eq q.key r.key ≡ b → Covers (cond b r q) ≡ Covers q) [
        | true ↦ λ e. ap (λ (k : Key). covers k.pattern h) (sym (key_eq-true q.key r.key e))
        | false ↦ λ _. refl
      ] refl

  covering_change : (c : Change) (rules : List Rule) → covering_rules h (rules_after_change c rules) ≡ followed c (covering_rules h rules)
  covering_change (Insert s r) rules = filter_append Covers rules (r ∷ [])
  covering_change (Delete s r) rules = filter_swap Covers (λ q. not (key_eq q.key r.key)) rules
  covering_change (Replace s r) rules = filter_map_swap Covers (λ q. cond (key_eq q.key r.key) r q) (replaced_key r) rules

  -- where the same rules cover before changes, the same do after them
  same_after : (made : List Change) (xs ys : List Rule) → covering_rules h xs ≡ covering_rules h ys → covering_rules h (rules_after made xs) ≡ covering_rules h (rules_after made ys)
  same_after [] xs ys same = same
  same_after (c ∷ made) xs ys same =
      same_after made (rules_after_change c xs) (rules_after_change c ys) (covering_change c xs ∙ ap (followed c) same ∙ sym (covering_change c ys))

  -- a rule that covers has not the key of one that doesn't
  other_key : (r q : Rule) → Covers r ≡ false → Covers q ≡ true → key_eq q.key r.key ≡ false
  other_key r q off on =
      elim (cases_Bool (key_eq q.key r.key)) [
        | inl same ↦ absurd (both_ways (Covers r) off (ap (λ (k : Key). covers k.pattern h) (sym (key_eq-true q.key r.key same)) ∙ on))
        | inr ne ↦ ne
      ]

  -- a change that doesn't cover the packet leaves the covering rules as they are
  pub covering_kept : (c : Change) → Covers (rule_of c) ≡ false → (rules : List Rule) → covering_rules h (rules_after_change c rules) ≡ covering_rules h rules
  covering_kept (Insert s r) off rules =
      covering_change (Insert s r) rules ∙ ap (λ zs. covering_rules h rules ++ zs) (cond-false (Covers r) (r ∷ []) [] off) ∙ append-nil (covering_rules h rules)
  covering_kept (Delete s r) off rules =
      covering_change (Delete s r) rules ∙ filter_whole Covers (λ q. not (key_eq q.key r.key)) (λ q on. not_from_false (key_eq q.key r.key) (other_key r q off on)) rules
  covering_kept (Replace s r) off rules =
      covering_change (Replace s r) rules ∙ map_whole Covers (λ q. cond (key_eq q.key r.key) r q) (λ q on. cond-false (key_eq q.key r.key) r q (other_key r q off on)) rules

  -- the changes that don't cover the packet may be left out
  covering_made : (made : List Change) (rules : List Rule) → covering_rules h (rules_after made rules) ≡ covering_rules h (rules_after (covering_changes h made) rules)
  covering_made [] rules = refl
  covering_made (c ∷ made) rules =
      let kept = covering_changes h made in
      let rest = covering_made made (rules_after_change c rules) in
      elim (cases_Bool (Covers (rule_of c))) [
        | inl on ↦ rest ∙ ap (λ cs. covering_rules h (rules_after cs rules)) (sym (cond-true (Covers (rule_of c)) (c ∷ kept) kept on))
        | inr off ↦
            rest ∙ same_after kept (rules_after_change c rules) rules (covering_kept c off rules)
            ∙ ap (λ cs. covering_rules h (rules_after cs rules)) (sym (cond-false (Covers (rule_of c)) (c ∷ kept) kept off))
      ]

  -- the lookup depends on them alone
  lookup_by_covering : (xs ys : List Rule) → covering_rules h xs ≡ covering_rules h ys → lookup h xs ≡ lookup h ys
  lookup_by_covering xs ys same = ap (λ rs. option_map_or (λ (r : Rule). r.action) (find (is_top rs) rs) Discard) same

-- ---- possible outcomes

module _ (place : Place) (dst : ℕ) (xs ys : List Rule) (same : covering_rules (header_at place dst) xs ≡ covering_rules (header_at place dst) ys) (mixed : List Rule) (held : IsSameSet mixed xs) where
  abbrev Covered : Rule → Bool
  Covered r = covers r.key.pattern (header_at place dst)

  abbrev covering_here : List Rule → List Rule
  covering_here rules = covering_rules (header_at place dst) rules

  abbrev rest_of : List Rule → List Rule
  rest_of rules = filter (λ r. not (Covered r)) rules

  -- the covering rules of the one, and the others of the other
  abbrev other : List Rule
  other = covering_here mixed ++ rest_of ys

  covered : covering_here other ≡ covering_here mixed
  covered =
      filter_append Covered (covering_here mixed) (rest_of ys) ∙ ap (λ zs. covering_here (covering_here mixed) ++ zs) (filter_none Covered ys)
      ∙ append-nil (covering_here (covering_here mixed)) ∙ filter_twice Covered mixed

  same_rules : IsSameSet other ys
  same_rules r = (
    λ i. elim (in_append_cases r (covering_here mixed) (rest_of ys) i) [
      | inl j ↦
          let (stands, on) = in_from_filter Covered r mixed j in
          (in_from_filter Covered r ys (subst (IsIn r) same (in_filter Covered r xs ((held r).0 stands) on))).0
      | inr j ↦ (in_from_filter (λ q. not (Covered q)) r ys j).0
    ],
    λ i. elim (cases_Bool (Covered r)) [
      | inl on ↦
          let stands = (in_from_filter Covered r xs (subst (IsIn r) (sym same) (in_filter Covered r ys i on))).0 in
          in_append_left r (covering_here mixed) (rest_of ys) (in_filter Covered r mixed ((held r).1 stands) on)
      | inr off ↦ in_append_right r (covering_here mixed) (rest_of ys) (in_filter (λ q. not (Covered q)) r ys i (not_from_false (Covered r) off))
    ],
  )

  same_outcome : (net : Network) → outcome net mixed place dst ≡ outcome net other place dst
  same_outcome net = ap (action_outcome net place) (lookup_by_covering (header_at place dst) mixed other (sym covered))

-- ---- some of the changes

-- some of a list are some of what passes, where they pass
filtered_some : {A : Type 0} (p : A → Bool) (xs ys : List A) → IsSubsequence xs ys → IsSubsequence (filter p xs) (filter p ys)
filtered_some p [] ys h = tt
filtered_some p (x ∷ xs) [] h = absurd h
filtered_some p (x ∷ xs) (y ∷ ys) (inl (e, h)) =
    subst (λ z. IsSubsequence (filter p (z ∷ xs)) (filter p (y ∷ ys))) (sym e)
    (elim (p y) as (λ b. IsSubsequence (cond b (y ∷ filter p xs) (filter p xs)) (cond b (y ∷ filter p ys) (filter p ys))) [
      | true ↦ inl (refl, filtered_some p xs ys h)
      | false ↦ filtered_some p xs ys h
    ])
filtered_some p (x ∷ xs) (y ∷ ys) (inr h) =
    cond_both (p y) (y ∷ filter p ys) (filter p ys) (λ zs. IsSubsequence (filter p (x ∷ xs)) zs)
    (λ _. skip (filter p (x ∷ xs)) y (filter p ys) (filtered_some p (x ∷ xs) ys h)) (λ _. filtered_some p (x ∷ xs) ys h)
  where
    skip : {A : Type 0} (xs : List A) (y : A) (ys : List A) → IsSubsequence xs ys → IsSubsequence xs (y ∷ ys)
    skip [] y ys h = tt
    skip (x ∷ xs) y ys h = inr h

-- some of what passes are some of the list
some_passing : {A : Type 0} (p : A → Bool) (xs ys : List A) → IsSubsequence xs (filter p ys) → IsSubsequence xs ys
some_passing p [] ys h = tt
some_passing p (x ∷ xs) [] h = absurd h
some_passing p (x ∷ xs) (y ∷ ys) h =
    elim (cases_Bool (p y)) [
      | inl on ↦ elim (subst (λ zs. IsSubsequence (x ∷ xs) zs) (cond-true (p y) (y ∷ filter p ys) (filter p ys) on) h) [
        | inl same ↦ inl (same.0, some_passing p xs ys same.1)
        | inr rest ↦ inr (some_passing p (x ∷ xs) ys rest)
      ]
      | inr off ↦ inr (some_passing p (x ∷ xs) ys (subst (λ zs. IsSubsequence (x ∷ xs) zs) (cond-false (p y) (y ∷ filter p ys) (filter p ys) off) h))
    ]

-- ---- what is possible

-- where the same rules of two tables and the same changes of them cover a packet, the same is possible while the changes are made
pub possible_by_covering : (net : Network) (place : Place) (dst : ℕ) (xs ys : List Rule) → covering_rules (header_at place dst) xs ≡ covering_rules (header_at place dst) ys
    → (changes others : List Change) → covering_changes (header_at place dst) changes ≡ covering_changes (header_at place dst) others → (found : Outcome)
    → MayBe net xs changes place dst found → MayBe net ys others place dst found
possible_by_covering net place dst xs ys same changes others alike found may =
    let h = header_at place dst in
    let made = may.held.made in
    let kept = covering_changes h made in
    let after : covering_rules h (rules_after made xs) ≡ covering_rules h (rules_after kept ys) = covering_made h made xs ∙ same_after h kept xs ys same in
    let passes = λ (c : Change). covers (rule_of c).key.pattern h in
    record {
      mixed = other place dst (rules_after made xs) (rules_after kept ys) after may.mixed may.held.same;
      held = record {
        made = kept;
        some = some_passing passes kept others (subst (IsSubsequence kept) alike (filtered_some passes made changes may.held.some));
        same = same_rules place dst (rules_after made xs) (rules_after kept ys) after may.mixed may.held.same;
      };
      is = may.is ∙ same_outcome place dst (rules_after made xs) (rules_after kept ys) after may.mixed may.held.same net;
    }
