-- Mixtures from which the rules of some keys are left out are those of the table and the changes without these keys.
use Rattle.std.proofs.Common.{◌≡◌, ◌⊎◌, ◌&&◌, ℕ, Bool, true, false, cond, List, [], ◌∷◌, map, refl, sym, ◌∙◌, subst, ap, inl, inr}
use Rattle.std.specs.Prelude.{filter, find, nat_le, option_map, Some}
use Rattle.std.specs.List.{AllByRecursion, list_all}
use Rattle.std.specs.Option.{option_map_or}
use Rattle.std.proofs.lemmas.Bool.{cond-true, cond-false, both_ways, and_parts}
use Rattle.std.proofs.lemmas.Option.{slice_get-map}
use Rattle.net_base.specs.Blocks.{in_block}
use Rattle.net_base.specs.Members.{IsIn, IsSubsequence, IsSameSet, IsDistinct}
use Rattle.net_base.specs.declared.ids.Place.{Place}
use Rattle.net_base.proofs.MemberLaws.{in_map, in_from_map, in_filter, in_from_filter, in_from_subsequence, in_append_left, in_append_right, in_append_cases, each_at, each_from_in, same_filter, same_through}
use Rattle.net_base.proofs.ItemLaws.{in_from_get, get_from_in}
use Rattle.topology.specs.Networks.{Network}
use Rattle.path_walk.specs.Outcomes.{action_outcome, header_at, outcome}
use Rattle.path_walk.specs.declared.Outcome.{Outcome}
use Rattle.flow_rules.specs.Patterns.{covers, key_eq, admits_port, admits_vlan}
use Rattle.flow_rules.specs.Tables.{keys_of, IsClear, IsTable}
use Rattle.flow_rules.specs.declared.rules.Action.TheVariants.{Discard}
use Rattle.flow_rules.specs.declared.rules.Key.{Key}
use Rattle.flow_rules.specs.declared.rules.Rule.{Rule}
use Rattle.flow_rules.proofs.KeyLaws.{key_ne}
use Rattle.flow_rules.proofs.LookupLaws.{lookup_by_set}
use Rattle.flow_rules.proofs.TableLaws.{key_found}
use Rattle.update_model.specs.Changes.{AppliesTo, rules_after}
use Rattle.update_model.specs.Mixtures.{IsMixture}
use Rattle.update_model.proofs.Matches.{IsWritten}
use Rattle.update_model.specs.declared.Change.{Change}
use Rattle.update_model.specs.declared.Change.TheVariants.{Insert, Delete, Replace}
use Rattle.update_model.proofs.ChangeLaws.{key_named, writes_key, stands_all_from_in, in_from_stands_all}
use Rattle.update_model.proofs.MadeLaws.{distinct_some, each_some}
use Rattle.update_model.proofs.MatchLaws.{some_filter}
use Rattle.table_index.specs.Candidates.{IsAscending}
use Rattle.round_mix.specs.Among.{picked_marks, stands_at, AreOutcomesAmong, HoldCandidates}
use Rattle.round_mix.specs.Found.{AreAllOutcomes}
use Rattle.round_mix.specs.Marks.{mark_by, change_of, marked_rule, inserted_rules, all_rules, marked_rules, rules_of}
use Rattle.round_mix.specs.Named.{with_mark}
use Rattle.round_mix.specs.Prepared.{AreGood, AreClear, IsPrepared}
use Rattle.round_mix.specs.Scan.{scan}
use Rattle.round_mix.specs.declared.Mark.TheVariants.{Sure}
use Rattle.round_mix.specs.declared.MarkedRule.{MarkedRule}
use Rattle.round_mix.proofs.ClearLaws.{one_by, keys_apart}
use Rattle.round_mix.proofs.MarkLaws.{in_inserted, in_from_inserted, insert_writes, marked_from, rules_by-key, available_from}
use Rattle.round_mix.proofs.PickedLaws.{in_picked, in_from_picked, falling_picked}
use Rattle.round_mix.proofs.ScanLaws.{AreScannable, scannable, outcomes_from_marks}

module _ {A : Type 0} where
  sub_filter : (p : A → Bool) (xs ys : List A) → IsSubsequence xs ys → IsSubsequence (filter p xs) (filter p ys)
  sub_filter p [] ys h = tt
  sub_filter p (x ∷ xs) [] h = absurd h
  sub_filter p (x ∷ xs) (y ∷ ys) (inl (e, h)) =
      let rest = sub_filter p xs ys h in
      subst (λ z. IsSubsequence (filter p (z ∷ xs)) (filter p (y ∷ ys))) (sym e) (
      elim (p y) as (λ b. IsSubsequence (cond b (y ∷ filter p xs) (filter p xs)) (cond b (y ∷ filter p ys) (filter p ys))) [ true ↦ inl (refl, rest) | false ↦ rest ])
  sub_filter p (x ∷ xs) (y ∷ ys) (inr h) =
      let rest = sub_filter p (x ∷ xs) ys h in
      elim (p y) as (λ b. IsSubsequence (filter p (x ∷ xs)) (cond b (y ∷ filter p ys) (filter p ys))) [ true ↦ skip (filter p (x ∷ xs)) y (filter p ys) rest | false ↦ rest ]
    where
      skip : (zs : List A) (y : A) (ys : List A) → IsSubsequence zs ys → IsSubsequence zs (y ∷ ys)
      skip [] y ys h = tt
      skip (z ∷ zs) y ys h = inr h

  sub_through : (xs ys zs : List A) → IsSubsequence xs ys → IsSubsequence ys zs → IsSubsequence xs zs
  sub_through [] ys zs g h = tt
  sub_through (x ∷ xs) [] zs g h = absurd g
  sub_through (x ∷ xs) (y ∷ ys) [] g h = absurd h
  sub_through (x ∷ xs) (y ∷ ys) (z ∷ zs) (inl (e, g)) (inl (f, h)) = inl (e ∙ f, sub_through xs ys zs g h)
  sub_through (x ∷ xs) (y ∷ ys) (z ∷ zs) (inr g) (inl (f, h)) = inr (sub_through (x ∷ xs) ys zs g h)
  sub_through (x ∷ xs) (y ∷ ys) (z ∷ zs) g (inr h) = inr (sub_through (x ∷ xs) (y ∷ ys) zs g h)

  filter_all : (p : A → Bool) (xs : List A) → ((x : A) → IsIn x xs → p x ≡ true) → filter p xs ≡ xs
  filter_all p [] h = refl
  filter_all p (x ∷ xs) h = cond-true (p x) (x ∷ filter p xs) (filter p xs) (h x (inl refl)) ∙ ap (λ ys. x ∷ ys) (filter_all p xs (λ y i. h y (inr i)))

  -- a filter that passes what another passes changes nothing before that
  filter_within : (p q : A → Bool) (xs : List A) → ((x : A) → IsIn x xs → p x ≡ true → q x ≡ true) → filter p (filter q xs) ≡ filter p xs
  filter_within p q [] h = refl
  filter_within p q (x ∷ xs) h =
      let rest = filter_within p q xs (λ y i. h y (inr i)) in
      elim (q x) as (λ b. q x ≡ b → filter p (cond b (x ∷ filter q xs) (filter q xs)) ≡ filter p (x ∷ xs)) [
        | true ↦ λ _. ap (λ ys. cond (p x) (x ∷ ys) ys) rest
        | false ↦ λ off. rest ∙ sym (cond-false (p x) (x ∷ filter p xs) (filter p xs) (
            elim (p x) as (λ b. p x ≡ b → b ≡ false) [ true ↦ λ e. absurd (both_ways (q x) off (h x (inl refl) e)) | false ↦ λ _. refl ] refl))
      ] refl

module _ (K : Key → Bool) where
  abbrev stays : Rule → Bool
  stays r = K r.key

  abbrev names_it : Change → Bool
  names_it c = K (key_named c)

  written_in : (r : Rule) (cs : List Change) → K r.key ≡ true → IsWritten r cs → IsWritten r (filter names_it cs)
  written_in r cs on w = (w.0, in_filter names_it w.0 cs w.1 (subst (λ k. K k ≡ true) (writes_key r w.0 w.2) on), w.2)

  written_from : (r : Rule) (cs : List Change) → IsWritten r (filter names_it cs) → IsWritten r cs × (K r.key ≡ true)
  written_from r cs w =
      let (i, on) = in_from_filter names_it w.0 cs w.1 in
      ((w.0, i, w.2), subst (λ k. K k ≡ true) (sym (writes_key r w.0 w.2)) on)

  unnamed_in : (k : Key) (cs : List Change) → ¬ IsIn k (map key_named cs) → ¬ IsIn k (map key_named (filter names_it cs))
  unnamed_in k cs free i =
      let (c, j, e) = in_from_map key_named k (filter names_it cs) i in
      free (subst (λ z. IsIn z (map key_named cs)) (sym e) (in_map key_named c cs (in_from_filter names_it c cs j).0))

  unnamed_from : (k : Key) (cs : List Change) → K k ≡ true → ¬ IsIn k (map key_named (filter names_it cs)) → ¬ IsIn k (map key_named cs)
  unnamed_from k cs on free i =
      let (c, j, e) = in_from_map key_named k cs i in
      free (subst (λ z. IsIn z (map key_named (filter names_it cs))) (sym e)
      (in_map key_named c (filter names_it cs) (in_filter names_it c cs j (subst (λ z. K z ≡ true) e on))))

  applies_in : (table : List Rule) (c : Change) → names_it c ≡ true → AppliesTo table c → AppliesTo (filter stays table) c
  applies_in table (Insert s q) on absent = λ i.
      let (x, j, e) = in_from_map (λ y. y.key) q.key (filter stays table) i in
      absent (subst (λ z. IsIn z (keys_of table)) (sym e) (in_map (λ y. y.key) x table (in_from_filter stays x table j).0))
  applies_in table (Delete s q) on there = in_filter stays q table there on
  applies_in table (Replace s q) on there =
      let (x, j, e) = in_from_map (λ y. y.key) q.key table there in
      subst (λ z. IsIn z (keys_of (filter stays table))) (sym e) (in_map (λ y. y.key) x (filter stays table) (in_filter stays x table j (subst (λ z. K z ≡ true) e on)))

  all_apply : (table : List Rule) (cs : List Change) → AllByRecursion (AppliesTo table) cs → AllByRecursion (AppliesTo (filter stays table)) (filter names_it cs)
  all_apply table cs applies =
      each_from_in (AppliesTo (filter stays table)) (filter names_it cs) (λ c i.
      let (j, on) = in_from_filter names_it c cs i in applies_in table c on (each_at (AppliesTo table) cs c applies j))

  change_in : (cs : List Change) (r : Rule) → K r.key ≡ true → change_of (filter names_it cs) r ≡ change_of cs r
  change_in [] r on = refl
  change_in (c ∷ cs) r on =
      let rest = change_in cs r on in
      elim (names_it c) as (λ b. names_it c ≡ b → change_of (cond b (c ∷ filter names_it cs) (filter names_it cs)) r ≡ change_of (c ∷ cs) r) [
        | true ↦ λ _. ap (λ o. cond (key_eq (key_named c) r.key) (Some c) o) rest
        | false ↦ λ off. rest ∙ sym (cond-false (key_eq (key_named c) r.key) (Some c) (change_of cs r) (key_ne (key_named c) r.key (λ e. both_ways (names_it c) off (subst (λ z. K z ≡ true) (sym e) on))))
      ] refl

  module _ (table : List Rule) (changes : List Change) (good : AreGood table changes) where
    abbrev table_in : List Rule
    table_in = filter stays table

    abbrev changes_in : List Change
    changes_in = filter names_it changes

    good_in : AreGood table_in changes_in
    good_in = record { applies = all_apply table changes good.applies; distinct = distinct_some key_named changes_in changes (some_filter names_it changes) good.distinct }

    module _ (made : List Change) (some : IsSubsequence made changes) where
      applies : AllByRecursion (AppliesTo table) made
      applies = each_some (AppliesTo table) made changes some good.applies

      distinct : IsDistinct (map key_named made)
      distinct = distinct_some key_named made changes some good.distinct

      distinct_in : IsDistinct (map key_named (filter names_it made))
      distinct_in = distinct_some key_named (filter names_it made) made (some_filter names_it made) distinct

      same_after : IsSameSet (filter stays (rules_after made table)) (rules_after (filter names_it made) table_in)
      same_after r = (
        λ i.
            let (j, on) = in_from_filter stays r (rules_after made table) i in
            in_from_stands_all table_in (filter names_it made) r (all_apply table made applies) distinct_in (
            elim (stands_all_from_in table made r applies distinct j) [
              | inl s ↦ inl (in_filter stays r table s.0 on, unnamed_in r.key made s.1)
              | inr w ↦ inr (written_in r made on w)
            ]),
        λ i. elim (stands_all_from_in table_in (filter names_it made) r (all_apply table made applies) distinct_in i) [
          | inl s ↦ (
              let (j, on) = in_from_filter stays r table s.0 in
              in_filter stays r (rules_after made table) (in_from_stands_all table made r applies distinct (inl (j, unnamed_from r.key made on s.1))) on)
          | inr w ↦ (
              let (v, on) = written_from r made w in
              in_filter stays r (rules_after made table) (in_from_stands_all table made r applies distinct (inr v)) on)
        ],
      )

    mixture_in : (mixed : List Rule) → IsMixture table changes mixed → IsMixture table_in changes_in (filter stays mixed)
    mixture_in mixed h = record {
      made = filter names_it h.made;
      some = sub_filter names_it h.made changes h.some;
      same = same_through (filter stays mixed) (filter stays (rules_after h.made table)) (rules_after (filter names_it h.made) table_in)
          (same_filter stays mixed (rules_after h.made table) h.same) (same_after h.made h.some);
    }

    mixture_from : (mixed : List Rule) → IsMixture table_in changes_in mixed → (whole : List Rule) × IsMixture table changes whole × IsSameSet mixed (filter stays whole)
    mixture_from mixed h =
        let some = sub_through h.made changes_in changes h.some (some_filter names_it changes) in
        let pass : filter names_it h.made ≡ h.made =
        filter_all names_it h.made (λ c i. (in_from_filter names_it c changes (in_from_subsequence c h.made changes_in h.some i)).1) in (
          rules_after h.made table,
          record { made = h.made; some = some; same = λ r. (λ i. i, λ i. i) },
          λ r. (
            λ i. (same_after h.made some r).1 (subst (λ cs. IsIn r (rules_after cs table_in)) (sym pass) ((h.same r).0 i)),
            λ i. (h.same r).1 (subst (λ cs. IsIn r (rules_after cs table_in)) pass ((same_after h.made some r).0 i)),
          ),
        )

    clear_filter : AreClear table changes → (mixed : List Rule) → IsMixture table changes mixed → IsClear (filter stays mixed)
    clear_filter clear mixed held h a b i j = clear mixed held h a b (in_from_filter stays a mixed i).0 (in_from_filter stays b mixed j).0

    clear_in : AreClear table changes → AreClear table_in changes_in
    clear_in clear mixed h header a b i j =
        let (whole, held, same) = mixture_from mixed h in
        clear_filter clear whole held header a b ((same a).0 i) ((same b).0 j)

    all_in : (r : Rule) → IsIn r (all_rules table changes) → K r.key ≡ true → IsIn r (all_rules table_in changes_in)
    all_in r i on = elim (in_append_cases r table (inserted_rules changes) i) [
      | inl j ↦ in_append_left r table_in (inserted_rules changes_in) (in_filter stays r table j on)
      | inr j ↦ (
          let (c, k, of) = in_from_inserted changes r j in
          in_append_right r table_in (inserted_rules changes_in)
          (in_inserted changes_in c r (in_filter names_it c changes k (subst (λ z. K z ≡ true) (writes_key r c (insert_writes c r of)) on)) of))
    ]

    all_from : (r : Rule) → IsIn r (all_rules table_in changes_in) → IsIn r (all_rules table changes) × (K r.key ≡ true)
    all_from r i = elim (in_append_cases r table_in (inserted_rules changes_in) i) [
      | inl j ↦ (let (k, on) = in_from_filter stays r table j in (in_append_left r table (inserted_rules changes) k, on))
      | inr j ↦ (
          let (c, k, of) = in_from_inserted changes_in r j in
          let (l, on) = in_from_filter names_it c changes k in
          (in_append_right r table (inserted_rules changes) (in_inserted changes c r l of), subst (λ z. K z ≡ true) (sym (writes_key r c (insert_writes c r of))) on))
    ]

    marked_same : (r : Rule) → K r.key ≡ true → marked_rule changes_in r ≡ marked_rule changes r
    marked_same r on = ap (λ o. with_mark r (option_map_or mark_by o Sure)) (change_in changes r on)

    member_in : (m : MarkedRule) → IsIn m (marked_rules table changes) → K m.rule.key ≡ true → IsIn m (marked_rules table_in changes_in)
    member_in m i on =
        let (x, j, e) = in_from_map (marked_rule changes) m (all_rules table changes) i in
        let here : K x.key ≡ true = subst (λ (y : MarkedRule). K y.rule.key ≡ true) e on in
        subst (λ z. IsIn z (marked_rules table_in changes_in)) (marked_same x here ∙ sym e) (in_map (marked_rule changes_in) x (all_rules table_in changes_in) (all_in x j here))

    member_from : (m : MarkedRule) → IsIn m (marked_rules table_in changes_in) → IsIn m (marked_rules table changes) × (K m.rule.key ≡ true)
    member_from m i =
        let (x, j, e) = in_from_map (marked_rule changes_in) m (all_rules table_in changes_in) i in
        let (k, on) = all_from x j in (
          subst (λ z. IsIn z (marked_rules table changes)) (sym (e ∙ marked_same x on)) (in_map (marked_rule changes) x (all_rules table changes) k),
          subst (λ (y : MarkedRule). K y.rule.key ≡ true) (sym e) on,
        )

module _ (table : List Rule) (changes : List Change) (marks : List MarkedRule) (positions : List ℕ) (is_table : IsTable table) (prepared : IsPrepared table changes marks) where
  abbrev here : Key → Bool
  here = stands_at marks positions

  abbrev whole : AreScannable table changes marks
  whole = scannable table changes marks prepared

  -- a marked rule at one of the positions has a key there
  key_here : (m : MarkedRule) → IsIn m (picked_marks marks positions) → here m.rule.key ≡ true
  key_here m i =
      (key_found m.rule.key (rules_of (picked_marks marks positions))).1
      (in_map (λ r. r.key) m.rule (rules_of (picked_marks marks positions)) (in_map (λ n. n.rule) m (picked_marks marks positions) i))

  in_marks : (m : MarkedRule) → IsIn m (picked_marks marks positions) → IsIn m marks
  in_marks m i = let (p, _, at) = in_from_picked marks positions m i in in_from_get marks p m at

  -- and a marked rule with such a key stands at one
  there : (m : MarkedRule) → IsIn m (marked_rules table changes) → here m.rule.key ≡ true → IsIn m (picked_marks marks positions)
  there m i on =
      let rules = rules_of (picked_marks marks positions) in
      let (r, j, e) = in_from_map (λ x. x.key) m.rule.key rules ((key_found m.rule.key rules).0 on) in
      let (n, k, f) = in_from_map (λ x. x.rule) r (picked_marks marks positions) j in
      let (n_is, n_in) = marked_from table changes prepared.good.applies prepared.good.distinct n (whole.from n (in_marks n k)) in
      let (m_is, m_in) = marked_from table changes prepared.good.applies prepared.good.distinct m i in
      let same = one_by (λ (x : Rule). x.key) (all_rules table changes) n.rule m.rule (keys_apart table changes is_table prepared.good) n_in m_in (sym (ap (λ (x : Rule). x.key) f) ∙ sym e) in
      subst (λ z. IsIn z (picked_marks marks positions)) (n_is ∙ ap (marked_rule changes) same ∙ sym m_is) k

  scannable_picked : IsAscending positions → AreScannable (table_in here table changes prepared.good) (changes_in here table changes prepared.good) (picked_marks marks positions)
  scannable_picked up = record {
    good = good_in here table changes prepared.good;
    clear = clear_in here table changes prepared.good prepared.clear;
    into = λ m i. let (j, on) = member_from here table changes prepared.good m i in there m j on;
    from = λ m i. member_in here table changes prepared.good m (whole.from m (in_marks m i)) (key_here m i);
    falling = falling_picked marks prepared.falling positions up;
  }

  module _ (net : Network) (place : Place) (dst : ℕ) (list : List Outcome) (up : IsAscending positions) (is : list ≡ map (action_outcome net place) (scan (header_at place dst) (picked_marks marks positions))) where
    pub outcomes_among : AreOutcomesAmong net table changes marks positions place dst list
    outcomes_among found =
        let all = outcomes_from_marks net place dst (table_in here table changes prepared.good) (changes_in here table changes prepared.good) (picked_marks marks positions) list (scannable_picked up) is found in (
          λ i.
              let o = all.0 i in
              let (mixed, held, same) = mixture_from here table changes prepared.good o.mixed o.held in
              record {
                mixed = mixed;
                held = held;
                is = o.is ∙ ap (action_outcome net place) (lookup_by_set (header_at place dst) o.mixed (filter (stays here) mixed)
                    (clear_in here table changes prepared.good prepared.clear o.mixed o.held) (clear_filter here table changes prepared.good prepared.clear mixed held)
                    (same_filter (λ r. covers r.key.pattern (header_at place dst)) o.mixed (filter (stays here) mixed) same));
              },
          λ o. all.1 (record { mixed = filter (stays here) o.mixed; held = mixture_in here table changes prepared.good o.mixed o.held; is = o.is }),
        )

    module _ (hold : HoldCandidates marks dst positions) where
      -- each rule of a mixture that covers the packet stands at one of the positions
      covers_here : (mixed : List Rule) → IsMixture table changes mixed → (r : Rule) → IsIn r mixed → covers r.key.pattern (header_at place dst) ≡ true → here r.key ≡ true
      covers_here mixed held r i covered =
          let (m, j, of) = available_from table changes prepared.good.applies prepared.good.distinct r available in
          let key = rules_by-key m.mark m.rule r of in
          let (p, at) = get_from_in marks m (whole.into m j) in
          let holds : in_block m.rule.key.pattern.dst dst ≡ true = block_of m.rule.key (subst (λ k. covers k.pattern (header_at place dst) ≡ true) key covered) in
          let candidate = hold p (record {
            block = m.rule.key.pattern.dst;
            at = slice_get-map (λ (n : MarkedRule). n.rule.key.pattern.dst) marks p ∙ ap (option_map (λ (n : MarkedRule). n.rule.key.pattern.dst)) at;
            holds = holds;
          }) in
          subst (λ k. here k ≡ true) (sym key) (key_here m (in_picked marks positions p m candidate at))
        where
          available : IsIn r table ⊎ IsWritten r changes
          available =
              elim (stands_all_from_in table held.made r (each_some (AppliesTo table) held.made changes held.some prepared.good.applies)
              (distinct_some key_named held.made changes held.some prepared.good.distinct) ((held.same r).0 i)) [
                | inl s ↦ inl s.0
                | inr w ↦ inr (w.0, in_from_subsequence w.0 held.made changes held.some w.1, w.2)
              ]

          block_of : (k : Key) → covers k.pattern (header_at place dst) ≡ true → in_block k.pattern.dst dst ≡ true
          block_of k over = (and_parts (admits_port k.pattern.in_port place.port && admits_vlan k.pattern.vlan place.vlan) (in_block k.pattern.dst dst) over).1

      same_outcome : (mixed : List Rule) → IsMixture table changes mixed → outcome net (filter (stays here) mixed) place dst ≡ outcome net mixed place dst
      same_outcome mixed held =
          ap (λ (rs : List Rule). action_outcome net place (option_map_or (λ r. r.action) (find (λ r. list_all (λ q. nat_le q.key.priority r.key.priority) rs) rs) Discard))
          (filter_within (λ r. covers r.key.pattern (header_at place dst)) (stays here) mixed (covers_here mixed held))

      pub outcomes_of_all : AreAllOutcomes net table changes place dst list
      outcomes_of_all found = (
        λ i. let o = (outcomes_among found).0 i in record { mixed = o.mixed; held = o.held; is = o.is ∙ same_outcome o.mixed o.held },
        λ o. (outcomes_among found).1 (record { mixed = o.mixed; held = o.held; is = o.is ∙ sym (same_outcome o.mixed o.held) }),
      )
