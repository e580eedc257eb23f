-- What an outcome of the entry tells of the versions, and the least switch where it mixes them.
use Rattle.std.proofs.Common.{◌≡◌, ◌⊎◌, ℕ, ◌+◌, ◌<◌, take, get_or, Bool, true, false, Option, Some, None, List, [], ◌∷◌, ◌++◌, length, IfSome, IfNone, refl, sym, ◌∙◌, subst, ap, inl, inr, arith}
use Rattle.std.specs.Prelude.{nat_lt, if◌then◌else◌, ◌&&◌}
use Rattle.std.specs.List.{AllByRecursion}
use Rattle.std.proofs.lemmas.Bool.{cond_both}
use Rattle.std.proofs.lemmas.List.{take_more}
use Rattle.net_base.specs.Members.{IsDistinct}
use Rattle.net_base.proofs.MemberLaws.{each_at, each_append, in_append_left, in_append_right, in_append_cases}
use Rattle.net_base.specs.Walks.{IsWalk, end_of}
use Rattle.net_base.specs.declared.ids.SwitchId.{SwitchId}
use Rattle.net_base.specs.declared.ids.Place.{Place}
use Rattle.topology.specs.Networks.{Network, IsNetwork, switch_count}
use Rattle.flow_rules.specs.declared.rules.Rule.{Rule}
use Rattle.path_walk.specs.Paths.{Forwards, outcome_in, ended_by, IsEnd}
use Rattle.path_walk.specs.declared.Outcome.{Outcome}
use Rattle.path_walk.specs.declared.Outcome.TheVariants.{Go}
use Rattle.path_walk.specs.declared.Ended.{Ended}
use Rattle.path_walk.proofs.StayLaws.{few_switches, go_within}
use Rattle.path_walk.proofs.WalkedLaws.{along, switches_along}
use Rattle.dest_classes.specs.declared.Class.{Class}
use Rattle.demands.specs.Duties.{DemandView}
use Rattle.demands.specs.Good.{HasGoodPath, switches_of}
use Rattle.update_model.specs.Mixtures.{IsPossible}
use Rattle.certificates.specs.Updates.{Task, rollout}
use Rattle.certificates.specs.TwoPhase.{tables_of, KeepsOn, KeepsPath}
use Rattle.certificates.specs.declared.Label.{Label}
use Rattle.check_reasons.specs.Least.{IsLeastSwitch, IsLeastOf, lesser}
use Rattle.check_reasons.proofs.LeastLaws.{least_iff, least_two}
use Rattle.two_phase_check.specs.declared.two_phase.Follow.{Follow}
use Rattle.two_phase_check.specs.declared.two_phase.Follow.TheVariants.{Differs, Keeps, Astray}
use Rattle.two_phase_check.specs.Agreements.{EndsSoon, IsFirstStray, AgreesWith, AgreesAt, StraysBy, Tells, astray_at, differs, least_of, MixesBy, IsVersionKept, MixesAmong, MixesAt, KeepsVersions, AreAllFound}
use Rattle.two_phase_check.proofs.StrayLaws.{stray_one, stray_none}

module _ (net : Network) (valid : IsNetwork net) (tables : List (List Rule)) (dst : ℕ) where
  walk_within : (place : Place) (rest : List Place) → place.switch.0 < switch_count net → IsWalk (Forwards net tables dst) place rest → AllByRecursion (λ s. s.0 < switch_count net) (along (place ∷ rest))
  walk_within place [] within walk = (within, tt)
  walk_within place (next ∷ rest) within walk = (within, walk_within next rest (go_within net valid tables dst place next walk.0) walk.1)

  soon_from : (entry first : Place) (rest : List Place) (ended : Ended) → entry.switch.0 < switch_count net → IsWalk (Forwards net tables dst) entry rest → IsDistinct (along (entry ∷ rest))
      → ended ≡ ended_by (end_of entry rest) (outcome_in net tables (end_of entry rest) dst) → IsEnd ended → outcome_in net tables entry dst ≡ Go first → EndsSoon net tables dst first
  soon_from entry first [] ended within walk distinct is ends goes = absurd (subst (λ o. IsEnd (ended_by entry o)) goes (subst IsEnd is ends))
  soon_from entry first (p ∷ rest) ended within walk distinct is ends goes =
      let g : Go p ≡ Go first = sym walk.0 ∙ goes in
      let same : p ≡ first = cc in
      let few = few_switches (switch_count net) (along (entry ∷ p ∷ rest)) distinct (walk_within entry (p ∷ rest) within walk) in
      let counted : length (along (entry ∷ p ∷ rest)) ≡ length rest + 2 = counts entry p rest in
      subst (EndsSoon net tables dst) same (record { rest = rest; walk = walk.1; ends = subst IsEnd is ends; few = omega arith })
    where
      lengths : (places : List Place) → length (along places) ≡ length places
      lengths [] = refl
      lengths (q ∷ places) = let e = lengths places in omega arith

      counts : (a b : Place) (places : List Place) → length (along (a ∷ b ∷ places)) ≡ length places + 2
      counts a b places = let e = lengths places in omega arith

  -- after the entry a good path ends before as many steps as there are switches
  pub good_soon : (demands : List DemandView) (entry first : Place) → entry.switch.0 < switch_count net → HasGoodPath net tables demands entry dst → outcome_in net tables entry dst ≡ Go first → EndsSoon net tables dst first
  good_soon demands entry first within good goes =
      let path = good.path in
      soon_from entry first path.rest good.trace.ended within path.walk
      (subst IsDistinct (ap switches_of path.stops ∙ switches_along (entry ∷ path.rest)) good.good.distinct) path.ended path.ends goes

module _ (t : Task) (k : ℕ) (class : Class) (labels : List Label) (found : Outcome) where
  stray_only : (version : Bool) (s r : SwitchId) → StraysBy t k class labels version found s → StraysBy t k class labels version found r → r ≡ s
  stray_only version s r a b =
      let tables = tables_of (rollout t) t.update.new version in
      let e : Go b.next ≡ Go a.next = sym b.is ∙ a.is in
      let next : b.next ≡ a.next = cc in
      let g : Go b.first ≡ Go a.first = sym b.goes ∙ a.goes in
      let first : b.first ≡ a.first = cc in
      stray_one (rollout t) k class.first tables a.first a.next.vlan s r a.stray
      (subst (λ p. IsFirstStray (rollout t) k class.first tables a.first p.vlan r) next (subst (λ p. IsFirstStray (rollout t) k class.first tables p b.next.vlan r) first b.stray))

  stray_not : (version : Bool) (s : SwitchId) → KeepsOn (rollout t) k class.first (tables_of (rollout t) t.update.new version) class.entry found → ¬ StraysBy t k class labels version found s
  stray_not version s keeps a = stray_none (rollout t) k class.first (tables_of (rollout t) t.update.new version) a.first a.next.vlan s a.stray (keeps a.first a.next a.is a.goes)

  -- what an outcome tells of a version says where a packet may stray
  told_least : (version : Bool) (f : Follow) → Tells t k class labels version found f → IsLeastOf (StraysBy t k class labels version found) (astray_at f)
  told_least version Differs tells = λ s a. tells a.agrees
  told_least version Keeps tells = λ s a. stray_not version s tells.1 a
  told_least version (Astray s) tells = record { holds = tells; least = λ r a. let e = ap (λ (x : SwitchId). x.0) (stray_only version s r tells a) in omega arith }

  told_agrees : (version : Bool) (f : Follow) → Tells t k class labels version found f → differs f ≡ false → AgreesAt t class labels version found
  told_agrees version Differs tells e = absurd (let g : true ≡ false = e in cc)
  told_agrees version Keeps tells e = tells.0
  told_agrees version (Astray s) tells e = tells.agrees

  told_differs : (version : Bool) (f : Follow) → Tells t k class labels version found f → differs f ≡ true → ¬ AgreesAt t class labels version found
  told_differs version Differs tells e = tells
  told_differs version Keeps tells e = absurd (let g : false ≡ true = e in cc)
  told_differs version (Astray s) tells e = absurd (let g : false ≡ true = e in cc)

  told_keeps : (version : Bool) (f : Follow) → Tells t k class labels version found f → astray_at f ≡ None → AgreesAt t class labels version found
      → KeepsOn (rollout t) k class.first (tables_of (rollout t) t.update.new version) class.entry found
  told_keeps version Differs tells e agrees = absurd (tells agrees)
  told_keeps version Keeps tells e agrees = tells.1
  told_keeps version (Astray s) tells e agrees = absurd (let g : Some s ≡ None = e in cc)

  one_false : (a b : Bool) → (a && b) ≡ false → (a ≡ false) ⊎ (b ≡ false)
  one_false true b e = inr e
  one_false false b e = inl refl

  both_true : (a b : Bool) → (a && b) ≡ true → (a ≡ true) × (b ≡ true)
  both_true true b e = (refl, e)
  both_true false b e = absurd (let g : false ≡ true = e in cc)

  module _ (old new : Follow) (old_told : Tells t k class labels false found old) (new_told : Tells t k class labels true found new) where
    some_agrees : (differs old && differs new) ≡ false → (version : Bool) × AgreesAt t class labels version found
    some_agrees e =
        elim (one_false (differs old) (differs new) e) [
          | inl a ↦ (false, told_agrees false old old_told a)
          | inr b ↦ (true, told_agrees true new new_told b)
        ]

    none_agrees : (differs old && differs new) ≡ true → (version : Bool) → ¬ AgreesAt t class labels version found
    none_agrees e true = told_differs true new new_told (both_true (differs old) (differs new) e).1
    none_agrees e false = told_differs false old old_told (both_true (differs old) (differs new) e).0

    astray_least : (version : Bool) × AgreesAt t class labels version found → IsLeastOf (MixesBy t k class labels found) (lesser (astray_at old) (astray_at new))
    astray_least agrees =
        least_iff (λ s. StraysBy t k class labels false found s ⊎ StraysBy t k class labels true found s) (MixesBy t k class labels found) (lesser (astray_at old) (astray_at new))
        (λ s h. elim h [ inl x ↦ inr (false, x) | inr y ↦ inr (true, y) ])
        (λ s h. elim h [ inl x ↦ absurd (x.1 agrees.0 agrees.1) | inr y ↦ sorted s y.0 y.1 ])
        (least_two (StraysBy t k class labels false found) (StraysBy t k class labels true found) (astray_at old) (astray_at new) (told_least false old old_told) (told_least true new new_told))
      where
        sorted : (s : SwitchId) (version : Bool) → StraysBy t k class labels version found s → StraysBy t k class labels false found s ⊎ StraysBy t k class labels true found s
        sorted s true x = inr x
        sorted s false x = inl x

    -- the least switch where the outcome mixes the versions
    pub mixed_least : IfSome (least_of class.entry.switch old new) (IsLeastSwitch (MixesBy t k class labels found))
    mixed_least =
        cond_both (differs old && differs new) (Some class.entry.switch) (lesser (astray_at old) (astray_at new)) (λ o. IfSome o (IsLeastSwitch (MixesBy t k class labels found)))
        (λ e. record {
          holds = inl (refl, none_agrees e);
          least = λ r h. elim h [
            | inl x ↦ (let same = ap (λ (s : SwitchId). s.0) x.0 in omega arith)
            | inr y ↦ absurd (none_agrees e y.0 y.1.agrees)
          ];
        })
        (λ e. some_of (lesser (astray_at old) (astray_at new)) (astray_least (some_agrees e)))
      where
        some_of : (o : Option SwitchId) → IsLeastOf (MixesBy t k class labels found) o → IfSome o (IsLeastSwitch (MixesBy t k class labels found))
        some_of None h = tt
        some_of (Some s) h = h

    no_lesser : (a b : Option SwitchId) → lesser a b ≡ None → (a ≡ None) × (b ≡ None)
    no_lesser None None e = (refl, refl)
    no_lesser None (Some y) e = absurd (let g : Some y ≡ None = e in cc)
    no_lesser (Some x) None e = absurd (let g : Some x ≡ None = e in cc)
    no_lesser (Some x) (Some y) e = absurd (let g : Some (if nat_lt y.0 x.0 then y else x) ≡ None = e in cc)

    keeps_each : lesser (astray_at old) (astray_at new) ≡ None → (version : Bool) → AgreesAt t class labels version found → KeepsOn (rollout t) k class.first (tables_of (rollout t) t.update.new version) class.entry found
    keeps_each e true agrees = told_keeps true new new_told (no_lesser (astray_at old) (astray_at new) e).1 agrees
    keeps_each e false agrees = told_keeps false old old_told (no_lesser (astray_at old) (astray_at new) e).0 agrees

    -- or it keeps to a version
    pub mixed_kept : IfNone (least_of class.entry.switch old new) (IsVersionKept t k class labels found)
    mixed_kept =
        cond_both (differs old && differs new) (Some class.entry.switch) (lesser (astray_at old) (astray_at new)) (λ o. IfNone o (IsVersionKept t k class labels found))
        (λ e. tt)
        (λ e. none_of (lesser (astray_at old) (astray_at new)) (λ none. record { agrees = some_agrees e; keeps = keeps_each none }))
      where
        none_of : (o : Option SwitchId) → (o ≡ None → IsVersionKept t k class labels found) → IfNone o (IsVersionKept t k class labels found)
        none_of None h = h refl
        none_of (Some s) h = tt

-- an outcome that goes on as the version's does, after which a packet keeps to the version's path
pub tells_keeps : (t : Task) (k : ℕ) (class : Class) (labels : List Label) (version : Bool) (found : Outcome) (next first : Place) → found ≡ Go next
    → outcome_in t.update.net (tables_of (rollout t) t.update.new version) class.entry class.first ≡ Go first
    → AgreesWith (outcome_in t.update.net (tables_of (rollout t) t.update.new version) class.entry class.first) labels version class.entry.vlan found
    → KeepsPath (rollout t) k class.first (tables_of (rollout t) t.update.new version) first next.vlan → Tells t k class labels version found Keeps
tells_keeps t k class labels version found next first is goes agrees keeps = (
  record { tag = agrees.tag; same = agrees.same; labelled = agrees.labelled },
  λ other_first other_next other_is other_goes.
      let e : Go next ≡ Go other_next = sym is ∙ other_is in
      let same_next : next ≡ other_next = cc in
      let g : Go first ≡ Go other_first = sym goes ∙ other_goes in
      let same_first : first ≡ other_first = cc in
      subst (λ p. KeepsPath (rollout t) k class.first (tables_of (rollout t) t.update.new version) other_first p.vlan) same_next
      (subst (λ p. KeepsPath (rollout t) k class.first (tables_of (rollout t) t.update.new version) p next.vlan) same_first keeps),
)

module _ (t : Task) (k : ℕ) (class : Class) (labels : List Label) where
  kept_not : (found : Outcome) (s : SwitchId) → IsVersionKept t k class labels found → ¬ MixesBy t k class labels found s
  kept_not found s kept h =
      elim h [
        | inl x ↦ x.1 kept.agrees.0 kept.agrees.1
        | inr (version, a) ↦ stray_not t k class labels found version s (kept.keeps version a.agrees) a
      ]

  -- the least switch where one of these outcomes mixes the versions, or each keeps to one
  pub record IsLeastAmong (list : List Outcome) (o : Option SwitchId) : Type 0 where
    pub none : IfNone o (AllByRecursion (IsVersionKept t k class labels) list)
    pub some : IfSome o (IsLeastSwitch (MixesAmong t k class labels list))

  among_least : (list : List Outcome) (o : Option SwitchId) → IsLeastAmong list o → IsLeastOf (MixesAmong t k class labels list) o
  among_least list None so = λ s (found, i, h). kept_not found s (each_at (IsVersionKept t k class labels) list found so.none i) h
  among_least list (Some s) so = so.some

  one_least : (found : Outcome) (o : Option SwitchId) → IfNone o (IsVersionKept t k class labels found) → IfSome o (IsLeastSwitch (MixesBy t k class labels found)) → IsLeastOf (MixesBy t k class labels found) o
  one_least found None none some = λ s h. kept_not found s none h
  one_least found (Some s) none some = some

  -- one outcome more
  pub among_push : (list : List Outcome) (found : Outcome) (a b : Option SwitchId) → IsLeastAmong list a → IfNone b (IsVersionKept t k class labels found)
      → IfSome b (IsLeastSwitch (MixesBy t k class labels found)) → IsLeastAmong (list ++ found ∷ []) (lesser a b)
  among_push list found a b so none some = record {
    none = none_both a b so.none none;
    some = some_of (lesser a b)
        (least_iff (λ s. MixesAmong t k class labels list s ⊎ MixesBy t k class labels found s) (MixesAmong t k class labels (list ++ found ∷ [])) (lesser a b)
        (λ s h. elim h [
          | inl (other, i, x) ↦ (other, in_append_left other list (found ∷ []) i, x)
          | inr x ↦ (found, in_append_right found list (found ∷ []) (inl refl), x)
        ])
        (λ s (other, i, x). elim (in_append_cases other list (found ∷ []) i) [
          | inl j ↦ inl (other, j, x)
          | inr j ↦ elim j [ inl e ↦ inr (subst (λ f. MixesBy t k class labels f s) e x) | inr none ↦ absurd none ]
        ])
        (least_two (MixesAmong t k class labels list) (MixesBy t k class labels found) a b (among_least list a so) (one_least found b none some)));
  }
    where
      none_both : (x y : Option SwitchId) → IfNone x (AllByRecursion (IsVersionKept t k class labels) list) → IfNone y (IsVersionKept t k class labels found)
          → IfNone (lesser x y) (AllByRecursion (IsVersionKept t k class labels) (list ++ found ∷ []))
      none_both None None p q = each_append (IsVersionKept t k class labels) list (found ∷ []) p (q, tt)
      none_both None (Some y) p q = tt
      none_both (Some x) None p q = tt
      none_both (Some x) (Some y) p q = tt

      some_of : (o : Option SwitchId) → IsLeastOf (MixesAmong t k class labels (list ++ found ∷ [])) o → IfSome o (IsLeastSwitch (MixesAmong t k class labels (list ++ found ∷ [])))
      some_of None h = tt
      some_of (Some s) h = h

  -- one more of a list
  pub among_more : (list : List Outcome) (i : ℕ) (d : Outcome) (a b : Option SwitchId) → i < length list → IsLeastAmong (take i list) a → IfNone b (IsVersionKept t k class labels (get_or list i d))
      → IfSome b (IsLeastSwitch (MixesBy t k class labels (get_or list i d))) → IsLeastAmong (take (i + 1) list) (lesser a b)
  among_more list i d a b within so none some =
      subst (λ xs. IsLeastAmong xs (lesser a b)) (sym (take_more list i d within)) (among_push (take i list) (get_or list i d) a b so none some)

  -- of all possible outcomes
  module _ (list : List Outcome) (all : AreAllFound (rollout t) k class.first class.entry list) (o : Option SwitchId) (so : IsLeastAmong list o) where
    pub class_kept : IfNone o (KeepsVersions t k class labels)
    class_kept = kept o so
      where
        kept : (x : Option SwitchId) → IsLeastAmong list x → IfNone x (KeepsVersions t k class labels)
        kept None h = λ found possible. each_at (IsVersionKept t k class labels) list found h.none ((all found).1 possible)
        kept (Some s) h = tt

    mixes_to : (s : SwitchId) → MixesAmong t k class labels list s → MixesAt t k class labels s
    mixes_to s (found, i, inl (e, neither)) = inl (e, record { found = found; possible = (all found).0 i; agrees_not = neither })
    mixes_to s (found, i, inr (version, a)) =
        inr (record {
          next = a.next;
          first = a.first;
          rest = a.stray.rest;
          version = version;
          possible = subst (λ f. IsPossible (rollout t) k class.first class.entry f) a.is ((all found).0 i);
          agrees = subst (AgreesAt t class labels version) a.is a.agrees;
          goes = a.goes;
          walk = a.stray.walk;
          strays = a.stray.strays;
          at_is = a.stray.at_is;
          none_earlier = a.stray.none_earlier;
        })

    mixes_from : (s : SwitchId) → MixesAt t k class labels s → MixesAmong t k class labels list s
    mixes_from s (inl (e, h)) = (h.found, (all h.found).1 h.possible, inl (e, h.agrees_not))
    mixes_from s (inr h) = (
      Go h.next,
      (all (Go h.next)).1 h.possible,
      inr (
        h.version,
        record {
          next = h.next;
          first = h.first;
          is = refl;
          agrees = h.agrees;
          goes = h.goes;
          stray = record { rest = h.rest; walk = h.walk; strays = h.strays; at_is = h.at_is; none_earlier = h.none_earlier };
        },
      ),
    )

    pub class_least : IfSome o (IsLeastSwitch (MixesAt t k class labels))
    class_least = least o so
      where
        least : (x : Option SwitchId) → IsLeastAmong list x → IfSome x (IsLeastSwitch (MixesAt t k class labels))
        least None h = tt
        least (Some s) h = record { holds = mixes_to s h.some.holds; least = λ r m. h.some.least r (mixes_from r m) }
