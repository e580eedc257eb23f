-- Rounds in which the same may become of a class, and a class that no change of a round meets.
use Rattle.std.proofs.Common.{◌≡◌, ◌↔◌, ℕ, suc, ◌<◌, Bool, true, false, IsTrue, List, [], ◌∷◌, length, sym, ◌∙◌, ap, refl, subst, inl, inr, arith}
use Rattle.std.specs.Prelude.{◌==◌, ◌&&◌, ◌||◌}
use Rattle.std.specs.List.{AllByRecursion, list_any}
use Rattle.std.proofs.lemmas.Bool.{both_ways, and_from, or_parts, eqb-true, cond-false}
use Rattle.net_base.specs.Members.{IsIn, IsSameSet, IsSubsequence}
use Rattle.net_base.specs.Blocks.{in_block}
use Rattle.net_base.specs.declared.ids.Place.{Place}
use Rattle.net_base.specs.declared.ids.SwitchId.{SwitchId}
use Rattle.net_base.proofs.MemberLaws.{IsSubsequence_refl, each_from_in, in_from_filter}
use Rattle.topology.specs.Networks.{Network, IsNetwork, switch_count}
use Rattle.flow_rules.specs.Patterns.{Header, covers, admits_vlan}
use Rattle.flow_rules.specs.Tables.{IsClear, rules_at}
use Rattle.flow_rules.specs.declared.rules.Rule.{Rule}
use Rattle.path_walk.specs.Outcomes.{header_at}
use Rattle.path_walk.specs.Paths.{outcome_in}
use Rattle.path_walk.specs.declared.Outcome.{Outcome}
use Rattle.dest_classes.specs.declared.Class.{Class}
use Rattle.demands.specs.Duties.{PacketDuties}
use Rattle.update_model.specs.Changes.{switch_of, rule_of, changes_at, round_after, rules_after, IsGoodRound}
use Rattle.update_model.specs.Mixtures.{Rollout, tables_before, MayBe, MayHold, IsPossible, IsOnMixedWalk}
use Rattle.update_model.specs.declared.Change.{Change}
use Rattle.update_model.proofs.OneRoundLaws.{next_tables}
use Rattle.certificates.specs.Ordered.{IsSafe}
use Rattle.certificates.proofs.Untouched.{NoneCovers, unchanged_at}
use Rattle.check_reasons.specs.Touched.{touches, may_cover}
use Rattle.check_reasons.proofs.TouchLaws.{not_covered}
use Rattle.check_reasons.proofs.SameWalks.{was_on_walk, was_safe, same_on_walk, same_safe}
use Rattle.mixed_walks.specs.Walks.{KeepVlansUpTo, TablesKeepVlans}
use Rattle.mixed_walks.proofs.PlaceLaws.{on_walk_in, on_walk_vlan, places_within}
use Rattle.net_base.specs.Switches.{has, most_switches}
use Rattle.class_watch.specs.Walks.{HoldsWalks, at_rest, HoldsTables, meets, meets_any}
use Rattle.class_watch.specs.Alike.{covering_changes, AreAlike}
use Rattle.class_watch.proofs.CoveringLaws.{possible_by_covering}

-- ---- rounds in which the same covers packets of a class

module _ (u v : Rollout) (k j : ℕ) (class : Class) (alike : AreAlike u k v j class) where
  agree : (place : Place) → IsOnMixedWalk u k class.first class.entry place → (found : Outcome) → IsPossible v j class.first place found ↔ IsPossible u k class.first place found
  agree place on found =
      let at = alike.each place on in
      let us = rules_at (tables_before u k) place.switch in
      let vs = rules_at (tables_before v j) place.switch in
      let cs = changes_at place.switch (round_after k u.rounds) in
      let ds = changes_at place.switch (round_after j v.rounds) in (
        λ may. possible_by_covering u.net place class.first vs us (sym at.rules) ds cs (sym at.changes) found (subst (λ (n : Network). MayBe n vs ds place class.first found) (sym alike.net) may),
        λ may. subst (λ (n : Network). MayBe n vs ds place class.first found) alike.net (possible_by_covering u.net place class.first us vs at.rules cs ds at.changes found may),
      )

  pub alike_walks : (place : Place) → IsOnMixedWalk v j class.first class.entry place ↔ IsOnMixedWalk u k class.first class.entry place
  alike_walks = same_on_walk u v k j class.first class.entry agree

  pub alike_safe : (duties : PacketDuties) (numbers : List ℕ) (sets : List (List ℕ)) → IsSafe v j class.first class.entry duties numbers sets ↔ IsSafe u k class.first class.entry duties numbers sets
  alike_safe = same_safe u v k j class.first class.entry agree

-- ---- what is possible between rounds

-- without changes a mixture is the table
mixed_alone : (made : List Change) (table mixed : List Rule) → made ≡ [] → IsSameSet mixed (rules_after made table) → IsSameSet mixed table
mixed_alone made table mixed none same = subst (λ cs. IsSameSet mixed (rules_after cs table)) none same

none_made : (made : List Change) → IsSubsequence made [] → made ≡ []
none_made [] some = refl
none_made (c ∷ made) some = absurd some

-- what is possible in the tables before a round is possible in it
pub possible_rest : (u : Rollout) (k dst : ℕ) (place : Place) (found : Outcome) → IsPossible (at_rest u.net (tables_before u k)) 0 dst place found → IsPossible u k dst place found
possible_rest u k dst place found may =
    let table = rules_at (tables_before u k) place.switch in
    record {
      mixed = may.mixed;
      held = record { made = []; some = tt; same = mixed_alone may.held.made table may.mixed (none_made may.held.made may.held.some) may.held.same };
      is = may.is;
    }

-- what is possible in the tables after a round is possible in it
pub possible_next : (u : Rollout) (k dst : ℕ) → k < length u.rounds → IsGoodRound (tables_before u k) (round_after k u.rounds)
    → (place : Place) (found : Outcome) → IsPossible (at_rest u.net (tables_before u (suc k))) 0 dst place found → IsPossible u k dst place found
possible_next u k dst less good place found may =
    let table = rules_at (tables_before u (suc k)) place.switch in
    let made = changes_at place.switch (round_after k u.rounds) in
    let same = mixed_alone may.held.made table may.mixed (none_made may.held.made may.held.some) may.held.same in
    record {
      mixed = may.mixed;
      held = record { made = made; some = IsSubsequence_refl made; same = subst (IsSameSet may.mixed) (next_tables u k less good place.switch) same };
      is = may.is;
    }

-- walks in the tables before a round are walks in it
pub walk_before : (u : Rollout) (k : ℕ) (class : Class) (place : Place) → IsOnMixedWalk (at_rest u.net (tables_before u k)) 0 class.first class.entry place → IsOnMixedWalk u k class.first class.entry place
walk_before u k class place on = was_on_walk u (at_rest u.net (tables_before u k)) k 0 class.first class.entry (λ p _ found. possible_rest u k class.first p found) place on

module _ (u : Rollout) (k : ℕ) (class : Class) (less : k < length u.rounds) (good : IsGoodRound (tables_before u k) (round_after k u.rounds)) where
  -- and so are walks in the tables after it
  pub walk_after : (place : Place) → IsOnMixedWalk (at_rest u.net (tables_before u (suc k))) 0 class.first class.entry place → IsOnMixedWalk u k class.first class.entry place
  walk_after place on = was_on_walk u (at_rest u.net (tables_before u (suc k))) k 0 class.first class.entry (λ p _ found. possible_next u k class.first less good p found) place on

  -- what keeps a class safe in a round keeps it safe after it
  pub safe_after : (duties : PacketDuties) (numbers : List ℕ) (sets : List (List ℕ)) → IsSafe u k class.first class.entry duties numbers sets
      → IsSafe (at_rest u.net (tables_before u (suc k))) 0 class.first class.entry duties numbers sets
  safe_after = was_safe u (at_rest u.net (tables_before u (suc k))) k 0 class.first class.entry (λ p _ found. possible_next u k class.first less good p found)

module _ (u : Rollout) (k : ℕ) (class : Class) (set : ℕ) (held : HoldsWalks u k class set) where
  -- a set that holds the mixed walks of a round holds where packets come to before it
  pub held_before : HoldsTables u.net (tables_before u k) class set
  held_before place on = held place (walk_before u k class place on)

  -- and after it
  pub held_after : k < length u.rounds → IsGoodRound (tables_before u k) (round_after k u.rounds) → HoldsTables u.net (tables_before u (suc k)) class set
  held_after less good place on = held place (walk_after u k class less good place on)

-- ---- a class that no change of a round meets

none_of : {A : Type 0} (p : A → Bool) (xs : List A) (x : A) → list_any p xs ≡ false → IsIn x xs → p x ≡ false
none_of p [] x off i = absurd i
none_of p (y ∷ ys) x off (inl e) = ap p e ∙ (or_parts (p y) (list_any p ys) off).0
none_of p (y ∷ ys) x off (inr i) = none_of p ys x (or_parts (p y) (list_any p ys) off).1 i

-- a change that isn't at a switch of the set, or covers no packet of the class, covers none at a switch of the set
misses : (c : Change) (class : Class) (set : ℕ) (place : Place) → place.vlan ≡ class.entry.vlan → IsTrue (has set place.switch) → (switch_of c).0 ≡ place.switch.0
    → meets c class set ≡ false → covers (rule_of c).key.pattern (header_at place class.first) ≡ false
misses c class set place vlan there here off =
    let at : has set (switch_of c) ≡ true = subst (λ n. has set (record { 0 = n }) ≡ true) (sym here) there in
    not_covered c class place vlan (λ covered. both_ways (may_cover c class && has set (switch_of c)) off (and_from (may_cover c class) (has set (switch_of c)) covered at))

-- where no change covers a header, none of them is among those that do
none_covering : (h : Header) (changes : List Change) → AllByRecursion (λ c. covers (rule_of c).key.pattern h ≡ false) changes → covering_changes h changes ≡ []
none_covering h [] off = refl
none_covering h (c ∷ changes) off =
    cond-false (covers (rule_of c).key.pattern h) (c ∷ covering_changes h changes) (covering_changes h changes) off.0 ∙ none_covering h changes off.1

module _ (u : Rollout) (k : ℕ) (class : Class) (set : ℕ) (held : HoldsTables u.net (tables_before u k) class set)
    (vlan : (place : Place) → IsOnMixedWalk (at_rest u.net (tables_before u k)) 0 class.first class.entry place → place.vlan ≡ class.entry.vlan)
    (off : meets_any (round_after k u.rounds) class set ≡ false) where
  abbrev rest : Rollout
  rest = at_rest u.net (tables_before u k)

  pub none_covers : (place : Place) → IsOnMixedWalk rest 0 class.first class.entry place → NoneCovers u k class.first place
  none_covers place on =
      each_from_in (λ c. covers (rule_of c).key.pattern (header_at place class.first) ≡ false) (changes_at place.switch (round_after k u.rounds)) (λ c i.
      let (in_round, here) = in_from_filter (λ d. (switch_of d).0 == place.switch.0) c (round_after k u.rounds) i in
      misses c class set place (vlan place on) (held place on) (eqb-true (switch_of c).0 place.switch.0 here) (none_of (λ d. meets d class set) (round_after k u.rounds) c off in_round))

  alike_rest : AreAlike rest 0 u k class
  alike_rest = record {
    net = refl;
    each = λ place on. record { rules = refl; changes = sym (none_covering (header_at place class.first) (changes_at place.switch (round_after k u.rounds)) (none_covers place on)) };
  }

  -- its mixed walks in the round are those in the tables before
  pub walks_rest : (place : Place) → IsOnMixedWalk u k class.first class.entry place → IsOnMixedWalk rest 0 class.first class.entry place
  walks_rest place on = (alike_walks rest u 0 k class alike_rest place).0 on

  pub walks_still : HoldsWalks u k class set
  walks_still place on = held place (walks_rest place on)

  -- and what keeps it safe before the round does in it
  pub safe_still : (duties : PacketDuties) (numbers : List ℕ) (sets : List (List ℕ)) → IsSafe rest 0 class.first class.entry duties numbers sets → IsSafe u k class.first class.entry duties numbers sets
  safe_still duties numbers sets = (alike_safe rest u 0 k class alike_rest duties numbers sets).1

-- where packets keep their VLANs up to a round
pub vlan_before : (u : Rollout) (k : ℕ) (class : Class) → TablesKeepVlans u.old → KeepVlansUpTo u k
    → (place : Place) → IsOnMixedWalk (at_rest u.net (tables_before u k)) 0 class.first class.entry place → place.vlan ≡ class.entry.vlan
vlan_before u k class keeps_old keeps place on = on_walk_vlan u k class.first class.entry keeps_old keeps place (walk_before u k class place on)

-- ---- a class that no change of a round meets on the walks of the round before

module _ (u : Rollout) (k : ℕ) (class : Class) (set : ℕ) (next : suc k < length u.rounds) (good : IsGoodRound (tables_before u k) (round_after k u.rounds))
    (keeps_old : TablesKeepVlans u.old) (keeps : KeepVlansUpTo u k) (held : HoldsWalks u k class set) (off : meets_any (round_after (suc k) u.rounds) class set ≡ false) where
  less : k < length u.rounds
  less = omega arith

  there : HoldsTables u.net (tables_before u (suc k)) class set
  there = held_after u k class set held less good

  vlan_after : (place : Place) → IsOnMixedWalk (at_rest u.net (tables_before u (suc k))) 0 class.first class.entry place → place.vlan ≡ class.entry.vlan
  vlan_after place on = on_walk_vlan u k class.first class.entry keeps_old keeps place (walk_after u k class less good place on)

  pub next_walks : (place : Place) → IsOnMixedWalk u (suc k) class.first class.entry place → IsOnMixedWalk u k class.first class.entry place
  next_walks place on = walk_after u k class less good place (walks_rest u (suc k) class set there vlan_after off place on)

  pub next_held : HoldsWalks u (suc k) class set
  next_held = walks_still u (suc k) class set there vlan_after off

  pub next_safe : (duties : PacketDuties) (numbers : List ℕ) (sets : List (List ℕ)) → IsSafe u k class.first class.entry duties numbers sets → IsSafe u (suc k) class.first class.entry duties numbers sets
  next_safe duties numbers sets safe = safe_still u (suc k) class set there vlan_after off duties numbers sets (safe_after u k class less good duties numbers sets safe)

  pub next_outcomes : IsGoodRound (tables_before u (suc k)) (round_after (suc k) u.rounds) → ((s : SwitchId) (mixed : List Rule) → MayHold u (suc k) s mixed → IsClear mixed)
      → (place : Place) → IsOnMixedWalk u (suc k) class.first class.entry place → (found : Outcome) → IsPossible u (suc k) class.first place found
      ↔ (found ≡ outcome_in u.net (tables_before u (suc k)) place class.first)
  next_outcomes good_next clear place on found =
      unchanged_at u (suc k) class.first good_next clear place (none_covers u (suc k) class set there vlan_after off place (walks_rest u (suc k) class set there vlan_after off place on)) found

-- ---- where nothing is touched

-- where no change of a round covers the address of a class, none meets it
pub untouched_walk : (round : List Change) (class : Class) (set : ℕ) → touches round class.first ≡ false → meets_any round class set ≡ false
untouched_walk [] class set off = refl
untouched_walk (c ∷ round) class set off =
    let (here, rest) = or_parts (in_block ((rule_of c).key.pattern.dst) class.first) (touches round class.first) off in
    ap (λ b. ((b && admits_vlan (rule_of c).key.pattern.vlan class.entry.vlan) && has set (switch_of c)) || meets_any round class set) here ∙ untouched_walk round class set rest

-- the set of all of 128 switches holds where packets of each class come to
pub all_held : (net : Network) (tables : List (List Rule)) (class : Class) (set : ℕ) → IsNetwork net → TablesKeepVlans tables → class.entry.switch.0 < switch_count net
    → ((s : SwitchId) → s.0 < most_switches → IsTrue (has set s)) → HoldsTables net tables class set
all_held net tables class set is keeps within all place on =
    let there = places_within net class.entry is within place (on_walk_in (at_rest net tables) 0 class.first class.entry keeps (λ j le. tt) place on) in
    all place.switch (let few = is.few in omega arith)
