-- How many rules a table comes to have, and how many entries it needs, as the rounds insert.
use Rattle.std.proofs.Common.{◌≡◌, ℕ, zero, suc, ◌+◌, ◌<◌, ◌≤◌, true, false, cond, List, [], ◌∷◌, ◌++◌, length, refl, ◌∙◌, ap, inl, inr, arith, length-append}
use Rattle.std.specs.Prelude.{◌==◌, filter, flat_map, min, Option, Some, None, IsSome, IsSomeAnd, Result, Ok, Err, IfOk}
use Rattle.std.proofs.lemmas.Bool.{cases_lt}
use Rattle.std.proofs.lemmas.List.{set_past}
use Rattle.std.proofs.lemmas.List.Elements.{filter-append}
use Rattle.net_base.specs.declared.ids.SwitchId.{SwitchId}
use Rattle.flow_rules.specs.Tables.{rules_at}
use Rattle.flow_rules.specs.declared.rules.Rule.{Rule}
use Rattle.topology.specs.Networks.{capacity_of}
use Rattle.update_model.specs.Changes.{switch_of, rules_after_change, tables_after_change, tables_after, settled_tables, changes_at, round_after}
use Rattle.update_model.specs.Mixtures.{Rollout, entries_needed, is_insert}
use Rattle.update_model.specs.declared.Change.{Change}
use Rattle.update_model.proofs.ChangeLaws.{rules_at-after_change}
use Rattle.round_mix.specs.Prepared.{IsPrepared}
use Rattle.round_mix.specs.declared.MarkedRule.{MarkedRule}
use Rattle.round_tables.specs.PreparedTables.{PreparedState, HoldsRounds, HasTableRoom, HasRoomForAll, limit_at}
use Rattle.round_tables.specs.Loading.{insert_count, inserts_over}
use Rattle.round_tables.proofs.ApplyLaws.{after_few}

-- the inserts of changes and of more are those of both
pub inserts-append : (xs ys : List Change) → insert_count (xs ++ ys) ≡ insert_count xs + insert_count ys
inserts-append xs ys = ap length (filter-append is_insert xs ys) ∙ length-append (filter is_insert xs) (filter is_insert ys)

-- so at each switch
pub inserts_at-append : (xs ys : List Change) (s : SwitchId) → insert_count (changes_at s (xs ++ ys)) ≡ insert_count (changes_at s xs) + insert_count (changes_at s ys)
inserts_at-append xs ys s =
    ap insert_count (filter-append (λ (c : Change). (switch_of c).0 == s.0) xs ys) ∙ inserts-append (changes_at s xs) (changes_at s ys)

-- a change gives a table one more rule at most, and only where it inserts there
change_few : (c : Change) (tables : List (List Rule)) (s : SwitchId)
    → length (rules_at (tables_after_change c tables) s) ≤ length (rules_at tables s) + insert_count (changes_at s (c ∷ []))
change_few c tables s =
    elim (cases_lt (switch_of c).0 (length tables)) [
      | inl within ↦ elim ((switch_of c).0 == s.0) as (λ b. length (rules_at (tables_after_change c tables) s)
          ≡ length (cond b (rules_after_change c (rules_at tables s)) (rules_at tables s))
          → length (rules_at (tables_after_change c tables) s) ≤ length (rules_at tables s) + insert_count (cond b (c ∷ []) [])) [
            | true ↦ λ e. (let few = after_few c (rules_at tables s) [] in omega arith)
            | false ↦ λ e. omega arith
          ] (ap length (rules_at-after_change c tables s within))
      | inr past ↦ (
          let same = ap (λ (ts : List (List Rule)). length (rules_at ts s)) (set_past tables (switch_of c).0 (rules_after_change c (rules_at tables (switch_of c))) past) in
          omega arith)
    ]

-- changes give it no more rules than they insert there
round_few : (cs : List Change) (tables : List (List Rule)) (s : SwitchId) → length (rules_at (tables_after cs tables) s) ≤ length (rules_at tables s) + insert_count (changes_at s cs)
round_few [] tables s = omega arith
round_few (c ∷ cs) tables s =
    let rest = round_few cs (tables_after_change c tables) s in
    let first = change_few c tables s in
    let parts = inserts_at-append (c ∷ []) cs s in
    omega arith

-- in no round it needs more entries than it has rules before the rounds and these insert there
pub need_few : (rounds : List (List Change)) (k : ℕ) (tables : List (List Rule)) (s : SwitchId)
    → entries_needed (rules_at (settled_tables rounds k tables) s) (changes_at s (round_after k rounds)) ≤ length (rules_at tables s) + inserts_over rounds s
need_few [] k tables s = omega arith
need_few (r ∷ rounds) zero tables s = let parts = inserts-append (changes_at s r) (flat_map (changes_at s) rounds) in omega arith
need_few (r ∷ rounds) (suc k) tables s =
    let rest = need_few rounds k (tables_after r tables) s in
    let first = round_few r tables s in
    let parts = inserts-append (changes_at s r) (flat_map (changes_at s) rounds) in
    omega arith

-- as many rules as a switch has before the update and the rounds insert there
abbrev pub most_rules : Rollout → SwitchId → ℕ
most_rules u s = length (rules_at u.old s) + inserts_over u.rounds s

-- so much room is enough for all
pub has_room_for_all : (u : Rollout) (p : PreparedState) → HoldsRounds (length u.old) u.rounds p
    → ((s : SwitchId) → s.0 < length u.old → limit_at p.limits s ≡ most_rules u s) → HasRoomForAll u p
has_room_for_all u p holds limits = record {
  holds = holds;
  for_old = λ s less. let is = limits s less in omega arith;
  for_rounds = λ s k less. let is = limits s less in let few = need_few u.rounds k u.old s in omega arith;
}

-- and up to the capacities where no limit exceeds these
pub has_room : (u : Rollout) (p : PreparedState) → HoldsRounds (length u.old) u.rounds p
    → ((s : SwitchId) → s.0 < length u.old → limit_at p.limits s ≡ min (most_rules u s) (capacity_of u.net s)) → HasTableRoom u p
has_room u p holds limits = record {
  holds = holds;
  for_old = λ s less. let is = limits s less in omega arith;
  for_rounds = λ s k less. let is = limits s less in let few = need_few u.rounds k u.old s in omega arith;
}

-- what is prepared for something is prepared
pub some_mixed : (rules : List Rule) (changes : List Change) (o : Option (List MarkedRule)) → IsSomeAnd o (IsPrepared rules changes) → IsSome o
some_mixed rules changes None h = absurd h
some_mixed rules changes (Some marks) h = refl

-- what follows from two facts of a value, where there is one
pub both_ok : {T E : Type 0} (r : Result T E) (P Q R : T → Type 0) → ((v : T) → P v → Q v → R v) → IfOk r P → IfOk r Q → IfOk r R
both_ok (Ok v) P Q R f p q = f v p q
both_ok (Err e) P Q R f p q = p
