-- The tables and their room after the changes of a round.
use Rattle.std.proofs.Common.{◌≡◌, ◌≢◌, ℕ, suc, ◌+◌, ◌<◌, ◌≤◌, Bool, true, false, not, cond, List, [], ◌∷◌, length, refl, sym, ◌∙◌, subst, ap, inl, inr, arith, length-append}
use Rattle.std.specs.Prelude.{filter, ◌==◌}
use Rattle.std.specs.List.{AllByRecursion}
use Rattle.std.proofs.lemmas.Bool.{ne_eqb, cases_eq, cond-false}
use Rattle.std.proofs.lemmas.List.{length-map}
use Rattle.net_base.proofs.MemberLaws.{in_map}
use Rattle.net_base.specs.declared.ids.SwitchId.{SwitchId}
use Rattle.flow_rules.specs.Patterns.{key_eq}
use Rattle.flow_rules.specs.Tables.{TableState, IsTable, rules_at, rules_of_all}
use Rattle.flow_rules.specs.declared.rules.Rule.{Rule}
use Rattle.flow_rules.proofs.TableLaws.{one_less}
use Rattle.update_model.specs.Changes.{switch_of, AppliesTo, rules_after_change, rules_after, spare_after_change, tables_after, changes_at, round_after}
use Rattle.update_model.specs.Mixtures.{Rollout, tables_before, need_of, is_insert}
use Rattle.update_model.specs.declared.Change.{Change}
use Rattle.update_model.specs.declared.Change.TheVariants.{Insert, Delete, Replace}
use Rattle.update_model.proofs.ChangeLaws.{IsWithin, length-tables_after, rules_at-after}
use Rattle.update_model.proofs.RoundLaws.{settled_next}
use Rattle.round_mix.specs.Prepared.{MixedState}
use Rattle.round_tables.specs.PreparedTables.{ChangesState, PreparedState, StandsBefore, IsMixed, is_touched, limit_at, list_at, mix_at, room_of, rules_there, table_at}
use Rattle.round_tables.specs.Loading.{AreSwitchesBelow, insert_count}
use Rattle.round_tables.proofs.TableLaws.{switch_n, rules_in}

-- a change keeps the room of its table in all
pub total_kept : (c : Change) (rules : List Rule) (spare : ℕ) → IsTable rules → AppliesTo rules c → (is_insert c ≡ true → 1 ≤ spare)
    → length (rules_after_change c rules) + spare_after_change c spare ≡ length rules + spare
total_kept (Insert s r) rules spare table applies room =
    let some = room refl in let len = length-append rules (r ∷ []) in omega arith
total_kept (Delete s r) rules spare table applies room =
    let less = one_less r.key rules table (in_map (λ (q : Rule). q.key) r rules applies) in omega arith
total_kept (Replace s r) rules spare table applies room =
    let len = length-map rules (λ q. cond (key_eq q.key r.key) r q) in omega arith

-- the room after the first change is enough for the rest
pub spare_step : (c : Change) (cs : List Change) (spare : ℕ) → insert_count (c ∷ cs) ≤ spare → insert_count cs ≤ spare_after_change c spare
spare_step (Insert s r) cs spare room = omega arith
spare_step (Delete s r) cs spare room = omega arith
spare_step (Replace s r) cs spare room = room

pub after_few : (c : Change) (rules : List Rule) (cs : List Change) → length (rules_after_change c rules) + insert_count cs ≤ length rules + insert_count (c ∷ cs)
after_few (Insert s r) rules cs = let len = length-append rules (r ∷ []) in omega arith
after_few (Delete s r) rules cs = let few = filter_less (λ q. not (key_eq q.key r.key)) rules in omega arith
  where
    filter_less : (p : Rule → Bool) (xs : List Rule) → length (filter p xs) ≤ length xs
    filter_less p [] = omega arith
    filter_less p (x ∷ xs) =
        let rest = filter_less p xs in
        elim (p x) as (λ b. length (cond b (x ∷ filter p xs) (filter p xs)) ≤ suc (length xs)) [ true ↦ omega arith | false ↦ omega arith ]
after_few (Replace s r) rules cs = let len = length-map rules (λ q. cond (key_eq q.key r.key) r q) in omega arith

-- the rules after changes are no more than those before and the inserted ones
pub rules_few : (cs : List Change) (rules : List Rule) → length (rules_after cs rules) ≤ length rules + insert_count cs
rules_few [] rules = omega arith
rules_few (c ∷ cs) rules =
    let rest = rules_few cs (rules_after_change c rules) in
    let first = after_few c rules cs in
    omega arith

-- no changes at a switch beyond the tables
pub none_past : (n : ℕ) (cs : List Change) (s : SwitchId) → AllByRecursion (IsWithin n) cs → n ≤ s.0 → changes_at s cs ≡ []
none_past n [] s within past = refl
none_past n (c ∷ cs) s within past =
    let ne : (switch_of c).0 ≢ s.0 = omega (arith, within.0) in
    cond-false ((switch_of c).0 == s.0) (c ∷ changes_at s cs) (changes_at s cs) (ne_eqb _ _ ne) ∙ none_past n cs s within.1 past

module _ (u : Rollout) (k : ℕ) (less : k < length u.rounds) (within : AreSwitchesBelow (length (tables_before u k)) (round_after k u.rounds)) where
  -- the rules of a switch after the round
  pub rules_next : (s : SwitchId) → rules_at (tables_before u (suc k)) s ≡ rules_after (changes_at s (round_after k u.rounds)) (rules_at (tables_before u k) s)
  rules_next s =
      ap (λ (ts : List (List Rule)). rules_at ts s) (settled_next u.rounds k u.old less) ∙ rules_at-after (round_after k u.rounds) (tables_before u k) s within

  -- after the round its tables stand before the next
  pub stands_next : (q : PreparedState) → rules_of_all q.tables ≡ tables_after (round_after k u.rounds) (tables_before u k)
      → ((s : SwitchId) → s.0 < length u.old → need_of u k s ≤ limit_at q.limits s)
      → ((s : SwitchId) → is_touched q.touched s ≡ false → IsMixed (rules_after (changes_at s (round_after k u.rounds)) (rules_at (tables_before u k) s)) [] (mix_at q.mixes s))
      → StandsBefore u (suc k) q
  stands_next q tables fits alone = record {
    tables = tables ∙ sym (settled_next u.rounds k u.old less);
    fit = λ s in_net.
        let few = rules_few (changes_at s (round_after k u.rounds)) (rules_at (tables_before u k) s) in
        let need = fits s in_net in
        let same = ap length (rules_next s) in
        omega arith;
    same = λ s off. subst (λ (rs : List Rule). IsMixed rs [] (mix_at q.mixes s)) (sym (rules_next s)) (alone s off);
  }

-- the rules of a switch are the same where its table is
pub there_same : (a b : List TableState) (s : SwitchId) → table_at a s ≡ table_at b s → rules_there a s ≡ rules_there b s
there_same a b s e = rules_in a s ∙ ap (λ (t : TableState). t.rules) e ∙ sym (rules_in b s)

-- the table of one more switch is changed, and the others stay
module _ (first old new : List TableState) (lists : List ChangesState) (s : SwitchId) (left : (t : SwitchId) → s.0 ≤ t.0 → table_at old t ≡ table_at first t)
    (others : (t : SwitchId) → t.0 ≢ s.0 → table_at new t ≡ table_at old t) where
  pub done_next : ((t : SwitchId) → t.0 < s.0 → rules_there old t ≡ rules_after (list_at lists t).changes (rules_there first t))
      → rules_there new s ≡ rules_after (list_at lists s).changes (rules_there old s)
      → (t : SwitchId) → t.0 < s.0 + 1 → rules_there new t ≡ rules_after (list_at lists t).changes (rules_there first t)
  done_next done here t less =
      elim (cases_eq s.0 t.0) [
        | inl e ↦ subst (λ (n : ℕ). rules_there new (switch_n n) ≡ rules_after (list_at lists (switch_n n)).changes (rules_there first (switch_n n))) e
            (here ∙ ap (rules_after (list_at lists s).changes) (there_same old first s (left s (omega arith))))
        | inr ne ↦ there_same new old t (others t (λ e. ne (sym e))) ∙ done t (omega arith)
      ]

  pub left_next : (t : SwitchId) → s.0 + 1 ≤ t.0 → table_at new t ≡ table_at first t
  left_next t more = others t (omega arith) ∙ left t (omega arith)

  pub room_each : room_of (table_at new s) ≡ room_of (table_at old s) → ((t : SwitchId) → room_of (table_at old t) ≡ room_of (table_at first t))
      → (t : SwitchId) → room_of (table_at new t) ≡ room_of (table_at first t)
  room_each here room t =
      elim (cases_eq s.0 t.0) [
        | inl e ↦ subst (λ (n : ℕ). room_of (table_at new (switch_n n)) ≡ room_of (table_at old (switch_n n))) e here
        | inr ne ↦ ap room_of (others t (λ e. ne (sym e)))
      ]
      ∙ room t

-- one more switch is prepared for its table after its changes
module _ (tables : List TableState) (lists : List ChangesState) (touched : List Bool) (first old new : List MixedState) (s : SwitchId)
    (others : (t : SwitchId) → t.0 ≢ s.0 → mix_at new t ≡ mix_at old t) where
  pub kept_next : ((t : SwitchId) → t.0 < s.0 → is_touched touched t ≡ false → IsMixed (rules_after (list_at lists t).changes (rules_there tables t)) [] (mix_at old t))
      → (is_touched touched s ≡ false → IsMixed (rules_after (list_at lists s).changes (rules_there tables s)) [] (mix_at new s))
      → (t : SwitchId) → t.0 < s.0 + 1 → is_touched touched t ≡ false → IsMixed (rules_after (list_at lists t).changes (rules_there tables t)) [] (mix_at new t)
  kept_next done here t less =
      elim (cases_eq s.0 t.0) [
        | inl e ↦ subst (λ (n : ℕ). is_touched touched (switch_n n) ≡ false
            → IsMixed (rules_after (list_at lists (switch_n n)).changes (rules_there tables (switch_n n))) [] (mix_at new (switch_n n))) e here
        | inr ne ↦ λ off. subst (λ (m : MixedState). IsMixed (rules_after (list_at lists t).changes (rules_there tables t)) [] m) (sym (others t (λ e. ne (sym e)))) (done t (omega arith) off)
      ]

  pub marks_left : ((t : SwitchId) → s.0 ≤ t.0 → mix_at old t ≡ mix_at first t) → (t : SwitchId) → s.0 + 1 ≤ t.0 → mix_at new t ≡ mix_at first t
  marks_left left t more = others t (omega arith) ∙ left t (omega arith)

-- what is prepared loses no room where one switch's loses none
pub marks_room : (first old new : List MixedState) (s : SwitchId) → ((t : SwitchId) → t.0 ≢ s.0 → mix_at new t ≡ mix_at old t) → (mix_at old s).room ≤ (mix_at new s).room
    → ((t : SwitchId) → (mix_at first t).room ≤ (mix_at old t).room) → (t : SwitchId) → (mix_at first t).room ≤ (mix_at new t).room
marks_room first old new s others here room t =
    elim (cases_eq s.0 t.0) [
      | inl e ↦ subst (λ (n : ℕ). (mix_at first (switch_n n)).room ≤ (mix_at new (switch_n n)).room) e (let had = room s in omega arith)
      | inr ne ↦ subst (λ (m : MixedState). (mix_at first t).room ≤ m.room) (sym (others t (λ e. ne (sym e)))) (room t)
    ]

lists_same : (xs ys : List (List Rule)) → length xs ≡ length ys → ((s : SwitchId) → s.0 < length xs → rules_at xs s ≡ rules_at ys s) → xs ≡ ys
lists_same [] [] same each = refl
lists_same [] (y ∷ ys) same each = absurd (omega arith)
lists_same (x ∷ xs) [] same each = absurd (omega arith)
lists_same (x ∷ xs) (y ∷ ys) same each =
    let first : x ≡ y = each (switch_n 0) (omega arith) in
    let rest : xs ≡ ys = lists_same xs ys (omega arith) (λ s less. each (switch_n (suc s.0)) (omega arith)) in
    ap (λ (r : List Rule). r ∷ xs) first ∙ ap (λ (l : List (List Rule)). y ∷ l) rest

-- where the changes of a round are made at each switch, they are made in all tables
pub all_made : (old new : List TableState) (round : List Change) → AllByRecursion (IsWithin (length (rules_of_all old))) round → length new ≡ length old
    → ((s : SwitchId) → s.0 < length old → rules_there new s ≡ rules_after (changes_at s round) (rules_there old s)) → rules_of_all new ≡ tables_after round (rules_of_all old)
all_made old new round within count each =
    let news = length-map new (λ (t : TableState). t.rules) in
    let olds = length-map old (λ (t : TableState). t.rules) in
    lists_same (rules_of_all new) (tables_after round (rules_of_all old)) (news ∙ count ∙ sym olds ∙ sym (length-tables_after round (rules_of_all old)))
    (λ s less. each s (omega arith) ∙ sym (rules_at-after round (rules_of_all old) s within))
