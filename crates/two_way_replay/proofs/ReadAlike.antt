-- A schedule of a run that is never turned back is read alike.
use Rattle.std.proofs.Common.{◌≡◌, ℕ, suc, Bool, true, false, cond, List, [], ◌∷◌, ◌++◌, map, length, Result, Ok, Err, refl, sym, ap, ◌∙◌, subst}
use Rattle.std.specs.Prelude.{Option, Some, None, nat_lt}
use Rattle.std.specs.Option.{option_map_or}
use Rattle.std.proofs.lemmas.List.{length-map, map_push}
use Rattle.net_base.specs.Lines.{lines_of, is_comment}
use Rattle.net_base.specs.Reading.{◌>>=◌, check, need, in_turn, place_of}
use Rattle.topology.specs.Networks.{Network}
use Rattle.update_model.specs.declared.Event.{Event}
use Rattle.schedule_replay.specs.EventLines.{event_in}
use Rattle.schedule_replay.specs.Schedules.{event_at, line_at, schedule_in}
use Rattle.schedule_replay.specs.declared.fault.ScheduleFault.{ScheduleFault}
use Rattle.schedule_replay.specs.declared.fault.ScheduleFault.TheVariants.{BadLine, TooMany}
use Rattle.schedule_replay.specs.declared.schedule.ScheduleLine.{ScheduleLine}
use Rattle.two_way_replay.specs.StepLines.{turn_in}
use Rattle.two_way_replay.specs.TwoWaySchedules.{two_way_step_at, two_way_line_at, two_way_schedule_in, onward_line}
use Rattle.two_way_replay.specs.declared.schedule.TwoWayStep.{TwoWayStep}
use Rattle.two_way_replay.specs.declared.schedule.TwoWayStep.TheVariants as step

-- of an event, a count that may be short, and a comment
event_alike : (o : Option Event) (turn : Option TwoWayStep) (few : Bool) (n : ℕ) (before after : List ScheduleLine)
    → (need o (BadLine n) >>= λ event. check few TooMany >>= λ _. Ok (before ++ record { line = n; event = event } ∷ [])) ≡ Ok after
    → (need (option_map_or (λ e. Some (step.Event e)) o turn) (BadLine n) >>= λ s. check few TooMany >>= λ _. Ok (map onward_line before ++ record { line = n; step = s } ∷ [])) ≡ Ok (map onward_line after)
event_alike None turn few n before after is = absurd (let e : Err (BadLine n) ≡ Ok after = is in cc)
event_alike (Some e) turn false n before after is = absurd (let f : Err TooMany ≡ Ok after = is in cc)
event_alike (Some e) turn true n before after is =
    let l : ScheduleLine = record { line = n; event = e } in
    let f : Ok (before ++ l ∷ []) ≡ Ok after = is in
    let same : before ++ l ∷ [] ≡ after = cc in
    ap (λ xs. Ok xs) (sym (map_push onward_line before l) ∙ ap (map onward_line) same)

module _ (net : Network) where
  line_alike : (n : ℕ) (before after : List ScheduleLine) (line : List ℕ) → line_at net n before line ≡ Ok after → two_way_line_at net n (map onward_line before) line ≡ Ok (map onward_line after)
  unfolding event_at two_way_step_at
  line_alike n before after line is =
      let count : nat_lt (length before) 4000000 ≡ nat_lt (length (map onward_line before)) 4000000 = ap (λ k. nat_lt k 4000000) (sym (length-map before onward_line)) in
      elim (is_comment line) as (λ b. cond b (Ok before) (event_at net n before line) ≡ Ok after
      → cond b (Ok (map onward_line before)) (two_way_step_at net n (map onward_line before) line) ≡ Ok (map onward_line after)) [
        | true ↦ λ e. (let f : Ok before ≡ Ok after = e in let same : before ≡ after = cc in ap (λ xs. Ok (map onward_line xs)) same)
        | false ↦ λ e. event_alike (event_in net line) (turn_in line) (nat_lt (length (map onward_line before)) 4000000) n before after
            (subst (λ few. (need (event_in net line) (BadLine n) >>= λ event. check few TooMany >>= λ _. Ok (before ++ record { line = n; event = event } ∷ [])) ≡ Ok after) count e)
      ] is

  goes_alike : (r : Result (List ScheduleLine) ScheduleFault) (n : ℕ) (before : List ScheduleLine) (line : List ℕ) (xs : List (List ℕ)) (after : List ScheduleLine)
      → line_at net (place_of n) before line ≡ r
      → ((t : List ScheduleLine) → in_turn (line_at net) (suc n) t xs ≡ Ok after → in_turn (two_way_line_at net) (suc n) (map onward_line t) xs ≡ Ok (map onward_line after))
      → (r >>= λ t. in_turn (line_at net) (suc n) t xs) ≡ Ok after
      → (two_way_line_at net (place_of n) (map onward_line before) line >>= λ t. in_turn (two_way_line_at net) (suc n) t xs) ≡ Ok (map onward_line after)
  goes_alike (Ok t) n before line xs after here rest is =
      ap (λ x. x >>= λ t. in_turn (two_way_line_at net) (suc n) t xs) (line_alike (place_of n) before t line here) ∙ rest t is
  goes_alike (Err e) n before line xs after here rest is = absurd (let f : Err e ≡ Ok after = is in cc)

  lines_alike : (xs : List (List ℕ)) (n : ℕ) (before after : List ScheduleLine) → in_turn (line_at net) n before xs ≡ Ok after → in_turn (two_way_line_at net) n (map onward_line before) xs ≡ Ok (map onward_line after)
  unfolding in_turn
  lines_alike [] n before after is = let f : Ok before ≡ Ok after = is in let same : before ≡ after = cc in ap (λ xs. Ok (map onward_line xs)) same
  lines_alike (x ∷ xs) n before after is =
      goes_alike (line_at net (place_of n) before x) n before x xs after refl (λ t. lines_alike xs (suc n) t after) is

  pub read_alike : (bytes : List ℕ) (lines : List ScheduleLine) → schedule_in net bytes ≡ Ok lines → two_way_schedule_in net bytes ≡ Ok (map onward_line lines)
  read_alike bytes lines is = lines_alike (lines_of bytes) 1 [] lines is
