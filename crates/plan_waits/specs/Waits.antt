-- The reading of the member `waits` of a plan, by the table of its refusals.
use Rattle.std.specs.Prelude.{ℕ, ◌==◌, ◌&&◌, ◌||◌, List, [], ◌∷◌, ◌++◌, length, position, Bool, false, not, nat_lt, nat_le, Option, None, Some, Result, Ok, Err, codes, if◌then◌else◌}
use Rattle.std.specs.List.{list_any}
use Rattle.std.specs.Option.{option_map_or}
use Rattle.serde_json.specs.Data.{Data}
use Rattle.serde_json.specs.Find.{get}
use Rattle.net_base.specs.Reading.{◌>>=◌, check, need, in_turn, place_of}
use Rattle.flat_json.specs.JsonTree.{whole_in, whole_at, list_in}
use Rattle.certificates.specs.declared.OrderedPick.{OrderedPick}
use Rattle.certificates.specs.declared.Evidence.{Evidence}
use Rattle.certificates.specs.declared.Evidence.TheVariants.{Ordered, TwoPhase}
use Rattle.certificates.specs.declared.Plan.{Plan}
use Rattle.plan_format.specs.Evidence.{follows}
use Rattle.plan_waits.specs.declared.fault.WaitsFault.{WaitsFault}
use Rattle.plan_waits.specs.declared.fault.WaitsFault.TheVariants.{Shape, BadIndex}

-- the number of a round that may be a wait, of so many rounds
abbrev pub is_later_round : ℕ → ℕ → Bool
is_later_round rounds n = nat_le 2 n && nat_le n rounds

-- one wait, after these
unfoldable pub wait_at : ℕ → ℕ → List ℕ → Data → Result (List ℕ) WaitsFault
wait_at rounds place before d = do
  n ← need (whole_in d) (Shape place)
  _ ← check (is_later_round rounds n) (BadIndex place)
  _ ← check (follows nat_lt before n) (BadIndex place)
  Ok (before ++ n ∷ [])

-- the list of waits of so many rounds
unfoldable pub wait_list_in : ℕ → Data → Result (List ℕ) WaitsFault
wait_list_in rounds d = do
  items ← need (list_in d) (Shape 0)
  in_turn (wait_at rounds) 0 [] items

-- whether the pick stands at a round above the first that is no wait
abbrev pub is_astray : List ℕ → OrderedPick → Bool
is_astray waits p = not (nat_le p.round 1 || list_any (λ w. w == p.round) waits)

-- the place of the first pick of an ordered plan that stands so
abbrev pub first_astray : List ℕ → Evidence → Option ℕ
first_astray waits (Ordered e) = position (is_astray waits) e.picks
first_astray waits (TwoPhase e) = None

-- the waits, where no pick stands so
abbrev pub unless_astray : List ℕ → Option ℕ → Result (List ℕ) WaitsFault
unless_astray waits None = Ok waits
unless_astray waits (Some i) = Err (BadIndex (place_of i))

-- the waits of a plan: the list, and then its picks
unfoldable pub plan_waits_in : Plan → Data → Result (List ℕ) WaitsFault
plan_waits_in plan d = do
  waits ← wait_list_in (length plan.rounds) d
  unless_astray waits (first_astray waits plan.evidence)

-- the member; a plan of format 1 has none
abbrev pub waits_member : Data → Option Data
waits_member top = if option_map_or (λ n. n == 2) (whole_at (codes "format") top) false then get (codes "waits") top else None

-- the waits of a plan, where it has the member
abbrev pub waits_of_member : Plan → Option Data → Result (Option (List ℕ)) WaitsFault
waits_of_member plan None = Ok None
waits_of_member plan (Some d) = plan_waits_in plan d >>= λ waits. Ok (Some waits)

-- the waits that a plan's tree has, or the first refusal
unfoldable pub waits_in : Plan → Data → Result (Option (List ℕ)) WaitsFault
waits_in plan top = waits_of_member plan (waits_member top)
