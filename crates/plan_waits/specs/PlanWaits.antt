-- What waits a plan may have.
use Rattle.std.specs.Prelude.{◌≡◌, ◌⊎◌, ℕ, ◌≤◌, List, length, map, Option, None, Some, option_map}
use Rattle.std.specs.List.{AllByRecursion}
use Rattle.serde_json.specs.Data.{Data}
use Rattle.net_base.specs.Members.{IsIn}
use Rattle.flat_json.specs.JsonTree.{whole_in, list_in}
use Rattle.certificates.specs.declared.Evidence.{Evidence}
use Rattle.certificates.specs.declared.Evidence.TheVariants.{Ordered, TwoPhase}
use Rattle.certificates.specs.declared.Plan.{Plan}
use Rattle.law_spans.specs.Cuts.{AreWaits}

-- the value is the list of these whole numbers
abbrev pub IsNumberList : Data → List ℕ → Type 0
IsNumberList d numbers = option_map (map whole_in) (list_in d) ≡ Some (map (λ n. Some n) numbers)

-- each pick of an ordered plan stands at the first round or at a wait
abbrev pub PicksAreAtWaits : List ℕ → Evidence → Type 0
PicksAreAtWaits waits (Ordered e) = AllByRecursion (λ p. (p.round ≤ 1) ⊎ IsIn p.round waits) e.picks
PicksAreAtWaits waits (TwoPhase e) = Unit {0}

-- the plan may have these waits
pub record MayHaveWaits (plan : Plan) (waits : List ℕ) : Type 0 where
  pub are_waits : AreWaits waits (length plan.rounds)
  pub picks : PicksAreAtWaits waits plan.evidence

-- what the member of a plan says: without it nothing, and otherwise the numbers in its list
abbrev pub SaysWaits : Option Data → Option (List ℕ) → Type 0
SaysWaits None waits = waits ≡ None
SaysWaits (Some d) None = ⊥
SaysWaits (Some d) (Some waits) = IsNumberList d waits

-- the plan may have these waits, where it has any
abbrev pub MayHave : Plan → Option (List ℕ) → Type 0
MayHave plan None = Unit {0}
MayHave plan (Some waits) = MayHaveWaits plan waits
