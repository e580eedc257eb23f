-- Worked examples: members that are read, and those that are refused.
use Rattle.std.proofs.Common.{◌≡◌, ℕ, [], ◌∷◌, codes, Some, None, Ok, Err, refl}
use Rattle.serde_json.specs.Data.{Data, null, string, object, no_members, put}
use Rattle.net_base.specs.Reading.{in_turn}
use Rattle.config_files.specs.RuleTrees.{whole_tree, list_tree}
use Rattle.certificates.specs.declared.Evidence.TheVariants.{Ordered, TwoPhase}
use Rattle.certificates.specs.declared.OrderedPick.{OrderedPick}
use Rattle.certificates.specs.declared.Plan.{Plan}
use Rattle.plan_text.specs.PlanText.{numbers_tree}
use Rattle.plan_waits.specs.declared.fault.WaitsFault.TheVariants.{Shape, BadIndex}
use Rattle.plan_waits.specs.Waits.{wait_at, wait_list_in, plan_waits_in, waits_in}

-- ---- lists of eight rounds

two_waits : wait_list_in 8 (numbers_tree (4 ∷ 8 ∷ [])) ≡ Ok (4 ∷ 8 ∷ [])
unfolding wait_list_in wait_at in_turn
two_waits = refl

no_wait : wait_list_in 8 (numbers_tree []) ≡ Ok []
unfolding wait_list_in wait_at in_turn
no_wait = refl

no_list : wait_list_in 8 null ≡ Err (Shape 0)
unfolding wait_list_in wait_at in_turn
no_list = refl

a_text : wait_list_in 8 (list_tree (whole_tree 4 ∷ string (codes "8") ∷ [])) ≡ Err (Shape 1)
unfolding wait_list_in wait_at in_turn
a_text = refl

first_round : wait_list_in 8 (numbers_tree (1 ∷ 4 ∷ [])) ≡ Err (BadIndex 0)
unfolding wait_list_in wait_at in_turn
first_round = refl

no_such_round : wait_list_in 8 (numbers_tree (4 ∷ 9 ∷ [])) ≡ Err (BadIndex 1)
unfolding wait_list_in wait_at in_turn
no_such_round = refl

equal : wait_list_in 8 (numbers_tree (2 ∷ 4 ∷ 4 ∷ 3 ∷ [])) ≡ Err (BadIndex 2)
unfolding wait_list_in wait_at in_turn
equal = refl

-- what is wrong first is named
first_fault : wait_list_in 8 (list_tree (whole_tree 9 ∷ string (codes "4") ∷ [])) ≡ Err (BadIndex 0)
unfolding wait_list_in wait_at in_turn
first_fault = refl

-- ---- the picks of an ordered plan of three rounds

abbrev pick : ℕ → OrderedPick
pick round = record { round = round; class = 0; shared = 0 }

abbrev ordered : Plan
ordered = record {
  rounds = [] ∷ [] ∷ [] ∷ [];
  evidence = Ordered (record { numberings = []; befores = []; uses = []; picks = pick 1 ∷ pick 3 ∷ [] });
}

at_wait : plan_waits_in ordered (numbers_tree (3 ∷ [])) ≡ Ok (3 ∷ [])
unfolding plan_waits_in wait_list_in wait_at in_turn
at_wait = refl

astray : plan_waits_in ordered (numbers_tree (2 ∷ [])) ≡ Err (BadIndex 1)
unfolding plan_waits_in wait_list_in wait_at in_turn
astray = refl

-- the picks of a two-phase plan stand anywhere
abbrev two_phase : Plan
two_phase = record { rounds = [] ∷ [] ∷ [] ∷ []; evidence = TwoPhase (record { labels = []; picks = record { round = 3; labels = 0 } ∷ []; tried = [] }) }

anywhere : plan_waits_in two_phase (numbers_tree (2 ∷ [])) ≡ Ok (2 ∷ [])
unfolding plan_waits_in wait_list_in wait_at in_turn
anywhere = refl

-- ---- the member

abbrev with_format : ℕ → Data
with_format format = object (put (codes "format") (whole_tree format) (put (codes "waits") (numbers_tree (3 ∷ [])) no_members))

said : waits_in ordered (with_format 2) ≡ Ok (Some (3 ∷ []))
unfolding waits_in plan_waits_in wait_list_in wait_at in_turn
said = refl

not_in_format_1 : waits_in ordered (with_format 1) ≡ Ok None
unfolding waits_in plan_waits_in wait_list_in wait_at in_turn
not_in_format_1 = refl

not_said : waits_in ordered (object (put (codes "format") (whole_tree 2) no_members)) ≡ Ok None
unfolding waits_in plan_waits_in wait_list_in wait_at in_turn
not_said = refl
