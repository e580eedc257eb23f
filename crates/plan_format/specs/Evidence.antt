-- The reading of the evidence of a plan, by the tables of its members.
use Rattle.std.specs.Prelude.{ℕ, ◌==◌, ◌&&◌, ◌||◌, List, [], ◌∷◌, ◌++◌, length, Bool, true, false, nat_eq, nat_lt, nat_le, Option, None, Some, option_map, option_and_then, Result, Ok, codes, if◌then◌else◌}
use lib.Pointwise.{pointwise}
use Rattle.std.specs.List.{list_any, list_all, position_or_len}
use Rattle.serde_json.specs.Data.{Data}
use Rattle.net_base.specs.declared.field.Field.{Field}
use Rattle.net_base.specs.declared.field.Field.TheVariants.{Numberings, Befores, Uses, Picks, Labels}
use Rattle.net_base.specs.declared.ids.Vlan.{Vlan}
use Rattle.net_base.specs.declared.ids.Vlan.TheVariants as vlan
use Rattle.net_base.specs.Reading.{◌>>=◌, check, need, in_turn}
use Rattle.flat_json.specs.JsonTree.{whole_in, list_in, list_at}
use Rattle.topology.specs.Networks.{Network, switch_count, is_vlan_id}
use Rattle.certificates.specs.declared.Shared.{Shared}
use Rattle.certificates.specs.declared.OrderedPick.{OrderedPick}
use Rattle.certificates.specs.declared.Label.{Label}
use Rattle.certificates.specs.declared.LabelPick.{LabelPick}
use Rattle.plan_format.specs.Changes.{is_text}
use Rattle.plan_format.specs.declared.fault.PlanFault.{PlanFault}
use Rattle.plan_format.specs.declared.fault.PlanFault.TheVariants.{Shape, BadIndex}
use Rattle.plan_format.specs.declared.picks.PickTable.{PickTable}

-- ---- orders

-- whether each comes before the next
abbrev pub ascends : {A : Type 0} → (A → A → Bool) → List A → Bool
ascends before [] = true
ascends before (x ∷ []) = true
ascends before (x ∷ y ∷ rest) = before x y && ascends before (y ∷ rest)

-- whether the last, if there is one, comes before this one
abbrev pub follows : {A : Type 0} → (A → A → Bool) → List A → A → Bool
follows before [] x = true
follows before (y ∷ []) x = before y x
follows before (y ∷ z ∷ rest) x = follows before (z ∷ rest) x

-- ---- numbers

-- one number, after these
unfoldable pub number_at : Field → ℕ → List ℕ → Data → Result (List ℕ) PlanFault
number_at field place before d = do
  n ← need (whole_in d) (Shape field place)
  Ok (before ++ n ∷ [])

-- a list of whole numbers, in the item at this place of the member
unfoldable pub numbers_in : Field → ℕ → Data → Result (List ℕ) PlanFault
numbers_in field place d = do
  items ← need (list_in d) (Shape field place)
  in_turn (λ i. number_at field place) 0 [] items

-- the number of a round, from 1
abbrev pub is_round : ℕ → ℕ → Bool
is_round rounds n = nat_le 1 n && nat_le n rounds

-- the number, from 0, of one of so many, of 32 bits
abbrev pub is_index : ℕ → ℕ → Bool
is_index count n = nat_lt n count && nat_le n 4294967295

-- whether all numbers are below a limit
unfoldable pub all_below : ℕ → List ℕ → Bool
all_below limit numbers = list_all (λ n. nat_lt n limit) numbers

-- three whole numbers
abbrev pub three_numbers : Data → Data → Data → Option (ℕ × ℕ × ℕ)
three_numbers a b c = option_and_then (λ x. option_and_then (λ y. option_map (λ z. (x, y, z)) (whole_in c)) (whole_in b)) (whole_in a)

-- ---- numberings and before sets

-- one number of a numbering, after these
unfoldable pub height_at : ℕ → List ℕ → Data → Result (List ℕ) PlanFault
height_at place before d = do
  n ← need (whole_in d) (Shape Numberings place)
  _ ← check (nat_le n 65535) (Shape Numberings place)
  Ok (before ++ n ∷ [])

-- a number for each switch
unfoldable pub numbering_in : Network → ℕ → Data → Result (List ℕ) PlanFault
numbering_in net place d = do
  items ← need (list_in d) (Shape Numberings place)
  _ ← check (length items == switch_count net) (Shape Numberings place)
  in_turn (λ i. height_at place) 0 [] items

-- one item of `numberings`, after these
unfoldable pub numbering_at : Network → ℕ → List (List ℕ) → Data → Result (List (List ℕ)) PlanFault
numbering_at net place before d = do
  numbering ← numbering_in net place d
  Ok (before ++ numbering ∷ [])

-- the member `numberings`
unfoldable pub numberings_in : Network → Data → Result (List (List ℕ)) PlanFault
numberings_in net top = do
  items ← need (list_at (codes "numberings") top) (Shape Numberings 0)
  in_turn (numbering_at net) 0 [] items

-- one item of `befores`, after these: switches, ascending
unfoldable pub before_at : Network → ℕ → List (List ℕ) → Data → Result (List (List ℕ)) PlanFault
before_at net place before d = do
  numbers ← numbers_in Befores place d
  _ ← check (all_below (switch_count net) numbers) (BadIndex place)
  _ ← check (ascends nat_lt numbers) (BadIndex place)
  Ok (before ++ numbers ∷ [])

-- the member `befores`
unfoldable pub befores_in : Network → Data → Result (List (List ℕ)) PlanFault
befores_in net top = do
  items ← need (list_at (codes "befores") top) (Shape Befores 0)
  in_turn (before_at net) 0 [] items

-- ---- shared evidence

-- the numbers of one of so many numberings, and of some of so many before sets
unfoldable pub shared_in : Field → ℕ → ℕ → ℕ → ℕ → Data → Result Shared PlanFault
shared_in field place numberings befores numbering d = do
  numbers ← numbers_in field place d
  _ ← check (is_index numberings numbering) (BadIndex place)
  _ ← check (all_below befores numbers) (BadIndex place)
  Ok (record { numbering = numbering; befores = numbers })

-- whether one pick comes before another, by round and then by class
abbrev pub pick_before : OrderedPick → OrderedPick → Bool
pick_before p q = nat_lt p.round q.round || (p.round == q.round && nat_lt p.class q.class)

-- the picks with one more, which comes after the last
unfoldable pub picks_with : ℕ → List OrderedPick → OrderedPick → Result (List OrderedPick) PlanFault
picks_with place before pick = do
  _ ← check (follows pick_before before pick) (BadIndex place)
  Ok (before ++ pick ∷ [])

-- ---- picks of format 1

-- whether the evidence is the same
abbrev pub shared_eq : Shared → Shared → Bool
shared_eq a b = a.numbering == b.numbering && pointwise nat_eq a.befores b.befores

-- the evidence with this one, which stands once
abbrev pub with_shared : List Shared → Shared → List Shared
with_shared uses s = if list_any (shared_eq s) uses then uses else uses ++ s ∷ []

-- the number of this evidence, once it stands there
abbrev pub number_of_shared : List Shared → Shared → ℕ
number_of_shared uses s = position_or_len (shared_eq s) uses

-- three whole numbers, and what comes fourth
abbrev pub numbers_and_list : List Data → Option ((ℕ × ℕ × ℕ) × Data)
numbers_and_list (a ∷ b ∷ c ∷ d ∷ []) = option_map (λ n. (n, d)) (three_numbers a b c)
numbers_and_list other = None

-- the picks with one more, by its round, class and evidence
unfoldable pub full_picks_with : ℕ → PickTable → ℕ → ℕ → Shared → Result PickTable PlanFault
full_picks_with place before round class shared = do
  picks ← picks_with place before.picks (record { round = round; class = class; shared = number_of_shared before.uses shared })
  Ok (record { uses = with_shared before.uses shared; picks = picks })

-- one item of `picks` of format 1, after these: a round, a class, and its evidence
unfoldable pub full_pick_at : ℕ → ℕ → ℕ → ℕ → PickTable → Data → Result PickTable PlanFault
full_pick_at rounds numberings befores place before d = do
  words ← need (option_and_then numbers_and_list (list_in d)) (Shape Picks place)
  shared ← shared_in Picks place numberings befores words.0.2 words.1
  _ ← check (is_round rounds words.0.0 && nat_le words.0.1 8191) (BadIndex place)
  full_picks_with place before words.0.0 words.0.1 shared

-- the member `picks` of format 1
unfoldable pub full_picks_in : ℕ → ℕ → ℕ → Data → Result PickTable PlanFault
full_picks_in rounds numberings befores top = do
  items ← need (list_at (codes "picks") top) (Shape Picks 0)
  in_turn (full_pick_at rounds numberings befores) 0 (record { uses = []; picks = [] }) items

-- ---- uses and picks of format 2

-- a whole number, and what comes second
abbrev pub number_and_list : List Data → Option (ℕ × Data)
number_and_list (a ∷ b ∷ []) = option_map (λ n. (n, b)) (whole_in a)
number_and_list other = None

-- one item of `uses`, after these
unfoldable pub use_at : ℕ → ℕ → ℕ → List Shared → Data → Result (List Shared) PlanFault
use_at numberings befores place before d = do
  words ← need (option_and_then number_and_list (list_in d)) (Shape Uses place)
  shared ← shared_in Uses place numberings befores words.0 words.1
  Ok (before ++ shared ∷ [])

-- the member `uses`
unfoldable pub uses_in : ℕ → ℕ → Data → Result (List Shared) PlanFault
uses_in numberings befores top = do
  items ← need (list_at (codes "uses") top) (Shape Uses 0)
  in_turn (use_at numberings befores) 0 [] items

-- a list of three whole numbers
abbrev pub list_of_three : List Data → Option (ℕ × ℕ × ℕ)
list_of_three (a ∷ b ∷ c ∷ []) = three_numbers a b c
list_of_three other = None

-- one item of `picks` of format 2, after these: a round, a class, and the number of its evidence
unfoldable pub pick_at : ℕ → ℕ → ℕ → List OrderedPick → Data → Result (List OrderedPick) PlanFault
pick_at rounds uses place before d = do
  n ← need (option_and_then list_of_three (list_in d)) (Shape Picks place)
  _ ← check (is_round rounds n.0 && nat_le n.1 8191) (BadIndex place)
  _ ← check (is_index uses n.2) (BadIndex place)
  picks_with place before (record { round = n.0; class = n.1; shared = n.2 })

-- the member `picks` of format 2
unfoldable pub picks_in : ℕ → ℕ → Data → Result (List OrderedPick) PlanFault
picks_in rounds uses top = do
  items ← need (list_at (codes "picks") top) (Shape Picks 0)
  in_turn (pick_at rounds uses) 0 [] items

-- the members `uses` and `picks` of format 2
unfoldable pub uses_and_picks_in : ℕ → ℕ → ℕ → Data → Result PickTable PlanFault
uses_and_picks_in rounds numberings befores top = do
  uses ← uses_in numberings befores top
  picks ← picks_in rounds (length uses) top
  Ok (record { uses = uses; picks = picks })

-- ---- label tables

-- the text `untagged`, or the id of a VLAN that may be
abbrev pub vlan_in : Data → Option Vlan
vlan_in d = if is_text (codes "untagged") d then Some vlan.Untagged else option_and_then (λ n. if is_vlan_id n then Some (vlan.Id n) else None) (whole_in d)

-- the text `old` or `new`: whether it is new
abbrev pub version_in : Data → Option Bool
version_in d = if is_text (codes "old") d then Some false else if is_text (codes "new") d then Some true else None

-- a VLAN, a version, and the VLAN of its user
abbrev pub label_in : List Data → Option Label
label_in (a ∷ b ∷ c ∷ []) = option_and_then (λ v. option_and_then (λ new. option_map (λ u. record { vlan = v; new = new; user = u }) (vlan_in c)) (version_in b)) (vlan_in a)
label_in other = None

-- whether one VLAN comes before another: untagged, then by the ids
abbrev pub vlan_before : Vlan → Vlan → Bool
vlan_before vlan.Untagged (vlan.Id n) = true
vlan_before (vlan.Id m) (vlan.Id n) = nat_lt m n
vlan_before _ _ = false

-- whether one label comes before another, by its VLAN
abbrev pub label_before : Label → Label → Bool
label_before a b = vlan_before a.vlan b.vlan

-- one label, after these
unfoldable pub label_at : ℕ → List Label → Data → Result (List Label) PlanFault
label_at place before d = do
  label ← need (option_and_then label_in (list_in d)) (Shape Labels place)
  Ok (before ++ label ∷ [])

-- a label table, ascending by VLAN
unfoldable pub table_in : ℕ → Data → Result (List Label) PlanFault
table_in place d = do
  items ← need (list_in d) (Shape Labels place)
  labels ← in_turn (λ i. label_at place) 0 [] items
  _ ← check (ascends label_before labels) (BadIndex place)
  Ok labels

-- one item of `labels`, after these
unfoldable pub table_at : ℕ → List (List Label) → Data → Result (List (List Label)) PlanFault
table_at place before d = do
  table ← table_in place d
  Ok (before ++ table ∷ [])

-- the member `labels`
unfoldable pub labels_in : Data → Result (List (List Label)) PlanFault
labels_in top = do
  items ← need (list_at (codes "labels") top) (Shape Labels 0)
  in_turn table_at 0 [] items

-- a list of two whole numbers
abbrev pub list_of_two : List Data → Option (ℕ × ℕ)
list_of_two (a ∷ b ∷ []) = option_and_then (λ x. option_map (λ y. (x, y)) (whole_in b)) (whole_in a)
list_of_two other = None

-- whether one pick comes before another, by round
abbrev pub round_before : LabelPick → LabelPick → Bool
round_before p q = nat_lt p.round q.round

-- the picks with one more, which comes after the last
unfoldable pub label_picks_with : ℕ → List LabelPick → LabelPick → Result (List LabelPick) PlanFault
label_picks_with place before pick = do
  _ ← check (follows round_before before pick) (BadIndex place)
  Ok (before ++ pick ∷ [])

-- one item of `picks` of a two-phase plan, after these: a round, and the number of its label table
unfoldable pub label_pick_at : ℕ → ℕ → ℕ → List LabelPick → Data → Result (List LabelPick) PlanFault
label_pick_at rounds tables place before d = do
  n ← need (option_and_then list_of_two (list_in d)) (Shape Picks place)
  _ ← check (is_round rounds n.0) (BadIndex place)
  _ ← check (is_index tables n.1) (BadIndex place)
  label_picks_with place before (record { round = n.0; labels = n.1 })

-- the member `picks` of a two-phase plan
unfoldable pub label_picks_in : ℕ → ℕ → Data → Result (List LabelPick) PlanFault
label_picks_in rounds tables top = do
  items ← need (list_at (codes "picks") top) (Shape Picks 0)
  in_turn (label_pick_at rounds tables) 0 [] items
