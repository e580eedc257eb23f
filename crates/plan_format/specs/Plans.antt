-- The reading of a plan, by the tables of its members.
use Rattle.std.specs.Prelude.{ℕ, ◌==◌, List, length, sum_by, Option, None, Some, option_and_then, Result, Ok, codes, if◌then◌else◌}
use Rattle.std.specs.Str.{bytes_eq}
use Rattle.serde_json.specs.Data.{Data}
use Rattle.net_base.specs.declared.field.Field.TheVariants as field
use Rattle.net_base.specs.Reading.{◌>>=◌, check, need}
use Rattle.flat_json.specs.JsonTree.{is_object, text_at, whole_at, tree_in}
use Rattle.topology.specs.Networks.{Network}
use Rattle.update_model.specs.declared.Change.{Change}
use Rattle.certificates.specs.declared.OrderedEvidence.{OrderedEvidence}
use Rattle.certificates.specs.declared.TwoPhaseEvidence.{TwoPhaseEvidence}
use Rattle.certificates.specs.declared.Evidence.{Evidence}
use Rattle.certificates.specs.declared.Evidence.TheVariants as evidence
use Rattle.certificates.specs.declared.Plan.{Plan}
use Rattle.plan_format.specs.Changes.{rules_in, rounds_in}
use Rattle.plan_format.specs.Evidence.{numberings_in, befores_in, full_picks_in, uses_and_picks_in, labels_in, label_picks_in}
use Rattle.plan_format.specs.declared.changes.Spelling.{Spelling}
use Rattle.plan_format.specs.declared.changes.Spelling.TheVariants.{Objects, Numbers}
use Rattle.plan_format.specs.declared.picks.PickTable.{PickTable}
use Rattle.plan_format.specs.declared.read.Format.{Format}
use Rattle.plan_format.specs.declared.read.Format.TheVariants.{One, Two}
use Rattle.plan_format.specs.declared.read.PlanKind.{PlanKind}
use Rattle.plan_format.specs.declared.read.PlanKind.TheVariants.{Ordered, TwoPhase}
use Rattle.plan_format.specs.declared.fault.PlanFault.{PlanFault}
use Rattle.plan_format.specs.declared.fault.PlanFault.TheVariants.{NotJson, Shape, BadFormat}

-- the format of this number
abbrev pub format_of : ℕ → Option Format
format_of n = if n == 1 then Some One else if n == 2 then Some Two else None

-- the kind of plan of this word
abbrev pub kind_of : List ℕ → Option PlanKind
kind_of word = if bytes_eq word (codes "ordered") then Some Ordered else if bytes_eq word (codes "two-phase") then Some TwoPhase else None

-- how changes are spelled: as objects in format 1, by the numbers of the member `rules` in format 2
unfoldable pub spelling_in : Network → Format → Data → Result Spelling PlanFault
spelling_in net One top = Ok Objects
spelling_in net Two top = rules_in net top >>= λ rules. Ok (Numbers rules)

-- the picks and their evidence, by the format
abbrev pub pick_table_in : Format → ℕ → ℕ → ℕ → Data → Result PickTable PlanFault
pick_table_in One rounds numberings befores top = full_picks_in rounds numberings befores top
pick_table_in Two rounds numberings befores top = uses_and_picks_in rounds numberings befores top

-- the members of an ordered plan
unfoldable pub ordered_in : Network → Format → ℕ → Data → Result OrderedEvidence PlanFault
ordered_in net format rounds top = do
  numberings ← numberings_in net top
  befores ← befores_in net top
  table ← pick_table_in format rounds (length numberings) (length befores) top
  Ok (record { numberings = numberings; befores = befores; uses = table.uses; picks = table.picks })

-- the members of a two-phase plan
unfoldable pub two_phase_in : Network → Spelling → List (List Change) → Data → Result TwoPhaseEvidence PlanFault
two_phase_in net spelling rounds top = do
  labels ← labels_in top
  picks ← label_picks_in (length rounds) (length labels) top
  tried ← rounds_in net spelling field.Tried 4096 (sum_by length rounds) top
  Ok (record { labels = labels; picks = picks; tried = tried })

-- the evidence of a plan of this kind
unfoldable pub evidence_in : Network → Format → PlanKind → Spelling → List (List Change) → Data → Result Evidence PlanFault
evidence_in net format Ordered spelling rounds top = ordered_in net format (length rounds) top >>= λ e. Ok (evidence.Ordered e)
evidence_in net format TwoPhase spelling rounds top = two_phase_in net spelling rounds top >>= λ e. Ok (evidence.TwoPhase e)

-- the plan of the tree, or the first refusal
unfoldable pub plan_at : Network → Data → Result Plan PlanFault
plan_at net top = do
  _ ← check (is_object top) (Shape field.Top 0)
  number ← need (whole_at (codes "format") top) (Shape field.Format 0)
  format ← need (format_of number) BadFormat
  kind ← need (option_and_then kind_of (text_at (codes "kind") top)) (Shape field.Kind 0)
  spelling ← spelling_in net format top
  rounds ← rounds_in net spelling field.Rounds 4200 0 top
  evidence ← evidence_in net format kind spelling rounds top
  Ok (record { rounds = rounds; evidence = evidence })

-- the plan that the bytes describe, or the first refusal
unfoldable pub plan_in : Network → List ℕ → Result Plan PlanFault
plan_in net bytes = do
  top ← need (tree_in bytes) NotJson
  plan_at net top
