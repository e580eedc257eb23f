-- What the answer over the files of a source says of what they mean.
use Rattle.std.proofs.Common.{◌≡◌, ◌⊎◌, ℕ, ◌≤◌, List, ◌∷◌, length, None, Some, Ok, Err, refl, sym, ap, ◌∙◌, subst, inl, inr, arith}
use Rattle.std.specs.declared.option.Option.{Option}
use Rattle.std.specs.declared.result.Result.{Result}
use Rattle.file_access.specs.Outside.{Files}
use Rattle.topology.specs.Networks.{Network}
use Rattle.topology_files.specs.Topology.{network_in}
use Rattle.config_files.specs.Configuration.{configuration_in}
use Rattle.demands.specs.Duties.{DemandView}
use Rattle.demands.specs.Policy.{demands_in}
use Rattle.certificates.specs.declared.Plan.{Plan}
use Rattle.plan_format.specs.Plans.{plan_in}
use Rattle.command_base.specs.declared.status.Status.TheVariants as status
use Rattle.command_base.specs.declared.kinds.FileKind.{FileKind}
use Rattle.command_base.specs.declared.kinds.FileKind.TheVariants as kind
use Rattle.command_base.specs.Kinds.{limit_of}
use Rattle.command_base.specs.Lines.{FaultWords, net_words, config_words, demand_words, plan_words}
use Rattle.command_base.specs.Answers.{Answer, bad_answer, too_long}
use Rattle.command_base.specs.Dialogues.{Dialogue, Bad, Ends, Reads, and_then}
use Rattle.command_base.specs.Meanings.{IsReadAs, Means, IsAnswerOver}
use Rattle.command_base.specs.Readings.{reading, meaning_dialogue, reading_policy, reading_update, reading_plan_files}
use Rattle.command_base.specs.Names.{UpdateNames, PlanNames}
use Rattle.certificates.specs.Updates.{Update}
use Rattle.command_base.specs.Updates.{PlanMeaning, IsPolicyOf, FilesMeanUpdate, FilesMeanOnePlan}

-- the line on a bad file, which begins with the letter b
pub record IsBadLine (answer : Answer) : Type 0 where
  pub rest : List ℕ
  pub is : answer ≡ record { status = status.BadFile; text = 98 ∷ rest }

bad_is : (kind : FileKind) (words : FaultWords) (answer : Answer) → answer ≡ bad_answer kind words → IsBadLine answer
bad_is kind words answer says = record { rest = _; is = says }

long_is : (kind : FileKind) (answer : Answer) → answer ≡ too_long kind → IsBadLine answer
long_is kind answer says = record { rest = _; is = says }

bytes_same : (files : Files) (name a b : List ℕ) → files name ≡ Some a → files name ≡ Some b → a ≡ b
bytes_same files name a b p q = let e : Some a ≡ Some b = sym p ∙ q in cc

-- over the files the dialogue means what `Mean` says, and nothing else
pub record MeansOnly {D : Type 0} (files : Files) (dialogue : Dialogue D) (Mean : D → Type 0) : Type 0 where
  pub means : (d : D) → Mean d → Means files dialogue d
  pub only : (d : D) → Means files dialogue d → Mean d

-- over files that mean something, the answer is what is said of it
pub said_over : {E : Type 0} (says : E → Answer → Type 0) (files : Files) (d : Dialogue E) (answer : Answer) (v : E) → IsAnswerOver says files d answer → Means files d v → says v answer
said_over says files (Bad kind words) answer v over means = absurd means
said_over says files (Ends end) answer v over means = subst (λ x. says x answer) means over
said_over says files (Reads kind name next) answer v (bytes, held, inl (within, over)) (others, there, small, means) =
    let same : others ≡ bytes = bytes_same files name others bytes there held in
    said_over says files (next bytes) answer v over (subst (λ bs. Means files (next bs) v) same means)
said_over says files (Reads kind name next) answer v (bytes, held, inr (beyond, is)) (others, there, small, means) =
    let same : others ≡ bytes = bytes_same files name others bytes there held in
    absurd (omega (arith, subst (λ bs. length bs ≤ limit_of kind) same small, beyond))

-- a file is bad, or the files mean something of which the answer is said
pub over_splits : {E : Type 0} (says : E → Answer → Type 0) (files : Files) (d : Dialogue E) (answer : Answer) → IsAnswerOver says files d answer → IsBadLine answer ⊎ ((v : E) × Means files d v × says v answer)
over_splits says files (Bad kind words) answer over = inl (bad_is kind words answer over)
over_splits says files (Ends end) answer over = inr (end, refl, over)
over_splits says files (Reads kind name next) answer (bytes, held, inl (within, over)) = elim (over_splits says files (next bytes) answer over) [
  | inl bad ↦ inl bad
  | inr (v, means, said) ↦ inr (v, (bytes, held, within, means), said)
]
over_splits says files (Reads kind name next) answer (bytes, held, inr (beyond, is)) = inl (long_is kind answer is)

-- the answer of several commands' dialogue is that of the one command
pub over_as : {A B : Type 0} (says : A → Answer → Type 0) (others : B → Answer → Type 0) (f : A → B) (files : Files) (d : Dialogue A) (answer : Answer)
    → ((v : A) (answer : Answer) → others (f v) answer → says v answer) → IsAnswerOver others files (and_then d (λ v. Ends (f v))) answer → IsAnswerOver says files d answer
over_as says others f files (Bad kind words) answer same over = over
over_as says others f files (Ends end) answer same over = same end answer over
over_as says others f files (Reads kind name next) answer same (bytes, held, inl (within, over)) = (bytes, held, inl (within, over_as says others f files (next bytes) answer same over))
over_as says others f files (Reads kind name next) answer same (bytes, held, inr long) = (bytes, held, inr long)

-- a dialogue behind another means what the second does behind the meaning of the first
pub means_then : {A B : Type 0} (files : Files) (d : Dialogue A) (next : A → Dialogue B) (v : A) (w : B) → Means files d v → Means files (next v) w → Means files (and_then d next) w
means_then files (Bad kind words) next v w means rest = absurd means
means_then files (Ends end) next v w means rest = subst (λ x. Means files (next x) w) (sym means) rest
means_then files (Reads kind name more) next v w (bytes, held, within, means) rest = (bytes, held, within, means_then files (more bytes) next v w means rest)

pub means_parts : {A B : Type 0} (files : Files) (d : Dialogue A) (next : A → Dialogue B) (w : B) → Means files (and_then d next) w → (v : A) × Means files d v × Means files (next v) w
means_parts files (Bad kind words) next w means = absurd means
means_parts files (Ends end) next w means = (end, refl, means)
means_parts files (Reads kind name more) next w (bytes, held, within, means) =
    let (v, first, rest) = means_parts files (more bytes) next w means in
    (v, (bytes, held, within, first), rest)

meant_ok : {A E : Type 0} (files : Files) (kind : FileKind) (words : E → FaultWords) (r : Result A E) (v : A) → Means files (meaning_dialogue kind words r) v → r ≡ Ok v
meant_ok files kind words (Ok value) v means = ap Ok means
meant_ok files kind words (Err fault) v means = absurd means

-- the reading of a file means what the file is read as, and nothing else
pub means_read : {A E : Type 0} (files : Files) (kind : FileKind) (words : E → FaultWords) (meaning : List ℕ → Result A E) (name : List ℕ) (v : A) → IsReadAs files kind meaning name v → Means files (reading kind words meaning name) v
unfolding reading
means_read files kind words meaning name v is = (is.bytes, is.held, is.within, subst (λ r. Means files (meaning_dialogue kind words r) v) (sym is.means) refl)

pub read_means : {A E : Type 0} (files : Files) (kind : FileKind) (words : E → FaultWords) (meaning : List ℕ → Result A E) (name : List ℕ) (v : A) → Means files (reading kind words meaning name) v → IsReadAs files kind meaning name v
unfolding reading
read_means files kind words meaning name v (bytes, held, within, means) = record { bytes = bytes; held = held; within = within; means = meant_ok files kind words (meaning bytes) v means }

pub means_policy : (files : Files) (net : Network) (policy : Option (List ℕ)) (demands : List DemandView) → IsPolicyOf files net policy demands → Means files (reading_policy net policy) demands
unfolding reading_policy
means_policy files net None demands is = sym is
means_policy files net (Some name) demands is = means_read files kind.Policy demand_words (demands_in net) name demands is

pub policy_means : (files : Files) (net : Network) (policy : Option (List ℕ)) (demands : List DemandView) → Means files (reading_policy net policy) demands → IsPolicyOf files net policy demands
unfolding reading_policy
policy_means files net None demands means = sym means
policy_means files net (Some name) demands means = read_means files kind.Policy demand_words (demands_in net) name demands means

-- the files of an update
pub means_update : (files : Files) (names : UpdateNames) (u : Update) → FilesMeanUpdate files names u → Means files (reading_update names) u
unfolding reading_update
means_update files names u is =
    means_then files _ _ u.net u (means_read files kind.Topology net_words network_in names.topology u.net is.topology_is)
    (means_then files _ _ u.old u (means_read files kind.Old config_words (configuration_in u.net) names.old u.old is.old_is)
    (means_then files _ _ u.new u (means_read files kind.New config_words (configuration_in u.net) names.new u.new is.new_is)
    (means_then files _ _ u.demands u (means_policy files u.net (Some names.policy) u.demands is.policy_is) refl)))

pub update_means : (files : Files) (names : UpdateNames) (u : Update) → Means files (reading_update names) u → FilesMeanUpdate files names u
unfolding reading_update
update_means files names u means =
    let (net, topology_is, second) = means_parts files _ _ u means in
    let (old, old_is, third) = means_parts files _ _ u second in
    let (new, new_is, fourth) = means_parts files _ _ u third in
    let (demands, policy_is, same) = means_parts files _ _ u fourth in
    let read : FilesMeanUpdate files names (record { net = net; old = old; new = new; demands = demands }) = record {
      topology_is = read_means files kind.Topology net_words network_in names.topology net topology_is;
      old_is = read_means files kind.Old config_words (configuration_in net) names.old old old_is;
      new_is = read_means files kind.New config_words (configuration_in net) names.new new new_is;
      policy_is = policy_means files net (Some names.policy) demands policy_is;
    } in
    subst (λ v. FilesMeanUpdate files names v) same read

pub update_meant : (files : Files) (names : UpdateNames) → MeansOnly files (reading_update names) (FilesMeanUpdate files names)
update_meant files names = record { means = means_update files names; only = update_means files names }

-- the files of a network and a plan
pub means_plan_files : (files : Files) (names : PlanNames) (m : PlanMeaning) → FilesMeanOnePlan files names m → Means files (reading_plan_files names) m
unfolding reading_plan_files
means_plan_files files names m is =
    means_then files _ _ m.net m (means_read files kind.Topology net_words network_in names.topology m.net is.topology_is)
    (means_then files _ _ m.plan m (means_read files kind.Plan plan_words (plan_in m.net) names.plan m.plan is.plan_is) refl)

pub plan_files_mean : (files : Files) (names : PlanNames) (m : PlanMeaning) → Means files (reading_plan_files names) m → FilesMeanOnePlan files names m
unfolding reading_plan_files
plan_files_mean files names m means =
    let (net, topology_is, second) = means_parts files _ _ m means in
    let (plan, plan_is, same) = means_parts files _ _ m second in
    let read : FilesMeanOnePlan files names (record { net = net; plan = plan }) = record {
      topology_is = read_means files kind.Topology net_words network_in names.topology net topology_is;
      plan_is = read_means files kind.Plan plan_words (plan_in net) names.plan plan plan_is;
    } in
    subst (λ v. FilesMeanOnePlan files names v) same read

pub plan_files_meant : (files : Files) (names : PlanNames) → MeansOnly files (reading_plan_files names) (FilesMeanOnePlan files names)
plan_files_meant files names = record { means = means_plan_files files names; only = plan_files_mean files names }
