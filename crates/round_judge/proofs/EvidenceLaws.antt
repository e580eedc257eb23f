-- The evidence after one round more.
use Rattle.std.proofs.Common.{◌≡◌, ◌⊎◌, ℕ, suc, ◌<◌, ◌≤◌, List, [], ◌∷◌, length, refl, sym, ◌∙◌, subst, ap, inl, inr, arith}
use Rattle.std.proofs.lemmas.Bool.{cases_lt, leb-true, le-leb}
use Rattle.std.specs.Prelude.{◌↔◌, nat_le}
use Rattle.std.specs.List.{AllByRecursion}
use Rattle.net_base.specs.Members.{IsIn}
use Rattle.net_base.proofs.MemberLaws.{each_at, each_weaker, each_from_in, in_filter, in_from_filter}
use Rattle.net_base.proofs.ItemLaws.{prefix_refl}
use Rattle.net_base.specs.declared.ids.Place.{Place}
use Rattle.topology.specs.Networks.{Network}
use Rattle.dest_classes.specs.Classes.{IsClass, class_count}
use Rattle.dest_classes.specs.declared.Class.{Class}
use Rattle.dest_classes.proofs.MapLaws.{number_fits, class_exists}
use Rattle.demands.specs.Duties.{PacketDuties}
use Rattle.update_model.specs.Mixtures.{Rollout}
use Rattle.certificates.specs.Ordered.{IsMeant, OrderedCertificate}
use Rattle.certificates.specs.Valid.{IsChain, IsValidNumbering, IsValidBefore}
use Rattle.certificates.specs.declared.OrderedPick.{OrderedPick}
use Rattle.certificates.specs.declared.OrderedEvidence.{OrderedEvidence}
use Rattle.evidence_store.specs.Found.{IsSafeEvidence}
use Rattle.evidence_store.specs.Stored.{IsStored, no_evidence}
use Rattle.round_judge.specs.declared.judging.FoundEvidence.{FoundEvidence}
use Rattle.table_difference.specs.Targets.{Target}
use Rattle.round_judge.specs.Goals.{duties_in}
use Rattle.round_judge.specs.Evidence.{evidence_until, HasPick, IsLeastPick, IsSearchEvidence, IsCertifiedClass, HasEvidenceTo}
use Rattle.round_judge.specs.Judged.{AreSafeBelow, AreWithPicks}
use Rattle.round_judge.proofs.GrowthLaws.{Grows, meant_more, meant_less, grown, old_pick, pick_cases, pick_for, numbering_cases, before_cases}

-- ---- certificates by other evidence

-- a certificate holds by other evidence in which the picks of the class that have begun are the same and mean the same
certificate_by : (u : Rollout) (k : ℕ) (a b : OrderedEvidence) (n dst : ℕ) (entry : Place) (duties : PacketDuties)
    → ((p : OrderedPick) → IsIn p a.picks → IsIn p b.picks)
    → ((p : OrderedPick) → IsIn p b.picks → p.class ≡ n → p.round ≤ suc k → IsIn p a.picks)
    → ((p : OrderedPick) (numbers : List ℕ) (sets : List (List ℕ)) → IsIn p a.picks → IsMeant a p numbers sets → IsMeant b p numbers sets)
    → OrderedCertificate u a k n dst entry duties → OrderedCertificate u b k n dst entry duties
certificate_by u k a b n dst entry duties there back meaning h = record {
  pick = h.pick;
  numbers = h.numbers;
  sets = h.sets;
  in_force = record {
    stands = there h.pick h.in_force.stands;
    of_class = h.in_force.of_class;
    begun = h.in_force.begun;
    latest = λ other i of_class begun. h.in_force.latest other (back other i of_class begun) of_class begun;
  };
  meant = meaning h.pick h.numbers h.sets h.in_force.stands h.meant;
  safe = h.safe;
}

-- ---- picks up to a round

in_until : (k : ℕ) (e : OrderedEvidence) (p : OrderedPick) → IsIn p e.picks → p.round ≤ k → IsIn p (evidence_until k e).picks
in_until k e p i le = in_filter (λ (q : OrderedPick). nat_le q.round k) p e.picks i (le-leb p.round k le)

from_until : (k : ℕ) (e : OrderedEvidence) (p : OrderedPick) → IsIn p (evidence_until k e).picks → IsIn p e.picks × (p.round ≤ k)
from_until k e p i = let (j, t) = in_from_filter (λ (q : OrderedPick). nat_le q.round k) p e.picks i in (j, leb-true p.round k t)

-- a pick means the same by the evidence up to a round
meant_until : (k : ℕ) (e : OrderedEvidence) (p : OrderedPick) (numbers : List ℕ) (sets : List (List ℕ)) → IsMeant e p numbers sets → IsMeant (evidence_until k e) p numbers sets
meant_until k e p numbers sets h = meant_more e (evidence_until k e) (record { numberings = prefix_refl e.numberings; befores = prefix_refl e.befores; uses = prefix_refl e.uses }) p numbers sets h

until_meant : (k : ℕ) (e : OrderedEvidence) (p : OrderedPick) (numbers : List ℕ) (sets : List (List ℕ)) → IsMeant (evidence_until k e) p numbers sets → IsMeant e p numbers sets
until_meant k e p numbers sets h = meant_more (evidence_until k e) e (record { numberings = prefix_refl e.numberings; befores = prefix_refl e.befores; uses = prefix_refl e.uses }) p numbers sets h

-- ---- before the first round, and after the last one

pub evidence_none : (to : Target) (u : Rollout) → HasEvidenceTo to u 0 no_evidence
evidence_none to u = record {
  within = omega arith;
  picks = λ k n class less is. absurd (let f : k < 0 = less in omega arith);
  picked = λ p i. absurd i;
  begun = tt;
  ascending = tt;
  once = record {
    numberings_once = tt;
    befores_once = tt;
    uses_once = tt;
    uses_in_order = refl;
    numberings_in_order = refl;
    befores_in_order = refl;
  };
  certificates = λ k n class less is. absurd (let f : k < 0 = less in omega arith);
  numberings = tt;
  befores = tt;
}

-- that of all rounds is the evidence of the search for them
pub evidence_whole : (to : Target) (u : Rollout) (k : ℕ) (e : OrderedEvidence) → HasEvidenceTo to u k e → length u.rounds ≤ k → IsSearchEvidence to u e
evidence_whole to u k e h all = record {
  picks = λ j n class less is. h.picks j n class (omega arith) is;
  picked = h.picked;
  ascending = h.ascending;
  sets = each_weaker (IsValidBefore to.net) (λ set. IsChain (λ s t. s < t) set) (λ set valid. valid.1) e.befores h.befores;
  once = h.once;
}

-- ---- one round more

-- the picks so far are of the rounds so far
pub begun_before : (to : Target) (u : Rollout) (k : ℕ) (e : OrderedEvidence) → HasEvidenceTo to u k e → AllByRecursion (λ p. p.round < suc k) e.picks
begun_before to u k e h = each_weaker (λ (p : OrderedPick). (0 < p.round) × (p.round ≤ k)) (λ (p : OrderedPick). p.round < suc k) (λ p in_rounds. let le = in_rounds.1 in omega arith) e.picks h.begun

-- what is found later is of a greater class
pub found_above : (h : FoundEvidence) (found : List FoundEvidence) → IsChain (λ (f g : FoundEvidence). f.class < g.class) (h ∷ found) → (g : FoundEvidence) → IsIn g found → h.class < g.class
found_above h [] chain g i = absurd i
found_above h (x ∷ found) chain g (inl e) = subst (λ (y : FoundEvidence). h.class < y.class) (sym e) chain.0
found_above h (x ∷ found) chain g (inr i) = let above = chain.0 in let rest = found_above x found chain.1 g i in omega arith

pub chain_rest : (h : FoundEvidence) (found : List FoundEvidence) → IsChain (λ (f g : FoundEvidence). f.class < g.class) (h ∷ found) → IsChain (λ (f g : FoundEvidence). f.class < g.class) found
chain_rest h [] chain = tt
chain_rest h (x ∷ found) chain = chain.1

-- two things found for one class are one
found_once : (found : List FoundEvidence) → IsChain (λ (f g : FoundEvidence). f.class < g.class) found → (f g : FoundEvidence) → IsIn f found → IsIn g found → f.class ≡ g.class → f ≡ g
found_once [] chain f g i j e = absurd i
found_once (h ∷ found) chain f g (inl a) (inl b) e = a ∙ sym b
found_once (h ∷ found) chain f g (inl a) (inr j) e = absurd (let above = found_above h found chain g j in let same = ap (λ (x : FoundEvidence). x.class) a in omega arith)
found_once (h ∷ found) chain f g (inr i) (inl b) e = absurd (let above = found_above h found chain f i in let same = ap (λ (x : FoundEvidence). x.class) b in omega arith)
found_once (h ∷ found) chain f g (inr i) (inr j) e = found_once found (chain_rest h found chain) f g i j e

module _ (to : Target) (u : Rollout) (net : u.net ≡ to.net) (last : ℕ) (within : last < length u.rounds) (e more : OrderedEvidence) (found : List FoundEvidence)
    (so_far : HasEvidenceTo to u last e) (stored_old : IsStored e) (safe : AreSafeBelow to u e last (class_count to.classes) found)
    (added : AreWithPicks e (suc last) found more) (stored : IsStored more) where
  grows : Grows e more
  grows = grown e (suc last) found more added

  -- an old pick is of a round before
  old_round : (p : OrderedPick) → IsIn p e.picks → p.round ≤ last
  old_round p i = (each_at (λ (q : OrderedPick). (0 < q.round) × (q.round ≤ last)) e.picks p so_far.begun i).1

  -- a pick of the class that has begun by an earlier round is an old one
  early_old : (k : ℕ) → k < last → (p : OrderedPick) → IsIn p more.picks → p.round ≤ suc k → IsIn p e.picks
  early_old k less p i le = elim (pick_cases e (suc last) found more added p i) [
    | inl j ↦ j
    | inr (f, j, is) ↦ absurd (let round = is.round_is in omega arith)
  ]

  meaning_there : (p : OrderedPick) (numbers : List ℕ) (sets : List (List ℕ)) → IsIn p e.picks → IsMeant e p numbers sets → IsMeant more p numbers sets
  meaning_there p numbers sets i h = meant_more e more grows p numbers sets h

  -- certificates of earlier rounds
  module _ (k : ℕ) (less : k < last) (n dst : ℕ) (entry : Place) (duties : PacketDuties) where
    early : OrderedCertificate u e k n dst entry duties → OrderedCertificate u more k n dst entry duties
    early h = certificate_by u k e more n dst entry duties (λ p i. old_pick e (suc last) found more added p i)
        (λ p i of_class le. early_old k less p i le) meaning_there h

    until_early : OrderedCertificate u (evidence_until k e) k n dst entry duties → OrderedCertificate u (evidence_until k more) k n dst entry duties
    until_early h = certificate_by u k (evidence_until k e) (evidence_until k more) n dst entry duties
        (λ p i. let (j, round) = from_until k e p i in in_until k more p (old_pick e (suc last) found more added p j) round)
        (λ p i of_class le. let (j, round) = from_until k more p i in in_until k e p (early_old k less p j le) round)
        (λ p numbers sets i m. meant_until k more p numbers sets (meaning_there p numbers sets (from_until k e p i).0 (until_meant k e p numbers sets m))) h

    until_late : OrderedCertificate u (evidence_until k more) k n dst entry duties → OrderedCertificate u (evidence_until k e) k n dst entry duties
    until_late h = certificate_by u k (evidence_until k more) (evidence_until k e) n dst entry duties
        (λ p i. let (j, round) = from_until k more p i in in_until k e p (early_old k less p j (omega arith)) round)
        (λ p i of_class le. let (j, round) = from_until k e p i in in_until k more p (old_pick e (suc last) found more added p j) round)
        (λ p numbers sets i m. let (j, round) = from_until k more p i in
        meant_until k e p numbers sets (meant_less e more grows stored_old p numbers sets (early_old k less p j (omega arith)) (until_meant k more p numbers sets m))) h

  -- the certificate of the last round by the picks of the rounds before it
  module _ (n dst : ℕ) (entry : Place) (duties : PacketDuties) where
    old_of_until : (p : OrderedPick) → IsIn p (evidence_until last more).picks → IsIn p e.picks
    old_of_until p i =
        let (j, round) = from_until last more p i in
        elim (pick_cases e (suc last) found more added p j) [
          | inl old_one ↦ old_one
          | inr (f, k, is) ↦ absurd (let new_round = is.round_is in omega arith)
        ]

    until_of_old : (p : OrderedPick) → IsIn p e.picks → IsIn p (evidence_until last more).picks
    until_of_old p i = in_until last more p (old_pick e (suc last) found more added p i) (old_round p i)

    last_to : OrderedCertificate u (evidence_until last more) last n dst entry duties → OrderedCertificate u e last n dst entry duties
    last_to h = certificate_by u last (evidence_until last more) e n dst entry duties old_of_until (λ p i of_class le. until_of_old p i)
        (λ p numbers sets i m. meant_less e more grows stored_old p numbers sets (old_of_until p i) (until_meant last more p numbers sets m)) h

    last_back : OrderedCertificate u e last n dst entry duties → OrderedCertificate u (evidence_until last more) last n dst entry duties
    last_back h = certificate_by u last e (evidence_until last more) n dst entry duties until_of_old (λ p i of_class le. old_of_until p i)
        (λ p numbers sets i m. meant_until last more p numbers sets (meaning_there p numbers sets i m)) h

  -- what was found is of a class, and keeps it safe
  found_safe : (f : FoundEvidence) → IsIn f found → (class : Class) × IsClass to.classes f.class class × IsSafeEvidence u last class (duties_in to class) f.evidence
  found_safe f i =
      let below = each_at (λ (g : FoundEvidence). g.class < class_count to.classes) found f safe.within i in
      let (class, is) = class_exists to.classes f.class below in
      elim (safe.each f.class class below is) [
        | inl (kept, none) ↦ absurd (each_at (λ (g : FoundEvidence). ¬ (g.class ≡ f.class)) found f none i refl)
        | inr (fails, has) ↦
            let same : has.new ≡ f = found_once found safe.ascending has.new f has.stands i has.class_is in
            (class, is, subst (λ (g : FoundEvidence). IsSafeEvidence u last class (duties_in to class) g.evidence) same has.safe)
      ]

  -- a round is one of those before, or the last one
  early_or_last : (k : ℕ) → k < suc last → (k < last) ⊎ (k ≡ last)
  early_or_last k less = elim (cases_lt k last) [ inl l ↦ inl l | inr h ↦ inr (omega arith) ]

  last_pick : (n : ℕ) (class : Class) → IsClass to.classes n class
      → HasPick more last n ↔ (¬ OrderedCertificate u (evidence_until last more) last n class.first class.entry (duties_in to class))
  last_pick n class is = (
    λ has h. elim (pick_cases e (suc last) found more added has.pick has.stands) [
      | inl i ↦ (let le = old_round has.pick i in let round = has.round_is in absurd (omega arith))
      | inr (f, i, of) ↦ elim (safe.each n class (number_fits to.classes n class is) is) [
        | inl (kept, none) ↦ absurd (each_at (λ (g : FoundEvidence). ¬ (g.class ≡ n)) found f none i (sym of.class_is ∙ has.class_is))
        | inr (fails, new) ↦ fails (last_to n class.first class.entry (duties_in to class) h)
      ]
    ],
    λ fails. elim (safe.each n class (number_fits to.classes n class is) is) [
      | inl (kept, none) ↦ absurd (fails (last_back n class.first class.entry (duties_in to class) kept))
      | inr (not_kept, has) ↦
          let (p, i, of) = pick_for e (suc last) found more added has.new has.stands in
          record { pick = p; stands = i; round_is = of.round_is; class_is = of.class_is ∙ has.class_is }
    ],
  )

  early_pick : (k : ℕ) → k < last → (n : ℕ) (class : Class) → IsClass to.classes n class
      → HasPick more k n ↔ (¬ OrderedCertificate u (evidence_until k more) k n class.first class.entry (duties_in to class))
  early_pick k less n class is =
      let before = so_far.picks k n class less is in (
        λ has h. before.0 (record { pick = has.pick; stands = early_old k less has.pick has.stands (let round = has.round_is in omega arith); round_is = has.round_is; class_is = has.class_is })
            (until_late k less n class.first class.entry (duties_in to class) h),
        λ fails. (let has = before.1 (λ h. fails (until_early k less n class.first class.entry (duties_in to class) h)) in
            record { pick = has.pick; stands = old_pick e (suc last) found more added has.pick has.stands; round_is = has.round_is; class_is = has.class_is }),
      )

  picks_more : (k n : ℕ) (class : Class) → k < suc last → IsClass to.classes n class
      → HasPick more k n ↔ (¬ OrderedCertificate u (evidence_until k more) k n class.first class.entry (duties_in to class))
  picks_more k n class less is = elim (early_or_last k less) [
    | inl l ↦ early_pick k l n class is
    | inr same ↦ subst (λ j. HasPick more j n ↔ (¬ OrderedCertificate u (evidence_until j more) j n class.first class.entry (duties_in to class))) (sym same) (last_pick n class is)
  ]

  picked_more : (p : OrderedPick) → IsIn p more.picks → IsLeastPick to u more p
  picked_more p i = elim (pick_cases e (suc last) found more added p i) [
    | inl j ↦
        let h = so_far.picked p j in
        record {
          k = h.k;
          class = h.class;
          numbers = h.numbers;
          sets = h.sets;
          within = h.within;
          round_is = h.round_is;
          class_is = h.class_is;
          meant = meaning_there p h.numbers h.sets j h.meant;
          least = h.least;
        }
    | inr (f, j, of) ↦
        let (class, is, good) = found_safe f j in
        record {
          k = last;
          class = class;
          numbers = f.evidence.numbering;
          sets = f.evidence.befores;
          within = within;
          round_is = of.round_is;
          class_is = subst (λ n. IsClass to.classes n class) (sym of.class_is) is;
          meant = of.meant;
          least = good.least;
        }
  ]

  begun_more : AllByRecursion (λ p. (0 < p.round) × (p.round ≤ suc last)) more.picks
  begun_more = each_from_in (λ (p : OrderedPick). (0 < p.round) × (p.round ≤ suc last)) more.picks (λ p i.
      elim (pick_cases e (suc last) found more added p i) [
        | inl j ↦ (let (low, high) = each_at (λ (q : OrderedPick). (0 < q.round) × (q.round ≤ last)) e.picks p so_far.begun j in (low, omega arith))
        | inr (f, j, of) ↦ (let round = of.round_is in (omega arith, omega arith))
      ])

  last_certificate : (n : ℕ) (class : Class) → IsClass to.classes n class → IsCertifiedClass to u more last n class
  last_certificate n class is = elim (safe.each n class (number_fits to.classes n class is) is) [
    | inl (kept, none) ↦ certificate_by u last e more n class.first class.entry (duties_in to class) (λ p i. old_pick e (suc last) found more added p i)
        (λ p i of_class le. elim (pick_cases e (suc last) found more added p i) [
          | inl j ↦ j
          | inr (f, j, of) ↦ absurd (each_at (λ (g : FoundEvidence). ¬ (g.class ≡ n)) found f none j (sym of.class_is ∙ of_class))
        ]) meaning_there kept
    | inr (fails, has) ↦
        let (p, i, of) = pick_for e (suc last) found more added has.new has.stands in
        record {
          pick = p;
          numbers = has.new.evidence.numbering;
          sets = has.new.evidence.befores;
          in_force = record {
            stands = i;
            of_class = of.class_is ∙ has.class_is;
            begun = (let round = of.round_is in omega arith);
            latest = λ other j of_class le. (let round = of.round_is in omega arith);
          };
          meant = of.meant;
          safe = has.safe.safe;
        }
  ]

  certificates_more : (k n : ℕ) (class : Class) → k < suc last → IsClass to.classes n class → IsCertifiedClass to u more k n class
  certificates_more k n class less is = elim (early_or_last k less) [
    | inl l ↦ early k l n class.first class.entry (duties_in to class) (so_far.certificates k n class l is)
    | inr same ↦ subst (λ j. IsCertifiedClass to u more j n class) (sym same) (last_certificate n class is)
  ]

  numberings_more : AllByRecursion (IsValidNumbering to.net) more.numberings
  numberings_more = each_from_in (IsValidNumbering to.net) more.numberings (λ n i. elim (numbering_cases e (suc last) found more added n i) [
    | inl j ↦ each_at (IsValidNumbering to.net) e.numberings n so_far.numberings j
    | inr (f, j, same) ↦ (let (class, is, good) = found_safe f j in subst (IsValidNumbering to.net) (sym same) (subst (λ (x : Network). IsValidNumbering x f.evidence.numbering) net good.numbering))
  ])

  befores_more : AllByRecursion (IsValidBefore to.net) more.befores
  befores_more = each_from_in (IsValidBefore to.net) more.befores (λ set i. elim (before_cases e (suc last) found more added set i) [
    | inl j ↦ each_at (IsValidBefore to.net) e.befores set so_far.befores j
    | inr (f, j, k) ↦ (let (class, is, good) = found_safe f j in subst (λ (x : Network). IsValidBefore x set) net (each_at (IsValidBefore u.net) f.evidence.befores set good.befores k))
  ])

  -- the evidence after the round
  pub evidence_more : HasEvidenceTo to u (suc last) more
  evidence_more = record {
    within = omega arith;
    picks = picks_more;
    picked = picked_more;
    begun = begun_more;
    ascending = stored.ascending;
    once = stored.once;
    certificates = certificates_more;
    numberings = numberings_more;
    befores = befores_more;
  }
